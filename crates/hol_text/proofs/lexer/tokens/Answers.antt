use Rattle.std.proofs.lemmas.Str.{IsUtf8-past_char}
use Rattle.hol_text.proofs.Lexing.{stepped, still, finished}
use Rattle.hol_text.proofs.lexer.tokens.Goals as goal

pub loop-place-preserved : goal.loop-place-preserved
loop-place-preserved c =
    let s = c.in-Some.ensures.steps in
    let i = c.loop-place.invariant in
    record {
      all = stepped _ _ _ _ _ _ _ _ _ _ _ i.all i.utf8 s.0 s.1 s.2 c.in_ok-state.ensures.tokens c.in_ok-state.ensures.state;
      ends = still _ _ _ _ _ _ i.ends s.1 s.2;
      utf8 = IsUtf8-past_char _ _ _ i.utf8 s.1;
    }

pub returns : goal.returns
returns c = let i = c.loop-place.invariant in finished _ _ _ _ _ _ _ _ i.all c.in-None.ensures.steps.0 i.ends c.in_ok-finish.ensures c.in_ok-push_sign.ensures
