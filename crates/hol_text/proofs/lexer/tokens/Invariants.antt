use Rattle.std.proofs.Common.{◌≡◌, ◌+◌, ◌++◌, length}
use Rattle.std.specs.Str.{chars, IsUtf8}
use Rattle.hol_terms.specs.Tokens.{tokens, tokens_in}
use Rattle.hol_text.specs.TokenViews.{tokens_of}
use Rattle.hol_text.specs.LexerViews.{state_of}
use Rattle.hol_text.proofs.lexer.tokens.Given as goal

-- the tokens so far, and those of what is left
abbrev pub invariant-loop-place : goal.invariant-loop-place
invariant-loop-place l = record {
  all : tokens l.text ≡ tokens_of l.tokens.items ++ tokens_in (state_of l.state) l.place-iterator.at (chars l.place-iterator.rest.now);
  ends : l.place-iterator.at + length l.place-iterator.rest.now ≡ length l.text;
  utf8 : IsUtf8 l.place-iterator.rest.now;
}
