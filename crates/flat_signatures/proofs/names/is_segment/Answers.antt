use Rattle.std.proofs.Common.{sym, ◌∙◌}
use Rattle.std.proofs.lemmas.Str.{IsUtf8-past_char}
use Rattle.flat_signatures.proofs.Segments.{rest_further, rest_wrong, rest_over, segment_is}
use Rattle.flat_signatures.proofs.names.is_segment.Goals as goal

pub loop-c-preserved : goal.loop-c-preserved
loop-c-preserved c =
    let e = c.in-Some.ensures.steps.0 in
    let u = c.loop-c.invariant.1 in
    (c.loop-c.invariant.0 ∙ rest_further _ _ _ _ u e (sym c.may_follow.ensures ∙ c.if-not-may_follow.false), IsUtf8-past_char _ _ _ u e)

pub returns-then-not-may_follow : goal.returns-then-not-may_follow
returns-then-not-may_follow c =
    let e = c.in-Some.ensures.steps.0 in
    let u = c.loop-c.invariant.1 in
    sym (segment_is _ _ c.utf8.text (c.loop-c.invariant.0 ∙ rest_wrong _ _ _ _ u e (sym c.may_follow.ensures ∙ c.if-not-may_follow.true)))

pub returns : goal.returns
returns c = sym (segment_is _ _ c.utf8.text (c.loop-c.invariant.0 ∙ rest_over _ _ c.in-None.ensures.steps.0.0))
