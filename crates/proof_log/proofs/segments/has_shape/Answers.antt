use Rattle.std.proofs.Common.{sym, ◌∙◌}
use Rattle.std.proofs.lemmas.Str.{IsUtf8-past_char}
use Rattle.proof_log.proofs.SegmentChars.{rest-goes_on, rest-stops, rest-end}
use Rattle.proof_log.proofs.segments.has_shape.Goals as goal

pub loop-c-preserved : goal.loop-c-preserved
loop-c-preserved c =
    let e = c.in-Some.ensures.steps.0 in
    let u = c.loop-c.invariant.1 in
    (c.loop-c.invariant.0 ∙ rest-goes_on _ _ _ _ u e (sym c.goes_on.ensures ∙ c.if-not-goes_on.false), IsUtf8-past_char _ _ _ u e)

pub returns : goal.returns
returns c = sym (c.loop-c.invariant.0 ∙ rest-end _ _ c.in-None.ensures.steps.0.0)

pub returns-then-not-goes_on : goal.returns-then-not-goes_on
returns-then-not-goes_on c = sym (c.loop-c.invariant.0 ∙ rest-stops _ _ _ _ c.loop-c.invariant.1 c.in-Some.ensures.steps.0 (sym c.goes_on.ensures ∙ c.if-not-goes_on.true))
