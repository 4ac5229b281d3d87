use Rattle.std.proofs.Common.{sym, ◌∙◌}
use Rattle.std.proofs.lemmas.Str.{IsUtf8-past_char}
use Rattle.hol_terms.proofs.NameLemmas.{segments-go_on, segments-stop, segments-end}
use Rattle.flat_signatures.proofs.names.are_segments.Goals as goal

pub loop-c-preserved : goal.loop-c-preserved
loop-c-preserved c =
    let e = c.in-Some.ensures.steps.0 in
    let u = c.loop-c.invariant.1 in
    (c.loop-c.invariant.0 ∙ segments-go_on _ _ _ _ _ u e (sym c.step.ensures ∙ c.in-Some-step.is), IsUtf8-past_char _ _ _ u e)

pub returns : goal.returns
returns c = sym (c.loop-c.invariant.0 ∙ segments-end _ _ c.in-None.ensures.steps.0.0)

pub returns-in_default : goal.returns-in_default
returns-in_default c = sym (c.loop-c.invariant.0 ∙ segments-stop _ _ _ _ c.loop-c.invariant.1 c.in-Some.ensures.steps.0 (sym c.step.ensures ∙ c.in_default.is))
