use Rattle.std.proofs.Common.{◌≡◌, List, refl, sym, ◌∙◌, subst}
use Rattle.hol_terms.specs.Definition.{Definition}
use Rattle.hol_terms.specs.Sequent.{seq}
use Rattle.hol_terms.specs.Proves.{IsDerivable}
use Rattle.hol_kernel.specs.State.{State}
use Rattle.hol_kernel.specs.Run.{IsStep}
use Rattle.hol_kernel.proofs.Keeping.{step_derivable, kept_step, pushed}
use Rattle.hol_kernel.proofs.kernel.Kernel.add_step.Goals as goal

pub invariant_of-result : goal.invariant_of-result
invariant_of-result c =
    let a = seq c.args.hyps.items c.args.concl in
    let given = subst (λ (k : State). IsStep k c.args.step a) (sym c.self.view_is) c.requires in
    subst (λ (ds : List Definition). IsDerivable ds a) (sym c.in_ok-defs.ensures) (step_derivable c.args.step a c.self.invariant.run given)

pub invariant_of-self-2 : goal.invariant_of-self-2
invariant_of-self-2 c =
    let a = seq c.args.hyps.items c.args.concl in
    let given = subst (λ (k : State). IsStep k c.args.step a) (sym c.self.view_is) c.requires in
    let kept : c.in_ok-kept.kept.items ≡ c.args.hyps.items = c.in_ok-kept.ensures ∙ c.deref.ensures.value in
    kept_step c.self.inside _ c.args.step a c.self.invariant given refl refl refl
    (pushed c.self.inside.steps.items (seq c.in_ok-kept.kept.items c.in_ok-said.said) a c.push_within.ensures.items c.reserve.ensures.items (λ i. seq (kept i) (c.in_ok-said.ensures i)))
    (pushed c.self.inside.log.items c.args.step c.args.step c.push_within-2.ensures.items c.reserve-2.ensures.items refl)
    refl
