use Rattle.std.proofs.Common.{Some, refl, ap, sym, ◌∙◌}
use Rattle.hol_terms.specs.Typing.{tm_type}
use Rattle.hol_terms.specs.Sequent.{seq}
use Rattle.hol_terms.proofs.Same.{same-is}
use Rattle.kernel_lines.proofs.Given.{grows_on}
use Rattle.kernel_lines.proofs.Had.{if_true, if_some}
use Rattle.nd_rules.proofs.Hypotheses.{ascends}
use Rattle.nd_rules.proofs.Shapes.{both_left, both_right}
use Rattle.nd_rules.proofs.BinderCases.{ex_quantified, ex_is, case_is}
use Rattle.nd_rules.proofs.rules.Rules.ex_i.Goals as goal

pub predicate-p-requires-clause-quantified : goal.predicate-p-requires-clause-quantified
predicate-p-requires-clause-quantified c = ex_quantified (tm_type c.args.t.now) c.args.e.now c.args.e.now (both_left _ _ (if_true _ _ c.requires.fits)) refl

pub witnessed-requires-clause-is_a : goal.witnessed-requires-clause-is_a
witnessed-requires-clause-is_a c =
    same-is _ _ (both_right _ _ (if_true _ _ c.requires.fits)) ∙ sym (case_is c.args.e.now c.predicate-p.result.now c.args.t.now c.predicate-p.ensures.predicate c.predicate-p.ensures.value)

pub witnessed-requires-clause-ascends : goal.witnessed-requires-clause-ascends
witnessed-requires-clause-ascends c = ascends c.conclusion-before.ensures.derivable

pub returns-clause-exact : goal.returns-clause-exact
returns-clause-exact c =
    let e = ex_is (tm_type c.args.t.now) c.args.e.now c.predicate-p.result.now (both_left _ _ (if_true _ _ c.requires.fits)) c.predicate-p.ensures.value in
    if_some _ _ c.requires.fits ∙ ap Some (ap (seq c.args.a.now.sequent.hyps) e ∙ sym c.in_ok-th.ensures.exact)

pub returns-clause-grows : goal.returns-clause-grows
returns-clause-grows c = grows_on c.case.ensures.grows c.witnessed.ensures.grows
