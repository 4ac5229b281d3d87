use Rattle.std.proofs.Common.{ap, ◌∙◌}
use Rattle.hol_terms.specs.Typing.{tm_type}
use Rattle.hol_terms.specs.Sequent.{argument}
use Rattle.kernel_lines.proofs.Given.{grows_on}
use Rattle.kernel_lines.proofs.Had.{if_true}
use Rattle.nd_rules.specs.Binders.{is_ex}
use Rattle.nd_rules.proofs.Hypotheses.{ascends}
use Rattle.nd_rules.proofs.Shapes.{both_left}
use Rattle.nd_rules.proofs.BinderCases.{ex_quantified, ex_is}
use Rattle.nd_rules.proofs.rules.Rules.choose.Goals as goal

pub predicate-p-requires-clause-quantified : goal.predicate-p-requires-clause-quantified
predicate-p-requires-clause-quantified c =
    ex_quantified (tm_type c.in_ok-x.x) c.args.a.now.sequent.concl c.conclusion-concl.result.now (ap (λ t. is_ex (tm_type t) c.args.a.now.sequent.concl) c.in_ok-x.ensures ∙ both_left _ _ (if_true _ _ c.requires.fits)) c.conclusion-concl.ensures.value

pub shown_by_each-requires-clause-is_a : goal.shown_by_each-requires-clause-is_a
shown_by_each-requires-clause-is_a c =
    ex_is (tm_type c.in_ok-x.x) c.args.a.now.sequent.concl c.predicate-p.result.now (ap (λ t. is_ex (tm_type t) c.args.a.now.sequent.concl) c.in_ok-x.ensures ∙ both_left _ _ (if_true _ _ c.requires.fits)) (c.predicate-p.ensures.value ∙ ap argument c.conclusion-concl.ensures.value)

pub shown_by_each-requires-clause-ascends : goal.shown_by_each-requires-clause-ascends
shown_by_each-requires-clause-ascends c = ascends c.conclusion-concl.ensures.derivable

pub returns-in_err-th-clause-grows : goal.returns-in_err-th-clause-grows
returns-in_err-th-clause-grows c = grows_on c.each.ensures.grows c.shown_by_each.ensures.grows

pub returns-clause-grows : goal.returns-clause-grows
returns-clause-grows c = grows_on c.each.ensures.grows c.shown_by_each.ensures.grows
