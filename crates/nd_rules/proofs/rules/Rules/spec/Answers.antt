use Rattle.std.proofs.Common.{ap, ◌∙◌}
use Rattle.hol_terms.specs.Typing.{tm_type}
use Rattle.hol_terms.specs.Sequent.{argument}
use Rattle.kernel_lines.proofs.Given.{grows_on}
use Rattle.kernel_lines.proofs.Had.{if_true}
use Rattle.nd_rules.proofs.Hypotheses.{ascends}
use Rattle.nd_rules.proofs.BinderCases.{all_quantified, all_is}
use Rattle.nd_rules.proofs.rules.Rules.spec.Goals as goal

pub predicate-p-requires-clause-quantified : goal.predicate-p-requires-clause-quantified
predicate-p-requires-clause-quantified c = all_quantified (tm_type c.args.t.now) c.args.a.now.sequent.concl c.conclusion-concl.result.now (if_true _ _ c.requires.fits) c.conclusion-concl.ensures.value

pub instance-requires-clause-is_a : goal.instance-requires-clause-is_a
instance-requires-clause-is_a c = all_is (tm_type c.args.t.now) c.args.a.now.sequent.concl c.predicate-p.result.now (if_true _ _ c.requires.fits) (c.predicate-p.ensures.value ∙ ap argument c.conclusion-concl.ensures.value)

pub instance-requires-clause-ascends : goal.instance-requires-clause-ascends
instance-requires-clause-ascends c = ascends c.conclusion-concl.ensures.derivable

pub returns-clause-grows : goal.returns-clause-grows
returns-clause-grows c = grows_on c.case.ensures.grows c.instance.ensures.grows
