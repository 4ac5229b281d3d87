use Rattle.std.proofs.Common.{sym}
use Rattle.hol_terms.proofs.Same.{same_refl}
use Rattle.nd_rules.specs.Facts.{ex_applied_fact}
use Rattle.nd_rules.proofs.Shapes.{same_ty_refl, ty_self, some_is}
use Rattle.hol_terms.specs.Notation.{◌·◌}
use Rattle.hol_terms.specs.Typing.{tm_type}
use Rattle.hol_terms.specs.Definition.{bool_ty}
use Rattle.hol_terms.specs.Logic.{const_eq}
use Rattle.nd_rules.specs.Quantifiers.{each_case}
use Rattle.nd_rules.proofs.Hypotheses.{cut_hyps}
use Rattle.nd_rules.proofs.rules.Rules.shown_by_each.Goals as goal

pub run_lines-requires-clause-fits : goal.run_lines-requires-clause-fits
unfolding ex_applied_fact
run_lines-requires-clause-fits c =
    record { is = simp (c.requires.is_a, c.requires.is_each, c.requires.predicate.typed, c.requires.formula.boolean, c.kept-applied.ensures.is, cut_hyps (const_eq bool_ty · each_case (tm_type c.args.x.now) c.args.p.now c.args.q.now · c.args.q.now) c.args.a.now.sequent.hyps c.requires.ascends, ty_self, same_refl, same_ty_refl) }

pub returns-clause-exact : goal.returns-clause-exact
unfolding ex_applied_fact
returns-clause-exact c =
    let r = simp (c.requires.is_a, c.requires.is_each, c.requires.predicate.typed, c.requires.formula.boolean, c.kept-applied.ensures.is, cut_hyps (const_eq bool_ty · each_case (tm_type c.args.x.now) c.args.p.now c.args.q.now · c.args.q.now) c.args.a.now.sequent.hyps c.requires.ascends, ty_self, same_refl, same_ty_refl) at c.in_ok-th.ensures.exact.is in
    sym (some_is _ _ r)
