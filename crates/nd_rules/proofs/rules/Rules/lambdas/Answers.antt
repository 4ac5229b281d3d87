use Rattle.std.proofs.Common.{sym}
use Rattle.hol_terms.proofs.Same.{same_refl}
use Rattle.nd_rules.specs.Facts.{is_true_fact}
use Rattle.nd_rules.proofs.Shapes.{same_ty_refl, some_is}
use Rattle.nd_rules.proofs.rules.Rules.lambdas.Goals as goal

pub run_lines-requires-clause-fits : goal.run_lines-requires-clause-fits
unfolding is_true_fact
run_lines-requires-clause-fits c =
    record { is = simp (sym c.requires.concl, c.kept-is_true.ensures.is, c.requires.formula.boolean, c.requires.variable, c.requires.free, same_refl, same_ty_refl) }

pub returns-clause-exact : goal.returns-clause-exact
unfolding is_true_fact
returns-clause-exact c =
    let r = simp (sym c.requires.concl, c.kept-is_true.ensures.is, c.requires.formula.boolean, c.requires.variable, c.requires.free, same_refl, same_ty_refl) at c.in_ok-th.ensures.exact.is in
    sym (some_is _ _ r)
