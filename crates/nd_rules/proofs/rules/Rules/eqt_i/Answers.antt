use Rattle.std.proofs.Common.{sym}
use Rattle.hol_terms.proofs.Same.{same_refl}
use Rattle.nd_rules.specs.Facts.{is_true_fact}
use Rattle.nd_rules.proofs.Shapes.{same_ty_refl}
use Rattle.nd_rules.proofs.rules.Rules.eqt_i.Goals as goal

pub run_lines-requires-clause-fits : goal.run_lines-requires-clause-fits
unfolding is_true_fact
run_lines-requires-clause-fits c =
    record { is = simp (sym c.conclusion-p.ensures.value, c.conclusion-p.ensures.boolean, c.kept-is_true.ensures.is, same_refl, same_ty_refl) }

pub returns-clause-exact : goal.returns-clause-exact
unfolding is_true_fact
returns-clause-exact c =
    let r = simp (sym c.conclusion-p.ensures.value, c.conclusion-p.ensures.boolean, c.kept-is_true.ensures.is, same_refl, same_ty_refl) at c.in_ok-th.ensures.exact.is in
    simp (sym c.conclusion-p.ensures.value, c.conclusion-p.ensures.boolean) r
