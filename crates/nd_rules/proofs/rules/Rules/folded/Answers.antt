use Rattle.std.proofs.Common.{sym}
use Rattle.hol_terms.proofs.Same.{same_refl}
use Rattle.nd_rules.specs.Facts.{all_fold_fact}
use Rattle.nd_rules.proofs.Shapes.{same_ty_refl, ty_self, some_is}
use Rattle.nd_rules.proofs.rules.Rules.folded.Goals as goal

pub run_lines-requires-clause-fits : goal.run_lines-requires-clause-fits
unfolding all_fold_fact
run_lines-requires-clause-fits c =
    record { is = simp (c.requires.is, c.requires.typed, c.kept-fold.ensures.is, ty_self, same_refl, same_ty_refl) }

pub returns-clause-exact : goal.returns-clause-exact
unfolding all_fold_fact
returns-clause-exact c =
    let r = simp (c.requires.is, c.requires.typed, c.kept-fold.ensures.is, ty_self, same_refl, same_ty_refl) at c.in_ok-th.ensures.exact.is in
    sym (some_is _ _ r)
