use Rattle.std.proofs.Common.{◌≡◌, sym, ◌∙◌}
use Rattle.hol_terms.specs.Typing.{tm_type}
use Rattle.hol_terms.specs.Definition.{bool_ty}
use Rattle.hol_terms.proofs.Same.{same_refl}
use Rattle.hol_terms.proofs.Checked.{same_ty-is}
use Rattle.kernel_lines.proofs.Had.{if_true, if_some}
use Rattle.nd_rules.specs.Facts.{conj_with_fact, conj_first_fact, means_imp_fact}
use Rattle.nd_rules.proofs.Hypotheses.{without-insert}
use Rattle.nd_rules.proofs.Shapes.{same_ty_refl}
use Rattle.nd_rules.proofs.rules.Rules.disch.Goals as goal

pub run_lines-requires-clause-fits : goal.run_lines-requires-clause-fits
unfolding conj_with_fact conj_first_fact means_imp_fact
run_lines-requires-clause-fits c =
    let b : tm_type c.args.p.now ≡ bool_ty = same_ty-is _ _ (if_true _ _ c.requires.fits) in
    record { is = simp (sym c.conclusion-q.ensures.value, c.kept-with.ensures.is, c.kept-first.ensures.is, c.kept-fold.ensures.is, c.conclusion-q.ensures.boolean, b, same_refl, same_ty_refl, without-insert) }

pub returns-clause-exact : goal.returns-clause-exact
unfolding conj_with_fact conj_first_fact means_imp_fact
returns-clause-exact c =
    let b : tm_type c.args.p.now ≡ bool_ty = same_ty-is _ _ (if_true _ _ c.requires.fits) in
    let r = simp (sym c.conclusion-q.ensures.value, c.kept-with.ensures.is, c.kept-first.ensures.is, c.kept-fold.ensures.is, c.conclusion-q.ensures.boolean, b, same_refl, same_ty_refl, without-insert) at c.in_ok-th.ensures.exact.is in
    if_some _ _ c.requires.fits ∙ simp (sym c.conclusion-q.ensures.value) r
