use Rattle.std.proofs.Common.{◌∙◌}
use Rattle.hol_terms.proofs.Same.{same_refl}
use Rattle.kernel_lines.proofs.Had.{if_true, if_some}
use Rattle.nd_rules.specs.Facts.{not_means_fact}
use Rattle.nd_rules.proofs.Shapes.{same_ty_refl, not_shape, not_is}
use Rattle.nd_rules.proofs.rules.Rules.not_e.Goals as goal

pub operand-p-requires-clause-unary : goal.operand-p-requires-clause-unary
operand-p-requires-clause-unary c = not_shape c.args.a.now.sequent.concl (if_true _ _ c.requires.fits)

pub run_lines-requires-clause-fits : goal.run_lines-requires-clause-fits
unfolding not_means_fact
run_lines-requires-clause-fits c =
    let g = if_true _ _ c.requires.fits in
    let o = c.operand-p.ensures in
    let e = not_is c.args.a.now.sequent.concl c.operand-p.result.now g o.is in
    record { is = simp (e, c.kept-means.ensures.is, o.boolean, same_refl, same_ty_refl) }

pub returns-clause-exact : goal.returns-clause-exact
unfolding not_means_fact
returns-clause-exact c =
    let g = if_true _ _ c.requires.fits in
    let o = c.operand-p.ensures in
    let e = not_is c.args.a.now.sequent.concl c.operand-p.result.now g o.is in
    let r = simp (e, c.kept-means.ensures.is, o.boolean, same_refl, same_ty_refl) at c.in_ok-th.ensures.exact.is in
    if_some _ _ c.requires.fits ∙ simp (e) r
