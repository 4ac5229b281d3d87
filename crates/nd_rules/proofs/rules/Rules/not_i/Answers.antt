use Rattle.std.proofs.Common.{◌∙◌}
use Rattle.hol_terms.proofs.Same.{same_refl}
use Rattle.kernel_lines.proofs.Had.{if_true, if_some}
use Rattle.nd_rules.specs.Facts.{means_not_fact}
use Rattle.nd_rules.proofs.Shapes.{same_ty_refl, imp_false_shape, imp_false_is}
use Rattle.nd_rules.proofs.rules.Rules.not_i.Goals as goal

pub operands-requires-clause-binary : goal.operands-requires-clause-binary
operands-requires-clause-binary c = imp_false_shape c.args.a.now.sequent.concl (if_true _ _ c.requires.fits)

pub run_lines-requires-clause-fits : goal.run_lines-requires-clause-fits
unfolding means_not_fact
run_lines-requires-clause-fits c =
    let g = if_true _ _ c.requires.fits in
    let o = c.operands.ensures.operands in
    let e = imp_false_is c.args.a.now.sequent.concl c.operands.result.0.now g o.first in
    record { is = simp (e, c.kept-fold.ensures.is, o.boolean_first, same_refl, same_ty_refl) }

pub returns-clause-exact : goal.returns-clause-exact
unfolding means_not_fact
returns-clause-exact c =
    let g = if_true _ _ c.requires.fits in
    let o = c.operands.ensures.operands in
    let e = imp_false_is c.args.a.now.sequent.concl c.operands.result.0.now g o.first in
    let r = simp (e, c.kept-fold.ensures.is, o.boolean_first, same_refl, same_ty_refl) at c.in_ok-th.ensures.exact.is in
    if_some _ _ c.requires.fits ∙ simp (e) r
