use Rattle.std.proofs.Common.{◌∙◌}
use Rattle.hol_terms.proofs.Same.{same_refl}
use Rattle.kernel_lines.proofs.Had.{if_true, if_some}
use Rattle.nd_rules.specs.Facts.{true_is_fact}
use Rattle.nd_rules.proofs.Shapes.{same_ty_refl, is_true_shape, is_true_is, is_true_boolean}
use Rattle.nd_rules.proofs.rules.Rules.eqt_e.Goals as goal

pub sides-requires-clause-equation : goal.sides-requires-clause-equation
sides-requires-clause-equation c = is_true_shape c.args.a.now.sequent.concl (if_true _ _ c.requires.fits)

pub run_lines-requires-clause-fits : goal.run_lines-requires-clause-fits
unfolding true_is_fact
run_lines-requires-clause-fits c =
    let g = if_true _ _ c.requires.fits in
    let o = c.sides.ensures in
    let e = is_true_is c.args.a.now.sequent.concl c.sides.result.0.now g o.first in
    let b = is_true_boolean c.args.a.now.sequent.concl c.sides.result.0.now c.sides.result.1.now g o.second o.typed in
    record { is = simp (e, c.kept-true_is.ensures.is, b, same_refl, same_ty_refl) }

pub returns-clause-exact : goal.returns-clause-exact
unfolding true_is_fact
returns-clause-exact c =
    let g = if_true _ _ c.requires.fits in
    let o = c.sides.ensures in
    let e = is_true_is c.args.a.now.sequent.concl c.sides.result.0.now g o.first in
    let b = is_true_boolean c.args.a.now.sequent.concl c.sides.result.0.now c.sides.result.1.now g o.second o.typed in
    let r = simp (e, c.kept-true_is.ensures.is, b, same_refl, same_ty_refl) at c.in_ok-th.ensures.exact.is in
    if_some _ _ c.requires.fits ∙ simp (e) r
