use Rattle.std.proofs.Common.{◌∙◌}
use Rattle.hol_terms.proofs.Same.{same-is, same_refl}
use Rattle.kernel_lines.proofs.Had.{if_true, if_some}
use Rattle.nd_rules.specs.Facts.{symmetry_fact}
use Rattle.nd_rules.proofs.Shapes.{same_ty_refl, eq_is, ty_self}
use Rattle.nd_rules.proofs.rules.Rules.sym.Goals as goal

pub sides-requires-clause-equation : goal.sides-requires-clause-equation
sides-requires-clause-equation c = same-is _ _ (if_true _ _ c.requires.fits)

pub run_lines-requires-clause-fits : goal.run_lines-requires-clause-fits
unfolding symmetry_fact
run_lines-requires-clause-fits c =
    let g = if_true _ _ c.requires.fits in
    let o = c.sides.ensures in
    let e = eq_is c.args.a.now.sequent.concl c.sides.result.0.now c.sides.result.1.now g o.first o.second in
    record { is = simp (e, o.typed, c.kept-symmetry.ensures.is, ty_self, same_refl, same_ty_refl) }

pub returns-clause-exact : goal.returns-clause-exact
unfolding symmetry_fact
returns-clause-exact c =
    let g = if_true _ _ c.requires.fits in
    let o = c.sides.ensures in
    let e = eq_is c.args.a.now.sequent.concl c.sides.result.0.now c.sides.result.1.now g o.first o.second in
    let r = simp (e, o.typed, c.kept-symmetry.ensures.is, ty_self, same_refl, same_ty_refl) at c.in_ok-th.ensures.exact.is in
    if_some _ _ c.requires.fits ∙ simp (e, o.typed) r
