use Rattle.std.proofs.Common.{◌∙◌}
use Rattle.hol_terms.proofs.Same.{same_refl}
use Rattle.kernel_lines.proofs.Had.{if_true, if_some}
use Rattle.nd_rules.specs.Facts.{conj_second_fact}
use Rattle.nd_rules.proofs.Hypotheses.{ascends, cut_hyps}
use Rattle.nd_rules.proofs.Shapes.{same_ty_refl, conj_shape, conj_is}
use Rattle.nd_rules.proofs.rules.Rules.conj_r.Goals as goal

pub operands-requires-clause-binary : goal.operands-requires-clause-binary
operands-requires-clause-binary c = conj_shape c.args.a.now.sequent.concl (if_true _ _ c.requires.fits)

pub run_lines-requires-clause-fits : goal.run_lines-requires-clause-fits
unfolding conj_second_fact
run_lines-requires-clause-fits c =
    let g = if_true _ _ c.requires.fits in
    let o = c.operands.ensures.operands in
    let e = conj_is c.args.a.now.sequent.concl c.operands.result.0.now c.operands.result.1.now g o.first o.second in
    record { is = simp (e, c.kept-taken.ensures.is, o.boolean_first, o.boolean_second, same_refl, same_ty_refl, cut_hyps c.operands.result.1.now c.args.a.now.sequent.hyps (ascends c.operands.ensures.derivable)) }

pub returns-clause-exact : goal.returns-clause-exact
unfolding conj_second_fact
returns-clause-exact c =
    let g = if_true _ _ c.requires.fits in
    let o = c.operands.ensures.operands in
    let e = conj_is c.args.a.now.sequent.concl c.operands.result.0.now c.operands.result.1.now g o.first o.second in
    let r = simp (e, c.kept-taken.ensures.is, o.boolean_first, o.boolean_second, same_refl, same_ty_refl, cut_hyps c.operands.result.1.now c.args.a.now.sequent.hyps (ascends c.operands.ensures.derivable)) at c.in_ok-th.ensures.exact.is in
    if_some _ _ c.requires.fits ∙ simp (e) r
