use Rattle.std.proofs.Common.{sym, ◌∙◌}
use Rattle.hol_terms.specs.Sequent.{eq_tm}
use Rattle.hol_terms.proofs.Same.{same-is, same_refl}
use Rattle.kernel_lines.proofs.Had.{if_true, if_some}
use Rattle.nd_rules.specs.Connectives.{imp_tm}
use Rattle.nd_rules.specs.Facts.{imp_applied_fact}
use Rattle.nd_rules.proofs.Hypotheses.{ascends, cut_hyps, exchanged}
use Rattle.nd_rules.proofs.Shapes.{same_ty_refl, both_left, both_right, imp_shape, imp_is}
use Rattle.nd_rules.proofs.rules.Rules.mp.Goals as goal

pub operands-requires-clause-binary : goal.operands-requires-clause-binary
operands-requires-clause-binary c = imp_shape c.args.a.now.sequent.concl (both_left _ _ (if_true _ _ c.requires.fits))

pub run_lines-requires-clause-fits : goal.run_lines-requires-clause-fits
unfolding imp_applied_fact
run_lines-requires-clause-fits c =
    let g = if_true _ _ c.requires.fits in
    let o = c.operands.ensures.operands in
    let d = c.conclusion-p.ensures.value ∙ sym (same-is _ _ (both_right _ _ g)) in
    let e = imp_is c.args.a.now.sequent.concl c.conclusion-p.result.now c.operands.result.1.now (both_left _ _ g) d o.second in
    record { is = simp (e, sym c.conclusion-p.ensures.value, c.kept-applied.ensures.is, c.conclusion-p.ensures.boolean, o.boolean_second, same_refl, same_ty_refl, cut_hyps (eq_tm (imp_tm c.conclusion-p.result.now c.operands.result.1.now) c.operands.result.1.now) c.args.b.now.sequent.hyps (ascends c.conclusion-p.ensures.derivable), exchanged c.args.a.now.sequent.hyps c.args.b.now.sequent.hyps (ascends c.operands.ensures.derivable) (ascends c.conclusion-p.ensures.derivable)) }

pub returns-clause-exact : goal.returns-clause-exact
unfolding imp_applied_fact
returns-clause-exact c =
    let g = if_true _ _ c.requires.fits in
    let o = c.operands.ensures.operands in
    let d = c.conclusion-p.ensures.value ∙ sym (same-is _ _ (both_right _ _ g)) in
    let e = imp_is c.args.a.now.sequent.concl c.conclusion-p.result.now c.operands.result.1.now (both_left _ _ g) d o.second in
    let r = simp (e, sym c.conclusion-p.ensures.value, c.kept-applied.ensures.is, c.conclusion-p.ensures.boolean, o.boolean_second, same_refl, same_ty_refl, cut_hyps (eq_tm (imp_tm c.conclusion-p.result.now c.operands.result.1.now) c.operands.result.1.now) c.args.b.now.sequent.hyps (ascends c.conclusion-p.ensures.derivable), exchanged c.args.a.now.sequent.hyps c.args.b.now.sequent.hyps (ascends c.operands.ensures.derivable) (ascends c.conclusion-p.ensures.derivable)) at c.in_ok-th.ensures.exact.is in
    if_some _ _ c.requires.fits ∙ simp (e, sym c.conclusion-p.ensures.value) r
