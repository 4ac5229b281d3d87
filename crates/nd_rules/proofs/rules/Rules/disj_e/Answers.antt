use Rattle.std.proofs.Common.{Some, sym, ap, ◌∙◌}
use Rattle.hol_terms.proofs.Same.{same-is}
use Rattle.kernel_lines.proofs.Had.{if_true, if_some}
use Rattle.nd_rules.proofs.Hypotheses.{ascends}
use Rattle.nd_rules.proofs.Shapes.{both_left, both_right, disj_shape, eq_conj, cases_joined}
use Rattle.nd_rules.proofs.rules.Rules.disj_e.Goals as goal

pub operands-requires-clause-binary : goal.operands-requires-clause-binary
operands-requires-clause-binary c = disj_shape c.args.a.now.sequent.concl (both_left _ _ (if_true _ _ c.requires.fits))

pub merge-requires-clause-is_a : goal.merge-requires-clause-is_a
merge-requires-clause-is_a c = both_left _ _ (if_true _ _ c.requires.fits)

pub merge-requires-clause-is_b : goal.merge-requires-clause-is_b
merge-requires-clause-is_b c =
    let o = c.operands.ensures.operands in
    let g = if_true _ _ c.requires.fits in
    eq_conj c.in_ok-one.one.sequent c.in_ok-one.ensures.exact o.first (same-is _ _ (both_right _ _ g) ∙ sym c.conclusion-r.ensures.value)

pub merge-requires-clause-is_c : goal.merge-requires-clause-is_c
merge-requires-clause-is_c c =
    let o = c.operands.ensures.operands in
    eq_conj c.in_ok-other.other.sequent c.in_ok-other.ensures.exact o.second (sym c.conclusion-r.ensures.value)

pub returns-clause-exact : goal.returns-clause-exact
returns-clause-exact c =
    let o = c.operands.ensures.operands in
    let g = if_true _ _ c.requires.fits in
    if_some _ _ c.requires.fits
    ∙ ap Some (sym (cases_joined c.args.a.now.sequent c.args.b.now.sequent c.args.c.now.sequent c.in_ok-th.th.sequent c.in_ok-one.one.sequent c.in_ok-other.other.sequent
    (ascends c.operands.ensures.derivable) (ascends c.conclusion-r.ensures.derivable) c.in_ok-one.ensures.exact c.in_ok-other.ensures.exact c.in_ok-th.ensures.exact o.first o.second
    (same-is _ _ (both_right _ _ g) ∙ sym c.conclusion-r.ensures.value)))
