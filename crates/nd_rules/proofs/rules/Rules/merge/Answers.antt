use Rattle.std.proofs.Common.{sym, ap, ◌∙◌}
use Rattle.hol_terms.specs.Sequent.{union, eq_tm}
use Rattle.hol_terms.proofs.Same.{same_refl}
use Rattle.hol_kernel.proofs.Ascending.{union_ascends}
use Rattle.nd_rules.specs.Facts.{cases_fact}
use Rattle.nd_rules.specs.Connectives.{conj_tm}
use Rattle.nd_rules.proofs.Hypotheses.{ascends, cut_hyps}
use Rattle.nd_rules.proofs.Shapes.{same_ty_refl, disj_shape, disj_is, some_is}
use Rattle.nd_rules.proofs.rules.Rules.merge.Goals as goal

pub operands-requires-clause-binary : goal.operands-requires-clause-binary
operands-requires-clause-binary c = disj_shape c.args.a.now.sequent.concl c.requires.is_a

pub run_lines-requires-clause-fits : goal.run_lines-requires-clause-fits
unfolding cases_fact
run_lines-requires-clause-fits c =
    let o = c.operands.ensures.operands in
    let e = disj_is c.args.a.now.sequent.concl c.operands.result.0.now c.operands.result.1.now c.requires.is_a o.first o.second in
    let f = c.requires.is_b ∙ ap (λ t. eq_tm t (conj_tm t c.args.r.now)) (sym o.first) in
    let g = c.requires.is_c ∙ ap (λ t. eq_tm t (conj_tm t c.args.r.now)) (sym o.second) in
    record { is = simp (e, f, g, c.kept-cases.ensures.is, o.boolean_first, o.boolean_second, c.requires.boolean, same_refl, same_ty_refl) }

pub returns-clause-exact : goal.returns-clause-exact
unfolding cases_fact
returns-clause-exact c =
    let o = c.operands.ensures.operands in
    let e = disj_is c.args.a.now.sequent.concl c.operands.result.0.now c.operands.result.1.now c.requires.is_a o.first o.second in
    let f = c.requires.is_b ∙ ap (λ t. eq_tm t (conj_tm t c.args.r.now)) (sym o.first) in
    let g = c.requires.is_c ∙ ap (λ t. eq_tm t (conj_tm t c.args.r.now)) (sym o.second) in
    let all = union (union c.args.b.now.sequent.hyps c.args.c.now.sequent.hyps) c.args.a.now.sequent.hyps in
    let h = cut_hyps c.args.r.now all (union_ascends (union c.args.b.now.sequent.hyps c.args.c.now.sequent.hyps) c.args.a.now.sequent.hyps (ascends c.operands.ensures.derivable)) in
    let r = simp (e, f, g, c.kept-cases.ensures.is, o.boolean_first, o.boolean_second, c.requires.boolean, same_refl, same_ty_refl, h) at c.in_ok-th.ensures.exact.is in
    sym (some_is _ _ r)
