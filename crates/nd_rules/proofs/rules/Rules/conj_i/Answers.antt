use Rattle.std.proofs.Common.{sym}
use Rattle.hol_terms.specs.Notation.{◌·◌}
use Rattle.hol_terms.specs.Definition.{bool_ty}
use Rattle.hol_terms.specs.Logic.{const_eq}
use Rattle.hol_terms.proofs.Same.{same_refl}
use Rattle.nd_rules.specs.Connectives.{conj_tm}
use Rattle.nd_rules.proofs.Hypotheses.{ascends, cut_hyps}
use Rattle.nd_rules.specs.Facts.{conj_with_fact}
use Rattle.nd_rules.proofs.Shapes.{same_ty_refl}
use Rattle.nd_rules.proofs.rules.Rules.conj_i.Goals as goal

pub run_lines-requires-clause-fits : goal.run_lines-requires-clause-fits
unfolding conj_with_fact
run_lines-requires-clause-fits c =
    record { is = simp (sym c.conclusion-p.ensures.value, sym c.conclusion-q.ensures.value, c.kept-with.ensures.is, c.conclusion-p.ensures.boolean, c.conclusion-q.ensures.boolean, same_refl, same_ty_refl, cut_hyps (const_eq bool_ty · c.conclusion-q.result.now · (conj_tm c.conclusion-p.result.now c.conclusion-q.result.now)) c.args.a.now.sequent.hyps (ascends c.conclusion-p.ensures.derivable)) }

pub returns-clause-exact : goal.returns-clause-exact
unfolding conj_with_fact
returns-clause-exact c =
    let r = simp (sym c.conclusion-p.ensures.value, sym c.conclusion-q.ensures.value, c.kept-with.ensures.is, c.conclusion-p.ensures.boolean, c.conclusion-q.ensures.boolean, same_refl, same_ty_refl, cut_hyps (const_eq bool_ty · c.conclusion-q.result.now · (conj_tm c.conclusion-p.result.now c.conclusion-q.result.now)) c.args.a.now.sequent.hyps (ascends c.conclusion-p.ensures.derivable)) at c.in_ok-th.ensures.exact.is in
    simp (sym c.conclusion-p.ensures.value, sym c.conclusion-q.ensures.value) r
