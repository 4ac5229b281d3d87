use Rattle.std.proofs.Common.{◌≡◌, sym, ◌∙◌}
use Rattle.hol_terms.specs.Typing.{tm_type}
use Rattle.hol_terms.specs.Definition.{bool_ty}
use Rattle.hol_terms.proofs.Same.{same_refl}
use Rattle.hol_terms.proofs.Checked.{same_ty-is}
use Rattle.kernel_lines.proofs.Had.{if_true, if_some}
use Rattle.nd_rules.specs.Connectives.{disj_tm}
use Rattle.nd_rules.specs.Facts.{disj_first_fact}
use Rattle.nd_rules.proofs.Hypotheses.{ascends, cut_hyps}
use Rattle.nd_rules.proofs.Shapes.{same_ty_refl}
use Rattle.nd_rules.proofs.rules.Rules.disj_l.Goals as goal

pub run_lines-requires-clause-fits : goal.run_lines-requires-clause-fits
unfolding disj_first_fact
run_lines-requires-clause-fits c =
    let b : tm_type c.args.q.now ≡ bool_ty = same_ty-is _ _ (if_true _ _ c.requires.fits) in
    record { is = simp (sym c.conclusion-p.ensures.value, c.kept-shown.ensures.is, c.conclusion-p.ensures.boolean, b, same_refl, same_ty_refl, cut_hyps (disj_tm c.conclusion-p.result.now c.args.q.now) c.args.a.now.sequent.hyps (ascends c.conclusion-p.ensures.derivable)) }

pub returns-clause-exact : goal.returns-clause-exact
unfolding disj_first_fact
returns-clause-exact c =
    let b : tm_type c.args.q.now ≡ bool_ty = same_ty-is _ _ (if_true _ _ c.requires.fits) in
    let r = simp (sym c.conclusion-p.ensures.value, c.kept-shown.ensures.is, c.conclusion-p.ensures.boolean, b, same_refl, same_ty_refl, cut_hyps (disj_tm c.conclusion-p.result.now c.args.q.now) c.args.a.now.sequent.hyps (ascends c.conclusion-p.ensures.derivable)) at c.in_ok-th.ensures.exact.is in
    if_some _ _ c.requires.fits ∙ simp (sym c.conclusion-p.ensures.value) r
