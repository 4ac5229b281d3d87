use Rattle.std.proofs.Common.{sym}
use Rattle.hol_terms.proofs.Same.{same_refl}
use Rattle.nd_rules.specs.Facts.{conj_with_fact, conj_first_fact}
use Rattle.nd_rules.proofs.Hypotheses.{without-insert}
use Rattle.nd_rules.proofs.Shapes.{same_ty_refl, some_is}
use Rattle.nd_rules.proofs.rules.Rules.under.Goals as goal

pub run_lines-requires-clause-fits : goal.run_lines-requires-clause-fits
unfolding conj_with_fact conj_first_fact
run_lines-requires-clause-fits c =
    record { is = simp (sym c.conclusion-r.ensures.value, c.kept-with.ensures.is, c.kept-first.ensures.is, c.conclusion-r.ensures.boolean, c.requires.boolean, same_refl, same_ty_refl, without-insert) }

pub returns-clause-exact : goal.returns-clause-exact
unfolding conj_with_fact conj_first_fact
returns-clause-exact c =
    let r = simp (sym c.conclusion-r.ensures.value, c.kept-with.ensures.is, c.kept-first.ensures.is, c.conclusion-r.ensures.boolean, c.requires.boolean, same_refl, same_ty_refl, without-insert)
    at c.in_ok-th.ensures.exact.is in
    simp (sym c.conclusion-r.ensures.value, c.requires.boolean) (sym (some_is _ _ r))
