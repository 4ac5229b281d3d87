use Rattle.std.proofs.Common.{sym}
use Rattle.hol_terms.proofs.Same.{same_refl}
use Rattle.nd_rules.specs.Facts.{symmetry_fact, conj_with_fact, conj_first_fact, means_imp_fact}
use Rattle.nd_rules.proofs.Shapes.{same_ty_refl, some_is}
use Rattle.nd_rules.proofs.Hypotheses.{without-insert}
use Rattle.nd_rules.proofs.rules.Rules.implied.Goals as goal

pub run_lines-requires-clause-fits : goal.run_lines-requires-clause-fits
unfolding symmetry_fact conj_with_fact conj_first_fact means_imp_fact
run_lines-requires-clause-fits c =
    record { is = simp (c.requires.is_b, c.requires.is_case, c.requires.predicate.typed, c.requires.formula.boolean, c.requires.boolean, c.kept-symmetry.ensures.is, c.kept-with.ensures.is, c.kept-first.ensures.is, c.kept-imp.ensures.is, without-insert, same_refl, same_ty_refl) }

pub returns-clause-exact : goal.returns-clause-exact
unfolding symmetry_fact conj_with_fact conj_first_fact means_imp_fact
returns-clause-exact c =
    let r = simp (c.requires.is_b, c.requires.is_case, c.requires.predicate.typed, c.requires.formula.boolean, c.requires.boolean, c.kept-symmetry.ensures.is, c.kept-with.ensures.is, c.kept-first.ensures.is, c.kept-imp.ensures.is, without-insert, same_refl, same_ty_refl) at c.in_ok-th.ensures.exact.is in
    sym (some_is _ _ r)
