use Rattle.std.proofs.Common.{refl, sym}
use Rattle.hol_terms.specs.Rules.{same, same_ty}
use Rattle.hol_terms.specs.Logic.{base_1, base_2, base_3, base_4, base_5, base_6, base_7, base_8}
use Rattle.nd_rules.specs.Facts.{kept_facts, truth_holds_fact, symmetry_fact, is_true_fact, true_is_fact, conj_means_fact, conj_first_fact, conj_second_fact, conj_with_fact, imp_means_fact, means_imp_fact, imp_applied_fact, not_means_fact, means_not_fact, all_means_fact, all_fold_fact, all_applied_fact, disj_means_fact, disj_first_fact, disj_second_fact, cases_fact, ex_means_fact, ex_shown_fact, ex_applied_fact}
use Rattle.nd_rules.proofs.Keeping.{listed}
use Rattle.nd_rules.proofs.rules.Rules.new.Goals as goal

pub derive_all-requires-clause-fit : goal.derive_all-requires-clause-fit
unfolding same same_ty base_1 base_2 base_3 base_4 base_5 base_6 base_7 base_8
derive_all-requires-clause-fit c = refl

pub invariant_of-result : goal.invariant_of-result
unfolding same same_ty base_1 base_2 base_3 base_4 base_5 base_6 base_7 base_8 truth_holds_fact symmetry_fact is_true_fact true_is_fact conj_means_fact conj_first_fact conj_second_fact conj_with_fact imp_means_fact means_imp_fact imp_applied_fact not_means_fact means_not_fact all_means_fact all_fold_fact all_applied_fact disj_means_fact disj_first_fact disj_second_fact cases_fact ex_means_fact ex_shown_fact ex_applied_fact
invariant_of-result c = listed kept_facts _ (sym c.in_ok-kept.ensures.exact)
