-- Written by `python3 tools/library.py write` from the scripts of tools/library/.
-- What the tables give, and which base definitions are constants.
use Rattle.std.proofs.Common.{◌≡◌, true, refl, [], ◌∷◌, codes}
use Rattle.hol_terms.specs.Base.{base}
use Rattle.hol_terms.specs.Text.{Text}
use Rattle.script_core.specs.Tables.{fact_sequent, table_sequent}
use Rattle.library_steps.specs.Closed.{nothing, Proves}
use Rattle.library_steps.specs.Building.{IsConstantAt}
use Rattle.library_steps.proofs.Computed.{library_table, agree, proves, constant_at}
use Rattle.th_num.specs.Facts as facts

pub constant_40 : IsConstantAt 40
unfolding library_table
constant_40 = constant_at refl

abbrev le_reflexive : Text
le_reflexive = codes "term [P:num -> bool] [m:num] /\\ (!x0:num. [P:num -> bool] x0 ==> [P:num -> bool] (suc x0))\nassume 0\ndef 40\nterm num.le [m:num] [m:num]\nrewrite_all 1 1\nnorm 2\nconj_l 0\ndisch 0 4\nterm [P:num -> bool]\ngen 2 5\nsym 3\neq_mp 7 6\nterm [m:num]\ngen 3 8\n"

le_reflexive_agrees : agree (table_sequent (base 41) [] nothing le_reflexive) (fact_sequent facts.le_reflexive) ≡ true
unfolding library_table
le_reflexive_agrees = refl

pub le_reflexive_proves : Proves (base 41) [] le_reflexive facts.le_reflexive
le_reflexive_proves = proves le_reflexive_agrees

abbrev le_suc : Text
le_suc = codes "term num.le [m:num] [n:num]\nassume 0\nterm [P:num -> bool] [m:num] /\\ (!x0:num. [P:num -> bool] x0 ==> [P:num -> bool] (suc x0))\nassume 1\ndef 40\nrewrite_all 0 2\nnorm 3\neq_mp 4 0\nterm [P:num -> bool]\nspec 2 5\nmp 6 1\nconj_r 1\nterm [n:num]\nspec 3 8\nmp 9 7\ndisch 1 10\ngen 2 11\nterm suc [n:num]\ninst 4 3 4\nsym 13\neq_mp 14 12\ndisch 0 15\ngen 3 16\nterm [m:num]\ngen 5 17\n"

le_suc_agrees : agree (table_sequent (base 41) [] nothing le_suc) (fact_sequent facts.le_suc) ≡ true
unfolding library_table
le_suc_agrees = refl

pub le_suc_proves : Proves (base 41) [] le_suc facts.le_suc
le_suc_proves = proves le_suc_agrees

abbrev le_induction : Text
le_induction = codes "term [P:num -> bool] [m:num]\nassume 0\nterm !x0:num. [P:num -> bool] x0 ==> [P:num -> bool] (suc x0)\nassume 1\nterm num.le [m:num] [n:num]\nassume 2\ndef 40\nrewrite_all 2 3\nnorm 4\neq_mp 5 2\nterm [P:num -> bool]\nspec 3 6\nconj_i 0 1\nmp 7 8\ndisch 2 9\ndisch 1 10\ndisch 0 11\nterm [n:num]\ngen 4 12\nterm [m:num]\ngen 5 13\ngen 3 14\n"

le_induction_agrees : agree (table_sequent (base 41) [] nothing le_induction) (fact_sequent facts.le_induction) ≡ true
unfolding library_table
le_induction_agrees = refl

pub le_induction_proves : Proves (base 41) [] le_induction facts.le_induction
le_induction_proves = proves le_induction_agrees

abbrev le_transitive : Text
le_transitive = codes "term num.le [k:num] [m:num]\nassume 0\nterm num.le [k:num]\nspec 1 0\nterm [m:num]\nspec 2 3\nterm [n:num]\nspec 3 4\nterm [k:num]\nspec 4 1\nmp 5 2\nmp 7 6\ndisch 0 8\ngen 3 9\ngen 2 10\ngen 4 11\n"

le_transitive_agrees : agree (table_sequent (base 41) (facts.le_induction ∷ facts.le_suc ∷ []) nothing le_transitive) (fact_sequent facts.le_transitive) ≡ true
unfolding library_table
le_transitive_agrees = refl

pub le_transitive_proves : Proves (base 41) (facts.le_induction ∷ facts.le_suc ∷ []) le_transitive facts.le_transitive
le_transitive_proves = proves le_transitive_agrees

abbrev le_suc_suc : Text
le_suc_suc = codes "term \\x0:num. num.le (suc [m:num]) (suc x0)\nspec 0 0\nterm [m:num]\nspec 1 3\nterm [n:num]\nspec 2 4\nnorm 5\nterm suc [m:num]\nspec 3 1\nterm suc [k:num]\nspec 4 7\nterm [k:num]\ngen 5 8\nspec 3 2\nmp 6 10\nmp 11 9\ngen 2 12\ngen 1 13\n"

le_suc_suc_agrees : agree (table_sequent (base 41) (facts.le_induction ∷ facts.le_suc ∷ facts.le_reflexive ∷ []) nothing le_suc_suc) (fact_sequent facts.le_suc_suc) ≡ true
unfolding library_table
le_suc_suc_agrees = refl

pub le_suc_suc_proves : Proves (base 41) (facts.le_induction ∷ facts.le_suc ∷ facts.le_reflexive ∷ []) le_suc_suc facts.le_suc_suc
le_suc_suc_proves = proves le_suc_suc_agrees

abbrev le_cases : Text
le_cases = codes "term \\x0:num. ([m:num] = x0) \\/ num.le (suc [m:num]) x0\nspec 0 0\nterm [m:num]\nspec 1 3\nterm [n:num]\nspec 2 4\nnorm 5\nrefl 1\nterm num.le (suc [m:num]) [m:num]\ndisj_l 7 3\nterm [m:num] = [k:num]\nassume 4\nterm suc [m:num]\nspec 5 1\nterm num.le (suc [m:num]) (suc [n:num])\nsubst 2 6 9 10\nspec 5 2\nterm [k:num]\nspec 7 12\nterm num.le (suc [m:num]) [k:num]\nassume 8\nmp 13 14\nterm ([m:num] = [k:num]) \\/ num.le (suc [m:num]) [k:num]\nassume 9\ndisj_e 16 11 15\nterm [m:num] = suc [k:num]\ndisj_r 10 17\ndisch 9 18\ngen 7 19\nmp 6 8\nmp 21 20\ngen 2 22\ngen 1 23\n"

le_cases_agrees : agree (table_sequent (base 41) (facts.le_induction ∷ facts.le_reflexive ∷ facts.le_suc ∷ []) nothing le_cases) (fact_sequent facts.le_cases) ≡ true
unfolding library_table
le_cases_agrees = refl

pub le_cases_proves : Proves (base 41) (facts.le_induction ∷ facts.le_reflexive ∷ facts.le_suc ∷ []) le_cases facts.le_cases
le_cases_proves = proves le_cases_agrees

abbrev none_below_zero : Text
none_below_zero = codes "term \\x0:num. ~ (x0 = 0)\nspec 0 0\nterm suc [n:num]\nspec 1 2\nterm 0\nspec 2 3\nnorm 4\nterm [k:num]\nspec 3 1\nterm ~ ([k:num] = 0)\ndisch 4 6\ngen 3 7\nterm num.le (suc [n:num]) 0\nassume 5\nterm [n:num]\nspec 6 1\nmp 5 10\nmp 11 8\nmp 12 9\nrefl 2\nnot_e 13\nmp 15 14\ndisch 5 16\nnot_i 17\ngen 6 18\n"

none_below_zero_agrees : agree (table_sequent (base 41) (facts.le_induction ∷ facts.suc_not_zero ∷ []) nothing none_below_zero) (fact_sequent facts.none_below_zero) ≡ true
unfolding library_table
none_below_zero_agrees = refl

pub none_below_zero_proves : Proves (base 41) (facts.le_induction ∷ facts.suc_not_zero ∷ []) none_below_zero facts.none_below_zero
none_below_zero_proves = proves none_below_zero_agrees

abbrev le_of_sucs : Text
le_of_sucs = codes "term \\x0:num. ?x1:num. (x0 = suc x1) /\\ num.le [m:num] x1\nspec 0 0\nterm suc [m:num]\nspec 1 4\nterm suc [n:num]\nspec 2 5\nnorm 6\nrefl 1\nterm [m:num]\nspec 3 1\nconj_i 8 9\nterm ?x0:num. (suc [m:num] = suc x0) /\\ num.le [m:num] x0\nex_i 4 3 10\nterm ([k:num] = suc [j:num]) /\\ num.le [m:num] [j:num]\nassume 5\nspec 3 2\nterm [j:num]\nspec 6 13\nconj_r 12\nmp 14 15\nconj_l 12\nsym 17\nterm [v:num]\nterm num.le [m:num] [v:num]\nsubst 7 8 18 16\nterm suc [k:num]\nrefl 9\nconj_i 20 19\nterm ?x0:num. (suc [k:num] = suc x0) /\\ num.le [m:num] x0\nterm [k:num]\nex_i 10 11 21\nterm ?x0:num. ([k:num] = suc x0) /\\ num.le [m:num] x0\nassume 12\nchoose 6 23 22\ndisch 12 24\ngen 11 25\nterm num.le (suc [m:num]) (suc [n:num])\nassume 13\nmp 7 11\nmp 28 26\nmp 29 27\nterm (suc [n:num] = suc [j:num]) /\\ num.le [m:num] [j:num]\nassume 14\nterm [n:num]\nspec 15 3\nspec 6 32\nconj_l 31\nmp 33 34\nconj_r 31\nsym 35\nsubst 7 8 37 36\nchoose 6 30 38\ndisch 13 39\ngen 15 40\ngen 3 41\n"

le_of_sucs_agrees : agree (table_sequent (base 41) (facts.le_induction ∷ facts.le_reflexive ∷ facts.le_suc ∷ facts.suc_injective ∷ []) nothing le_of_sucs) (fact_sequent facts.le_of_sucs) ≡ true
unfolding library_table
le_of_sucs_agrees = refl

pub le_of_sucs_proves : Proves (base 41) (facts.le_induction ∷ facts.le_reflexive ∷ facts.le_suc ∷ facts.suc_injective ∷ []) le_of_sucs facts.le_of_sucs
le_of_sucs_proves = proves le_of_sucs_agrees

abbrev strong_induction : Text
strong_induction = codes "term !x0:num. (!x1:num. num.le (suc x1) x0 ==> [P:num -> bool] x1) ==> [P:num -> bool] x0\nassume 0\nterm \\x0:num. !x1:num. num.le (suc x1) x0 ==> [P:num -> bool] x1\nspec 1 0\nnorm 5\nterm [m:num]\nspec 2 1\nterm num.le (suc [m:num]) 0\nassume 3\nnot_e 7\nmp 9 8\ndef 6\neq_mp 11 10\nterm [P:num -> bool] [m:num]\nspec 4 12\ndisch 3 13\ngen 2 14\nterm !x0:num. num.le (suc x0) [n:num] ==> [P:num -> bool] x0\nassume 5\nterm [n:num]\nspec 6 4\nmp 17 16\nterm num.le (suc [m:num]) (suc [n:num])\nassume 7\nspec 2 2\nspec 6 20\nspec 2 3\nspec 6 22\nmp 23 19\nmp 21 24\nterm [m:num] = [n:num]\nassume 8\nsym 26\nterm [v:num]\nterm [P:num -> bool] [v:num]\nsubst 9 10 27 18\nspec 2 16\nterm num.le (suc [m:num]) [n:num]\nassume 11\nmp 29 30\ndisj_e 25 28 31\ndisch 7 32\ngen 2 33\ndisch 5 34\ngen 6 35\nmp 6 15\nmp 37 36\nspec 6 38\nmp 17 39\ngen 6 40\ndisch 0 41\nterm [P:num -> bool]\ngen 12 42\n"

strong_induction_agrees : agree (table_sequent (base 41) (facts.num_induction ∷ facts.none_below_zero ∷ facts.le_cases ∷ facts.le_of_sucs ∷ []) nothing strong_induction) (fact_sequent facts.strong_induction) ≡ true
unfolding library_table
strong_induction_agrees = refl

pub strong_induction_proves : Proves (base 41) (facts.num_induction ∷ facts.none_below_zero ∷ facts.le_cases ∷ facts.le_of_sucs ∷ []) strong_induction facts.strong_induction
strong_induction_proves = proves strong_induction_agrees
