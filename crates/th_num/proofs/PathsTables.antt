-- Written by `python3 tools/library.py write` from the scripts of tools/library/.
-- What the tables give, and which base definitions are constants.
use Rattle.std.proofs.Common.{◌≡◌, true, refl, [], ◌∷◌, codes}
use Rattle.hol_terms.specs.Base.{base}
use Rattle.hol_terms.specs.Text.{Text}
use Rattle.script_core.specs.Tables.{fact_sequent, table_sequent}
use Rattle.library_steps.specs.Closed.{nothing, Proves}
use Rattle.library_steps.specs.Building.{IsConstantAt}
use Rattle.library_steps.proofs.Computed.{library_table, agree, proves, constant_at}
use Rattle.th_num.specs.Facts as facts

pub constant_42 : IsConstantAt 42
unfolding library_table
constant_42 = constant_at refl

abbrev cons_zero : Text
cons_zero = codes "type num\ninst_type 0 a 0\nterm suc (num.dbl [p:num])\nspec 0 1\nterm \\x0:num. \\x1:num. num.dbl x1\nspec 1 2\ndef 42\nterm num.cons 0 [p:num]\nrewrite_all 2 4\nnorm 5\ntrans 6 3\nterm [p:num]\ngen 3 7\n"

cons_zero_agrees : agree (table_sequent (base 43) (facts.rec_zero ∷ []) nothing cons_zero) (fact_sequent facts.cons_zero) ≡ true
unfolding library_table
cons_zero_agrees = refl

pub cons_zero_proves : Proves (base 43) (facts.rec_zero ∷ []) cons_zero facts.cons_zero
cons_zero_proves = proves cons_zero_agrees

abbrev cons_suc : Text
cons_suc = codes "type num\ninst_type 0 a 0\nterm suc (num.dbl [p:num])\nspec 0 1\nterm \\x0:num. \\x1:num. num.dbl x1\nspec 1 2\nterm [i:num]\nspec 2 3\nnorm 4\ndef 42\nterm num.cons (suc [i:num]) [p:num] = num.dbl (num.cons [i:num] [p:num])\nrewrite_all 3 6\nnorm 7\nsym 8\neq_mp 9 5\nterm [p:num]\ngen 4 10\ngen 2 11\n"

cons_suc_agrees : agree (table_sequent (base 43) (facts.rec_suc ∷ []) nothing cons_suc) (fact_sequent facts.cons_suc) ≡ true
unfolding library_table
cons_suc_agrees = refl

pub cons_suc_proves : Proves (base 43) (facts.rec_suc ∷ []) cons_suc facts.cons_suc
cons_suc_proves = proves cons_suc_agrees

abbrev below_cons : Text
below_cons = codes "term [p:num]\nspec 0 0\nterm num.dbl [p:num]\nspec 1 6\nspec 0 1\nmp 7 8\nspec 0 2\nsym 10\nterm [v:num]\nterm num.le (suc [p:num]) [v:num]\nsubst 2 3 11 9\ngen 0 12\nterm suc [p:num]\nspec 4 3\nterm num.cons [i:num] [p:num]\nspec 5 14\nterm num.dbl (num.cons [i:num] [p:num])\nspec 6 15\nterm !x0:num. num.le (suc x0) (num.cons [i:num] x0)\nassume 7\nspec 0 17\nspec 5 1\nmp 16 18\nmp 20 19\nterm [i:num]\nspec 8 4\nspec 0 22\nsym 23\nsubst 2 3 24 21\ngen 0 25\nterm \\x0:num. !x1:num. num.le (suc x1) (num.cons x0 x1)\nspec 9 5\nnorm 27\ndisch 7 26\ngen 8 29\nmp 28 13\nmp 31 30\n"

below_cons_agrees : agree (table_sequent (base 43) (facts.le_suc_suc ∷ facts.le_double ∷ facts.cons_zero ∷ facts.le_transitive ∷ facts.cons_suc ∷ facts.num_induction ∷ []) nothing below_cons) (fact_sequent facts.below_cons) ≡ true
unfolding library_table
below_cons_agrees = refl

pub below_cons_proves : Proves (base 43) (facts.le_suc_suc ∷ facts.le_double ∷ facts.cons_zero ∷ facts.le_transitive ∷ facts.cons_suc ∷ facts.num_induction ∷ []) below_cons facts.below_cons
below_cons_proves = proves below_cons_agrees

abbrev cons_not_zero : Text
cons_not_zero = codes "term num.cons [i:num] [p:num] = 0\nassume 0\nterm [i:num]\nspec 1 0\nterm [p:num]\nspec 2 3\nterm [v:num]\nterm num.le (suc [p:num]) [v:num]\nsubst 3 4 2 4\nspec 2 1\nnot_e 6\nmp 7 5\ndisch 0 8\nnot_i 9\ngen 2 10\ngen 1 11\n"

cons_not_zero_agrees : agree (table_sequent (base 43) (facts.below_cons ∷ facts.none_below_zero ∷ []) nothing cons_not_zero) (fact_sequent facts.cons_not_zero) ≡ true
unfolding library_table
cons_not_zero_agrees = refl

pub cons_not_zero_proves : Proves (base 43) (facts.below_cons ∷ facts.none_below_zero ∷ []) cons_not_zero facts.cons_not_zero
cons_not_zero_proves = proves cons_not_zero_agrees

abbrev cons_step_zero : Text
cons_step_zero = codes "term num.cons 0 [p:num] = num.cons 0 [q:num]\nassume 0\nterm [p:num]\nspec 1 0\nterm [q:num]\nspec 2 0\nterm [v:num]\nterm [v:num] = num.cons 0 [q:num]\nsubst 3 4 7 6\nterm suc (num.dbl [p:num]) = [v:num]\nsubst 3 5 8 9\nterm num.dbl [p:num]\nspec 6 1\nterm num.dbl [q:num]\nspec 7 11\nmp 12 10\nspec 1 2\nspec 2 14\nmp 15 13\nterm 0\nrefl 8\nconj_i 17 16\ndisch 0 18\ngen 2 19\ngen 1 20\nterm num.cons (suc [i:num]) [p:num] = num.cons 0 [q:num]\nassume 9\nterm [i:num]\nspec 10 3\nspec 1 23\nsubst 3 4 24 22\nterm num.dbl (num.cons [i:num] [p:num]) = [v:num]\nsubst 3 11 8 25\nterm num.cons [i:num] [p:num]\nspec 12 4\nspec 2 27\nnot_e 28\nmp 29 26\ndef 6\neq_mp 31 30\nterm (suc [i:num] = 0) /\\ ([p:num] = [q:num])\nspec 13 32\ndisch 9 33\ngen 2 34\ngen 1 35\nterm \\x0:num. !x1:num. !x2:num. (num.cons x0 x1 = num.cons 0 x2) ==> ((x0 = 0) /\\ (x1 = x2))\nspec 14 5\nnorm 37\nterm !x0:num. !x1:num. (num.cons [i:num] x0 = num.cons 0 x1) ==> (([i:num] = 0) /\\ (x0 = x1))\ndisch 15 36\ngen 10 39\nmp 38 21\nmp 41 40\n"

cons_step_zero_agrees : agree (table_sequent (base 43) (facts.cons_zero ∷ facts.suc_injective ∷ facts.double_injective ∷ facts.cons_suc ∷ facts.double_not_odd ∷ facts.num_induction ∷ []) nothing cons_step_zero) (fact_sequent facts.cons_step_zero) ≡ true
unfolding library_table
cons_step_zero_agrees = refl

pub cons_step_zero_proves : Proves (base 43) (facts.cons_zero ∷ facts.suc_injective ∷ facts.double_injective ∷ facts.cons_suc ∷ facts.double_not_odd ∷ facts.num_induction ∷ []) cons_step_zero facts.cons_step_zero
cons_step_zero_proves = proves cons_step_zero_agrees

abbrev cons_zero_injective : Text
cons_zero_injective = codes "term num.cons 0 [p:num] = num.cons [j:num] [q:num]\nassume 0\nterm [j:num]\nspec 1 0\nterm [q:num]\nspec 2 2\nterm [p:num]\nspec 3 3\nsym 1\nmp 4 5\nconj_l 6\nsym 7\nconj_r 6\nsym 9\nconj_i 8 10\ndisch 0 11\ngen 2 12\ngen 1 13\ngen 3 14\n"

cons_zero_injective_agrees : agree (table_sequent (base 43) (facts.cons_step_zero ∷ []) nothing cons_zero_injective) (fact_sequent facts.cons_zero_injective) ≡ true
unfolding library_table
cons_zero_injective_agrees = refl

pub cons_zero_injective_proves : Proves (base 43) (facts.cons_step_zero ∷ []) cons_zero_injective facts.cons_zero_injective
cons_zero_injective_proves = proves cons_zero_injective_agrees

abbrev cons_injective : Text
cons_injective = codes "term suc [i:num]\nspec 0 0\nterm [p:num]\nspec 1 5\nterm num.cons (suc [i:num]) [p:num] = num.cons (suc [j:num]) [q:num]\nassume 2\nterm [i:num]\nspec 3 1\nspec 1 8\nterm [j:num]\nspec 4 1\nterm [q:num]\nspec 5 10\nterm [v:num]\nterm [v:num] = num.cons (suc [j:num]) [q:num]\nsubst 6 7 9 7\nterm num.dbl (num.cons [i:num] [p:num]) = [v:num]\nsubst 6 8 11 12\nterm num.cons [i:num] [p:num]\nspec 9 2\nterm num.cons [j:num] [q:num]\nspec 10 14\nmp 15 13\nterm !x0:num. !x1:num. !x2:num. (num.cons [i:num] x0 = num.cons x1 x2) ==> (([i:num] = x1) /\\ (x0 = x2))\nassume 11\nspec 1 17\nspec 4 18\nspec 5 19\nmp 20 16\nconj_l 21\nterm suc\nrefl 12\ncomb 23 22\nconj_r 21\nconj_i 24 25\ndisch 2 26\ngen 5 27\nterm \\x0:num. !x1:num. (num.cons (suc [i:num]) [p:num] = num.cons x0 x1) ==> ((suc [i:num] = x0) /\\ ([p:num] = x1))\nspec 13 3\nnorm 29\nterm !x0:num. (num.cons (suc [i:num]) [p:num] = num.cons [j:num] x0) ==> ((suc [i:num] = [j:num]) /\\ ([p:num] = x0))\ndisch 14 28\ngen 4 31\nmp 30 6\nmp 33 32\ngen 1 34\nterm \\x0:num. !x1:num. !x2:num. !x3:num. (num.cons x0 x1 = num.cons x2 x3) ==> ((x0 = x2) /\\ (x1 = x3))\nspec 15 3\nnorm 36\ndisch 11 35\ngen 3 38\nmp 37 4\nmp 40 39\n"

cons_injective_agrees : agree (table_sequent (base 43) (facts.cons_step_zero ∷ facts.cons_suc ∷ facts.double_injective ∷ facts.num_induction ∷ facts.cons_zero_injective ∷ []) nothing cons_injective) (fact_sequent facts.cons_injective) ≡ true
unfolding library_table
cons_injective_agrees = refl

pub cons_injective_proves : Proves (base 43) (facts.cons_step_zero ∷ facts.cons_suc ∷ facts.double_injective ∷ facts.num_induction ∷ facts.cons_zero_injective ∷ []) cons_injective facts.cons_injective
cons_injective_proves = proves cons_injective_agrees

abbrev double_is_code : Text
double_is_code = codes "term [n:num] = num.cons [i:num] [p:num]\nassume 0\nterm num.dbl\nrefl 1\ncomb 2 1\nterm [i:num]\nspec 2 0\nterm [p:num]\nspec 3 4\nsym 5\ntrans 3 6\nterm ?x0:num. num.dbl [n:num] = num.cons (suc [i:num]) x0\nex_i 4 3 7\nterm ?x0:num. ?x1:num. num.dbl [n:num] = num.cons x0 x1\nterm suc [i:num]\nex_i 5 6 8\nterm ?x0:num. [n:num] = num.cons [i:num] x0\nassume 7\nchoose 3 10 9\nterm ?x0:num. ?x1:num. [n:num] = num.cons x0 x1\nassume 8\nchoose 2 12 11\ndisch 8 13\nterm [n:num]\ngen 9 14\n"

double_is_code_agrees : agree (table_sequent (base 43) (facts.cons_suc ∷ []) nothing double_is_code) (fact_sequent facts.double_is_code) ≡ true
unfolding library_table
double_is_code_agrees = refl

pub double_is_code_proves : Proves (base 43) (facts.cons_suc ∷ []) double_is_code facts.double_is_code
double_is_code_proves = proves double_is_code_agrees

abbrev path_cases : Text
path_cases = codes "term \\x0:num. (x0 = 0) \\/ (?x1:num. ?x2:num. x0 = num.cons x1 x2)\nspec 0 0\nnorm 6\nterm !x0:num. num.le (suc x0) [n:num] ==> ((x0 = 0) \\/ (?x1:num. ?x2:num. x0 = num.cons x1 x2))\nassume 1\nterm [n:num] = num.dbl [m:num]\nassume 2\nterm [m:num] = 0\nassume 3\nterm [v:num]\nterm [n:num] = num.dbl [v:num]\nsubst 4 5 10 9\nterm [n:num] = [v:num]\nsubst 4 6 1 11\nterm ?x0:num. ?x1:num. [n:num] = num.cons x0 x1\ndisj_l 12 7\nterm [m:num]\nspec 8 2\nterm ?x0:num. ?x1:num. [m:num] = num.cons x0 x1\nassume 9\nmp 14 15\nsym 9\nterm ?x0:num. ?x1:num. [v:num] = num.cons x0 x1\nsubst 4 10 17 16\nterm [n:num] = 0\ndisj_r 11 18\nspec 8 8\nterm num.le (suc [m:num]) [v:num] ==> (([m:num] = 0) \\/ (?x0:num. ?x1:num. [m:num] = num.cons x0 x1))\nsubst 4 12 9 20\nterm num.le (suc [m:num]) (num.dbl [m:num])\nassume 13\nmp 21 22\nspec 8 3\ndisj_e 23 13 19\ndisj_e 24 13 25\nterm [n:num] = suc (num.dbl [m:num])\nassume 14\nspec 8 4\nsym 28\ntrans 27 29\nterm ?x0:num. [n:num] = num.cons 0 x0\nex_i 15 8 30\nterm 0\nex_i 7 16 31\nterm ([n:num] = num.dbl [m:num]) \\/ ([n:num] = suc (num.dbl [m:num]))\nassume 17\ndisj_r 11 32\ndisj_e 33 26 34\nterm [n:num]\nspec 18 5\nchoose 8 36 35\ndisch 1 37\ngen 18 38\nmp 7 39\n"

path_cases_agrees : agree (table_sequent (base 43) (facts.strong_induction ∷ facts.double_zero ∷ facts.double_is_code ∷ facts.below_double ∷ facts.cons_zero ∷ facts.even_or_odd ∷ []) nothing path_cases) (fact_sequent facts.path_cases) ≡ true
unfolding library_table
path_cases_agrees = refl

pub path_cases_proves : Proves (base 43) (facts.strong_induction ∷ facts.double_zero ∷ facts.double_is_code ∷ facts.below_double ∷ facts.cons_zero ∷ facts.even_or_odd ∷ []) path_cases facts.path_cases
path_cases_proves = proves path_cases_agrees

abbrev path_induction : Text
path_induction = codes "term [P:num -> bool] 0\nassume 0\nterm !x0:num. !x1:num. [P:num -> bool] x1 ==> [P:num -> bool] (num.cons x0 x1)\nassume 1\nterm !x0:num. num.le (suc x0) [n:num] ==> [P:num -> bool] x0\nassume 2\nterm [n:num] = 0\nassume 3\nsym 6\nterm [v:num]\nterm [P:num -> bool] [v:num]\nsubst 4 5 7 3\nterm [n:num] = num.cons [i:num] [p:num]\nassume 6\nterm [p:num]\nspec 7 5\nterm num.le (suc [p:num]) [v:num] ==> [P:num -> bool] [p:num]\nsubst 4 8 9 10\nterm [i:num]\nspec 9 0\nspec 7 12\nmp 11 13\nspec 9 4\nspec 7 15\nmp 16 14\nsym 9\nsubst 4 5 18 17\nterm ?x0:num. [n:num] = num.cons [i:num] x0\nassume 10\nchoose 7 20 19\nterm ?x0:num. ?x1:num. [n:num] = num.cons x0 x1\nassume 11\nchoose 9 22 21\nterm [n:num]\nspec 12 1\ndisj_e 24 8 23\nterm [P:num -> bool]\nspec 13 2\ndisch 2 25\ngen 12 27\nmp 26 28\ndisch 1 29\ndisch 0 30\ngen 13 31\n"

path_induction_agrees : agree (table_sequent (base 43) (facts.below_cons ∷ facts.path_cases ∷ facts.strong_induction ∷ []) nothing path_induction) (fact_sequent facts.path_induction) ≡ true
unfolding library_table
path_induction_agrees = refl

pub path_induction_proves : Proves (base 43) (facts.below_cons ∷ facts.path_cases ∷ facts.strong_induction ∷ []) path_induction facts.path_induction
path_induction_proves = proves path_induction_agrees

abbrev path_recursion : Text
path_recursion = codes "type num\ninst_type 0 b 0\nterm num.cons\nspec 0 4\nmp 5 1\nmp 6 2\nmp 7 3\n"

path_recursion_agrees : agree (table_sequent (base 43) (facts.recursion ∷ facts.cons_not_zero ∷ facts.cons_injective ∷ facts.path_induction ∷ []) nothing path_recursion) (fact_sequent facts.path_recursion) ≡ true
unfolding library_table
path_recursion_agrees = refl

pub path_recursion_proves : Proves (base 43) (facts.recursion ∷ facts.cons_not_zero ∷ facts.cons_injective ∷ facts.path_induction ∷ []) path_recursion facts.path_recursion
path_recursion_proves = proves path_recursion_agrees
