-- Written by `python3 tools/library.py write` from the scripts of tools/library/.
-- What the tables give, and which base definitions are constants.
use Rattle.std.proofs.Common.{◌≡◌, true, refl, [], ◌∷◌, codes}
use Rattle.hol_terms.specs.Base.{base}
use Rattle.hol_terms.specs.Text.{Text}
use Rattle.script_core.specs.Tables.{fact_sequent, table_sequent}
use Rattle.library_steps.specs.Closed.{nothing, Proves}
use Rattle.library_steps.specs.Building.{IsConstantAt}
use Rattle.library_steps.proofs.Computed.{library_table, agree, proves, constant_at}
use Rattle.th_num.specs.Facts as facts
use Rattle.th_base.specs.Facts as th_base

pub constant_41 : IsConstantAt 41
unfolding library_table
constant_41 = constant_at refl

abbrev double_zero : Text
double_zero = codes "type num\ninst_type 0 a 0\nterm 0\nspec 0 1\nterm \\x0:num. \\x1:num. suc (suc x1)\nspec 1 2\ndef 41\nsym 4\nterm [v:num -> num]\nterm [v:num -> num] 0 = 0\nsubst 2 3 5 3\n"

double_zero_agrees : agree (table_sequent (base 42) (facts.rec_zero ∷ []) nothing double_zero) (fact_sequent facts.double_zero) ≡ true
unfolding library_table
double_zero_agrees = refl

pub double_zero_proves : Proves (base 42) (facts.rec_zero ∷ []) double_zero facts.double_zero
double_zero_proves = proves double_zero_agrees

abbrev double_suc : Text
double_suc = codes "type num\ninst_type 0 a 0\nterm 0\nspec 0 1\nterm \\x0:num. \\x1:num. suc (suc x1)\nspec 1 2\nnorm 3\ndef 41\nsym 5\nterm [v:num -> num]\nterm !x0:num. [v:num -> num] (suc x0) = suc (suc ([v:num -> num] x0))\nsubst 2 3 6 4\n"

double_suc_agrees : agree (table_sequent (base 42) (facts.rec_suc ∷ []) nothing double_suc) (fact_sequent facts.double_suc) ≡ true
unfolding library_table
double_suc_agrees = refl

pub double_suc_proves : Proves (base 42) (facts.rec_suc ∷ []) double_suc facts.double_suc
double_suc_proves = proves double_suc_agrees

abbrev even_odd_selector : Text
even_odd_selector = codes "type (num -> 'a) -> (num -> 'a) -> 'a\ninst_type 0 a 0\nterm \\x0:num -> 'a. \\x1:num -> 'a. x0 0\nspec 0 4\nterm \\x0:num. \\x1:(num -> 'a) -> (num -> 'a) -> 'a. \\x2:num -> 'a. \\x3:num -> 'a. x1 x3 (\\x4:num. x2 (suc x4))\nspec 1 5\nnorm 6\nterm ([r:num -> (num -> 'a) -> (num -> 'a) -> 'a] 0 = (\\x0:num -> 'a. \\x1:num -> 'a. x0 0)) /\\ (!x0:num. [r:num -> (num -> 'a) -> (num -> 'a) -> 'a] (suc x0) = (\\x1:num -> 'a. \\x2:num -> 'a. [r:num -> (num -> 'a) -> (num -> 'a) -> 'a] x0 x2 (\\x3:num. x1 (suc x3))))\nassume 2\nsym 1\nconj_l 8\nterm [n:num]\nterm [r:num -> (num -> 'a) -> (num -> 'a) -> 'a] [n:num] = (\\x0:num -> 'a. \\x1:num -> 'a. x0 0)\nsubst 3 4 9 10\nterm [r:num -> (num -> 'a) -> (num -> 'a) -> 'a] (num.dbl [n:num]) = (\\x0:num -> 'a. \\x1:num -> 'a. x0 [n:num])\nassume 5\nconj_r 8\nterm num.dbl [n:num]\nspec 6 13\nterm [v:(num -> 'a) -> (num -> 'a) -> 'a]\nterm [r:num -> (num -> 'a) -> (num -> 'a) -> 'a] (suc (num.dbl [n:num])) = (\\x0:num -> 'a. \\x1:num -> 'a. [v:(num -> 'a) -> (num -> 'a) -> 'a] x1 (\\x2:num. x0 (suc x2)))\nsubst 7 8 12 14\nnorm 15\nterm suc (num.dbl [n:num])\nspec 9 13\nterm [r:num -> (num -> 'a) -> (num -> 'a) -> 'a] (suc (suc (num.dbl [n:num]))) = (\\x0:num -> 'a. \\x1:num -> 'a. [v:(num -> 'a) -> (num -> 'a) -> 'a] x1 (\\x2:num. x0 (suc x2)))\nsubst 7 10 16 17\nnorm 18\nspec 3 2\nsym 20\nterm [v:num]\nterm [r:num -> (num -> 'a) -> (num -> 'a) -> 'a] [v:num] = (\\x0:num -> 'a. \\x1:num -> 'a. x0 (suc [n:num]))\nsubst 11 12 21 19\nterm \\x0:num. [r:num -> (num -> 'a) -> (num -> 'a) -> 'a] (num.dbl x0) = (\\x1:num -> 'a. \\x2:num -> 'a. x1 x0)\nspec 13 3\nnorm 23\ndisch 5 22\ngen 3 25\nmp 24 11\nmp 27 26\nspec 3 28\nsubst 7 8 29 14\nnorm 30\nconj_i 29 31\ngen 3 32\nterm ?x0:num -> (num -> 'a) -> (num -> 'a) -> 'a. !x1:num. (x0 (num.dbl x1) = (\\x2:num -> 'a. \\x3:num -> 'a. x2 x1)) /\\ (x0 (suc (num.dbl x1)) = (\\x2:num -> 'a. \\x3:num -> 'a. x3 x1))\nterm [r:num -> (num -> 'a) -> (num -> 'a) -> 'a]\nex_i 14 15 33\nchoose 15 7 34\n"

even_odd_selector_agrees : agree (table_sequent (base 42) (facts.num_recursion ∷ facts.double_zero ∷ facts.double_suc ∷ facts.num_induction ∷ []) nothing even_odd_selector) (fact_sequent facts.even_odd_selector) ≡ true
unfolding library_table
even_odd_selector_agrees = refl

pub even_odd_selector_proves : Proves (base 42) (facts.num_recursion ∷ facts.double_zero ∷ facts.double_suc ∷ facts.num_induction ∷ []) even_odd_selector facts.even_odd_selector
even_odd_selector_proves = proves even_odd_selector_agrees

abbrev double_not_odd : Text
double_not_odd = codes "term !x0:num. ([r:num -> (num -> bool) -> (num -> bool) -> bool] (num.dbl x0) = (\\x1:num -> bool. \\x2:num -> bool. x1 x0)) /\\ ([r:num -> (num -> bool) -> (num -> bool) -> bool] (suc (num.dbl x0)) = (\\x1:num -> bool. \\x2:num -> bool. x2 x0))\nassume 0\nterm num.dbl [m:num] = suc (num.dbl [n:num])\nassume 1\nterm [m:num]\nspec 2 2\nconj_l 4\nterm [v:num]\nterm [r:num -> (num -> bool) -> (num -> bool) -> bool] [v:num] = (\\x0:num -> bool. \\x1:num -> bool. x0 [m:num])\nsubst 3 4 3 5\nterm [n:num]\nspec 5 2\nconj_r 7\nterm [v:(num -> bool) -> (num -> bool) -> bool]\nterm [v:(num -> bool) -> (num -> bool) -> bool] = (\\x0:num -> bool. \\x1:num -> bool. x1 [n:num])\nsubst 6 7 6 8\nterm \\x0:num. T\nrefl 8\ncomb 9 10\nterm \\x0:num. F\nrefl 9\ncomb 11 12\nnorm 13\neq_mp 14 0\ntype bool\ninst_type 1 a 0\nterm [r:num -> (num -> bool) -> (num -> bool) -> bool]\nchoose 10 16 15\ndisch 1 17\nnot_i 18\ngen 5 19\ngen 2 20\n"

double_not_odd_agrees : agree (table_sequent (base 42) (th_base.truth ∷ facts.even_odd_selector ∷ []) nothing double_not_odd) (fact_sequent facts.double_not_odd) ≡ true
unfolding library_table
double_not_odd_agrees = refl

pub double_not_odd_proves : Proves (base 42) (th_base.truth ∷ facts.even_odd_selector ∷ []) double_not_odd facts.double_not_odd
double_not_odd_proves = proves double_not_odd_agrees

abbrev double_injective : Text
double_injective = codes "term !x0:num. ([r:num -> (num -> num) -> (num -> num) -> num] (num.dbl x0) = (\\x1:num -> num. \\x2:num -> num. x1 x0)) /\\ ([r:num -> (num -> num) -> (num -> num) -> num] (suc (num.dbl x0)) = (\\x1:num -> num. \\x2:num -> num. x2 x0))\nassume 0\nterm num.dbl [m:num] = num.dbl [n:num]\nassume 1\nterm [m:num]\nspec 2 1\nconj_l 3\nterm [v:num]\nterm [r:num -> (num -> num) -> (num -> num) -> num] [v:num] = (\\x0:num -> num. \\x1:num -> num. x0 [m:num])\nsubst 3 4 2 4\nterm [n:num]\nspec 5 1\nconj_l 6\nterm [v:(num -> num) -> (num -> num) -> num]\nterm [v:(num -> num) -> (num -> num) -> num] = (\\x0:num -> num. \\x1:num -> num. x0 [n:num])\nsubst 6 7 5 7\nterm \\x0:num. x0\nrefl 8\ncomb 8 9\ncomb 10 9\nnorm 11\ntype num\ninst_type 0 a 0\nterm [r:num -> (num -> num) -> (num -> num) -> num]\nchoose 9 13 12\ndisch 1 14\ngen 5 15\ngen 2 16\n"

double_injective_agrees : agree (table_sequent (base 42) (facts.even_odd_selector ∷ []) nothing double_injective) (fact_sequent facts.double_injective) ≡ true
unfolding library_table
double_injective_agrees = refl

pub double_injective_proves : Proves (base 42) (facts.even_odd_selector ∷ []) double_injective facts.double_injective
double_injective_proves = proves double_injective_agrees

abbrev double_is_zero : Text
double_is_zero = codes "term num.dbl [n:num] = 0\nassume 0\nterm [n:num]\nspec 1 0\nterm 0\nspec 2 3\nsym 1\ntrans 2 5\nmp 4 6\ndisch 0 7\ngen 1 8\n"

double_is_zero_agrees : agree (table_sequent (base 42) (facts.double_injective ∷ facts.double_zero ∷ []) nothing double_is_zero) (fact_sequent facts.double_is_zero) ≡ true
unfolding library_table
double_is_zero_agrees = refl

pub double_is_zero_proves : Proves (base 42) (facts.double_injective ∷ facts.double_zero ∷ []) double_is_zero facts.double_is_zero
double_is_zero_proves = proves double_is_zero_agrees

abbrev le_double : Text
le_double = codes "term num.dbl 0\nspec 0 1\nterm [n:num]\nterm num.le [n:num] (num.dbl 0)\nsubst 1 2 0 6\nspec 1 2\nterm num.dbl [n:num]\nspec 3 8\nterm num.le [n:num] (num.dbl [n:num])\nassume 4\nmp 9 10\nterm suc [n:num]\nspec 5 3\nterm suc (num.dbl [n:num])\nspec 6 12\nmp 13 11\nspec 1 4\nsym 15\nterm [v:num]\nterm num.le (suc [n:num]) [v:num]\nsubst 7 8 16 14\nterm \\x0:num. num.le x0 (num.dbl x0)\nspec 9 5\nnorm 18\ndisch 4 17\ngen 1 20\nmp 19 7\nmp 22 21\n"

le_double_agrees : agree (table_sequent (base 42) (facts.double_zero ∷ facts.le_reflexive ∷ facts.le_suc_suc ∷ facts.le_suc ∷ facts.double_suc ∷ facts.num_induction ∷ []) nothing le_double) (fact_sequent facts.le_double) ≡ true
unfolding library_table
le_double_agrees = refl

pub le_double_proves : Proves (base 42) (facts.double_zero ∷ facts.le_reflexive ∷ facts.le_suc_suc ∷ facts.le_suc ∷ facts.double_suc ∷ facts.num_induction ∷ []) le_double facts.le_double
le_double_proves = proves le_double_agrees

abbrev below_double : Text
below_double = codes "term 0\nrefl 0\nterm num.le (suc 0) (num.dbl 0)\ndisj_l 4 1\nterm [n:num]\nspec 2 0\nterm num.dbl [n:num]\nspec 3 6\nspec 2 1\nmp 7 8\nterm suc [n:num]\nspec 4 0\nterm suc (num.dbl [n:num])\nspec 5 10\nmp 11 9\nspec 2 2\nsym 13\nterm [v:num]\nterm num.le (suc (suc [n:num])) [v:num]\nsubst 6 7 14 12\nterm suc [n:num] = 0\ndisj_r 8 15\nterm \\x0:num. (x0 = 0) \\/ num.le (suc x0) (num.dbl x0)\nspec 9 3\nnorm 17\nterm ([n:num] = 0) \\/ num.le (suc [n:num]) (num.dbl [n:num])\ndisch 10 16\ngen 2 19\nmp 18 5\nmp 21 20\n"

below_double_agrees : agree (table_sequent (base 42) (facts.le_suc_suc ∷ facts.le_double ∷ facts.double_suc ∷ facts.num_induction ∷ []) nothing below_double) (fact_sequent facts.below_double) ≡ true
unfolding library_table
below_double_agrees = refl

pub below_double_proves : Proves (base 42) (facts.le_suc_suc ∷ facts.le_double ∷ facts.double_suc ∷ facts.num_induction ∷ []) below_double facts.below_double
below_double_proves = proves below_double_agrees

abbrev even_or_odd : Text
even_or_odd = codes "sym 0\nterm 0 = suc (num.dbl 0)\ndisj_l 3 0\nterm ?x0:num. (0 = num.dbl x0) \\/ (0 = suc (num.dbl x0))\nterm 0\nex_i 1 2 4\nterm [n:num] = num.dbl [m:num]\nassume 3\nterm suc\nrefl 4\ncomb 7 6\nterm suc [n:num] = num.dbl [m:num]\ndisj_r 5 8\nterm ?x0:num. (suc [n:num] = num.dbl x0) \\/ (suc [n:num] = suc (num.dbl x0))\nterm [m:num]\nex_i 6 7 9\nterm [n:num] = suc (num.dbl [m:num])\nassume 8\ncomb 7 11\nspec 7 1\nsym 13\ntrans 12 14\nterm suc [n:num] = suc (num.dbl (suc [m:num]))\ndisj_l 15 9\nterm suc [m:num]\nex_i 6 10 16\nterm ([n:num] = num.dbl [m:num]) \\/ ([n:num] = suc (num.dbl [m:num]))\nassume 11\ndisj_e 18 10 17\nterm ?x0:num. ([n:num] = num.dbl x0) \\/ ([n:num] = suc (num.dbl x0))\nassume 12\nchoose 7 20 19\nterm \\x0:num. ?x1:num. (x0 = num.dbl x1) \\/ (x0 = suc (num.dbl x1))\nspec 13 2\nnorm 22\ndisch 12 21\nterm [n:num]\ngen 14 24\nmp 23 5\nmp 26 25\n"

even_or_odd_agrees : agree (table_sequent (base 42) (facts.double_zero ∷ facts.double_suc ∷ facts.num_induction ∷ []) nothing even_or_odd) (fact_sequent facts.even_or_odd) ≡ true
unfolding library_table
even_or_odd_agrees = refl

pub even_or_odd_proves : Proves (base 42) (facts.double_zero ∷ facts.double_suc ∷ facts.num_induction ∷ []) even_or_odd facts.even_or_odd
even_or_odd_proves = proves even_or_odd_agrees
