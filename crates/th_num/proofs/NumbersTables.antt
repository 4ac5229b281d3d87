-- Written by `python3 tools/library.py write` from the scripts of tools/library/.
-- What the tables give, and which base definitions are constants.
use Rattle.std.proofs.Common.{◌≡◌, true, refl, [], ◌∷◌, codes}
use Rattle.hol_terms.specs.Base.{base}
use Rattle.hol_terms.specs.Text.{Text}
use Rattle.script_core.specs.Tables.{fact_sequent, table_sequent}
use Rattle.library_steps.specs.Closed.{nothing, Proves}
use Rattle.library_steps.specs.Building.{IsConstantAt, IsTypeAt}
use Rattle.library_steps.proofs.Computed.{library_table, agree, proves, constant_at, new_type_at}
use Rattle.th_num.specs.Facts as facts
use Rattle.th_base.specs.Facts as th_base

pub constant_33 : IsConstantAt 33
unfolding library_table
constant_33 = constant_at refl

abbrev ind_infinite : Text
ind_infinite = codes "type ind -> ind\ninst_type 0 a 0\nterm \\x0:ind -> ind. one_one{ind,ind} x0 /\\ (~ onto{ind,ind} x0)\nspec 0 1\nnorm 2\naxiom 3\nmp 3 4\ndef 33\nsym 6\nterm [v:ind -> ind]\nterm one_one{ind,ind} [v:ind -> ind] /\\ (~ onto{ind,ind} [v:ind -> ind])\nsubst 1 2 7 5\n"

ind_infinite_agrees : agree (table_sequent (base 34) (th_base.some_holds ∷ []) nothing ind_infinite) (fact_sequent facts.ind_infinite) ≡ true
unfolding library_table
ind_infinite_agrees = refl

pub ind_infinite_proves : Proves (base 34) (th_base.some_holds ∷ []) ind_infinite facts.ind_infinite
ind_infinite_proves = proves ind_infinite_agrees

pub constant_34 : IsConstantAt 34
unfolding library_table
constant_34 = constant_at refl

abbrev zero_ind_not_suc : Text
zero_ind_not_suc = codes "conj_r 0\ndef 9\ntype ind\ninst_type 4 a 0 b 0\nterm [v:(ind -> ind) -> bool]\nterm ~ [v:(ind -> ind) -> bool] num.suc_ind\nsubst 0 1 5 3\nnorm 6\ninst_type 1 a 0\nterm \\x0:ind. ?x1:ind. x0 = num.suc_ind x1\nspec 2 8\nnorm 9\neq_mp 10 7\nterm num.suc_ind [x:ind] = [y:ind]\nassume 3\nsym 12\nterm ?x0:ind. [y:ind] = num.suc_ind x0\nterm [x:ind]\nex_i 4 5 13\nterm ~ (?x0:ind. [y:ind] = num.suc_ind x0)\nassume 6\nnot_e 15\nmp 16 14\ndisch 3 17\nnot_i 18\ngen 5 19\nterm ?x0:ind. !x1:ind. ~ (num.suc_ind x1 = x0)\nterm [y:ind]\nex_i 7 8 20\ninst_type 2 a 0\nterm \\x0:ind. !x1:ind. ~ (num.suc_ind x1 = x0)\nspec 9 22\nnorm 23\nchoose 8 11 21\nmp 24 25\ndef 34\nsym 27\nterm [v:ind]\nterm !x0:ind. ~ (num.suc_ind x0 = [v:ind])\nsubst 10 11 28 26\n"

zero_ind_not_suc_agrees : agree (table_sequent (base 35) (facts.ind_infinite ∷ th_base.not_all ∷ th_base.some_holds ∷ []) nothing zero_ind_not_suc) (fact_sequent facts.zero_ind_not_suc) ≡ true
unfolding library_table
zero_ind_not_suc_agrees = refl

pub zero_ind_not_suc_proves : Proves (base 35) (facts.ind_infinite ∷ th_base.not_all ∷ th_base.some_holds ∷ []) zero_ind_not_suc facts.zero_ind_not_suc
zero_ind_not_suc_proves = proves zero_ind_not_suc_agrees

pub constant_35 : IsConstantAt 35
unfolding library_table
constant_35 = constant_at refl

abbrev zero_ind_is_num : Text
zero_ind_is_num = codes "term [P:ind -> bool] num.zero_ind /\\ (!x0:ind. [P:ind -> bool] x0 ==> [P:ind -> bool] (num.suc_ind x0))\nassume 0\ndef 35\nterm num.is num.zero_ind\nrewrite_all 1 1\nnorm 2\nconj_l 0\ndisch 0 4\nterm [P:ind -> bool]\ngen 2 5\nsym 3\neq_mp 7 6\n"

zero_ind_is_num_agrees : agree (table_sequent (base 36) [] nothing zero_ind_is_num) (fact_sequent facts.zero_ind_is_num) ≡ true
unfolding library_table
zero_ind_is_num_agrees = refl

pub zero_ind_is_num_proves : Proves (base 36) [] zero_ind_is_num facts.zero_ind_is_num
zero_ind_is_num_proves = proves zero_ind_is_num_agrees

abbrev suc_ind_is_num : Text
suc_ind_is_num = codes "term num.is [i:ind]\nassume 0\nterm [P:ind -> bool] num.zero_ind /\\ (!x0:ind. [P:ind -> bool] x0 ==> [P:ind -> bool] (num.suc_ind x0))\nassume 1\ndef 35\nrewrite_all 0 2\nnorm 3\neq_mp 4 0\nterm [P:ind -> bool]\nspec 2 5\nmp 6 1\nconj_r 1\nterm [i:ind]\nspec 3 8\nmp 9 7\ndisch 1 10\ngen 2 11\nterm num.suc_ind [i:ind]\ninst 4 3 4\nsym 13\neq_mp 14 12\ndisch 0 15\ngen 3 16\n"

suc_ind_is_num_agrees : agree (table_sequent (base 36) [] nothing suc_ind_is_num) (fact_sequent facts.suc_ind_is_num) ≡ true
unfolding library_table
suc_ind_is_num_agrees = refl

pub suc_ind_is_num_proves : Proves (base 36) [] suc_ind_is_num facts.suc_ind_is_num
suc_ind_is_num_proves = proves suc_ind_is_num_agrees

abbrev num_inhabited : Text
num_inhabited = codes "term [P:ind -> bool] num.zero_ind /\\ (!x0:ind. [P:ind -> bool] x0 ==> [P:ind -> bool] (num.suc_ind x0))\nassume 0\ndef 35\nterm num.is num.zero_ind\nrewrite_all 1 1\nnorm 2\nconj_l 0\ndisch 0 4\nterm [P:ind -> bool]\ngen 2 5\nsym 3\neq_mp 7 6\n"

pub num_inhabited_shows : IsTypeAt 36 num_inhabited
unfolding library_table
num_inhabited_shows = new_type_at refl

abbrev num_abs_rep : Text
num_abs_rep = codes "type_abs 36\nterm [a:num]\ngen 0 0\n"

num_abs_rep_agrees : agree (table_sequent (base 37) [] nothing num_abs_rep) (fact_sequent facts.num_abs_rep) ≡ true
unfolding library_table
num_abs_rep_agrees = refl

pub num_abs_rep_proves : Proves (base 37) [] num_abs_rep facts.num_abs_rep
num_abs_rep_proves = proves num_abs_rep_agrees

abbrev num_rep_abs : Text
num_rep_abs = codes "type_rep 36\nterm [r:ind]\ngen 0 0\n"

num_rep_abs_agrees : agree (table_sequent (base 37) [] nothing num_rep_abs) (fact_sequent facts.num_rep_abs) ≡ true
unfolding library_table
num_rep_abs_agrees = refl

pub num_rep_abs_proves : Proves (base 37) [] num_rep_abs facts.num_rep_abs
num_rep_abs_proves = proves num_rep_abs_agrees

abbrev rep_is_num : Text
rep_is_num = codes "term [n:num]\nspec 0 0\nterm num.rep\nrefl 1\ncomb 3 2\nterm num.rep [n:num]\nspec 2 1\nsym 5\neq_mp 6 4\ngen 0 7\n"

rep_is_num_agrees : agree (table_sequent (base 37) (facts.num_abs_rep ∷ facts.num_rep_abs ∷ []) nothing rep_is_num) (fact_sequent facts.rep_is_num) ≡ true
unfolding library_table
rep_is_num_agrees = refl

pub rep_is_num_proves : Proves (base 37) (facts.num_abs_rep ∷ facts.num_rep_abs ∷ []) rep_is_num facts.rep_is_num
rep_is_num_proves = proves rep_is_num_agrees

pub constant_37 : IsConstantAt 37
unfolding library_table
constant_37 = constant_at refl

abbrev rep_zero : Text
rep_zero = codes "term num.zero_ind\nspec 0 0\neq_mp 2 1\ndef 37\nterm num.rep\nrefl 1\ncomb 5 4\ntrans 6 3\n"

rep_zero_agrees : agree (table_sequent (base 38) (facts.num_rep_abs ∷ facts.zero_ind_is_num ∷ []) nothing rep_zero) (fact_sequent facts.rep_zero) ≡ true
unfolding library_table
rep_zero_agrees = refl

pub rep_zero_proves : Proves (base 38) (facts.num_rep_abs ∷ facts.zero_ind_is_num ∷ []) rep_zero facts.rep_zero
rep_zero_proves = proves rep_zero_agrees

pub constant_38 : IsConstantAt 38
unfolding library_table
constant_38 = constant_at refl

abbrev rep_suc : Text
rep_suc = codes "term num.rep [n:num]\nspec 0 0\nterm [n:num]\nspec 1 1\nmp 3 4\nterm num.suc_ind (num.rep [n:num])\nspec 2 2\neq_mp 6 5\ndef 38\nterm suc [n:num]\nrewrite_all 3 8\nnorm 9\nterm num.rep\nrefl 4\ncomb 11 10\ntrans 12 7\ngen 1 13\n"

rep_suc_agrees : agree (table_sequent (base 39) (facts.suc_ind_is_num ∷ facts.rep_is_num ∷ facts.num_rep_abs ∷ []) nothing rep_suc) (fact_sequent facts.rep_suc) ≡ true
unfolding library_table
rep_suc_agrees = refl

pub rep_suc_proves : Proves (base 39) (facts.suc_ind_is_num ∷ facts.rep_is_num ∷ facts.num_rep_abs ∷ []) rep_suc facts.rep_suc
rep_suc_proves = proves rep_suc_agrees

abbrev suc_not_zero : Text
suc_not_zero = codes "term suc [n:num] = 0\nassume 0\nterm [n:num]\nspec 1 0\nsym 4\nterm num.rep\nrefl 2\ncomb 6 3\ntrans 5 7\ntrans 8 1\nterm num.rep [n:num]\nspec 3 2\nnot_e 10\nmp 11 9\ndisch 0 12\nnot_i 13\ngen 1 14\n"

suc_not_zero_agrees : agree (table_sequent (base 39) (facts.rep_suc ∷ facts.rep_zero ∷ facts.zero_ind_not_suc ∷ []) nothing suc_not_zero) (fact_sequent facts.suc_not_zero) ≡ true
unfolding library_table
suc_not_zero_agrees = refl

pub suc_not_zero_proves : Proves (base 39) (facts.rep_suc ∷ facts.rep_zero ∷ facts.zero_ind_not_suc ∷ []) suc_not_zero facts.suc_not_zero
suc_not_zero_proves = proves suc_not_zero_agrees

abbrev suc_injective : Text
suc_injective = codes "term suc [m:num] = suc [n:num]\nassume 0\nterm [m:num]\nspec 1 0\nsym 4\nterm num.rep\nrefl 2\ncomb 6 3\nterm [n:num]\nspec 3 0\ntrans 5 7\ntrans 9 8\nconj_l 1\ndef 8\ntype ind\ninst_type 12 a 0 b 0\nterm [v:(ind -> ind) -> bool]\nterm [v:(ind -> ind) -> bool] num.suc_ind\nsubst 4 5 13 11\nnorm 14\nterm num.rep [m:num]\nspec 6 15\nterm num.rep [n:num]\nspec 7 16\nmp 17 10\nspec 1 2\nsym 19\nterm num.abs\nrefl 8\ncomb 21 18\nspec 3 2\ntrans 20 22\ntrans 24 23\ndisch 0 25\ngen 3 26\ngen 1 27\n"

suc_injective_agrees : agree (table_sequent (base 39) (facts.rep_suc ∷ facts.ind_infinite ∷ facts.num_abs_rep ∷ []) nothing suc_injective) (fact_sequent facts.suc_injective) ≡ true
unfolding library_table
suc_injective_agrees = refl

pub suc_injective_proves : Proves (base 39) (facts.rep_suc ∷ facts.ind_infinite ∷ facts.num_abs_rep ∷ []) suc_injective facts.suc_injective
suc_injective_proves = proves suc_injective_agrees

abbrev num_induction : Text
num_induction = codes "term [P:num -> bool] 0\nassume 0\nterm !x0:num. [P:num -> bool] x0 ==> [P:num -> bool] (suc x0)\nassume 1\ndef 35\nterm num.is (num.rep [n:num])\nrewrite_all 2 7\nnorm 8\nterm [n:num]\nspec 3 0\neq_mp 9 10\nterm \\x0:ind. num.is x0 /\\ [P:num -> bool] (num.abs x0)\nspec 4 11\nnorm 12\ndef 37\nterm [v:num]\nterm [P:num -> bool] [v:num]\nsubst 5 6 14 5\nconj_i 1 15\nterm num.is [i:ind] /\\ [P:num -> bool] (num.abs [i:ind])\nassume 7\nterm [i:ind]\nspec 8 2\nconj_l 17\neq_mp 18 19\nterm num.abs [i:ind]\nspec 9 6\nconj_r 17\nmp 21 22\ndef 38\nterm [v:num -> num]\nterm [P:num -> bool] ([v:num -> num] (num.abs [i:ind]))\nsubst 10 11 24 23\nnorm 25\nspec 8 3\nmp 27 19\nterm [v:ind]\nterm [P:num -> bool] (num.abs (num.suc_ind [v:ind]))\nsubst 12 13 20 26\nconj_i 28 29\ndisch 7 30\ngen 8 31\nconj_i 16 32\nmp 13 33\nconj_r 34\nspec 3 4\nsubst 5 6 36 35\ngen 3 37\ndisch 1 38\ndisch 0 39\nterm [P:num -> bool]\ngen 14 40\n"

num_induction_agrees : agree (table_sequent (base 39) (facts.rep_is_num ∷ facts.zero_ind_is_num ∷ facts.num_rep_abs ∷ facts.suc_ind_is_num ∷ facts.num_abs_rep ∷ []) nothing num_induction) (fact_sequent facts.num_induction) ≡ true
unfolding library_table
num_induction_agrees = refl

pub num_induction_proves : Proves (base 39) (facts.rep_is_num ∷ facts.zero_ind_is_num ∷ facts.num_rep_abs ∷ facts.suc_ind_is_num ∷ facts.num_abs_rep ∷ []) num_induction facts.num_induction
num_induction_proves = proves num_induction_agrees

abbrev num_cases : Text
num_cases = codes "term \\x0:num. (x0 = 0) \\/ (?x1:num. x0 = suc x1)\nspec 0 0\nnorm 1\nterm 0\nrefl 1\nterm ?x0:num. 0 = suc x0\ndisj_l 3 2\nterm suc [n:num]\nrefl 3\nterm ?x0:num. suc [n:num] = suc x0\nterm [n:num]\nex_i 4 5 5\nterm suc [n:num] = 0\ndisj_r 6 6\nterm ([n:num] = 0) \\/ (?x0:num. [n:num] = suc x0)\ndisch 7 7\ngen 5 8\nmp 2 4\nmp 10 9\n"

num_cases_agrees : agree (table_sequent (base 39) (facts.num_induction ∷ []) nothing num_cases) (fact_sequent facts.num_cases) ≡ true
unfolding library_table
num_cases_agrees = refl

pub num_cases_proves : Proves (base 39) (facts.num_induction ∷ []) num_cases facts.num_cases
num_cases_proves = proves num_cases_agrees
