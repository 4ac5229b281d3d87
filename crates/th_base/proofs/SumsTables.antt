-- Written by `python3 tools/library.py write` from the scripts of tools/library/.
-- What the tables give, and which base definitions are constants.
use Rattle.std.proofs.Common.{◌≡◌, true, refl, [], ◌∷◌, codes}
use Rattle.hol_terms.specs.Base.{base}
use Rattle.hol_terms.specs.Text.{Text}
use Rattle.script_core.specs.Tables.{fact_sequent, table_sequent}
use Rattle.library_steps.specs.Closed.{nothing, Proves}
use Rattle.library_steps.specs.Building.{IsConstantAt, IsTypeAt}
use Rattle.library_steps.proofs.Computed.{library_table, agree, proves, constant_at, new_type_at}
use Rattle.th_base.specs.Facts as facts

pub constant_23 : IsConstantAt 23
unfolding library_table
constant_23 = constant_at refl

pub constant_24 : IsConstantAt 24
unfolding library_table
constant_24 = constant_at refl

abbrev sum_inhabited : Text
sum_inhabited = codes "term sum.left{'a,'b} [x:'a]\nrefl 0\nterm ?x0:'a. sum.left{'a,'b} [x:'a] = sum.left{'a,'b} x0\nterm [x:'a]\nex_i 1 2 0\nterm ?x0:'b. sum.left{'a,'b} [x:'a] = sum.right{'b,'a} x0\ndisj_l 1 3\nterm (\\x0:bool -> 'a -> 'b -> bool. (?x1:'a. x0 = sum.left{'a,'b} x1) \\/ (?x1:'b. x0 = sum.right{'b,'a} x1)) (sum.left{'a,'b} [x:'a])\nbeta_norm 4\nsym 3\neq_mp 4 2\n"

pub sum_inhabited_shows : IsTypeAt 25 sum_inhabited
unfolding library_table
sum_inhabited_shows = new_type_at refl

abbrev sum_abs_rep : Text
sum_abs_rep = codes "type_abs 25\nterm [a:('a,'b) sum]\ngen 0 0\n"

sum_abs_rep_agrees : agree (table_sequent (base 26) [] nothing sum_abs_rep) (fact_sequent facts.sum_abs_rep) ≡ true
unfolding library_table
sum_abs_rep_agrees = refl

pub sum_abs_rep_proves : Proves (base 26) [] sum_abs_rep facts.sum_abs_rep
sum_abs_rep_proves = proves sum_abs_rep_agrees

abbrev sum_rep_abs : Text
sum_rep_abs = codes "type_rep 25\nterm [r:bool -> 'a -> 'b -> bool]\ngen 0 0\nnorm 1\n"

sum_rep_abs_agrees : agree (table_sequent (base 26) [] nothing sum_rep_abs) (fact_sequent facts.sum_rep_abs) ≡ true
unfolding library_table
sum_rep_abs_agrees = refl

pub sum_rep_abs_proves : Proves (base 26) [] sum_rep_abs facts.sum_rep_abs
sum_rep_abs_proves = proves sum_rep_abs_agrees

pub constant_26 : IsConstantAt 26
unfolding library_table
constant_26 = constant_at refl

pub constant_27 : IsConstantAt 27
unfolding library_table
constant_27 = constant_at refl

abbrev inl_rep : Text
inl_rep = codes "term sum.left{'a,'b} [x:'a]\nrefl 0\nterm ?x0:'a. sum.left{'a,'b} [x:'a] = sum.left{'a,'b} x0\nterm [x:'a]\nex_i 1 2 1\nterm ?x0:'b. sum.left{'a,'b} [x:'a] = sum.right{'b,'a} x0\ndisj_l 2 3\nspec 0 0\neq_mp 4 3\ndef 26\nterm inl{'a,'b} [x:'a]\nrewrite_all 4 6\nnorm 7\nterm sum.rep{'a,'b}\nrefl 5\ncomb 9 8\ntrans 10 5\ngen 2 11\n"

inl_rep_agrees : agree (table_sequent (base 28) (facts.sum_rep_abs ∷ []) nothing inl_rep) (fact_sequent facts.inl_rep) ≡ true
unfolding library_table
inl_rep_agrees = refl

pub inl_rep_proves : Proves (base 28) (facts.sum_rep_abs ∷ []) inl_rep facts.inl_rep
inl_rep_proves = proves inl_rep_agrees

abbrev inr_rep : Text
inr_rep = codes "term sum.right{'b,'a} [x:'b]\nrefl 0\nterm ?x0:'b. sum.right{'b,'a} [x:'b] = sum.right{'b,'a} x0\nterm [x:'b]\nex_i 1 2 1\nterm ?x0:'a. sum.right{'b,'a} [x:'b] = sum.left{'a,'b} x0\ndisj_r 3 2\nspec 0 0\neq_mp 4 3\ndef 27\nterm inr{'b,'a} [x:'b]\nrewrite_all 4 6\nnorm 7\nterm sum.rep{'a,'b}\nrefl 5\ncomb 9 8\ntrans 10 5\ngen 2 11\n"

inr_rep_agrees : agree (table_sequent (base 28) (facts.sum_rep_abs ∷ []) nothing inr_rep) (fact_sequent facts.inr_rep) ≡ true
unfolding library_table
inr_rep_agrees = refl

pub inr_rep_proves : Proves (base 28) (facts.sum_rep_abs ∷ []) inr_rep facts.inr_rep
inr_rep_proves = proves inr_rep_agrees

abbrev inl_injective : Text
inl_injective = codes "term inl{'a,'b} [x:'a] = inl{'a,'b} [y:'a]\nassume 0\nterm [x:'a]\nspec 1 0\nterm [v:('a,'b) sum]\nterm sum.rep{'a,'b} [v:('a,'b) sum] = sum.left{'a,'b} [x:'a]\nsubst 2 3 2 3\nsym 4\nterm [y:'a]\nspec 4 0\ntrans 5 6\nterm T\nrefl 5\ncomb 7 8\nrefl 1\ncomb 9 10\nterm [b:'b]\nrefl 6\ncomb 11 12\ndef 23\nterm [v:'a -> bool -> 'a -> 'b -> bool]\nterm [v:'a -> bool -> 'a -> 'b -> bool] [x:'a] T [x:'a] [b:'b] = [v:'a -> bool -> 'a -> 'b -> bool] [y:'a] T [x:'a] [b:'b]\nsubst 7 8 14 13\nnorm 15\nconj_i 1 10\neq_mp 16 17\nconj_r 18\ndisch 0 19\ngen 4 20\ngen 1 21\n"

inl_injective_agrees : agree (table_sequent (base 28) (facts.inl_rep ∷ facts.truth ∷ []) nothing inl_injective) (fact_sequent facts.inl_injective) ≡ true
unfolding library_table
inl_injective_agrees = refl

pub inl_injective_proves : Proves (base 28) (facts.inl_rep ∷ facts.truth ∷ []) inl_injective facts.inl_injective
inl_injective_proves = proves inl_injective_agrees

abbrev inr_injective : Text
inr_injective = codes "term inr{'b,'a} [x:'b] = inr{'b,'a} [y:'b]\nassume 0\nterm [x:'b]\nspec 1 0\nterm [v:('a,'b) sum]\nterm sum.rep{'a,'b} [v:('a,'b) sum] = sum.right{'b,'a} [x:'b]\nsubst 2 3 1 2\nsym 3\nterm [y:'b]\nspec 4 0\ntrans 4 5\nterm F\nrefl 5\ncomb 6 7\nterm [a:'a]\nrefl 6\ncomb 8 9\nrefl 1\ncomb 10 11\ndef 24\nterm [v:'b -> bool -> 'a -> 'b -> bool]\nterm [v:'b -> bool -> 'a -> 'b -> bool] [x:'b] F [a:'a] [x:'b] = [v:'b -> bool -> 'a -> 'b -> bool] [y:'b] F [a:'a] [x:'b]\nsubst 7 8 13 12\nnorm 14\nassume 5\ndisch 5 16\nnot_i 17\nconj_i 18 11\neq_mp 15 19\nconj_r 20\ndisch 0 21\ngen 4 22\ngen 1 23\n"

inr_injective_agrees : agree (table_sequent (base 28) (facts.inr_rep ∷ []) nothing inr_injective) (fact_sequent facts.inr_injective) ≡ true
unfolding library_table
inr_injective_agrees = refl

pub inr_injective_proves : Proves (base 28) (facts.inr_rep ∷ []) inr_injective facts.inr_injective
inr_injective_proves = proves inr_injective_agrees

abbrev inl_not_inr : Text
inl_not_inr = codes "term inl{'a,'b} [x:'a] = inr{'b,'a} [y:'b]\nassume 0\nterm [x:'a]\nspec 1 0\nterm [v:('a,'b) sum]\nterm sum.rep{'a,'b} [v:('a,'b) sum] = sum.left{'a,'b} [x:'a]\nsubst 2 3 3 4\nsym 5\nterm [y:'b]\nspec 4 1\ntrans 6 7\nterm T\nrefl 5\ncomb 8 9\nrefl 1\ncomb 10 11\nrefl 4\ncomb 12 13\ndef 23\nterm [v:'a -> bool -> 'a -> 'b -> bool]\nterm [v:'a -> bool -> 'a -> 'b -> bool] [x:'a] T [x:'a] [y:'b] = sum.right{'b,'a} [y:'b] T [x:'a] [y:'b]\nsubst 6 7 15 14\ndef 24\nterm [v:'b -> bool -> 'a -> 'b -> bool]\nterm (\\x0:'a. \\x1:bool. \\x2:'a. \\x3:'b. x1 /\\ (x2 = x0)) [x:'a] T [x:'a] [y:'b] = [v:'b -> bool -> 'a -> 'b -> bool] [y:'b] T [x:'a] [y:'b]\nsubst 8 9 17 16\nnorm 18\nconj_i 2 11\neq_mp 19 20\nconj_l 21\nnot_e 22\nmp 23 2\ndisch 0 24\nnot_i 25\ngen 4 26\ngen 1 27\n"

inl_not_inr_agrees : agree (table_sequent (base 28) (facts.inl_rep ∷ facts.inr_rep ∷ facts.truth ∷ []) nothing inl_not_inr) (fact_sequent facts.inl_not_inr) ≡ true
unfolding library_table
inl_not_inr_agrees = refl

pub inl_not_inr_proves : Proves (base 28) (facts.inl_rep ∷ facts.inr_rep ∷ facts.truth ∷ []) inl_not_inr facts.inl_not_inr
inl_not_inr_proves = proves inl_not_inr_agrees

abbrev inr_not_inl : Text
inr_not_inl = codes "term inr{'b,'a} [y:'b] = inl{'a,'b} [x:'a]\nassume 0\nterm [x:'a]\nspec 1 0\nterm [y:'b]\nspec 2 2\nsym 1\nnot_e 3\nmp 5 4\ndisch 0 6\nnot_i 7\ngen 2 8\ngen 1 9\n"

inr_not_inl_agrees : agree (table_sequent (base 28) (facts.inl_not_inr ∷ []) nothing inr_not_inl) (fact_sequent facts.inr_not_inl) ≡ true
unfolding library_table
inr_not_inl_agrees = refl

pub inr_not_inl_proves : Proves (base 28) (facts.inl_not_inr ∷ []) inr_not_inl facts.inr_not_inl
inr_not_inl_proves = proves inr_not_inl_agrees

abbrev inl_or_inr : Text
inl_or_inr = codes "term [s:('a,'b) sum]\nspec 0 0\nterm sum.rep{'a,'b} [s:('a,'b) sum]\nspec 1 1\nterm sum.rep{'a,'b}\nrefl 2\ncomb 4 2\nsym 3\neq_mp 6 5\nterm sum.rep{'a,'b} [s:('a,'b) sum] = sum.left{'a,'b} [x:'a]\nassume 3\nterm sum.abs{'a,'b}\nrefl 4\ncomb 9 8\nsym 2\ndef 26\nterm inl{'a,'b} [x:'a]\nrewrite_all 5 12\nnorm 13\nsym 14\ntrans 11 10\ntrans 16 15\nterm ?x0:'a. [s:('a,'b) sum] = inl{'a,'b} x0\nterm [x:'a]\nex_i 6 7 17\nterm ?x0:'b. [s:('a,'b) sum] = inr{'b,'a} x0\ndisj_l 18 8\nterm ?x0:'a. sum.rep{'a,'b} [s:('a,'b) sum] = sum.left{'a,'b} x0\nassume 9\nchoose 7 20 19\nterm sum.rep{'a,'b} [s:('a,'b) sum] = sum.right{'b,'a} [y:'b]\nassume 10\ncomb 9 22\ndef 27\nterm inr{'b,'a} [y:'b]\nrewrite_all 11 24\nnorm 25\nsym 26\ntrans 11 23\ntrans 28 27\nterm [y:'b]\nex_i 8 12 29\ndisj_r 6 30\nterm ?x0:'b. sum.rep{'a,'b} [s:('a,'b) sum] = sum.right{'b,'a} x0\nassume 13\nchoose 12 32 31\ndisj_e 7 21 33\ngen 0 34\n"

inl_or_inr_agrees : agree (table_sequent (base 28) (facts.sum_abs_rep ∷ facts.sum_rep_abs ∷ []) nothing inl_or_inr) (fact_sequent facts.inl_or_inr) ≡ true
unfolding library_table
inl_or_inr_agrees = refl

pub inl_or_inr_proves : Proves (base 28) (facts.sum_abs_rep ∷ facts.sum_rep_abs ∷ []) inl_or_inr facts.inl_or_inr
inl_or_inr_proves = proves inl_or_inr_agrees

pub constant_28 : IsConstantAt 28
unfolding library_table
constant_28 = constant_at refl

abbrev case_inl : Text
case_inl = codes "term inl{'a,'b} [x:'a]\nrefl 0\nterm [f:'a -> 'c] [x:'a]\nrefl 1\nconj_i 3 4\nterm ?x0:'a. (inl{'a,'b} [x:'a] = inl{'a,'b} x0) /\\ ([f:'a -> 'c] [x:'a] = [f:'a -> 'c] x0)\nterm [x:'a]\nex_i 2 3 5\nterm ?x0:'b. (inl{'a,'b} [x:'a] = inr{'b,'a} x0) /\\ ([f:'a -> 'c] [x:'a] = [g:'b -> 'c] x0)\ndisj_l 6 4\nterm ?x0:'c. (?x1:'a. (inl{'a,'b} [x:'a] = inl{'a,'b} x1) /\\ (x0 = [f:'a -> 'c] x1)) \\/ (?x1:'b. (inl{'a,'b} [x:'a] = inr{'b,'a} x1) /\\ (x0 = [g:'b -> 'c] x1))\nex_i 5 1 7\ntype 'c\ninst_type 0 a 0\nterm \\x0:'c. (?x1:'a. (inl{'a,'b} [x:'a] = inl{'a,'b} x1) /\\ (x0 = [f:'a -> 'c] x1)) \\/ (?x1:'b. (inl{'a,'b} [x:'a] = inr{'b,'a} x1) /\\ (x0 = [g:'b -> 'c] x1))\nspec 6 9\nnorm 10\nmp 11 8\nterm (inl{'a,'b} [x:'a] = inl{'a,'b} [a:'a]) /\\ (some{'c} (\\x0:'c. (?x1:'a. (inl{'a,'b} [x:'a] = inl{'a,'b} x1) /\\ (x0 = [f:'a -> 'c] x1)) \\/ (?x1:'b. (inl{'a,'b} [x:'a] = inr{'b,'a} x1) /\\ (x0 = [g:'b -> 'c] x1))) = [f:'a -> 'c] [a:'a])\nassume 7\nspec 3 1\nterm [a:'a]\nspec 8 14\nconj_l 13\nmp 15 16\nsym 17\nconj_r 13\nterm [v:'a]\nterm some{'c} (\\x0:'c. (?x1:'a. (inl{'a,'b} [x:'a] = inl{'a,'b} x1) /\\ (x0 = [f:'a -> 'c] x1)) \\/ (?x1:'b. (inl{'a,'b} [x:'a] = inr{'b,'a} x1) /\\ (x0 = [g:'b -> 'c] x1))) = [f:'a -> 'c] [v:'a]\nsubst 9 10 18 19\nterm ?x0:'a. (inl{'a,'b} [x:'a] = inl{'a,'b} x0) /\\ (some{'c} (\\x1:'c. (?x2:'a. (inl{'a,'b} [x:'a] = inl{'a,'b} x2) /\\ (x1 = [f:'a -> 'c] x2)) \\/ (?x2:'b. (inl{'a,'b} [x:'a] = inr{'b,'a} x2) /\\ (x1 = [g:'b -> 'c] x2))) = [f:'a -> 'c] x0)\nassume 11\nchoose 8 21 20\nterm (inl{'a,'b} [x:'a] = inr{'b,'a} [b:'b]) /\\ (some{'c} (\\x0:'c. (?x1:'a. (inl{'a,'b} [x:'a] = inl{'a,'b} x1) /\\ (x0 = [f:'a -> 'c] x1)) \\/ (?x1:'b. (inl{'a,'b} [x:'a] = inr{'b,'a} x1) /\\ (x0 = [g:'b -> 'c] x1))) = [g:'b -> 'c] [b:'b])\nassume 12\nspec 3 2\nterm [b:'b]\nspec 13 24\nconj_l 23\nnot_e 25\nmp 27 26\ndef 6\neq_mp 29 28\nterm some{'c} (\\x0:'c. (?x1:'a. (inl{'a,'b} [x:'a] = inl{'a,'b} x1) /\\ (x0 = [f:'a -> 'c] x1)) \\/ (?x1:'b. (inl{'a,'b} [x:'a] = inr{'b,'a} x1) /\\ (x0 = [g:'b -> 'c] x1))) = [f:'a -> 'c] [x:'a]\nspec 14 30\nterm ?x0:'b. (inl{'a,'b} [x:'a] = inr{'b,'a} x0) /\\ (some{'c} (\\x1:'c. (?x2:'a. (inl{'a,'b} [x:'a] = inl{'a,'b} x2) /\\ (x1 = [f:'a -> 'c] x2)) \\/ (?x2:'b. (inl{'a,'b} [x:'a] = inr{'b,'a} x2) /\\ (x1 = [g:'b -> 'c] x2))) = [g:'b -> 'c] x0)\nassume 15\nchoose 13 32 31\ndisj_e 12 22 33\ntype 'b\ninst_type 34 b 0 c 1\ndef 28\nterm sum.case{'a,'b,'c} [f:'a -> 'b] [g:'c -> 'b] (inl{'a,'c} [x:'a])\nrewrite_all 16 36\nnorm 37\ntrans 38 35\ngen 3 39\nterm [g:'c -> 'b]\ngen 17 40\nterm [f:'a -> 'b]\ngen 18 41\n"

case_inl_agrees : agree (table_sequent (base 29) (facts.some_holds ∷ facts.inl_injective ∷ facts.inl_not_inr ∷ []) nothing case_inl) (fact_sequent facts.case_inl) ≡ true
unfolding library_table
case_inl_agrees = refl

pub case_inl_proves : Proves (base 29) (facts.some_holds ∷ facts.inl_injective ∷ facts.inl_not_inr ∷ []) case_inl facts.case_inl
case_inl_proves = proves case_inl_agrees

abbrev case_inr : Text
case_inr = codes "term inr{'b,'a} [x:'b]\nrefl 0\nterm [g:'b -> 'c] [x:'b]\nrefl 1\nconj_i 3 4\nterm ?x0:'b. (inr{'b,'a} [x:'b] = inr{'b,'a} x0) /\\ ([g:'b -> 'c] [x:'b] = [g:'b -> 'c] x0)\nterm [x:'b]\nex_i 2 3 5\nterm ?x0:'a. (inr{'b,'a} [x:'b] = inl{'a,'b} x0) /\\ ([g:'b -> 'c] [x:'b] = [f:'a -> 'c] x0)\ndisj_r 4 6\nterm ?x0:'c. (?x1:'a. (inr{'b,'a} [x:'b] = inl{'a,'b} x1) /\\ (x0 = [f:'a -> 'c] x1)) \\/ (?x1:'b. (inr{'b,'a} [x:'b] = inr{'b,'a} x1) /\\ (x0 = [g:'b -> 'c] x1))\nex_i 5 1 7\ntype 'c\ninst_type 0 a 0\nterm \\x0:'c. (?x1:'a. (inr{'b,'a} [x:'b] = inl{'a,'b} x1) /\\ (x0 = [f:'a -> 'c] x1)) \\/ (?x1:'b. (inr{'b,'a} [x:'b] = inr{'b,'a} x1) /\\ (x0 = [g:'b -> 'c] x1))\nspec 6 9\nnorm 10\nmp 11 8\nterm (inr{'b,'a} [x:'b] = inl{'a,'b} [a:'a]) /\\ (some{'c} (\\x0:'c. (?x1:'a. (inr{'b,'a} [x:'b] = inl{'a,'b} x1) /\\ (x0 = [f:'a -> 'c] x1)) \\/ (?x1:'b. (inr{'b,'a} [x:'b] = inr{'b,'a} x1) /\\ (x0 = [g:'b -> 'c] x1))) = [f:'a -> 'c] [a:'a])\nassume 7\nterm [a:'a]\nspec 8 1\nspec 3 14\nconj_l 13\nnot_e 15\nmp 17 16\ndef 6\neq_mp 19 18\nterm some{'c} (\\x0:'c. (?x1:'a. (inr{'b,'a} [x:'b] = inl{'a,'b} x1) /\\ (x0 = [f:'a -> 'c] x1)) \\/ (?x1:'b. (inr{'b,'a} [x:'b] = inr{'b,'a} x1) /\\ (x0 = [g:'b -> 'c] x1))) = [g:'b -> 'c] [x:'b]\nspec 9 20\nterm ?x0:'a. (inr{'b,'a} [x:'b] = inl{'a,'b} x0) /\\ (some{'c} (\\x1:'c. (?x2:'a. (inr{'b,'a} [x:'b] = inl{'a,'b} x2) /\\ (x1 = [f:'a -> 'c] x2)) \\/ (?x2:'b. (inr{'b,'a} [x:'b] = inr{'b,'a} x2) /\\ (x1 = [g:'b -> 'c] x2))) = [f:'a -> 'c] x0)\nassume 10\nchoose 8 22 21\nterm (inr{'b,'a} [x:'b] = inr{'b,'a} [b:'b]) /\\ (some{'c} (\\x0:'c. (?x1:'a. (inr{'b,'a} [x:'b] = inl{'a,'b} x1) /\\ (x0 = [f:'a -> 'c] x1)) \\/ (?x1:'b. (inr{'b,'a} [x:'b] = inr{'b,'a} x1) /\\ (x0 = [g:'b -> 'c] x1))) = [g:'b -> 'c] [b:'b])\nassume 11\nspec 3 2\nterm [b:'b]\nspec 12 25\nconj_l 24\nmp 26 27\nsym 28\nconj_r 24\nterm [v:'b]\nterm some{'c} (\\x0:'c. (?x1:'a. (inr{'b,'a} [x:'b] = inl{'a,'b} x1) /\\ (x0 = [f:'a -> 'c] x1)) \\/ (?x1:'b. (inr{'b,'a} [x:'b] = inr{'b,'a} x1) /\\ (x0 = [g:'b -> 'c] x1))) = [g:'b -> 'c] [v:'b]\nsubst 13 14 29 30\nterm ?x0:'b. (inr{'b,'a} [x:'b] = inr{'b,'a} x0) /\\ (some{'c} (\\x1:'c. (?x2:'a. (inr{'b,'a} [x:'b] = inl{'a,'b} x2) /\\ (x1 = [f:'a -> 'c] x2)) \\/ (?x2:'b. (inr{'b,'a} [x:'b] = inr{'b,'a} x2) /\\ (x1 = [g:'b -> 'c] x2))) = [g:'b -> 'c] x0)\nassume 15\nchoose 12 32 31\ndisj_e 12 23 33\ntype 'b\ninst_type 34 b 0 c 1\ndef 28\nterm sum.case{'a,'b,'c} [f:'a -> 'b] [g:'c -> 'b] (inr{'c,'a} [x:'c])\nrewrite_all 16 36\nnorm 37\ntrans 38 35\nterm [x:'c]\ngen 17 39\nterm [g:'c -> 'b]\ngen 18 40\nterm [f:'a -> 'b]\ngen 19 41\n"

case_inr_agrees : agree (table_sequent (base 29) (facts.some_holds ∷ facts.inr_not_inl ∷ facts.inr_injective ∷ []) nothing case_inr) (fact_sequent facts.case_inr) ≡ true
unfolding library_table
case_inr_agrees = refl

pub case_inr_proves : Proves (base 29) (facts.some_holds ∷ facts.inr_not_inl ∷ facts.inr_injective ∷ []) case_inr facts.case_inr
case_inr_proves = proves case_inr_agrees

pub constant_29 : IsConstantAt 29
unfolding library_table
constant_29 = constant_at refl

pub constant_30 : IsConstantAt 30
unfolding library_table
constant_30 = constant_at refl

pub constant_31 : IsConstantAt 31
unfolding library_table
constant_31 = constant_at refl

pub constant_32 : IsConstantAt 32
unfolding library_table
constant_32 = constant_at refl
