-- Written by `python3 tools/library.py write` from the scripts of tools/library/.
-- What the tables give, and which base definitions are constants.
use Rattle.std.proofs.Common.{◌≡◌, true, refl, [], ◌∷◌, codes}
use Rattle.hol_terms.specs.Base.{base}
use Rattle.hol_terms.specs.Text.{Text}
use Rattle.script_core.specs.Tables.{fact_sequent, table_sequent}
use Rattle.library_steps.specs.Closed.{nothing, Proves}
use Rattle.library_steps.specs.Building.{IsConstantAt}
use Rattle.library_steps.proofs.Computed.{library_table, agree, proves, constant_at}
use Rattle.th_num.specs.Facts as facts
use Rattle.th_base.specs.Facts as th_base

abbrev only_one : Text
only_one = codes "term !x0:'a. [P:'a -> bool] x0 = (x0 = [b:'a])\nassume 0\nterm [P:'a -> bool] [a:'a] /\\ [Q:'a -> bool] [a:'a]\nassume 1\nterm [a:'a]\nspec 2 0\nconj_l 1\neq_mp 2 3\nconj_r 1\nterm [v:'a]\nterm [Q:'a -> bool] [v:'a]\nsubst 3 4 4 5\nterm ?x0:'a. [P:'a -> bool] x0 /\\ [Q:'a -> bool] x0\nassume 5\nchoose 2 7 6\nterm [b:'a]\nspec 6 0\nrefl 6\nsym 9\neq_mp 11 10\nterm [Q:'a -> bool] [b:'a]\nassume 7\nconj_i 12 13\nex_i 5 6 14\ndeduct 15 8\nterm [Q:'a -> bool]\ngen 8 16\ndisch 0 17\ngen 6 18\nterm [P:'a -> bool]\ngen 9 19\n"

only_one_agrees : agree (table_sequent (base 39) [] nothing only_one) (fact_sequent facts.only_one) ≡ true
unfolding library_table
only_one_agrees = refl

pub only_one_proves : Proves (base 39) [] only_one facts.only_one
only_one_proves = proves only_one_agrees

abbrev graph_values : Text
graph_values = codes "term !x0:'a. [G:num -> 'a -> bool] 0 x0 = (x0 = [z:'a])\nassume 0\nterm !x0:'b. !x1:num. !x2:'a. [G:num -> 'a -> bool] ([c:'b -> num -> num] x0 x1) x2 = (?x3:'a. [G:num -> 'a -> bool] x1 x3 /\\ (x2 = [f:'b -> num -> 'a -> 'a] x0 x1 x3))\nassume 1\nterm !x0:num -> bool. x0 0 ==> ((!x1:'b. !x2:num. x0 x2 ==> x0 ([c:'b -> num -> num] x1 x2)) ==> (!x1:num. x0 x1))\nassume 2\nterm \\x0:num. ?x1:'a. !x2:'a. [G:num -> 'a -> bool] x0 x2 = (x2 = x1)\nspec 3 3\nnorm 4\nterm ?x0:'a. !x1:'a. [G:num -> 'a -> bool] 0 x1 = (x1 = x0)\nterm [z:'a]\nex_i 4 5 1\nterm !x0:'a. [G:num -> 'a -> bool] [p:num] x0 = (x0 = [b:'a])\nassume 6\nterm [G:num -> 'a -> bool] [p:num]\nspec 7 0\nterm [b:'a]\nspec 8 8\nmp 9 7\nterm \\x0:'a. [a:'a] = [f:'b -> num -> 'a -> 'a] [i:'b] [p:num] x0\nspec 9 10\nnorm 11\nterm [i:'b]\nspec 10 2\nterm [p:num]\nspec 11 13\nterm [a:'a]\nspec 12 14\ntrans 15 12\ngen 12 16\nterm ?x0:'a. !x1:'a. [G:num -> 'a -> bool] ([c:'b -> num -> num] [i:'b] [p:num]) x1 = (x1 = x0)\nterm [f:'b -> num -> 'a -> 'a] [i:'b] [p:num] [b:'a]\nex_i 13 14 17\nterm ?x0:'a. !x1:'a. [G:num -> 'a -> bool] [p:num] x1 = (x1 = x0)\nassume 15\nchoose 8 19 18\ndisch 15 20\ngen 11 21\ngen 10 22\nmp 5 6\nmp 24 23\ndisch 2 25\ndisch 1 26\ndisch 0 27\nterm [G:num -> 'a -> bool]\ngen 16 28\nterm [c:'b -> num -> num]\ngen 17 29\nterm [f:'b -> num -> 'a -> 'a]\ngen 18 30\ngen 5 31\n"

graph_values_agrees : agree (table_sequent (base 39) (facts.only_one ∷ []) nothing graph_values) (fact_sequent facts.graph_values) ≡ true
unfolding library_table
graph_values_agrees = refl

pub graph_values_proves : Proves (base 39) (facts.only_one ∷ []) graph_values facts.graph_values
graph_values_proves = proves graph_values_agrees

abbrev graph_function : Text
graph_function = codes "term !x0:'a. [G:num -> 'a -> bool] 0 x0 = (x0 = [z:'a])\nassume 0\nterm !x0:'b. !x1:num. !x2:'a. [G:num -> 'a -> bool] ([c:'b -> num -> num] x0 x1) x2 = (?x3:'a. [G:num -> 'a -> bool] x1 x3 /\\ (x2 = [f:'b -> num -> 'a -> 'a] x0 x1 x3))\nassume 1\nterm !x0:num. ?x1:'a. !x2:'a. [G:num -> 'a -> bool] x0 x2 = (x2 = x1)\nassume 2\ntype num\ntype 'a\ninst_type 0 a 0 b 1\nterm \\x0:num. \\x1:'a. !x2:'a. [G:num -> 'a -> bool] x0 x2 = (x2 = x1)\nspec 3 5\nnorm 6\nmp 7 4\nterm !x0:num. !x1:'a. [G:num -> 'a -> bool] x0 x1 = (x1 = [h:num -> 'a] x0)\nassume 4\nterm [n:num]\nspec 5 9\nterm [h:num -> 'a] [n:num]\nspec 6 10\nrefl 6\nsym 11\neq_mp 13 12\nterm [h:num -> 'a] 0\nspec 7 2\nterm 0\ninst 14 5 8\neq_mp 15 16\nterm [G:num -> 'a -> bool] [p:num]\nspec 9 1\nterm [h:num -> 'a] [p:num]\nspec 10 18\nterm [p:num]\nspec 11 9\nmp 19 20\nterm \\x0:'a. [h:num -> 'a] ([c:'b -> num -> num] [i:'b] [p:num]) = [f:'b -> num -> 'a -> 'a] [i:'b] [p:num] x0\nspec 12 21\nterm [i:'b]\nspec 13 3\nspec 11 23\nterm [h:num -> 'a] ([c:'b -> num -> num] [i:'b] [p:num])\nspec 14 24\nterm [c:'b -> num -> num] [i:'b] [p:num]\ninst 14 5 15\neq_mp 25 26\nnorm 22\neq_mp 28 27\ngen 11 29\ngen 13 30\nconj_i 17 31\nterm ?x0:num -> 'a. (x0 0 = [z:'a]) /\\ (!x1:'b. !x2:num. x0 ([c:'b -> num -> num] x1 x2) = [f:'b -> num -> 'a -> 'a] x1 x2 (x0 x2))\nterm [h:num -> 'a]\nex_i 16 17 32\nchoose 17 8 33\ndisch 2 34\ndisch 1 35\ndisch 0 36\nterm [G:num -> 'a -> bool]\ngen 18 37\nterm [c:'b -> num -> num]\ngen 19 38\nterm [f:'b -> num -> 'a -> 'a]\ngen 20 39\nterm [z:'a]\ngen 21 40\n"

graph_function_agrees : agree (table_sequent (base 39) (th_base.choice ∷ facts.only_one ∷ []) nothing graph_function) (fact_sequent facts.graph_function) ≡ true
unfolding library_table
graph_function_agrees = refl

pub graph_function_proves : Proves (base 39) (th_base.choice ∷ facts.only_one ∷ []) graph_function facts.graph_function
graph_function_proves = proves graph_function_agrees

abbrev recursion_from_graph : Text
recursion_from_graph = codes "term !x0:'a. [G:num -> 'a -> bool] 0 x0 = (x0 = [z:'a])\nassume 0\nterm !x0:'b. !x1:num. !x2:'a. [G:num -> 'a -> bool] ([c:'b -> num -> num] x0 x1) x2 = (?x3:'a. [G:num -> 'a -> bool] x1 x3 /\\ (x2 = [f:'b -> num -> 'a -> 'a] x0 x1 x3))\nassume 1\nterm !x0:num -> bool. x0 0 ==> ((!x1:'b. !x2:num. x0 x2 ==> x0 ([c:'b -> num -> num] x1 x2)) ==> (!x1:num. x0 x1))\nassume 2\nterm [z:'a]\nspec 3 0\nterm [f:'b -> num -> 'a -> 'a]\nspec 4 5\nterm [c:'b -> num -> num]\nspec 5 6\nterm [G:num -> 'a -> bool]\nspec 6 7\nmp 8 2\nmp 9 3\nmp 10 4\nspec 3 1\nspec 4 12\nspec 5 13\nspec 6 14\nmp 15 2\nmp 16 3\nmp 17 11\ndisch 2 18\ndisch 1 19\ndisch 0 20\ngen 6 21\ngen 5 22\ngen 4 23\ngen 3 24\n"

recursion_from_graph_agrees : agree (table_sequent (base 39) (facts.graph_values ∷ facts.graph_function ∷ []) nothing recursion_from_graph) (fact_sequent facts.recursion_from_graph) ≡ true
unfolding library_table
recursion_from_graph_agrees = refl

pub recursion_from_graph_proves : Proves (base 39) (facts.graph_values ∷ facts.graph_function ∷ []) recursion_from_graph facts.recursion_from_graph
recursion_from_graph_proves = proves recursion_from_graph_agrees

abbrev recursion : Text
recursion = codes "term !x0:'b. !x1:num. ~ ([c:'b -> num -> num] x0 x1 = 0)\nassume 0\nterm !x0:'b. !x1:num. !x2:'b. !x3:num. ([c:'b -> num -> num] x0 x1 = [c:'b -> num -> num] x2 x3) ==> ((x0 = x2) /\\ (x1 = x3))\nassume 1\nterm !x0:num -> bool. x0 0 ==> ((!x1:'b. !x2:num. x0 x2 ==> x0 ([c:'b -> num -> num] x1 x2)) ==> (!x1:num. x0 x1))\nassume 2\nterm !x0:num. !x1:'a. [G:num -> 'a -> bool] x0 x1 = (((x0 = 0) /\\ (x1 = [z:'a])) \\/ (?x2:'b. ?x3:num. (x0 = [c:'b -> num -> num] x2 x3) /\\ (?x4:'a. [G:num -> 'a -> bool] x3 x4 /\\ (x1 = [f:'b -> num -> 'a -> 'a] x2 x3 x4))))\nassume 3\nterm [z:'a]\nspec 4 0\nterm [f:'b -> num -> 'a -> 'a]\nspec 5 8\nterm [c:'b -> num -> num]\nspec 6 9\nterm [G:num -> 'a -> bool]\nspec 7 10\nmp 11 7\nmp 12 4\nspec 4 1\nspec 5 14\nspec 6 15\nspec 7 16\nmp 17 7\nmp 18 4\nmp 19 5\nspec 4 2\nspec 5 21\nspec 6 22\nspec 7 23\nmp 24 13\nmp 25 20\nmp 26 6\nspec 4 3\nspec 5 28\nspec 6 29\nchoose 7 30 27\ngen 5 31\ngen 4 32\ndisch 2 33\ndisch 1 34\ndisch 0 35\ngen 6 36\n"

recursion_agrees : agree (table_sequent (base 39) (facts.graph_at_zero ∷ facts.graph_at_step ∷ facts.recursion_from_graph ∷ facts.recursion_graph ∷ []) nothing recursion) (fact_sequent facts.recursion) ≡ true
unfolding library_table
recursion_agrees = refl

pub recursion_proves : Proves (base 39) (facts.graph_at_zero ∷ facts.graph_at_step ∷ facts.recursion_from_graph ∷ facts.recursion_graph ∷ []) recursion facts.recursion
recursion_proves = proves recursion_agrees

abbrev num_recursion : Text
num_recursion = codes "type unit\ninst_type 0 b 0\nterm \\x0:unit. suc\nspec 0 5\nnorm 6\nterm [i:unit]\ngen 1 1\nterm suc [p:num] = suc [q:num]\nassume 2\nspec 1 2\nterm [j:unit]\nspec 3 10\nterm [p:num]\nspec 4 3\nterm [q:num]\nspec 5 12\nmp 13 9\nconj_i 11 14\ndisch 2 15\ngen 5 16\ngen 3 17\ngen 4 18\ngen 1 19\nterm [P:num -> bool] 0\nassume 6\nterm !x0:unit. !x1:num. [P:num -> bool] x1 ==> [P:num -> bool] (suc x1)\nassume 7\nterm [P:num -> bool]\nspec 8 4\nterm one\nspec 9 22\nmp 23 21\nmp 25 24\ndisch 7 26\ndisch 6 27\ngen 8 28\nmp 7 8\nmp 30 20\nmp 31 29\nterm [z:'a]\nspec 10 32\nterm \\x0:unit. [f:num -> 'a -> 'a]\nspec 11 33\nnorm 34\nterm ([h:num -> 'a] 0 = [z:'a]) /\\ (!x0:unit. !x1:num. [h:num -> 'a] (suc x1) = [f:num -> 'a -> 'a] x1 ([h:num -> 'a] x1))\nassume 12\nconj_l 36\nconj_r 36\nspec 9 38\nconj_i 37 39\nterm ?x0:num -> 'a. (x0 0 = [z:'a]) /\\ (!x1:num. x0 (suc x1) = [f:num -> 'a -> 'a] x1 (x0 x1))\nterm [h:num -> 'a]\nex_i 13 14 40\nchoose 14 35 41\nterm [f:num -> 'a -> 'a]\ngen 15 42\ngen 10 43\n"

num_recursion_agrees : agree (table_sequent (base 39) (facts.recursion ∷ facts.suc_not_zero ∷ th_base.unit_equal ∷ facts.suc_injective ∷ facts.num_induction ∷ []) nothing num_recursion) (fact_sequent facts.num_recursion) ≡ true
unfolding library_table
num_recursion_agrees = refl

pub num_recursion_proves : Proves (base 39) (facts.recursion ∷ facts.suc_not_zero ∷ th_base.unit_equal ∷ facts.suc_injective ∷ facts.num_induction ∷ []) num_recursion facts.num_recursion
num_recursion_proves = proves num_recursion_agrees

pub constant_39 : IsConstantAt 39
unfolding library_table
constant_39 = constant_at refl

abbrev rec_equations : Text
rec_equations = codes "type num -> 'a\ninst_type 0 a 0\nterm \\x0:num -> 'a. (x0 0 = [z:'a]) /\\ (!x1:num. x0 (suc x1) = [f:num -> 'a -> 'a] x1 (x0 x1))\nspec 0 2\nnorm 3\nterm [z:'a]\nspec 1 1\nterm [f:num -> 'a -> 'a]\nspec 2 5\nmp 4 6\ndef 39\nterm num.rec{'a} [z:'a] [f:num -> 'a -> 'a]\nrewrite_all 3 8\nnorm 9\nsym 10\nterm [v:num -> 'a]\nterm ([v:num -> 'a] 0 = [z:'a]) /\\ (!x0:num. [v:num -> 'a] (suc x0) = [f:num -> 'a -> 'a] x0 ([v:num -> 'a] x0))\nsubst 4 5 11 7\ngen 2 12\ngen 1 13\n"

rec_equations_agrees : agree (table_sequent (base 40) (th_base.some_holds ∷ facts.num_recursion ∷ []) nothing rec_equations) (fact_sequent facts.rec_equations) ≡ true
unfolding library_table
rec_equations_agrees = refl

pub rec_equations_proves : Proves (base 40) (th_base.some_holds ∷ facts.num_recursion ∷ []) rec_equations facts.rec_equations
rec_equations_proves = proves rec_equations_agrees

abbrev rec_zero : Text
rec_zero = codes "term [z:'a]\nspec 0 0\nterm [f:num -> 'a -> 'a]\nspec 1 1\nconj_l 2\ngen 1 3\ngen 0 4\n"

rec_zero_agrees : agree (table_sequent (base 40) (facts.rec_equations ∷ []) nothing rec_zero) (fact_sequent facts.rec_zero) ≡ true
unfolding library_table
rec_zero_agrees = refl

pub rec_zero_proves : Proves (base 40) (facts.rec_equations ∷ []) rec_zero facts.rec_zero
rec_zero_proves = proves rec_zero_agrees

abbrev rec_suc : Text
rec_suc = codes "term [z:'a]\nspec 0 0\nterm [f:num -> 'a -> 'a]\nspec 1 1\nconj_r 2\ngen 1 3\ngen 0 4\n"

rec_suc_agrees : agree (table_sequent (base 40) (facts.rec_equations ∷ []) nothing rec_suc) (fact_sequent facts.rec_suc) ≡ true
unfolding library_table
rec_suc_agrees = refl

pub rec_suc_proves : Proves (base 40) (facts.rec_equations ∷ []) rec_suc facts.rec_suc
rec_suc_proves = proves rec_suc_agrees
