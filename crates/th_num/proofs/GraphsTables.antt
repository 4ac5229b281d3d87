-- Written by `python3 tools/library.py write` from the scripts of tools/library/.
-- What the tables give, and which base definitions are constants.
use Rattle.std.proofs.Common.{◌≡◌, true, refl, [], ◌∷◌, codes}
use Rattle.hol_terms.specs.Base.{base}
use Rattle.hol_terms.specs.Text.{Text}
use Rattle.script_core.specs.Tables.{fact_sequent, table_sequent}
use Rattle.library_steps.specs.Closed.{nothing, Proves}
use Rattle.library_steps.specs.Building.{IsConstantAt}
use Rattle.library_steps.proofs.Computed.{library_table, agree, proves, constant_at}
use Rattle.th_num.specs.Facts as facts

abbrev fixed_relation : Text
fixed_relation = codes "term !x0:'a -> 'b -> bool. !x1:'a -> 'b -> bool. (!x2:'a. !x3:'b. x0 x2 x3 ==> x1 x2 x3) ==> (!x2:'a. !x3:'b. [F:('a -> 'b -> bool) -> 'a -> 'b -> bool] x0 x2 x3 ==> [F:('a -> 'b -> bool) -> 'a -> 'b -> bool] x1 x2 x3)\nassume 0\nterm !x0:'a. !x1:'b. [F:('a -> 'b -> bool) -> 'a -> 'b -> bool] [R:'a -> 'b -> bool] x0 x1 ==> [R:'a -> 'b -> bool] x0 x1\nassume 1\nterm (\\x0:'a. \\x1:'b. !x2:'a -> 'b -> bool. (!x3:'a. !x4:'b. [F:('a -> 'b -> bool) -> 'a -> 'b -> bool] x2 x3 x4 ==> x2 x3 x4) ==> x2 x0 x1) [x:'a] [y:'b]\nbeta_norm 2\nassume 2\neq_mp 2 3\nterm [R:'a -> 'b -> bool]\nspec 3 4\nmp 5 1\ndisch 2 6\nterm [y:'b]\ngen 4 7\nterm [x:'a]\ngen 5 8\nterm \\x0:'a. \\x1:'b. !x2:'a -> 'b -> bool. (!x3:'a. !x4:'b. [F:('a -> 'b -> bool) -> 'a -> 'b -> bool] x2 x3 x4 ==> x2 x3 x4) ==> x2 x0 x1\nspec 6 0\nspec 3 10\nmp 11 9\nspec 5 12\nspec 4 13\nspec 5 1\nspec 4 15\nterm [F:('a -> 'b -> bool) -> 'a -> 'b -> bool] (\\x0:'a. \\x1:'b. !x2:'a -> 'b -> bool. (!x3:'a. !x4:'b. [F:('a -> 'b -> bool) -> 'a -> 'b -> bool] x2 x3 x4 ==> x2 x3 x4) ==> x2 x0 x1) [x:'a] [y:'b]\nassume 7\nmp 14 17\nmp 16 18\ndisch 1 19\ngen 3 20\nsym 2\neq_mp 22 21\ndisch 7 23\ngen 4 24\ngen 5 25\nterm [F:('a -> 'b -> bool) -> 'a -> 'b -> bool] (\\x0:'a. \\x1:'b. !x2:'a -> 'b -> bool. (!x3:'a. !x4:'b. [F:('a -> 'b -> bool) -> 'a -> 'b -> bool] x2 x3 x4 ==> x2 x3 x4) ==> x2 x0 x1)\nspec 8 4\nspec 8 0\nspec 6 28\nmp 29 26\nmp 27 30\ndeduct 23 31\ngen 4 32\ngen 5 33\nterm ?x0:'a -> 'b -> bool. !x1:'a. !x2:'b. x0 x1 x2 = [F:('a -> 'b -> bool) -> 'a -> 'b -> bool] x0 x1 x2\nex_i 9 6 34\ndisch 0 35\nterm [F:('a -> 'b -> bool) -> 'a -> 'b -> bool]\ngen 10 36\n"

fixed_relation_agrees : agree (table_sequent (base 39) [] nothing fixed_relation) (fact_sequent facts.fixed_relation) ≡ true
unfolding library_table
fixed_relation_agrees = refl

pub fixed_relation_proves : Proves (base 39) [] fixed_relation facts.fixed_relation
fixed_relation_proves = proves fixed_relation_agrees

abbrev recursion_graph : Text
recursion_graph = codes "type num\ntype 'a\ninst_type 0 a 0 b 1\nterm \\x0:num -> 'a -> bool. \\x1:num. \\x2:'a. ((x1 = 0) /\\ (x2 = [z:'a])) \\/ (?x3:'b. ?x4:num. (x1 = [c:'b -> num -> num] x3 x4) /\\ (?x5:'a. x0 x4 x5 /\\ (x2 = [f:'b -> num -> 'a -> 'a] x3 x4 x5)))\nspec 0 1\nnorm 2\nterm !x0:num. !x1:'a. [R:num -> 'a -> bool] x0 x1 ==> [S:num -> 'a -> bool] x0 x1\nassume 1\nterm [R:num -> 'a -> bool] [p:num] [a:'a] /\\ ([b:'a] = [f:'b -> num -> 'a -> 'a] [i:'b] [p:num] [a:'a])\nassume 2\nterm [p:num]\nspec 3 4\nterm [a:'a]\nspec 4 6\nconj_l 5\nmp 7 8\nconj_r 5\nconj_i 9 10\nterm ([n:num] = [c:'b -> num -> num] [i:'b] [p:num]) /\\ (?x0:'a. [R:num -> 'a -> bool] [p:num] x0 /\\ ([b:'a] = [f:'b -> num -> 'a -> 'a] [i:'b] [p:num] x0))\nassume 5\nconj_l 12\nconj_r 12\nterm ?x0:'a. [S:num -> 'a -> bool] [p:num] x0 /\\ ([b:'a] = [f:'b -> num -> 'a -> 'a] [i:'b] [p:num] x0)\nex_i 6 4 11\nchoose 4 14 15\nconj_i 13 16\nterm ?x0:num. ([n:num] = [c:'b -> num -> num] [i:'b] x0) /\\ (?x1:'a. [S:num -> 'a -> bool] x0 x1 /\\ ([b:'a] = [f:'b -> num -> 'a -> 'a] [i:'b] x0 x1))\nex_i 7 3 17\nterm ?x0:'b. ?x1:num. ([n:num] = [c:'b -> num -> num] x0 x1) /\\ (?x2:'a. [S:num -> 'a -> bool] x1 x2 /\\ ([b:'a] = [f:'b -> num -> 'a -> 'a] x0 x1 x2))\nterm [i:'b]\nex_i 8 9 18\nterm ?x0:num. ([n:num] = [c:'b -> num -> num] [i:'b] x0) /\\ (?x1:'a. [R:num -> 'a -> bool] x0 x1 /\\ ([b:'a] = [f:'b -> num -> 'a -> 'a] [i:'b] x0 x1))\nassume 10\nchoose 3 20 19\nterm ?x0:'b. ?x1:num. ([n:num] = [c:'b -> num -> num] x0 x1) /\\ (?x2:'a. [R:num -> 'a -> bool] x1 x2 /\\ ([b:'a] = [f:'b -> num -> 'a -> 'a] x0 x1 x2))\nassume 11\nchoose 9 22 21\nterm ([n:num] = 0) /\\ ([b:'a] = [z:'a])\nassume 12\ndisj_l 24 8\nterm (([n:num] = 0) /\\ ([b:'a] = [z:'a])) \\/ (?x0:'b. ?x1:num. ([n:num] = [c:'b -> num -> num] x0 x1) /\\ (?x2:'a. [R:num -> 'a -> bool] x1 x2 /\\ ([b:'a] = [f:'b -> num -> 'a -> 'a] x0 x1 x2)))\nassume 13\ndisj_r 12 23\ndisj_e 26 25 27\ndisch 13 28\nterm [b:'a]\ngen 14 29\nterm [n:num]\ngen 15 30\ndisch 1 31\nterm [S:num -> 'a -> bool]\ngen 16 32\nterm [R:num -> 'a -> bool]\ngen 17 33\nmp 3 34\nterm [c:'b -> num -> num]\ngen 18 35\nterm [f:'b -> num -> 'a -> 'a]\ngen 19 36\nterm [z:'a]\ngen 20 37\n"

recursion_graph_agrees : agree (table_sequent (base 39) (facts.fixed_relation ∷ []) nothing recursion_graph) (fact_sequent facts.recursion_graph) ≡ true
unfolding library_table
recursion_graph_agrees = refl

pub recursion_graph_proves : Proves (base 39) (facts.fixed_relation ∷ []) recursion_graph facts.recursion_graph
recursion_graph_proves = proves recursion_graph_agrees

abbrev graph_at_zero : Text
graph_at_zero = codes "term !x0:num. !x1:'a. [G:num -> 'a -> bool] x0 x1 = (((x0 = 0) /\\ (x1 = [z:'a])) \\/ (?x2:'b. ?x3:num. (x0 = [c:'b -> num -> num] x2 x3) /\\ (?x4:'a. [G:num -> 'a -> bool] x3 x4 /\\ (x1 = [f:'b -> num -> 'a -> 'a] x2 x3 x4))))\nassume 0\nterm !x0:'b. !x1:num. ~ ([c:'b -> num -> num] x0 x1 = 0)\nassume 1\nterm (0 = [c:'b -> num -> num] [i:'b] [p:num]) /\\ (?x0:'a. [G:num -> 'a -> bool] [p:num] x0 /\\ ([b:'a] = [f:'b -> num -> 'a -> 'a] [i:'b] [p:num] x0))\nassume 2\nconj_l 2\nsym 3\nterm [i:'b]\nspec 3 1\nterm [p:num]\nspec 4 5\nnot_e 6\nmp 7 4\ndef 6\neq_mp 9 8\nterm [b:'a] = [z:'a]\nspec 5 10\nterm ?x0:num. (0 = [c:'b -> num -> num] [i:'b] x0) /\\ (?x1:'a. [G:num -> 'a -> bool] x0 x1 /\\ ([b:'a] = [f:'b -> num -> 'a -> 'a] [i:'b] x0 x1))\nassume 6\nchoose 4 12 11\nterm ?x0:'b. ?x1:num. (0 = [c:'b -> num -> num] x0 x1) /\\ (?x2:'a. [G:num -> 'a -> bool] x1 x2 /\\ ([b:'a] = [f:'b -> num -> 'a -> 'a] x0 x1 x2))\nassume 7\nchoose 3 14 13\nterm ((0 = 0) /\\ ([b:'a] = [z:'a])) \\/ (?x0:'b. ?x1:num. (0 = [c:'b -> num -> num] x0 x1) /\\ (?x2:'a. [G:num -> 'a -> bool] x1 x2 /\\ ([b:'a] = [f:'b -> num -> 'a -> 'a] x0 x1 x2)))\nassume 8\nterm (0 = 0) /\\ ([b:'a] = [z:'a])\nassume 9\nconj_r 17\ndisj_e 16 18 15\nterm 0\nrefl 10\nassume 5\nconj_i 20 21\ndisj_l 22 7\nspec 10 0\nterm [b:'a]\nspec 11 24\ndeduct 23 19\ntrans 25 26\ngen 11 27\ndisch 1 28\ndisch 0 29\nterm [G:num -> 'a -> bool]\ngen 12 30\nterm [c:'b -> num -> num]\ngen 13 31\nterm [f:'b -> num -> 'a -> 'a]\ngen 14 32\nterm [z:'a]\ngen 15 33\n"

graph_at_zero_agrees : agree (table_sequent (base 39) [] nothing graph_at_zero) (fact_sequent facts.graph_at_zero) ≡ true
unfolding library_table
graph_at_zero_agrees = refl

pub graph_at_zero_proves : Proves (base 39) [] graph_at_zero facts.graph_at_zero
graph_at_zero_proves = proves graph_at_zero_agrees

abbrev one_point_of_two : Text
one_point_of_two = codes "term !x0:'a. !x1:'b. !x2:'a. !x3:'b. ([c:'a -> 'b -> 'c] x0 x1 = [c:'a -> 'b -> 'c] x2 x3) ==> ((x0 = x2) /\\ (x1 = x3))\nassume 0\nterm ([c:'a -> 'b -> 'c] [i:'a] [p:'b] = [c:'a -> 'b -> 'c] [j:'a] [q:'b]) /\\ [P:'a -> 'b -> bool] [j:'a] [q:'b]\nassume 1\nterm [i:'a]\nspec 2 0\nterm [p:'b]\nspec 3 2\nterm [j:'a]\nspec 4 3\nterm [q:'b]\nspec 5 4\nconj_l 1\nmp 5 6\nconj_r 1\nconj_l 7\nsym 9\nconj_r 7\nsym 11\nterm [v:'a]\nterm [P:'a -> 'b -> bool] [v:'a] [q:'b]\nsubst 6 7 10 8\nterm [v:'b]\nterm [P:'a -> 'b -> bool] [i:'a] [v:'b]\nsubst 8 9 12 13\nterm ?x0:'b. ([c:'a -> 'b -> 'c] [i:'a] [p:'b] = [c:'a -> 'b -> 'c] [j:'a] x0) /\\ [P:'a -> 'b -> bool] [j:'a] x0\nassume 10\nchoose 5 15 14\nterm ?x0:'a. ?x1:'b. ([c:'a -> 'b -> 'c] [i:'a] [p:'b] = [c:'a -> 'b -> 'c] x0 x1) /\\ [P:'a -> 'b -> bool] x0 x1\nassume 11\nchoose 4 17 16\nterm [c:'a -> 'b -> 'c] [i:'a] [p:'b]\nrefl 12\nterm [P:'a -> 'b -> bool] [i:'a] [p:'b]\nassume 13\nconj_i 19 20\nterm ?x0:'b. ([c:'a -> 'b -> 'c] [i:'a] [p:'b] = [c:'a -> 'b -> 'c] [i:'a] x0) /\\ [P:'a -> 'b -> bool] [i:'a] x0\nex_i 14 3 21\nex_i 11 2 22\ndeduct 23 18\ngen 3 24\ngen 2 25\nterm [P:'a -> 'b -> bool]\ngen 15 26\ndisch 0 27\nterm [c:'a -> 'b -> 'c]\ngen 16 28\n"

one_point_of_two_agrees : agree (table_sequent (base 39) [] nothing one_point_of_two) (fact_sequent facts.one_point_of_two) ≡ true
unfolding library_table
one_point_of_two_agrees = refl

pub one_point_of_two_proves : Proves (base 39) [] one_point_of_two facts.one_point_of_two
one_point_of_two_proves = proves one_point_of_two_agrees

abbrev graph_at_step : Text
graph_at_step = codes "term !x0:num. !x1:'a. [G:num -> 'a -> bool] x0 x1 = (((x0 = 0) /\\ (x1 = [z:'a])) \\/ (?x2:'b. ?x3:num. (x0 = [c:'b -> num -> num] x2 x3) /\\ (?x4:'a. [G:num -> 'a -> bool] x3 x4 /\\ (x1 = [f:'b -> num -> 'a -> 'a] x2 x3 x4))))\nassume 0\nterm !x0:'b. !x1:num. ~ ([c:'b -> num -> num] x0 x1 = 0)\nassume 1\nterm !x0:'b. !x1:num. !x2:'b. !x3:num. ([c:'b -> num -> num] x0 x1 = [c:'b -> num -> num] x2 x3) ==> ((x0 = x2) /\\ (x1 = x3))\nassume 2\ntype 'b\ntype num\ninst_type 0 a 0 b 1 c 1\nterm [c:'b -> num -> num]\nspec 3 4\nmp 5 3\nterm \\x0:'b. \\x1:num. ?x2:'a. [G:num -> 'a -> bool] x1 x2 /\\ ([b:'a] = [f:'b -> num -> 'a -> 'a] x0 x1 x2)\nspec 4 6\nterm [i:'b]\nspec 5 7\nterm [p:num]\nspec 6 8\nterm [c:'b -> num -> num] [i:'b] [p:num]\nspec 7 1\nterm [b:'a]\nspec 8 10\nnorm 9\nterm [v:bool]\nterm [G:num -> 'a -> bool] ([c:'b -> num -> num] [i:'b] [p:num]) [b:'a] = ((([c:'b -> num -> num] [i:'b] [p:num] = 0) /\\ ([b:'a] = [z:'a])) \\/ [v:bool])\nsubst 9 10 12 11\nspec 5 2\nspec 6 14\nterm ([c:'b -> num -> num] [i:'b] [p:num] = 0) /\\ ([b:'a] = [z:'a])\nassume 11\nconj_l 16\nnot_e 15\nmp 18 17\nterm ?x0:'a. [G:num -> 'a -> bool] [p:num] x0 /\\ ([b:'a] = [f:'b -> num -> 'a -> 'a] [i:'b] [p:num] x0)\nassume 12\nterm (([c:'b -> num -> num] [i:'b] [p:num] = 0) /\\ ([b:'a] = [z:'a])) \\/ (?x0:'a. [G:num -> 'a -> bool] [p:num] x0 /\\ ([b:'a] = [f:'b -> num -> 'a -> 'a] [i:'b] [p:num] x0))\nassume 13\ndef 6\neq_mp 22 19\nspec 12 23\ndisj_e 21 24 20\ndisj_r 11 20\ndeduct 26 25\ntrans 13 27\ngen 8 28\ngen 6 29\ngen 5 30\ndisch 2 31\ndisch 1 32\ndisch 0 33\nterm [G:num -> 'a -> bool]\ngen 14 34\ngen 3 35\nterm [f:'b -> num -> 'a -> 'a]\ngen 15 36\nterm [z:'a]\ngen 16 37\n"

graph_at_step_agrees : agree (table_sequent (base 39) (facts.one_point_of_two ∷ []) nothing graph_at_step) (fact_sequent facts.graph_at_step) ≡ true
unfolding library_table
graph_at_step_agrees = refl

pub graph_at_step_proves : Proves (base 39) (facts.one_point_of_two ∷ []) graph_at_step facts.graph_at_step
graph_at_step_proves = proves graph_at_step_agrees
