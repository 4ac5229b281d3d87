-- Written by `python3 tools/library.py write` from the scripts of tools/library/.
-- What the tables give, and which base definitions are constants.
use Rattle.std.proofs.Common.{◌≡◌, true, refl, [], ◌∷◌, codes}
use Rattle.hol_terms.specs.Base.{base}
use Rattle.hol_terms.specs.Text.{Text}
use Rattle.script_core.specs.Tables.{fact_sequent, table_sequent}
use Rattle.library_steps.specs.Closed.{nothing, Proves}
use Rattle.library_steps.specs.Building.{IsConstantAt}
use Rattle.library_steps.proofs.Computed.{library_table, agree, proves, constant_at}
use Rattle.th_count.specs.Facts as facts
use Rattle.th_base.specs.Facts as th_base
use Rattle.th_num.specs.Facts as th_num

pub constant_43 : IsConstantAt 43
unfolding library_table
constant_43 = constant_at refl

abbrev countable_enumerated : Text
countable_enumerated = codes "term !x0:'a. [s:'a -> bool] x0 ==> (?x1:num. x0 = [f:num -> 'a] x1)\nassume 0\ntype num\ninst_type 0 b 0\nterm [s:'a -> bool]\nspec 1 2\nterm \\x0:'a. \\x1:num. x0 = [f:num -> 'a] x1\nspec 2 3\nnorm 4\nmp 5 1\nterm !x0:'a. [s:'a -> bool] x0 ==> (x0 = [f:num -> 'a] ([g:'a -> num] x0))\nassume 3\nterm [x:'a]\nspec 4 7\nterm [s:'a -> bool] [x:'a]\nassume 5\nmp 8 9\nterm [g:'a -> num] [x:'a] = [g:'a -> num] [y:'a]\nassume 6\nterm [v:num]\nterm [x:'a] = [f:num -> 'a] [v:num]\nsubst 7 8 11 10\nterm [y:'a]\ninst 10 4 9\nsym 13\ntrans 12 14\ndisch 6 15\nterm [s:'a -> bool] [y:'a]\ndisch 10 16\ndisch 5 17\ngen 9 18\ngen 4 19\nterm ?x0:'a -> num. !x1:'a. !x2:'a. [s:'a -> bool] x1 ==> ([s:'a -> bool] x2 ==> ((x0 x1 = x0 x2) ==> (x1 = x2)))\nterm [g:'a -> num]\nex_i 11 12 20\ndef 43\nterm countable{'a} [s:'a -> bool]\nrewrite_all 13 22\nnorm 23\nsym 24\neq_mp 25 21\nchoose 12 6 26\ndisch 0 27\nterm [f:num -> 'a]\ngen 14 28\ngen 1 29\n"

countable_enumerated_agrees : agree (table_sequent (base 44) (th_base.choice_on ∷ []) nothing countable_enumerated) (fact_sequent facts.countable_enumerated) ≡ true
unfolding library_table
countable_enumerated_agrees = refl

pub countable_enumerated_proves : Proves (base 44) (th_base.choice_on ∷ []) countable_enumerated facts.countable_enumerated
countable_enumerated_proves = proves countable_enumerated_agrees

abbrev countable_enumeration : Text
countable_enumeration = codes "term countable{'a} [s:'a -> bool]\nassume 0\nterm [s:'a -> bool] [x:'a]\nassume 1\nterm [g:'a -> num] [x:'a]\nrefl 2\nconj_i 3 4\nterm ?x0:'a. [s:'a -> bool] x0 /\\ ([g:'a -> num] x0 = [g:'a -> num] [x:'a])\nterm [x:'a]\nex_i 3 4 5\nterm \\x0:'a. [s:'a -> bool] x0 /\\ ([g:'a -> num] x0 = [g:'a -> num] [x:'a])\nspec 5 0\nnorm 7\nmp 8 6\nterm !x0:'a. !x1:'a. [s:'a -> bool] x0 ==> ([s:'a -> bool] x1 ==> (([g:'a -> num] x0 = [g:'a -> num] x1) ==> (x0 = x1)))\nassume 6\nterm some{'a} (\\x0:'a. [s:'a -> bool] x0 /\\ ([g:'a -> num] x0 = [g:'a -> num] [x:'a]))\nspec 7 10\nspec 4 11\nconj_l 9\nconj_r 9\nmp 12 13\nmp 15 3\nmp 16 14\nterm (\\x0:num. some{'a} (\\x1:'a. [s:'a -> bool] x1 /\\ ([g:'a -> num] x1 = x0))) ([g:'a -> num] [x:'a])\nbeta_conv 8\ntrans 18 17\nsym 19\nterm ?x0:num. [x:'a] = (\\x1:num. some{'a} (\\x2:'a. [s:'a -> bool] x2 /\\ ([g:'a -> num] x2 = x1))) x0\nex_i 9 2 20\ndisch 1 21\ngen 4 22\nterm ?x0:num -> 'a. !x1:'a. [s:'a -> bool] x1 ==> (?x2:num. x1 = x0 x2)\nterm \\x0:num. some{'a} (\\x1:'a. [s:'a -> bool] x1 /\\ ([g:'a -> num] x1 = x0))\nex_i 10 11 23\ndef 43\nterm [v:('a -> bool) -> bool]\nterm [v:('a -> bool) -> bool] [s:'a -> bool]\nsubst 12 13 25 2\nnorm 26\nterm [g:'a -> num]\nchoose 14 27 24\ntype 'a -> bool\ntype num -> 'a\ninst_type 1 a 0 b 1\nterm countable{'a}\nspec 15 29\nterm \\x0:'a -> bool. \\x1:num -> 'a. !x2:'a. x0 x2 ==> (?x3:num. x2 = x1 x3)\nspec 16 30\nnorm 31\ndisch 0 28\nterm [s:'a -> bool]\ngen 17 33\nmp 32 34\n"

countable_enumeration_agrees : agree (table_sequent (base 44) (th_base.some_holds ∷ th_base.choice_on ∷ []) nothing countable_enumeration) (fact_sequent facts.countable_enumeration) ≡ true
unfolding library_table
countable_enumeration_agrees = refl

pub countable_enumeration_proves : Proves (base 44) (th_base.some_holds ∷ th_base.choice_on ∷ []) countable_enumeration facts.countable_enumeration
countable_enumeration_proves = proves countable_enumeration_agrees

abbrev countable_subset : Text
countable_subset = codes "term countable{'a} [t:'a -> bool]\nassume 0\nterm !x0:'a. [s:'a -> bool] x0 ==> [t:'a -> bool] x0\nassume 1\nterm [x:'a]\nspec 2 3\nterm [s:'a -> bool] [x:'a]\nassume 3\nmp 4 5\nterm !x0:'a -> bool. countable{'a} x0 ==> (!x1:'a. x0 x1 ==> (?x2:num. x1 = [e:('a -> bool) -> num -> 'a] x0 x2))\nassume 4\nterm [t:'a -> bool]\nspec 5 7\nmp 8 2\nspec 2 9\nmp 10 6\nterm [s:'a -> bool]\nspec 6 0\nterm [e:('a -> bool) -> num -> 'a] [t:'a -> bool]\nspec 7 12\ndisch 3 11\ngen 2 14\nmp 13 15\nterm [e:('a -> bool) -> num -> 'a]\nchoose 8 1 16\ndisch 1 17\ndisch 0 18\ngen 5 19\ngen 6 20\n"

countable_subset_agrees : agree (table_sequent (base 44) (facts.countable_enumerated ∷ facts.countable_enumeration ∷ []) nothing countable_subset) (fact_sequent facts.countable_subset) ≡ true
unfolding library_table
countable_subset_agrees = refl

pub countable_subset_proves : Proves (base 44) (facts.countable_enumerated ∷ facts.countable_enumeration ∷ []) countable_subset facts.countable_subset
countable_subset_proves = proves countable_subset_agrees

abbrev countable_on_type : Text
countable_on_type = codes "term countable{'a} (\\x0:'a. T)\nassume 0\nterm [s:'a -> bool]\nspec 1 0\nterm \\x0:'a. T\nspec 2 3\nnorm 4\nmp 5 2\nterm [s:'a -> bool] [x:'a]\ndisch 3 1\nterm [x:'a]\ngen 4 7\nmp 6 8\ndisch 0 9\ngen 1 10\n"

countable_on_type_agrees : agree (table_sequent (base 44) (facts.countable_subset ∷ th_base.truth ∷ []) nothing countable_on_type) (fact_sequent facts.countable_on_type) ≡ true
unfolding library_table
countable_on_type_agrees = refl

pub countable_on_type_proves : Proves (base 44) (facts.countable_subset ∷ th_base.truth ∷ []) countable_on_type facts.countable_on_type
countable_on_type_proves = proves countable_on_type_agrees

abbrev countable_num : Text
countable_num = codes "term [x:num]\nrefl 0\nterm ?x0:num. [x:num] = x0\nex_i 1 0 1\nterm T\ndisch 2 2\ngen 0 3\ntype num\ninst_type 0 a 0\nterm \\x0:num. T\nspec 3 5\nterm \\x0:num. x0\nspec 4 6\nnorm 7\nmp 8 4\n"

countable_num_agrees : agree (table_sequent (base 44) (facts.countable_enumerated ∷ []) nothing countable_num) (fact_sequent facts.countable_num) ≡ true
unfolding library_table
countable_num_agrees = refl

pub countable_num_proves : Proves (base 44) (facts.countable_enumerated ∷ []) countable_num facts.countable_num
countable_num_proves = proves countable_num_agrees

abbrev countable_empty : Text
countable_empty = codes "term F\nassume 0\ndef 6\neq_mp 2 1\nterm ?x0:num. [x:'a] = [f:num -> 'a] x0\nspec 1 3\ndisch 0 4\nterm [x:'a]\ngen 2 5\nterm \\x0:'a. F\nspec 3 0\nterm [f:num -> 'a]\nspec 4 7\nnorm 8\nmp 9 6\n"

countable_empty_agrees : agree (table_sequent (base 44) (facts.countable_enumerated ∷ []) nothing countable_empty) (fact_sequent facts.countable_empty) ≡ true
unfolding library_table
countable_empty_agrees = refl

pub countable_empty_proves : Proves (base 44) (facts.countable_enumerated ∷ []) countable_empty facts.countable_empty
countable_empty_proves = proves countable_empty_agrees

abbrev countable_singleton : Text
countable_singleton = codes "term [x:'a] = [a:'a]\nassume 0\nterm ?x0:num. [x:'a] = [a:'a]\nterm 0\nex_i 1 2 1\ndisch 0 2\nterm [x:'a]\ngen 3 3\nterm \\x0:'a. x0 = [a:'a]\nspec 4 0\nterm \\x0:num. [a:'a]\nspec 5 5\nnorm 6\nmp 7 4\nterm [a:'a]\ngen 6 8\n"

countable_singleton_agrees : agree (table_sequent (base 44) (facts.countable_enumerated ∷ []) nothing countable_singleton) (fact_sequent facts.countable_singleton) ≡ true
unfolding library_table
countable_singleton_agrees = refl

pub countable_singleton_proves : Proves (base 44) (facts.countable_enumerated ∷ []) countable_singleton facts.countable_singleton
countable_singleton_proves = proves countable_singleton_agrees

abbrev countable_unit : Text
countable_unit = codes "term [x:unit]\nspec 0 0\nterm [u:unit]\nspec 1 2\neqt_i 3\nabs 0 4\nterm countable{unit}\nrefl 2\ncomb 6 5\ntype unit\ninst_type 1 a 0\nspec 1 8\neq_mp 7 9\n"

countable_unit_agrees : agree (table_sequent (base 44) (th_base.unit_equal ∷ facts.countable_singleton ∷ []) nothing countable_unit) (fact_sequent facts.countable_unit) ≡ true
unfolding library_table
countable_unit_agrees = refl

pub countable_unit_proves : Proves (base 44) (th_base.unit_equal ∷ facts.countable_singleton ∷ []) countable_unit facts.countable_unit
countable_unit_proves = proves countable_unit_agrees

abbrev countable_bool : Text
countable_bool = codes "term [p:bool]\nassume 0\nterm 0\nrefl 1\ndeduct 4 5\nterm ?x0:num. [p:bool] = (x0 = 0)\nex_i 2 1 6\nterm suc [n:num] = 0\nspec 3 0\nterm [n:num]\nspec 4 1\neq_mp 8 9\nspec 0 0\nterm ~ [p:bool]\nassume 5\neq_mp 11 12\nsym 10\ntrans 13 14\nterm suc [n:num]\nex_i 2 6 15\nspec 0 2\ndisj_e 17 7 16\nterm T\ndisch 7 18\ngen 0 19\ntype bool\ninst_type 3 a 0\nterm \\x0:bool. T\nspec 8 21\nterm \\x0:num. x0 = 0\nspec 9 22\nnorm 23\nmp 24 20\n"

countable_bool_agrees : agree (table_sequent (base 44) (th_base.not_as_equation ∷ th_num.suc_not_zero ∷ th_base.excluded_middle ∷ facts.countable_enumerated ∷ []) nothing countable_bool) (fact_sequent facts.countable_bool) ≡ true
unfolding library_table
countable_bool_agrees = refl

pub countable_bool_proves : Proves (base 44) (th_base.not_as_equation ∷ th_num.suc_not_zero ∷ th_base.excluded_middle ∷ facts.countable_enumerated ∷ []) countable_bool facts.countable_bool
countable_bool_proves = proves countable_bool_agrees

abbrev countable_enumerated_twice : Text
countable_enumerated_twice = codes "term !x0:'a. [s:'a -> bool] x0 ==> (?x1:num. ?x2:num. x0 = [f:num -> num -> 'a] x1 x2)\nassume 0\nterm [z:'a]\nspec 1 0\nterm \\x0:num. \\x1:num. \\x2:'a. [f:num -> num -> 'a] x0 x1\nspec 2 3\nnorm 4\nterm ([h:num -> 'a] 0 = [z:'a]) /\\ (!x0:num. !x1:num. [h:num -> 'a] (num.cons x0 x1) = [f:num -> num -> 'a] x0 x1)\nassume 3\nconj_r 6\nterm [m:num]\nspec 4 7\nterm [n:num]\nspec 5 8\nterm [x:'a] = [f:num -> num -> 'a] [m:num] [n:num]\nassume 6\nsym 9\ntrans 10 11\nterm ?x0:num. [x:'a] = [h:num -> 'a] x0\nterm num.cons [m:num] [n:num]\nex_i 7 8 12\nterm ?x0:num. [x:'a] = [f:num -> num -> 'a] [m:num] x0\nassume 9\nchoose 5 14 13\nterm [x:'a]\nspec 10 2\nterm [s:'a -> bool] [x:'a]\nassume 11\nmp 16 17\nchoose 4 18 15\nterm [s:'a -> bool]\nspec 12 1\nterm [h:num -> 'a]\nspec 13 20\ndisch 11 19\ngen 10 22\nmp 21 23\nchoose 13 5 24\ndisch 0 25\nterm [f:num -> num -> 'a]\ngen 14 26\ngen 12 27\n"

countable_enumerated_twice_agrees : agree (table_sequent (base 44) (th_num.path_recursion ∷ facts.countable_enumerated ∷ []) nothing countable_enumerated_twice) (fact_sequent facts.countable_enumerated_twice) ≡ true
unfolding library_table
countable_enumerated_twice_agrees = refl

pub countable_enumerated_twice_proves : Proves (base 44) (th_num.path_recursion ∷ facts.countable_enumerated ∷ []) countable_enumerated_twice facts.countable_enumerated_twice
countable_enumerated_twice_proves = proves countable_enumerated_twice_agrees
