-- Written by `python3 tools/library.py write` from the scripts of tools/library/.
-- What the tables give, and which base definitions are constants.
use Rattle.std.proofs.Common.{◌≡◌, true, refl, [], ◌∷◌, codes}
use Rattle.hol_terms.specs.Base.{base}
use Rattle.hol_terms.specs.Text.{Text}
use Rattle.script_core.specs.Tables.{fact_sequent, table_sequent}
use Rattle.library_steps.specs.Closed.{nothing, Proves}
use Rattle.library_steps.specs.Building.{IsConstantAt}
use Rattle.library_steps.proofs.Computed.{library_table, agree, proves, constant_at}
use Rattle.th_count.specs.Facts as facts
use Rattle.th_num.specs.Facts as th_num
use Rattle.th_base.specs.Facts as th_base

abbrev countable_union : Text
countable_union = codes "term countable{'a} [s:'a -> bool]\nassume 0\nterm !x0:'a. [s:'a -> bool] x0 ==> countable{'b} ([i:'a -> 'b -> bool] x0)\nassume 1\nterm [s:'a -> bool] [z:'a] /\\ [i:'a -> 'b -> bool] [z:'a] [y:'b]\nassume 2\nconj_l 4\nconj_r 4\nterm [z:'a]\nspec 3 3\nmp 7 5\nterm !x0:'b -> bool. countable{'b} x0 ==> (!x1:'b. x0 x1 ==> (?x2:num. x1 = [d:('b -> bool) -> num -> 'b] x0 x2))\nassume 4\nterm [i:'a -> 'b -> bool] [z:'a]\nspec 5 9\nmp 10 8\nterm [y:'b]\nspec 6 11\nmp 12 6\nterm [z:'a] = [e:('a -> bool) -> num -> 'a] [s:'a -> bool] [m:num]\nassume 7\nterm [v:'a]\nterm ?x0:num. [y:'b] = [d:('b -> bool) -> num -> 'b] ([i:'a -> 'b -> bool] [v:'a]) x0\nsubst 8 9 14 13\nterm ?x0:num. ?x1:num. [y:'b] = [d:('b -> bool) -> num -> 'b] ([i:'a -> 'b -> bool] ([e:('a -> bool) -> num -> 'a] [s:'a -> bool] x0)) x1\nterm [m:num]\nex_i 10 11 15\nterm !x0:'a -> bool. countable{'a} x0 ==> (!x1:'a. x0 x1 ==> (?x2:num. x1 = [e:('a -> bool) -> num -> 'a] x0 x2))\nassume 12\nterm [s:'a -> bool]\nspec 13 17\nmp 18 2\nspec 3 19\nmp 20 5\nchoose 11 21 16\nterm ?x0:'a. [s:'a -> bool] x0 /\\ [i:'a -> 'b -> bool] x0 [y:'b]\nassume 14\nchoose 3 23 22\ndisch 14 24\ngen 6 25\ntype 'b\ninst_type 0 a 0\nterm \\x0:'b. ?x1:'a. [s:'a -> bool] x1 /\\ [i:'a -> 'b -> bool] x1 x0\nspec 15 27\nterm \\x0:num. [d:('b -> bool) -> num -> 'b] ([i:'a -> 'b -> bool] ([e:('a -> bool) -> num -> 'a] [s:'a -> bool] x0))\nspec 16 28\nnorm 29\nmp 30 26\nterm [e:('a -> bool) -> num -> 'a]\nchoose 17 1 31\ninst_type 1 a 0\nterm [d:('b -> bool) -> num -> 'b]\nchoose 18 33 32\ndisch 1 34\ndisch 0 35\nterm [i:'a -> 'b -> bool]\ngen 19 36\ngen 13 37\n"

countable_union_agrees : agree (table_sequent (base 44) (facts.countable_enumerated_twice ∷ facts.countable_enumeration ∷ []) nothing countable_union) (fact_sequent facts.countable_union) ≡ true
unfolding library_table
countable_union_agrees = refl

pub countable_union_proves : Proves (base 44) (facts.countable_enumerated_twice ∷ facts.countable_enumeration ∷ []) countable_union facts.countable_union
countable_union_proves = proves countable_union_agrees

abbrev countable_union_of_two : Text
countable_union_of_two = codes "term countable{'a} [s:'a -> bool]\nassume 0\nterm [s:'a -> bool] [x:'a]\nassume 1\nterm !x0:'a -> bool. countable{'a} x0 ==> (!x1:'a. x0 x1 ==> (?x2:num. x1 = [e:('a -> bool) -> num -> 'a] x0 x2))\nassume 2\nterm [s:'a -> bool]\nspec 3 5\nmp 6 3\nterm [x:'a]\nspec 4 7\nmp 8 4\ntype num -> 'a\ninst_type 0 a 0\nterm [e:('a -> bool) -> num -> 'a] [s:'a -> bool]\nspec 5 10\nterm \\x0:num. \\x1:num -> 'a. [e:('a -> bool) -> num -> 'a] [t:'a -> bool]\nspec 6 11\nnorm 12\nterm ([f:num -> num -> 'a] 0 = [e:('a -> bool) -> num -> 'a] [s:'a -> bool]) /\\ (!x0:num. [f:num -> num -> 'a] (suc x0) = [e:('a -> bool) -> num -> 'a] [t:'a -> bool])\nassume 7\nconj_l 14\nsym 15\nterm [v:num -> 'a]\nterm ?x0:num. [x:'a] = [v:num -> 'a] x0\nsubst 8 9 16 9\nterm ?x0:num. ?x1:num. [x:'a] = [f:num -> num -> 'a] x0 x1\nterm 0\nex_i 10 11 17\nterm [t:'a -> bool]\ninst 9 3 12\nconj_r 14\nterm [m:num]\nspec 13 20\nsym 21\nsubst 8 9 22 19\nterm suc [m:num]\nex_i 10 14 23\nterm [s:'a -> bool] [x:'a] \\/ [t:'a -> bool] [x:'a]\nassume 15\ndisj_e 25 18 24\ndisch 15 26\ngen 4 27\nterm \\x0:'a. [s:'a -> bool] x0 \\/ [t:'a -> bool] x0\nspec 16 1\nterm [f:num -> num -> 'a]\nspec 17 29\nnorm 30\nmp 31 28\nchoose 17 13 32\nterm [e:('a -> bool) -> num -> 'a]\nchoose 18 2 33\nterm countable{'a} [t:'a -> bool]\ndisch 19 34\ndisch 0 35\ngen 12 36\ngen 3 37\n"

countable_union_of_two_agrees : agree (table_sequent (base 44) (th_num.num_recursion ∷ facts.countable_enumerated_twice ∷ facts.countable_enumeration ∷ []) nothing countable_union_of_two) (fact_sequent facts.countable_union_of_two) ≡ true
unfolding library_table
countable_union_of_two_agrees = refl

pub countable_union_of_two_proves : Proves (base 44) (th_num.num_recursion ∷ facts.countable_enumerated_twice ∷ facts.countable_enumeration ∷ []) countable_union_of_two facts.countable_union_of_two
countable_union_of_two_proves = proves countable_union_of_two_agrees

abbrev countable_image : Text
countable_image = codes "term countable{'a} [s:'a -> bool]\nassume 0\nterm [s:'a -> bool]\nspec 1 0\nterm \\x0:'a. \\x1:'b. x1 = [f:'a -> 'b] x0\nspec 2 3\nnorm 4\nmp 5 2\ntype 'b\ninst_type 1 a 0\nterm [f:'a -> 'b] [x:'a]\nspec 3 7\nterm [s:'a -> bool] [x:'a]\ndisch 4 8\nterm [x:'a]\ngen 5 9\nmp 6 10\ndisch 0 11\nterm [f:'a -> 'b]\ngen 6 12\ngen 1 13\n"

countable_image_agrees : agree (table_sequent (base 44) (facts.countable_union ∷ facts.countable_singleton ∷ []) nothing countable_image) (fact_sequent facts.countable_image) ≡ true
unfolding library_table
countable_image_agrees = refl

pub countable_image_proves : Proves (base 44) (facts.countable_union ∷ facts.countable_singleton ∷ []) countable_image facts.countable_image
countable_image_proves = proves countable_image_agrees

abbrev countable_range : Text
countable_range = codes "term countable{'a} (\\x0:'a. T)\nassume 0\nterm \\x0:'a. T\nspec 1 0\nterm [f:'a -> 'b]\nspec 2 4\nnorm 5\nmp 6 3\nterm [y:'b] = [f:'a -> 'b] [x:'a]\nassume 3\nconj_i 1 8\nterm ?x0:'a. T /\\ ([y:'b] = [f:'a -> 'b] x0)\nterm [x:'a]\nex_i 4 5 9\nterm ?x0:'a. [y:'b] = [f:'a -> 'b] x0\nassume 6\nchoose 5 11 10\ntype 'b\ninst_type 2 a 0\nterm \\x0:'b. ?x1:'a. x0 = [f:'a -> 'b] x1\nspec 7 13\nterm \\x0:'b. ?x1:'a. T /\\ (x0 = [f:'a -> 'b] x1)\nspec 8 14\nnorm 15\ndisch 6 12\nterm [y:'b]\ngen 9 17\nmp 16 7\nmp 19 18\ndisch 0 20\ngen 2 21\n"

countable_range_agrees : agree (table_sequent (base 44) (facts.countable_image ∷ th_base.truth ∷ facts.countable_subset ∷ []) nothing countable_range) (fact_sequent facts.countable_range) ≡ true
unfolding library_table
countable_range_agrees = refl

pub countable_range_proves : Proves (base 44) (facts.countable_image ∷ th_base.truth ∷ facts.countable_subset ∷ []) countable_range facts.countable_range
countable_range_proves = proves countable_range_agrees

abbrev countable_injection : Text
countable_injection = codes "term countable{'b} [t:'b -> bool]\nassume 0\nterm !x0:'a. [s:'a -> bool] x0 ==> [t:'b -> bool] ([k:'a -> 'b] x0)\nassume 1\nterm !x0:'a. !x1:'a. [s:'a -> bool] x0 ==> ([s:'a -> bool] x1 ==> (([k:'a -> 'b] x0 = [k:'a -> 'b] x1) ==> (x0 = x1)))\nassume 2\nterm [s:'a -> bool] [x:'a]\nassume 3\nterm [k:'a -> 'b] [x:'a]\nrefl 4\nconj_i 6 7\nterm ?x0:'a. [s:'a -> bool] x0 /\\ ([k:'a -> 'b] x0 = [k:'a -> 'b] [x:'a])\nterm [x:'a]\nex_i 5 6 8\nterm \\x0:'a. [s:'a -> bool] x0 /\\ ([k:'a -> 'b] x0 = [k:'a -> 'b] [x:'a])\nspec 7 0\nnorm 10\nmp 11 9\nspec 6 5\nterm some{'a} (\\x0:'a. [s:'a -> bool] x0 /\\ ([k:'a -> 'b] x0 = [k:'a -> 'b] [x:'a]))\nspec 8 13\nconj_l 12\nmp 14 6\nmp 16 15\nspec 6 4\nmp 18 6\nconj_r 12\nsym 20\nmp 17 21\nconj_i 19 22\nterm ?x0:'b. [t:'b -> bool] x0 /\\ ([x:'a] = some{'a} (\\x1:'a. [s:'a -> bool] x1 /\\ ([k:'a -> 'b] x1 = x0)))\nex_i 9 4 23\ntype 'b\ntype 'a\ninst_type 1 a 0 b 1\nterm [t:'b -> bool]\nspec 10 25\nterm \\x0:'b. some{'a} (\\x1:'a. [s:'a -> bool] x1 /\\ ([k:'a -> 'b] x1 = x0))\nspec 11 26\nnorm 27\nmp 28 3\nterm [s:'a -> bool]\nspec 12 2\nterm \\x0:'a. ?x1:'b. [t:'b -> bool] x1 /\\ (x0 = some{'a} (\\x2:'a. [s:'a -> bool] x2 /\\ ([k:'a -> 'b] x2 = x1)))\nspec 13 30\nnorm 31\ndisch 3 24\ngen 6 33\nmp 32 29\nmp 35 34\ndisch 2 36\ndisch 1 37\ndisch 0 38\nterm [k:'a -> 'b]\ngen 14 39\ngen 10 40\ngen 12 41\n"

countable_injection_agrees : agree (table_sequent (base 44) (th_base.some_holds ∷ facts.countable_image ∷ facts.countable_subset ∷ []) nothing countable_injection) (fact_sequent facts.countable_injection) ≡ true
unfolding library_table
countable_injection_agrees = refl

pub countable_injection_proves : Proves (base 44) (th_base.some_holds ∷ facts.countable_image ∷ facts.countable_subset ∷ []) countable_injection facts.countable_injection
countable_injection_proves = proves countable_injection_agrees

abbrev countable_product : Text
countable_product = codes "term countable{'a} [s:'a -> bool]\nassume 0\nterm countable{'b} [t:'b -> bool]\nassume 1\ntype ('a,'b) prod\ninst_type 0 b 0\nterm [s:'a -> bool]\nspec 2 6\nterm \\x0:'a. \\x1:('a,'b) prod. ?x2:'b. [t:'b -> bool] x2 /\\ (x1 = pair{'a,'b} x0 x2)\nspec 3 7\nnorm 8\ntype 'b\ninst_type 1 a 1 b 0\nterm [t:'b -> bool]\nspec 4 10\nterm pair{'a,'b} [a:'a]\nspec 5 11\nmp 12 5\nterm [s:'a -> bool] [a:'a]\ndisch 6 13\nterm [a:'a]\ngen 7 14\nmp 9 4\nmp 16 15\nterm [s:'a -> bool] (fst{'a,'b} [p:('a,'b) prod]) /\\ [t:'b -> bool] (snd{'a,'b} [p:('a,'b) prod])\nassume 8\nconj_r 18\nterm [p:('a,'b) prod]\nspec 9 2\nsym 20\nconj_i 19 21\nterm ?x0:'b. [t:'b -> bool] x0 /\\ ([p:('a,'b) prod] = pair{'a,'b} (fst{'a,'b} [p:('a,'b) prod]) x0)\nterm snd{'a,'b} [p:('a,'b) prod]\nex_i 10 11 22\nconj_l 18\nconj_i 24 23\nterm ?x0:'a. [s:'a -> bool] x0 /\\ (?x1:'b. [t:'b -> bool] x1 /\\ ([p:('a,'b) prod] = pair{'a,'b} x0 x1))\nterm fst{'a,'b} [p:('a,'b) prod]\nex_i 12 13 25\ninst_type 3 a 0\nterm \\x0:('a,'b) prod. [s:'a -> bool] (fst{'a,'b} x0) /\\ [t:'b -> bool] (snd{'a,'b} x0)\nspec 14 27\nterm \\x0:('a,'b) prod. ?x1:'a. [s:'a -> bool] x1 /\\ (?x2:'b. [t:'b -> bool] x2 /\\ (x0 = pair{'a,'b} x1 x2))\nspec 15 28\nnorm 29\ndisch 8 26\ngen 9 31\nmp 30 17\nmp 33 32\ndisch 1 34\ndisch 0 35\ngen 4 36\ngen 2 37\n"

countable_product_agrees : agree (table_sequent (base 44) (facts.countable_union ∷ facts.countable_image ∷ th_base.pair_of_components ∷ facts.countable_subset ∷ []) nothing countable_product) (fact_sequent facts.countable_product) ≡ true
unfolding library_table
countable_product_agrees = refl

pub countable_product_proves : Proves (base 44) (facts.countable_union ∷ facts.countable_image ∷ th_base.pair_of_components ∷ facts.countable_subset ∷ []) countable_product facts.countable_product
countable_product_proves = proves countable_product_agrees

abbrev countable_prod : Text
countable_prod = codes "term countable{'a} (\\x0:'a. T)\nassume 0\nterm countable{'b} (\\x0:'b. T)\nassume 1\nterm \\x0:'a. T\nspec 2 0\nterm \\x0:'b. T\nspec 3 4\nnorm 5\nmp 6 2\nmp 7 3\nconj_i 1 1\neqt_i 9\nterm [v:bool]\nterm countable{('a,'b) prod} (\\x0:('a,'b) prod. [v:bool])\nsubst 4 5 10 8\ndisch 1 11\ndisch 0 12\n"

countable_prod_agrees : agree (table_sequent (base 44) (facts.countable_product ∷ th_base.truth ∷ []) nothing countable_prod) (fact_sequent facts.countable_prod) ≡ true
unfolding library_table
countable_prod_agrees = refl

pub countable_prod_proves : Proves (base 44) (facts.countable_product ∷ th_base.truth ∷ []) countable_prod facts.countable_prod
countable_prod_proves = proves countable_prod_agrees

abbrev countable_sum : Text
countable_sum = codes "term countable{'a} (\\x0:'a. T)\nassume 0\nterm countable{'b} (\\x0:'b. T)\nassume 1\ntype ('a,'b) sum\ninst_type 0 b 0\nterm inl{'a,'b}\nspec 2 5\nmp 6 3\ntype 'b\ninst_type 0 a 1 b 0\nterm inr{'b,'a}\nspec 3 8\nmp 9 4\ninst_type 1 a 0\nterm \\x0:('a,'b) sum. ?x1:'a. x0 = inl{'a,'b} x1\nspec 4 11\nterm \\x0:('a,'b) sum. ?x1:'b. x0 = inr{'b,'a} x1\nspec 5 12\nnorm 13\nmp 14 7\nmp 15 10\nterm [p:('a,'b) sum]\nspec 6 2\neqt_i 17\nabs 6 18\nterm countable{('a,'b) sum}\nrefl 7\ncomb 20 19\neq_mp 21 16\ndisch 1 22\ndisch 0 23\n"

countable_sum_agrees : agree (table_sequent (base 44) (facts.countable_range ∷ facts.countable_union_of_two ∷ th_base.inl_or_inr ∷ []) nothing countable_sum) (fact_sequent facts.countable_sum) ≡ true
unfolding library_table
countable_sum_agrees = refl

pub countable_sum_proves : Proves (base 44) (facts.countable_range ∷ facts.countable_union_of_two ∷ th_base.inl_or_inr ∷ []) countable_sum facts.countable_sum
countable_sum_proves = proves countable_sum_agrees
