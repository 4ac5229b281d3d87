-- Written by `python3 tools/library.py write` from the scripts of tools/library/.
-- What the tables give, and which base definitions are constants.
use Rattle.std.proofs.Common.{◌≡◌, true, refl, [], ◌∷◌, codes}
use Rattle.hol_terms.specs.Base.{base}
use Rattle.hol_terms.specs.Text.{Text}
use Rattle.script_core.specs.Tables.{fact_sequent, table_sequent}
use Rattle.library_steps.specs.Closed.{nothing, Proves}
use Rattle.library_steps.specs.Building.{IsConstantAt}
use Rattle.library_steps.proofs.Computed.{library_table, agree, proves, constant_at}
use Rattle.th_count.specs.Facts as facts
use Rattle.th_base.specs.Facts as th_base

abbrev cset_rel_between : Text
cset_rel_between = codes "term !x0:'a. cset.rep{'a} [u:'a cset] x0 ==> (?x1:'c. [r:'b -> 'c -> bool] ([f:'a -> 'b] x0) x1 /\\ [s:'c -> 'd -> bool] x1 ([g:'a -> 'd] x0))\nassume 0\ntype 'c\ninst_type 0 b 0\nterm cset.rep{'a} [u:'a cset]\nspec 1 3\nterm \\x0:'a. \\x1:'c. [r:'b -> 'c -> bool] ([f:'a -> 'b] x0) x1 /\\ [s:'c -> 'd -> bool] x1 ([g:'a -> 'd] x0)\nspec 2 4\nnorm 5\nmp 6 2\nterm !x0:'a. cset.rep{'a} [u:'a cset] x0 ==> ([r:'b -> 'c -> bool] ([f:'a -> 'b] x0) ([k:'a -> 'c] x0) /\\ [s:'c -> 'd -> bool] ([k:'a -> 'c] x0) ([g:'a -> 'd] x0))\nassume 3\nterm cset.rep{'a} [u:'a cset] [p:'a]\nassume 4\nterm [p:'a]\nspec 5 8\nmp 10 9\nconj_l 11\ndisch 4 12\ngen 5 13\nterm [r:'b -> 'c -> bool]\nspec 6 1\nterm [f:'a -> 'b]\nspec 7 15\nterm [k:'a -> 'c]\nspec 8 16\nterm [u:'a cset]\nspec 9 17\nmp 18 14\nconj_r 11\ndisch 4 20\ngen 5 21\ntype 'd\ninst_type 1 b 0 c 1\nterm [s:'c -> 'd -> bool]\nspec 10 23\nspec 8 24\nterm [g:'a -> 'd]\nspec 11 25\nspec 9 26\nmp 27 22\nconj_i 19 28\nterm ?x0:'c cset. cset.rel{'b,'c} [r:'b -> 'c -> bool] (cset.map{'a,'b} [f:'a -> 'b] [u:'a cset]) x0 /\\ cset.rel{'c,'d} [s:'c -> 'd -> bool] x0 (cset.map{'a,'d} [g:'a -> 'd] [u:'a cset])\nterm cset.map{'a,'c} [k:'a -> 'c] [u:'a cset]\nex_i 12 13 29\nchoose 8 7 30\ndisch 0 31\ngen 9 32\ngen 11 33\ngen 7 34\ngen 10 35\ngen 6 36\n"

cset_rel_between_agrees : agree (table_sequent (base 49) (th_base.choice_on ∷ facts.cset_maps_related ∷ []) nothing cset_rel_between) (fact_sequent facts.cset_rel_between) ≡ true
unfolding library_table
cset_rel_between_agrees = refl

pub cset_rel_between_proves : Proves (base 49) (th_base.choice_on ∷ facts.cset_maps_related ∷ []) cset_rel_between facts.cset_rel_between
cset_rel_between_proves = proves cset_rel_between_agrees

abbrev cset_rel_split : Text
cset_rel_split = codes "term cset.rel{'a,'c} (\\x0:'a. \\x1:'c. ?x2:'b. [r:'a -> 'b -> bool] x0 x2 /\\ [s:'b -> 'c -> bool] x2 x1) [c:'a cset] [d:'c cset]\nassume 0\ntype 'c\ninst_type 0 b 0\nterm \\x0:'a. \\x1:'c. ?x2:'b. [r:'a -> 'b -> bool] x0 x2 /\\ [s:'b -> 'c -> bool] x2 x1\nspec 1 4\nterm [c:'a cset]\nspec 2 5\nterm [d:'c cset]\nspec 3 6\neq_mp 7 3\nnorm 8\ntype ('a,'c) prod\ninst_type 1 a 1\nterm [v:('a,'c) prod cset -> ('a,'c) prod -> bool]\nterm ?x0:('a,'c) prod cset. (!x1:('a,'c) prod. [v:('a,'c) prod cset -> ('a,'c) prod -> bool] x0 x1 ==> (?x2:'b. [r:'a -> 'b -> bool] (fst{'a,'c} x1) x2 /\\ [s:'b -> 'c -> bool] x2 (snd{'a,'c} x1))) /\\ ((cset.map{('a,'c) prod,'a} fst{'a,'c} x0 = [c:'a cset]) /\\ (cset.map{('a,'c) prod,'c} snd{'a,'c} x0 = [d:'c cset]))\nsubst 4 5 10 9\nterm (!x0:('a,'c) prod. cset.rep{('a,'c) prod} [u:('a,'c) prod cset] x0 ==> (?x1:'b. [r:'a -> 'b -> bool] (fst{'a,'c} x0) x1 /\\ [s:'b -> 'c -> bool] x1 (snd{'a,'c} x0))) /\\ ((cset.map{('a,'c) prod,'a} fst{'a,'c} [u:('a,'c) prod cset] = [c:'a cset]) /\\ (cset.map{('a,'c) prod,'c} snd{'a,'c} [u:('a,'c) prod cset] = [d:'c cset]))\nassume 6\nconj_l 12\nconj_r 12\ntype 'a\ntype 'b\ninst_type 2 b 2 c 3 d 0 a 1\nterm [r:'a -> 'b -> bool]\nspec 7 15\nterm [s:'b -> 'c -> bool]\nspec 8 16\nterm fst{'a,'c}\nspec 9 17\nterm snd{'a,'c}\nspec 10 18\nterm [u:('a,'c) prod cset]\nspec 11 19\nmp 20 13\nconj_l 14\nconj_r 14\nterm [v:'a cset]\nterm ?x0:'b cset. cset.rel{'a,'b} [r:'a -> 'b -> bool] [v:'a cset] x0 /\\ cset.rel{'b,'c} [s:'b -> 'c -> bool] x0 (cset.map{('a,'c) prod,'c} snd{'a,'c} [u:('a,'c) prod cset])\nsubst 12 13 22 21\nterm [v:'c cset]\nterm ?x0:'b cset. cset.rel{'a,'b} [r:'a -> 'b -> bool] [c:'a cset] x0 /\\ cset.rel{'b,'c} [s:'b -> 'c -> bool] x0 [v:'c cset]\nsubst 14 15 23 24\nchoose 11 11 25\ndisch 0 26\ngen 3 27\ngen 2 28\ngen 8 29\ngen 7 30\n"

cset_rel_split_agrees : agree (table_sequent (base 49) (facts.cset_rel_in ∷ facts.cset_set_is_rep ∷ facts.cset_rel_between ∷ []) nothing cset_rel_split) (fact_sequent facts.cset_rel_split) ≡ true
unfolding library_table
cset_rel_split_agrees = refl

pub cset_rel_split_proves : Proves (base 49) (facts.cset_rel_in ∷ facts.cset_set_is_rep ∷ facts.cset_rel_between ∷ []) cset_rel_split facts.cset_rel_split
cset_rel_split_proves = proves cset_rel_split_agrees

abbrev cset_rel_forwards : Text
cset_rel_forwards = codes "term cset.rel{'a,'b} [r:'a -> 'b -> bool] [c:'a cset] [w:'b cset] /\\ cset.rel{'b,'c} [s:'b -> 'c -> bool] [w:'b cset] [d:'c cset]\nassume 0\nconj_l 0\ndef 48\nterm [v:('a -> 'b -> bool) -> 'a cset -> 'b cset -> bool]\nterm [v:('a -> 'b -> bool) -> 'a cset -> 'b cset -> bool] [r:'a -> 'b -> bool] [c:'a cset] [w:'b cset]\nsubst 1 2 2 1\nnorm 3\nconj_l 4\nconj_r 0\ntype 'b\ntype 'c\ninst_type 2 a 0 b 1\nterm [v:('b -> 'c -> bool) -> 'b cset -> 'c cset -> bool]\nterm [v:('b -> 'c -> bool) -> 'b cset -> 'c cset -> bool] [s:'b -> 'c -> bool] [w:'b cset] [d:'c cset]\nsubst 3 4 7 6\nnorm 8\nconj_l 9\nterm cset.rep{'a} [c:'a cset] [x:'a]\nassume 5\nterm cset.rep{'b} [w:'b cset] [y:'b] /\\ [r:'a -> 'b -> bool] [x:'a] [y:'b]\nassume 6\nterm cset.rep{'c} [d:'c cset] [z:'c] /\\ [s:'b -> 'c -> bool] [y:'b] [z:'c]\nassume 7\nconj_r 12\nconj_r 13\nconj_i 14 15\nterm ?x0:'b. [r:'a -> 'b -> bool] [x:'a] x0 /\\ [s:'b -> 'c -> bool] x0 [z:'c]\nterm [y:'b]\nex_i 8 9 16\nconj_l 13\nconj_i 18 17\nterm ?x0:'c. cset.rep{'c} [d:'c cset] x0 /\\ (?x1:'b. [r:'a -> 'b -> bool] [x:'a] x1 /\\ [s:'b -> 'c -> bool] x1 x0)\nterm [z:'c]\nex_i 10 11 19\nspec 9 10\nconj_l 12\nmp 21 22\nchoose 11 23 20\nterm [x:'a]\nspec 12 5\nmp 25 11\nchoose 9 26 24\ndisch 5 27\ngen 12 28\ndisch 0 29\nterm [d:'c cset]\ngen 13 30\nterm [w:'b cset]\ngen 14 31\nterm [c:'a cset]\ngen 15 32\nterm [s:'b -> 'c -> bool]\ngen 16 33\nterm [r:'a -> 'b -> bool]\ngen 17 34\n"

cset_rel_forwards_agrees : agree (table_sequent (base 49) [] nothing cset_rel_forwards) (fact_sequent facts.cset_rel_forwards) ≡ true
unfolding library_table
cset_rel_forwards_agrees = refl

pub cset_rel_forwards_proves : Proves (base 49) [] cset_rel_forwards facts.cset_rel_forwards
cset_rel_forwards_proves = proves cset_rel_forwards_agrees

abbrev cset_rel_backwards : Text
cset_rel_backwards = codes "term cset.rel{'a,'b} [r:'a -> 'b -> bool] [c:'a cset] [w:'b cset] /\\ cset.rel{'b,'c} [s:'b -> 'c -> bool] [w:'b cset] [d:'c cset]\nassume 0\nconj_l 0\ndef 48\nterm [v:('a -> 'b -> bool) -> 'a cset -> 'b cset -> bool]\nterm [v:('a -> 'b -> bool) -> 'a cset -> 'b cset -> bool] [r:'a -> 'b -> bool] [c:'a cset] [w:'b cset]\nsubst 1 2 2 1\nnorm 3\nconj_r 4\nconj_r 0\ntype 'b\ntype 'c\ninst_type 2 a 0 b 1\nterm [v:('b -> 'c -> bool) -> 'b cset -> 'c cset -> bool]\nterm [v:('b -> 'c -> bool) -> 'b cset -> 'c cset -> bool] [s:'b -> 'c -> bool] [w:'b cset] [d:'c cset]\nsubst 3 4 7 6\nnorm 8\nconj_r 9\nterm cset.rep{'c} [d:'c cset] [z:'c]\nassume 5\nterm cset.rep{'b} [w:'b cset] [y:'b] /\\ [s:'b -> 'c -> bool] [y:'b] [z:'c]\nassume 6\nterm cset.rep{'a} [c:'a cset] [x:'a] /\\ [r:'a -> 'b -> bool] [x:'a] [y:'b]\nassume 7\nconj_r 13\nconj_r 12\nconj_i 14 15\nterm ?x0:'b. [r:'a -> 'b -> bool] [x:'a] x0 /\\ [s:'b -> 'c -> bool] x0 [z:'c]\nterm [y:'b]\nex_i 8 9 16\nconj_l 13\nconj_i 18 17\nterm ?x0:'a. cset.rep{'a} [c:'a cset] x0 /\\ (?x1:'b. [r:'a -> 'b -> bool] x0 x1 /\\ [s:'b -> 'c -> bool] x1 [z:'c])\nterm [x:'a]\nex_i 10 11 19\nspec 9 5\nconj_l 12\nmp 21 22\nchoose 11 23 20\nterm [z:'c]\nspec 12 10\nmp 25 11\nchoose 9 26 24\ndisch 5 27\ngen 12 28\ndisch 0 29\nterm [d:'c cset]\ngen 13 30\nterm [w:'b cset]\ngen 14 31\nterm [c:'a cset]\ngen 15 32\nterm [s:'b -> 'c -> bool]\ngen 16 33\nterm [r:'a -> 'b -> bool]\ngen 17 34\n"

cset_rel_backwards_agrees : agree (table_sequent (base 49) [] nothing cset_rel_backwards) (fact_sequent facts.cset_rel_backwards) ≡ true
unfolding library_table
cset_rel_backwards_agrees = refl

pub cset_rel_backwards_proves : Proves (base 49) [] cset_rel_backwards facts.cset_rel_backwards
cset_rel_backwards_proves = proves cset_rel_backwards_agrees

abbrev cset_rel_comp : Text
cset_rel_comp = codes "term cset.rel{'a,'c} (\\x0:'a. \\x1:'c. ?x2:'b. [r:'a -> 'b -> bool] x0 x2 /\\ [s:'b -> 'c -> bool] x2 x1) [c:'a cset] [d:'c cset]\nassume 0\nterm [r:'a -> 'b -> bool]\nspec 1 0\nterm [s:'b -> 'c -> bool]\nspec 2 4\nterm [c:'a cset]\nspec 3 5\nterm [d:'c cset]\nspec 4 6\nmp 7 3\nterm cset.rel{'a,'b} [r:'a -> 'b -> bool] [c:'a cset] [w:'b cset] /\\ cset.rel{'b,'c} [s:'b -> 'c -> bool] [w:'b cset] [d:'c cset]\nassume 5\nspec 1 1\nspec 2 10\nspec 3 11\nterm [w:'b cset]\nspec 6 12\nspec 4 13\nmp 14 9\nspec 1 2\nspec 2 16\nspec 3 17\nspec 6 18\nspec 4 19\nmp 20 9\ndef 48\ntype 'c\ninst_type 22 b 0\nrewrite_all 0 23\nnorm 24\nconj_i 15 21\nsym 25\neq_mp 27 26\nterm ?x0:'b cset. cset.rel{'a,'b} [r:'a -> 'b -> bool] [c:'a cset] x0 /\\ cset.rel{'b,'c} [s:'b -> 'c -> bool] x0 [d:'c cset]\nassume 7\nchoose 6 29 28\ndeduct 30 8\ngen 4 31\ngen 3 32\ngen 2 33\ngen 1 34\n"

cset_rel_comp_agrees : agree (table_sequent (base 49) (facts.cset_rel_split ∷ facts.cset_rel_forwards ∷ facts.cset_rel_backwards ∷ []) nothing cset_rel_comp) (fact_sequent facts.cset_rel_comp) ≡ true
unfolding library_table
cset_rel_comp_agrees = refl

pub cset_rel_comp_proves : Proves (base 49) (facts.cset_rel_split ∷ facts.cset_rel_forwards ∷ facts.cset_rel_backwards ∷ []) cset_rel_comp facts.cset_rel_comp
cset_rel_comp_proves = proves cset_rel_comp_agrees
