-- Written by `python3 tools/library.py write` from the scripts of tools/library/.
-- What the tables give, and which base definitions are constants.
use Rattle.std.proofs.Common.{◌≡◌, true, refl, [], ◌∷◌, codes}
use Rattle.hol_terms.specs.Base.{base}
use Rattle.hol_terms.specs.Text.{Text}
use Rattle.script_core.specs.Tables.{fact_sequent, table_sequent}
use Rattle.library_steps.specs.Closed.{nothing, Proves}
use Rattle.library_steps.specs.Building.{IsConstantAt}
use Rattle.library_steps.proofs.Computed.{library_table, agree, proves, constant_at}
use Rattle.th_count.specs.Facts as facts

abbrev cset_rel_of_pairs : Text
cset_rel_of_pairs = codes "term cset.rep{('a,'b) prod} [w:('a,'b) prod cset] = (\\x0:('a,'b) prod. (cset.rep{'a} [c:'a cset] (fst{'a,'b} x0) /\\ cset.rep{'b} [d:'b cset] (snd{'a,'b} x0)) /\\ [r:'a -> 'b -> bool] (fst{'a,'b} x0) (snd{'a,'b} x0))\nassume 0\nterm cset.rel{'a,'b} [r:'a -> 'b -> bool] [c:'a cset] [d:'b cset]\nassume 1\nterm cset.rep{('a,'b) prod} [w:('a,'b) prod cset] [p:('a,'b) prod]\nassume 2\nterm [p:('a,'b) prod]\nrefl 3\ncomb 3 6\nnorm 7\neq_mp 8 5\nconj_r 9\ndisch 2 10\ngen 3 11\ntype ('a,'b) prod\ntype 'a\ninst_type 0 a 0 b 1\nterm fst{'a,'b}\nspec 4 13\nterm [w:('a,'b) prod cset]\nspec 5 14\nterm [c:'a cset]\nspec 6 15\nterm [v:('a,'b) prod -> bool]\nterm (!x0:'a. (?x1:('a,'b) prod. [v:('a,'b) prod -> bool] x1 /\\ (x0 = fst{'a,'b} x1)) = cset.rep{'a} [c:'a cset] x0) ==> (cset.map{('a,'b) prod,'a} fst{'a,'b} [w:('a,'b) prod cset] = [c:'a cset])\nsubst 7 8 3 16\nnorm 17\nterm [r:'a -> 'b -> bool]\nspec 9 1\nspec 6 19\nterm [d:'b cset]\nspec 10 20\nmp 21 4\nmp 18 22\ninst_type 0 a 0\nterm snd{'a,'b}\nspec 11 24\nspec 5 25\nspec 10 26\nterm (!x0:'b. (?x1:('a,'b) prod. [v:('a,'b) prod -> bool] x1 /\\ (x0 = snd{'a,'b} x1)) = cset.rep{'b} [d:'b cset] x0) ==> (cset.map{('a,'b) prod,'b} snd{'a,'b} [w:('a,'b) prod cset] = [d:'b cset])\nsubst 7 12 3 27\nnorm 28\nspec 9 2\nspec 6 30\nspec 10 31\nmp 32 4\nmp 29 33\nconj_i 23 34\nconj_i 12 35\ndisch 1 36\ndisch 0 37\ngen 5 38\ngen 10 39\ngen 6 40\ngen 9 41\n"

cset_rel_of_pairs_agrees : agree (table_sequent (base 49) (facts.cset_map_is ∷ facts.cset_rel_firsts ∷ facts.cset_rel_seconds ∷ []) nothing cset_rel_of_pairs) (fact_sequent facts.cset_rel_of_pairs) ≡ true
unfolding library_table
cset_rel_of_pairs_agrees = refl

pub cset_rel_of_pairs_proves : Proves (base 49) (facts.cset_map_is ∷ facts.cset_rel_firsts ∷ facts.cset_rel_seconds ∷ []) cset_rel_of_pairs facts.cset_rel_of_pairs
cset_rel_of_pairs_proves = proves cset_rel_of_pairs_agrees

abbrev cset_rel_in : Text
cset_rel_in = codes "term cset.rep{('a,'b) prod} [w:('a,'b) prod cset] = (\\x0:('a,'b) prod. (cset.rep{'a} [c:'a cset] (fst{'a,'b} x0) /\\ cset.rep{'b} [d:'b cset] (snd{'a,'b} x0)) /\\ [r:'a -> 'b -> bool] (fst{'a,'b} x0) (snd{'a,'b} x0))\nassume 0\nterm cset.rel{'a,'b} [r:'a -> 'b -> bool] [c:'a cset] [d:'b cset]\nassume 1\nterm [r:'a -> 'b -> bool]\nspec 2 0\nterm [c:'a cset]\nspec 3 6\nterm [d:'b cset]\nspec 4 7\nterm [w:('a,'b) prod cset]\nspec 5 8\nmp 9 4\nmp 10 5\nterm ?x0:('a,'b) prod cset. (!x1:('a,'b) prod. cset.rep{('a,'b) prod} x0 x1 ==> [r:'a -> 'b -> bool] (fst{'a,'b} x1) (snd{'a,'b} x1)) /\\ ((cset.map{('a,'b) prod,'a} fst{'a,'b} x0 = [c:'a cset]) /\\ (cset.map{('a,'b) prod,'b} snd{'a,'b} x0 = [d:'b cset]))\nex_i 6 5 11\nspec 2 1\nspec 3 13\nspec 4 14\nchoose 5 15 12\nterm (!x0:('a,'b) prod. cset.rep{('a,'b) prod} [w:('a,'b) prod cset] x0 ==> [r:'a -> 'b -> bool] (fst{'a,'b} x0) (snd{'a,'b} x0)) /\\ ((cset.map{('a,'b) prod,'a} fst{'a,'b} [w:('a,'b) prod cset] = [c:'a cset]) /\\ (cset.map{('a,'b) prod,'b} snd{'a,'b} [w:('a,'b) prod cset] = [d:'b cset]))\nassume 7\nconj_l 17\nconj_r 17\ntype 'a\ntype 'b\ntype ('a,'b) prod\ninst_type 2 b 0 c 1 a 2\nspec 2 20\nterm fst{'a,'b}\nspec 8 21\nterm snd{'a,'b}\nspec 9 22\nspec 5 23\nmp 24 18\nconj_l 19\nconj_r 19\nterm [v:'a cset]\nterm cset.rel{'a,'b} [r:'a -> 'b -> bool] [v:'a cset] (cset.map{('a,'b) prod,'b} snd{'a,'b} [w:('a,'b) prod cset])\nsubst 10 11 26 25\nterm [v:'b cset]\nterm cset.rel{'a,'b} [r:'a -> 'b -> bool] [c:'a cset] [v:'b cset]\nsubst 12 13 27 28\nassume 6\nchoose 5 30 29\nsym 3\ninst_type 32 a 2\ndeduct 31 16\ngen 4 34\ngen 3 35\ngen 2 36\nterm [v:('a,'b) prod cset -> ('a,'b) prod -> bool]\nterm !x0:'a -> 'b -> bool. !x1:'a cset. !x2:'b cset. cset.rel{'a,'b} x0 x1 x2 = (?x3:('a,'b) prod cset. (!x4:('a,'b) prod. [v:('a,'b) prod cset -> ('a,'b) prod -> bool] x3 x4 ==> x0 (fst{'a,'b} x4) (snd{'a,'b} x4)) /\\ ((cset.map{('a,'b) prod,'a} fst{'a,'b} x3 = x1) /\\ (cset.map{('a,'b) prod,'b} snd{'a,'b} x3 = x2)))\nsubst 14 15 33 37\n"

cset_rel_in_agrees : agree (table_sequent (base 49) (facts.cset_rel_of_pairs ∷ facts.cset_related_pairs ∷ facts.cset_maps_related ∷ facts.cset_set_is_rep ∷ []) nothing cset_rel_in) (fact_sequent facts.cset_rel_in) ≡ true
unfolding library_table
cset_rel_in_agrees = refl

pub cset_rel_in_proves : Proves (base 49) (facts.cset_rel_of_pairs ∷ facts.cset_related_pairs ∷ facts.cset_maps_related ∷ facts.cset_set_is_rep ∷ []) cset_rel_in facts.cset_rel_in
cset_rel_in_proves = proves cset_rel_in_agrees
