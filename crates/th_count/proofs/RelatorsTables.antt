-- Written by `python3 tools/library.py write` from the scripts of tools/library/.
-- What the tables give, and which base definitions are constants.
use Rattle.std.proofs.Common.{◌≡◌, true, refl, [], ◌∷◌, codes}
use Rattle.hol_terms.specs.Base.{base}
use Rattle.hol_terms.specs.Text.{Text}
use Rattle.script_core.specs.Tables.{fact_sequent, table_sequent}
use Rattle.library_steps.specs.Closed.{nothing, Proves}
use Rattle.library_steps.specs.Building.{IsConstantAt}
use Rattle.library_steps.proofs.Computed.{library_table, agree, proves, constant_at}
use Rattle.th_count.specs.Facts as facts
use Rattle.th_base.specs.Facts as th_base

pub constant_48 : IsConstantAt 48
unfolding library_table
constant_48 = constant_at refl

abbrev cset_maps_relate_each : Text
cset_maps_relate_each = codes "term !x0:'a. cset.rep{'a} [w:'a cset] x0 ==> [r:'b -> 'c -> bool] ([f:'a -> 'b] x0) ([g:'a -> 'c] x0)\nassume 0\nterm cset.rep{'a} [w:'a cset] [p:'a] /\\ ([x:'b] = [f:'a -> 'b] [p:'a])\nassume 1\nterm [p:'a]\nspec 2 2\nconj_l 3\nmp 4 5\nconj_r 3\nsym 7\nterm [v:'b]\nterm [r:'b -> 'c -> bool] [v:'b] ([g:'a -> 'c] [p:'a])\nsubst 3 4 8 6\nconj_i 5 9\nterm ?x0:'a. cset.rep{'a} [w:'a cset] x0 /\\ [r:'b -> 'c -> bool] [x:'b] ([g:'a -> 'c] x0)\nex_i 5 2 10\nterm cset.rep{'b} (cset.map{'a,'b} [f:'a -> 'b] [w:'a cset]) [x:'b]\nassume 6\nterm [f:'a -> 'b]\nspec 7 0\nterm [w:'a cset]\nspec 8 13\nterm [x:'b]\nspec 9 14\neq_mp 15 12\nchoose 2 16 11\ntype 'c\ninst_type 1 b 0\nterm [g:'a -> 'c]\nspec 10 18\nspec 8 19\nterm [r:'b -> 'c -> bool] [x:'b]\nspec 11 20\nsym 21\neq_mp 22 17\ndisch 6 23\ngen 9 24\ndisch 0 25\ngen 8 26\ngen 10 27\ngen 7 28\nterm [r:'b -> 'c -> bool]\ngen 12 29\n"

cset_maps_relate_each_agrees : agree (table_sequent (base 49) (facts.cset_map_member ∷ facts.cset_map_exists ∷ []) nothing cset_maps_relate_each) (fact_sequent facts.cset_maps_relate_each) ≡ true
unfolding library_table
cset_maps_relate_each_agrees = refl

pub cset_maps_relate_each_proves : Proves (base 49) (facts.cset_map_member ∷ facts.cset_map_exists ∷ []) cset_maps_relate_each facts.cset_maps_relate_each
cset_maps_relate_each_proves = proves cset_maps_relate_each_agrees

abbrev cset_maps_related : Text
cset_maps_related = codes "term !x0:'a. cset.rep{'a} [w:'a cset] x0 ==> [r:'b -> 'c -> bool] ([f:'a -> 'b] x0) ([g:'a -> 'c] x0)\nassume 0\nterm [r:'b -> 'c -> bool]\nspec 1 0\nterm [f:'a -> 'b]\nspec 2 2\nterm [g:'a -> 'c]\nspec 3 3\nterm [w:'a cset]\nspec 4 4\nmp 5 1\ntype 'c\ntype 'b\ninst_type 0 b 0 c 1\nterm \\x0:'c. \\x1:'b. [r:'b -> 'c -> bool] x1 x0\nspec 5 7\nspec 3 8\nspec 2 9\nspec 4 10\nnorm 11\nmp 12 1\ndef 48\ninst_type 14 a 1 b 0\nterm cset.rel{'b,'c} [r:'b -> 'c -> bool] (cset.map{'a,'b} [f:'a -> 'b] [w:'a cset]) (cset.map{'a,'c} [g:'a -> 'c] [w:'a cset])\nrewrite_all 6 15\nnorm 16\nconj_i 6 13\nsym 17\neq_mp 19 18\ndisch 0 20\ngen 4 21\ngen 3 22\ngen 2 23\ngen 1 24\n"

cset_maps_related_agrees : agree (table_sequent (base 49) (facts.cset_maps_relate_each ∷ []) nothing cset_maps_related) (fact_sequent facts.cset_maps_related) ≡ true
unfolding library_table
cset_maps_related_agrees = refl

pub cset_maps_related_proves : Proves (base 49) (facts.cset_maps_relate_each ∷ []) cset_maps_related facts.cset_maps_related
cset_maps_related_proves = proves cset_maps_related_agrees

abbrev cset_related_pairs : Text
cset_related_pairs = codes "term cset.rep{'a} [c:'a cset]\nspec 0 0\nterm cset.rep{'b} [d:'b cset]\nspec 1 4\nterm [c:'a cset]\nspec 2 1\ntype 'b\ninst_type 1 a 0\nterm [d:'b cset]\nspec 3 7\nmp 5 6\nmp 9 8\ntype ('a,'b) prod\ninst_type 2 a 1\nterm \\x0:('a,'b) prod. (cset.rep{'a} [c:'a cset] (fst{'a,'b} x0) /\\ cset.rep{'b} [d:'b cset] (snd{'a,'b} x0)) /\\ [r:'a -> 'b -> bool] (fst{'a,'b} x0) (snd{'a,'b} x0)\nspec 4 11\nterm \\x0:('a,'b) prod. cset.rep{'a} [c:'a cset] (fst{'a,'b} x0) /\\ cset.rep{'b} [d:'b cset] (snd{'a,'b} x0)\nspec 5 12\nmp 13 10\nnorm 14\nterm (cset.rep{'a} [c:'a cset] (fst{'a,'b} [p:('a,'b) prod]) /\\ cset.rep{'b} [d:'b cset] (snd{'a,'b} [p:('a,'b) prod])) /\\ [r:'a -> 'b -> bool] (fst{'a,'b} [p:('a,'b) prod]) (snd{'a,'b} [p:('a,'b) prod])\nassume 6\nconj_l 16\ndisch 6 17\nterm [p:('a,'b) prod]\ngen 7 18\nmp 15 19\ninst_type 3 a 1\nspec 4 21\neq_mp 22 20\nterm ?x0:('a,'b) prod cset. cset.rep{('a,'b) prod} x0 = (\\x1:('a,'b) prod. (cset.rep{'a} [c:'a cset] (fst{'a,'b} x1) /\\ cset.rep{'b} [d:'b cset] (snd{'a,'b} x1)) /\\ [r:'a -> 'b -> bool] (fst{'a,'b} x1) (snd{'a,'b} x1))\nterm cset.abs{('a,'b) prod} (\\x0:('a,'b) prod. (cset.rep{'a} [c:'a cset] (fst{'a,'b} x0) /\\ cset.rep{'b} [d:'b cset] (snd{'a,'b} x0)) /\\ [r:'a -> 'b -> bool] (fst{'a,'b} x0) (snd{'a,'b} x0))\nex_i 8 9 23\ngen 3 24\ngen 2 25\nterm [r:'a -> 'b -> bool]\ngen 10 26\n"

cset_related_pairs_agrees : agree (table_sequent (base 49) (facts.countable_product ∷ facts.cset_countable ∷ facts.countable_subset ∷ facts.cset_rep_abs ∷ []) nothing cset_related_pairs) (fact_sequent facts.cset_related_pairs) ≡ true
unfolding library_table
cset_related_pairs_agrees = refl

pub cset_related_pairs_proves : Proves (base 49) (facts.countable_product ∷ facts.cset_countable ∷ facts.countable_subset ∷ facts.cset_rep_abs ∷ []) cset_related_pairs facts.cset_related_pairs
cset_related_pairs_proves = proves cset_related_pairs_agrees

abbrev cset_rel_firsts : Text
cset_rel_firsts = codes "term ((cset.rep{'a} [c:'a cset] (fst{'a,'b} [p:('a,'b) prod]) /\\ cset.rep{'b} [d:'b cset] (snd{'a,'b} [p:('a,'b) prod])) /\\ [r:'a -> 'b -> bool] (fst{'a,'b} [p:('a,'b) prod]) (snd{'a,'b} [p:('a,'b) prod])) /\\ ([x:'a] = fst{'a,'b} [p:('a,'b) prod])\nassume 0\nconj_l 2\nconj_l 3\nconj_l 4\nconj_r 2\nsym 6\nterm [v:'a]\nterm cset.rep{'a} [c:'a cset] [v:'a]\nsubst 1 2 7 5\nterm ?x0:('a,'b) prod. ((cset.rep{'a} [c:'a cset] (fst{'a,'b} x0) /\\ cset.rep{'b} [d:'b cset] (snd{'a,'b} x0)) /\\ [r:'a -> 'b -> bool] (fst{'a,'b} x0) (snd{'a,'b} x0)) /\\ ([x:'a] = fst{'a,'b} x0)\nassume 3\nterm [p:('a,'b) prod]\nchoose 4 9 8\nterm cset.rel{'a,'b} [r:'a -> 'b -> bool] [c:'a cset] [d:'b cset]\nassume 5\nterm cset.rep{'a} [c:'a cset] [x:'a]\nassume 6\nterm cset.rep{'b} [d:'b cset] [y:'b] /\\ [r:'a -> 'b -> bool] [x:'a] [y:'b]\nassume 7\nconj_l 13\nconj_i 12 14\nconj_r 13\nconj_i 15 16\nterm [x:'a]\nspec 8 0\nterm [y:'b]\nspec 9 18\nsym 19\nspec 8 1\nspec 9 21\nsym 22\nterm [w:'b]\nterm (cset.rep{'a} [c:'a cset] [x:'a] /\\ cset.rep{'b} [d:'b cset] [w:'b]) /\\ [r:'a -> 'b -> bool] [x:'a] [w:'b]\nsubst 10 11 23 17\nterm (cset.rep{'a} [c:'a cset] [v:'a] /\\ cset.rep{'b} [d:'b cset] (snd{'a,'b} (pair{'a,'b} [x:'a] [y:'b]))) /\\ [r:'a -> 'b -> bool] [v:'a] (snd{'a,'b} (pair{'a,'b} [x:'a] [y:'b]))\nsubst 1 12 20 24\nconj_i 25 20\nterm pair{'a,'b} [x:'a] [y:'b]\nex_i 3 13 26\ndef 48\nterm [v:('a -> 'b -> bool) -> 'a cset -> 'b cset -> bool]\nterm [v:('a -> 'b -> bool) -> 'a cset -> 'b cset -> bool] [r:'a -> 'b -> bool] [c:'a cset] [d:'b cset]\nsubst 14 15 28 11\nnorm 29\nconj_l 30\nspec 8 31\nmp 32 12\nchoose 9 33 27\ndeduct 34 10\ngen 8 35\ndisch 5 36\nterm [d:'b cset]\ngen 16 37\nterm [c:'a cset]\ngen 17 38\nterm [r:'a -> 'b -> bool]\ngen 18 39\n"

cset_rel_firsts_agrees : agree (table_sequent (base 49) (th_base.fst_pair ∷ th_base.snd_pair ∷ []) nothing cset_rel_firsts) (fact_sequent facts.cset_rel_firsts) ≡ true
unfolding library_table
cset_rel_firsts_agrees = refl

pub cset_rel_firsts_proves : Proves (base 49) (th_base.fst_pair ∷ th_base.snd_pair ∷ []) cset_rel_firsts facts.cset_rel_firsts
cset_rel_firsts_proves = proves cset_rel_firsts_agrees

abbrev cset_rel_seconds : Text
cset_rel_seconds = codes "term ((cset.rep{'a} [c:'a cset] (fst{'a,'b} [p:('a,'b) prod]) /\\ cset.rep{'b} [d:'b cset] (snd{'a,'b} [p:('a,'b) prod])) /\\ [r:'a -> 'b -> bool] (fst{'a,'b} [p:('a,'b) prod]) (snd{'a,'b} [p:('a,'b) prod])) /\\ ([y:'b] = snd{'a,'b} [p:('a,'b) prod])\nassume 0\nconj_l 2\nconj_l 3\nconj_r 4\nconj_r 2\nsym 6\nterm [v:'b]\nterm cset.rep{'b} [d:'b cset] [v:'b]\nsubst 1 2 7 5\nterm ?x0:('a,'b) prod. ((cset.rep{'a} [c:'a cset] (fst{'a,'b} x0) /\\ cset.rep{'b} [d:'b cset] (snd{'a,'b} x0)) /\\ [r:'a -> 'b -> bool] (fst{'a,'b} x0) (snd{'a,'b} x0)) /\\ ([y:'b] = snd{'a,'b} x0)\nassume 3\nterm [p:('a,'b) prod]\nchoose 4 9 8\nterm cset.rel{'a,'b} [r:'a -> 'b -> bool] [c:'a cset] [d:'b cset]\nassume 5\nterm cset.rep{'b} [d:'b cset] [y:'b]\nassume 6\nterm cset.rep{'a} [c:'a cset] [x:'a] /\\ [r:'a -> 'b -> bool] [x:'a] [y:'b]\nassume 7\nconj_l 13\nconj_i 14 12\nconj_r 13\nconj_i 15 16\nterm [x:'a]\nspec 8 0\nterm [y:'b]\nspec 9 18\nsym 19\nspec 8 1\nspec 9 21\nsym 22\nterm [w:'b]\nterm (cset.rep{'a} [c:'a cset] [x:'a] /\\ cset.rep{'b} [d:'b cset] [w:'b]) /\\ [r:'a -> 'b -> bool] [x:'a] [w:'b]\nsubst 10 11 23 17\nterm [v:'a]\nterm (cset.rep{'a} [c:'a cset] [v:'a] /\\ cset.rep{'b} [d:'b cset] (snd{'a,'b} (pair{'a,'b} [x:'a] [y:'b]))) /\\ [r:'a -> 'b -> bool] [v:'a] (snd{'a,'b} (pair{'a,'b} [x:'a] [y:'b]))\nsubst 12 13 20 24\nconj_i 25 23\nterm pair{'a,'b} [x:'a] [y:'b]\nex_i 3 14 26\ndef 48\nterm [v:('a -> 'b -> bool) -> 'a cset -> 'b cset -> bool]\nterm [v:('a -> 'b -> bool) -> 'a cset -> 'b cset -> bool] [r:'a -> 'b -> bool] [c:'a cset] [d:'b cset]\nsubst 15 16 28 11\nnorm 29\nconj_r 30\nspec 9 31\nmp 32 12\nchoose 8 33 27\ndeduct 34 10\ngen 9 35\ndisch 5 36\nterm [d:'b cset]\ngen 17 37\nterm [c:'a cset]\ngen 18 38\nterm [r:'a -> 'b -> bool]\ngen 19 39\n"

cset_rel_seconds_agrees : agree (table_sequent (base 49) (th_base.fst_pair ∷ th_base.snd_pair ∷ []) nothing cset_rel_seconds) (fact_sequent facts.cset_rel_seconds) ≡ true
unfolding library_table
cset_rel_seconds_agrees = refl

pub cset_rel_seconds_proves : Proves (base 49) (th_base.fst_pair ∷ th_base.snd_pair ∷ []) cset_rel_seconds facts.cset_rel_seconds
cset_rel_seconds_proves = proves cset_rel_seconds_agrees
