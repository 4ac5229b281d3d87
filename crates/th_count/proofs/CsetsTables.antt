-- Written by `python3 tools/library.py write` from the scripts of tools/library/.
-- What the tables give, and which base definitions are constants.
use Rattle.std.proofs.Common.{◌≡◌, true, refl, [], ◌∷◌, codes}
use Rattle.hol_terms.specs.Base.{base}
use Rattle.hol_terms.specs.Text.{Text}
use Rattle.script_core.specs.Tables.{fact_sequent, table_sequent}
use Rattle.library_steps.specs.Closed.{nothing, Proves}
use Rattle.library_steps.specs.Building.{IsConstantAt, IsTypeAt}
use Rattle.library_steps.proofs.Computed.{library_table, agree, proves, constant_at, new_type_at}
use Rattle.th_count.specs.Facts as facts
use Rattle.th_base.specs.Facts as th_base

abbrev cset_inhabited : Text
cset_inhabited = codes "term F\nassume 0\ndef 6\neq_mp 1 0\nterm F ==> (([k:'a -> num] [x:'a] = [k:'a -> num] [y:'a]) ==> ([x:'a] = [y:'a]))\nspec 1 2\ndisch 0 3\nterm [y:'a]\ngen 2 4\nterm [x:'a]\ngen 3 5\nterm ?x0:'a -> num. !x1:'a. !x2:'a. F ==> (F ==> ((x0 x1 = x0 x2) ==> (x1 = x2)))\nterm [k:'a -> num]\nex_i 4 5 6\ndef 43\nterm countable{'a} (\\x0:'a. F)\nrewrite_all 6 8\nnorm 9\nsym 10\neq_mp 11 7\n"

pub cset_inhabited_shows : IsTypeAt 44 cset_inhabited
unfolding library_table
cset_inhabited_shows = new_type_at refl

abbrev cset_abs_rep : Text
cset_abs_rep = codes "type_abs 44\nterm [a:'a cset]\ngen 0 0\n"

cset_abs_rep_agrees : agree (table_sequent (base 45) [] nothing cset_abs_rep) (fact_sequent facts.cset_abs_rep) ≡ true
unfolding library_table
cset_abs_rep_agrees = refl

pub cset_abs_rep_proves : Proves (base 45) [] cset_abs_rep facts.cset_abs_rep
cset_abs_rep_proves = proves cset_abs_rep_agrees

abbrev cset_rep_abs : Text
cset_rep_abs = codes "type_rep 44\nterm [r:'a -> bool]\ngen 0 0\n"

cset_rep_abs_agrees : agree (table_sequent (base 45) [] nothing cset_rep_abs) (fact_sequent facts.cset_rep_abs) ≡ true
unfolding library_table
cset_rep_abs_agrees = refl

pub cset_rep_abs_proves : Proves (base 45) [] cset_rep_abs facts.cset_rep_abs
cset_rep_abs_proves = proves cset_rep_abs_agrees

abbrev cset_countable : Text
cset_countable = codes "term [c:'a cset]\nspec 0 0\nterm cset.rep{'a}\nrefl 1\ncomb 3 2\nterm cset.rep{'a} [c:'a cset]\nspec 2 1\nsym 5\neq_mp 6 4\ngen 0 7\n"

cset_countable_agrees : agree (table_sequent (base 45) (facts.cset_abs_rep ∷ facts.cset_rep_abs ∷ []) nothing cset_countable) (fact_sequent facts.cset_countable) ≡ true
unfolding library_table
cset_countable_agrees = refl

pub cset_countable_proves : Proves (base 45) (facts.cset_abs_rep ∷ facts.cset_rep_abs ∷ []) cset_countable facts.cset_countable
cset_countable_proves = proves cset_countable_agrees

abbrev cset_extensionality : Text
cset_extensionality = codes "term !x0:'a. cset.rep{'a} [c:'a cset] x0 = cset.rep{'a} [d:'a cset] x0\nassume 0\ntype bool\ninst_type 0 b 0\nterm cset.rep{'a} [c:'a cset]\nspec 1 3\nterm cset.rep{'a} [d:'a cset]\nspec 2 4\nmp 5 2\nterm cset.abs{'a}\nrefl 3\ncomb 7 6\nterm [c:'a cset]\nspec 4 1\nsym 9\nterm [d:'a cset]\nspec 5 1\ntrans 10 8\ntrans 12 11\ndisch 0 13\ngen 5 14\ngen 4 15\n"

cset_extensionality_agrees : agree (table_sequent (base 45) (th_base.extensionality ∷ facts.cset_abs_rep ∷ []) nothing cset_extensionality) (fact_sequent facts.cset_extensionality) ≡ true
unfolding library_table
cset_extensionality_agrees = refl

pub cset_extensionality_proves : Proves (base 45) (th_base.extensionality ∷ facts.cset_abs_rep ∷ []) cset_extensionality facts.cset_extensionality
cset_extensionality_proves = proves cset_extensionality_agrees

abbrev cset_member : Text
cset_member = codes "term [s:'a -> bool]\nspec 0 0\nterm countable{'a} [s:'a -> bool]\nassume 1\neq_mp 1 2\nterm [x:'a]\nrefl 2\ncomb 3 4\ngen 2 5\ndisch 1 6\ngen 0 7\n"

cset_member_agrees : agree (table_sequent (base 45) (facts.cset_rep_abs ∷ []) nothing cset_member) (fact_sequent facts.cset_member) ≡ true
unfolding library_table
cset_member_agrees = refl

pub cset_member_proves : Proves (base 45) (facts.cset_rep_abs ∷ []) cset_member facts.cset_member
cset_member_proves = proves cset_member_agrees

pub constant_45 : IsConstantAt 45
unfolding library_table
constant_45 = constant_at refl

pub constant_46 : IsConstantAt 46
unfolding library_table
constant_46 = constant_at refl

abbrev cset_map_member : Text
cset_map_member = codes "term cset.rep{'a} [c:'a cset]\nspec 0 0\nterm [f:'a -> 'b]\nspec 1 3\nterm [c:'a cset]\nspec 2 1\nmp 4 5\ntype 'b\ninst_type 2 a 0\nterm \\x0:'b. ?x1:'a. cset.rep{'a} [c:'a cset] x1 /\\ (x0 = [f:'a -> 'b] x1)\nspec 3 7\nmp 8 6\nterm [y:'b]\nspec 4 9\nnorm 10\ndef 46\nterm cset.map{'a,'b} [f:'a -> 'b] [c:'a cset]\nrewrite_all 5 12\nnorm 13\nsym 14\nterm [v:'b cset]\nterm cset.rep{'b} [v:'b cset] [y:'b] = (?x0:'a. cset.rep{'a} [c:'a cset] x0 /\\ ([y:'b] = [f:'a -> 'b] x0))\nsubst 6 7 15 11\ngen 4 16\ngen 2 17\ngen 1 18\n"

cset_map_member_agrees : agree (table_sequent (base 47) (facts.countable_image ∷ facts.cset_countable ∷ facts.cset_member ∷ []) nothing cset_map_member) (fact_sequent facts.cset_map_member) ≡ true
unfolding library_table
cset_map_member_agrees = refl

pub cset_map_member_proves : Proves (base 47) (facts.countable_image ∷ facts.cset_countable ∷ facts.cset_member ∷ []) cset_map_member facts.cset_map_member
cset_map_member_proves = proves cset_map_member_agrees

abbrev cset_map_is : Text
cset_map_is = codes "term !x0:'b. (?x1:'a. cset.rep{'a} [c:'a cset] x1 /\\ (x0 = [f:'a -> 'b] x1)) = cset.rep{'b} [d:'b cset] x0\nassume 0\nterm [f:'a -> 'b]\nspec 1 0\nterm [c:'a cset]\nspec 2 3\nterm [y:'b]\nspec 3 4\nspec 3 2\ntrans 5 6\ngen 3 7\ntype 'b\ninst_type 1 a 0\nterm cset.map{'a,'b} [f:'a -> 'b] [c:'a cset]\nspec 4 9\nterm [d:'b cset]\nspec 5 10\nmp 11 8\ndisch 0 12\ngen 5 13\ngen 2 14\ngen 1 15\n"

cset_map_is_agrees : agree (table_sequent (base 47) (facts.cset_map_member ∷ facts.cset_extensionality ∷ []) nothing cset_map_is) (fact_sequent facts.cset_map_is) ≡ true
unfolding library_table
cset_map_is_agrees = refl

pub cset_map_is_proves : Proves (base 47) (facts.cset_map_member ∷ facts.cset_extensionality ∷ []) cset_map_is facts.cset_map_is
cset_map_is_proves = proves cset_map_is_agrees

abbrev cset_map_exists : Text
cset_map_exists = codes "term cset.rep{'b} (cset.map{'a,'b} [f:'a -> 'b] [c:'a cset]) [y:'b] /\\ [P:'b -> bool] [y:'b]\nassume 0\nterm cset.rep{'a} [c:'a cset] [x:'a] /\\ ([y:'b] = [f:'a -> 'b] [x:'a])\nassume 1\nconj_l 2\nconj_r 1\nconj_r 2\nterm [v:'b]\nterm [P:'b -> bool] [v:'b]\nsubst 2 3 5 4\nconj_i 3 6\nterm ?x0:'a. cset.rep{'a} [c:'a cset] x0 /\\ [P:'b -> bool] ([f:'a -> 'b] x0)\nterm [x:'a]\nex_i 4 5 7\nterm [f:'a -> 'b]\nspec 6 0\nterm [c:'a cset]\nspec 7 9\nterm [y:'b]\nspec 8 10\nconj_l 1\neq_mp 11 12\nchoose 5 13 8\nterm ?x0:'b. cset.rep{'b} (cset.map{'a,'b} [f:'a -> 'b] [c:'a cset]) x0 /\\ [P:'b -> bool] x0\nassume 9\nchoose 8 15 14\nterm cset.rep{'a} [c:'a cset] [x:'a] /\\ [P:'b -> bool] ([f:'a -> 'b] [x:'a])\nassume 10\nconj_l 17\nterm [f:'a -> 'b] [x:'a]\nrefl 11\nconj_i 18 19\nterm ?x0:'a. cset.rep{'a} [c:'a cset] x0 /\\ ([f:'a -> 'b] [x:'a] = [f:'a -> 'b] x0)\nex_i 12 5 20\nspec 11 10\nsym 22\neq_mp 23 21\nconj_r 17\nconj_i 24 25\nex_i 9 11 26\nassume 4\nchoose 5 28 27\ndeduct 29 16\nterm [P:'b -> bool]\ngen 13 30\ngen 7 31\ngen 6 32\n"

cset_map_exists_agrees : agree (table_sequent (base 47) (facts.cset_map_member ∷ []) nothing cset_map_exists) (fact_sequent facts.cset_map_exists) ≡ true
unfolding library_table
cset_map_exists_agrees = refl

pub cset_map_exists_proves : Proves (base 47) (facts.cset_map_member ∷ []) cset_map_exists facts.cset_map_exists
cset_map_exists_proves = proves cset_map_exists_agrees

abbrev cset_map_id : Text
cset_map_id = codes "term cset.rep{'a} [c:'a cset] [x:'a] /\\ ([y:'a] = id{'a} [x:'a])\nassume 0\nconj_r 2\nterm [x:'a]\nspec 1 0\ntrans 3 4\nconj_l 2\nsym 5\nterm [v:'a]\nterm cset.rep{'a} [c:'a cset] [v:'a]\nsubst 2 3 7 6\nterm ?x0:'a. cset.rep{'a} [c:'a cset] x0 /\\ ([y:'a] = id{'a} x0)\nassume 4\nchoose 1 9 8\nterm cset.rep{'a} [c:'a cset] [y:'a]\nassume 5\nterm [y:'a]\nspec 6 0\nsym 12\nconj_i 11 13\nex_i 4 6 14\ndeduct 15 10\ngen 6 16\ntype 'a\ninst_type 1 b 0\nterm id{'a}\nspec 7 18\nterm [c:'a cset]\nspec 8 19\nspec 8 20\nmp 21 17\ngen 8 22\n"

cset_map_id_agrees : agree (table_sequent (base 47) (th_base.identity ∷ facts.cset_map_is ∷ []) nothing cset_map_id) (fact_sequent facts.cset_map_id) ≡ true
unfolding library_table
cset_map_id_agrees = refl

pub cset_map_id_proves : Proves (base 47) (th_base.identity ∷ facts.cset_map_is ∷ []) cset_map_id facts.cset_map_id
cset_map_id_proves = proves cset_map_id_agrees

abbrev cset_map_comp : Text
cset_map_comp = codes "term [f:'a -> 'b]\nspec 0 0\nterm [c:'a cset]\nspec 1 3\nterm \\x0:'b. [z:'c] = [g:'b -> 'c] x0\nspec 2 4\nnorm 5\ntype 'c\ninst_type 1 b 0\nterm \\x0:'a. [g:'b -> 'c] ([f:'a -> 'b] x0)\nspec 3 7\nspec 1 8\nterm [z:'c]\nspec 4 9\nnorm 10\nsym 11\ntrans 6 12\ngen 4 13\ntype 'b\ninst_type 2 a 1 b 0\nterm [g:'b -> 'c]\nspec 5 15\nterm cset.map{'a,'b} [f:'a -> 'b] [c:'a cset]\nspec 6 16\nterm cset.map{'a,'c} (\\x0:'a. [g:'b -> 'c] ([f:'a -> 'b] x0)) [c:'a cset]\nspec 7 17\nmp 18 14\ngen 1 19\ngen 5 20\ngen 0 21\n"

cset_map_comp_agrees : agree (table_sequent (base 47) (facts.cset_map_exists ∷ facts.cset_map_member ∷ facts.cset_map_is ∷ []) nothing cset_map_comp) (fact_sequent facts.cset_map_comp) ≡ true
unfolding library_table
cset_map_comp_agrees = refl

pub cset_map_comp_proves : Proves (base 47) (facts.cset_map_exists ∷ facts.cset_map_member ∷ facts.cset_map_is ∷ []) cset_map_comp facts.cset_map_comp
cset_map_comp_proves = proves cset_map_comp_agrees

pub constant_47 : IsConstantAt 47
unfolding library_table
constant_47 = constant_at refl

abbrev cset_set_is_rep : Text
cset_set_is_rep = codes "def 47\nterm \\x0:'a cset. cset.rep{'a} x0\neta_conv 0\ntrans 0 1\n"

cset_set_is_rep_agrees : agree (table_sequent (base 48) [] nothing cset_set_is_rep) (fact_sequent facts.cset_set_is_rep) ≡ true
unfolding library_table
cset_set_is_rep_agrees = refl

pub cset_set_is_rep_proves : Proves (base 48) [] cset_set_is_rep facts.cset_set_is_rep
cset_set_is_rep_proves = proves cset_set_is_rep_agrees

abbrev cset_set_member : Text
cset_set_member = codes "def 47\nterm cset.set1{'a} [c:'a cset] [x:'a]\nrewrite_all 0 0\nnorm 1\nterm [x:'a]\ngen 1 2\nterm [c:'a cset]\ngen 2 3\n"

cset_set_member_agrees : agree (table_sequent (base 48) [] nothing cset_set_member) (fact_sequent facts.cset_set_member) ≡ true
unfolding library_table
cset_set_member_agrees = refl

pub cset_set_member_proves : Proves (base 48) [] cset_set_member facts.cset_set_member
cset_set_member_proves = proves cset_set_member_agrees

abbrev cset_set_map : Text
cset_set_map = codes "sym 0\ntype 'b\ninst_type 2 a 0\nterm [v:'a cset -> 'a -> bool]\nterm !x0:'a -> 'b. !x1:'a cset. !x2:'b. cset.rep{'b} (cset.map{'a,'b} x0 x1) x2 = (?x3:'a. [v:'a cset -> 'a -> bool] x1 x3 /\\ (x2 = x0 x3))\nsubst 0 1 2 1\nterm [v:'b cset -> 'b -> bool]\nterm !x0:'a -> 'b. !x1:'a cset. !x2:'b. [v:'b cset -> 'b -> bool] (cset.map{'a,'b} x0 x1) x2 = (?x3:'a. cset.set1{'a} x1 x3 /\\ (x2 = x0 x3))\nsubst 2 3 3 4\n"

cset_set_map_agrees : agree (table_sequent (base 48) (facts.cset_set_is_rep ∷ facts.cset_map_member ∷ []) nothing cset_set_map) (fact_sequent facts.cset_set_map) ≡ true
unfolding library_table
cset_set_map_agrees = refl

pub cset_set_map_proves : Proves (base 48) (facts.cset_set_is_rep ∷ facts.cset_map_member ∷ []) cset_set_map facts.cset_set_map
cset_set_map_proves = proves cset_set_map_agrees

abbrev cset_set_count : Text
cset_set_count = codes "sym 1\nterm [v:'a cset -> 'a -> bool]\nterm !x0:'a cset. countable{'a} ([v:'a cset -> 'a -> bool] x0)\nsubst 0 1 2 0\n"

cset_set_count_agrees : agree (table_sequent (base 48) (facts.cset_countable ∷ facts.cset_set_is_rep ∷ []) nothing cset_set_count) (fact_sequent facts.cset_set_count) ≡ true
unfolding library_table
cset_set_count_agrees = refl

pub cset_set_count_proves : Proves (base 48) (facts.cset_countable ∷ facts.cset_set_is_rep ∷ []) cset_set_count facts.cset_set_count
cset_set_count_proves = proves cset_set_count_agrees

abbrev cset_map_cong : Text
cset_map_cong = codes "term !x0:'a. cset.set1{'a} [c:'a cset] x0 ==> ([f:'a -> 'b] x0 = [g:'a -> 'b] x0)\nassume 0\nterm [v:'a cset -> 'a -> bool]\nterm !x0:'a. [v:'a cset -> 'a -> bool] [c:'a cset] x0 ==> ([f:'a -> 'b] x0 = [g:'a -> 'b] x0)\nsubst 1 2 0 3\nterm [x:'a]\nspec 3 4\nterm cset.rep{'a} [c:'a cset] [x:'a] /\\ ([y:'b] = [f:'a -> 'b] [x:'a])\nassume 4\nterm cset.rep{'a} [c:'a cset] [x:'a] /\\ ([y:'b] = [g:'a -> 'b] [x:'a])\nassume 5\nconj_l 6\nmp 5 8\nterm [v:'b]\nterm cset.rep{'a} [c:'a cset] [x:'a] /\\ ([y:'b] = [v:'b])\nsubst 6 7 9 6\nconj_l 7\nmp 5 11\nsym 12\nsubst 6 7 13 7\ndeduct 14 10\nabs 3 15\nterm ex{'a}\nrefl 8\ncomb 17 16\nterm [g:'a -> 'b]\nspec 9 1\nterm [c:'a cset]\nspec 10 19\nterm [y:'b]\nspec 11 20\nsym 21\ntrans 18 22\ngen 11 23\nterm [f:'a -> 'b]\nspec 12 2\nspec 10 25\nterm cset.map{'a,'b} [g:'a -> 'b] [c:'a cset]\nspec 13 26\nmp 27 24\ndisch 0 28\ngen 10 29\ngen 9 30\ngen 12 31\n"

cset_map_cong_agrees : agree (table_sequent (base 48) (facts.cset_set_is_rep ∷ facts.cset_map_member ∷ facts.cset_map_is ∷ []) nothing cset_map_cong) (fact_sequent facts.cset_map_cong) ≡ true
unfolding library_table
cset_map_cong_agrees = refl

pub cset_map_cong_proves : Proves (base 48) (facts.cset_set_is_rep ∷ facts.cset_map_member ∷ facts.cset_map_is ∷ []) cset_map_cong facts.cset_map_cong
cset_map_cong_proves = proves cset_map_cong_agrees
