-- Written by `python3 tools/library.py write` from the scripts of tools/library/.
-- What the tables give, and which base definitions are constants.
use Rattle.std.proofs.Common.{◌≡◌, true, refl, [], ◌∷◌, codes}
use Rattle.hol_terms.specs.Base.{base}
use Rattle.hol_terms.specs.Text.{Text}
use Rattle.script_core.specs.Tables.{fact_sequent, table_sequent}
use Rattle.library_steps.specs.Closed.{nothing, Proves}
use Rattle.library_steps.specs.Building.{IsConstantAt, IsTypeAt}
use Rattle.library_steps.proofs.Computed.{library_table, agree, proves, constant_at, new_type_at}
use Rattle.th_base.specs.Facts as facts

abbrev unit_inhabited : Text
unit_inhabited = codes "term (\\x0:bool. x0) T\nbeta_norm 0\neqt_e 0\n"

pub unit_inhabited_shows : IsTypeAt 12 unit_inhabited
unfolding library_table
unit_inhabited_shows = new_type_at refl

abbrev unit_abs_rep : Text
unit_abs_rep = codes "type_abs 12\nterm [a:unit]\ngen 0 0\n"

unit_abs_rep_agrees : agree (table_sequent (base 13) [] nothing unit_abs_rep) (fact_sequent facts.unit_abs_rep) ≡ true
unfolding library_table
unit_abs_rep_agrees = refl

pub unit_abs_rep_proves : Proves (base 13) [] unit_abs_rep facts.unit_abs_rep
unit_abs_rep_proves = proves unit_abs_rep_agrees

abbrev unit_rep_abs : Text
unit_rep_abs = codes "type_rep 12\nterm [r:bool]\ngen 0 0\nnorm 1\n"

unit_rep_abs_agrees : agree (table_sequent (base 13) [] nothing unit_rep_abs) (fact_sequent facts.unit_rep_abs) ≡ true
unfolding library_table
unit_rep_abs_agrees = refl

pub unit_rep_abs_proves : Proves (base 13) [] unit_rep_abs facts.unit_rep_abs
unit_rep_abs_proves = proves unit_rep_abs_agrees

abbrev unit_equal : Text
unit_equal = codes "term [u:unit]\nspec 0 0\nterm unit.rep [u:unit]\nspec 1 1\nterm unit.rep\nrefl 2\ncomb 4 2\nsym 3\neq_mp 6 5\neqt_i 7\nsym 2\nterm unit.abs\nrefl 3\ncomb 10 8\ntrans 9 11\nterm [v:unit]\ninst 12 0 4\nsym 13\ntrans 12 14\ngen 4 15\ngen 0 16\n"

unit_equal_agrees : agree (table_sequent (base 13) (facts.unit_abs_rep ∷ facts.unit_rep_abs ∷ []) nothing unit_equal) (fact_sequent facts.unit_equal) ≡ true
unfolding library_table
unit_equal_agrees = refl

pub unit_equal_proves : Proves (base 13) (facts.unit_abs_rep ∷ facts.unit_rep_abs ∷ []) unit_equal facts.unit_equal
unit_equal_proves = proves unit_equal_agrees

pub constant_13 : IsConstantAt 13
unfolding library_table
constant_13 = constant_at refl

pub constant_14 : IsConstantAt 14
unfolding library_table
constant_14 = constant_at refl

abbrev prod_inhabited : Text
prod_inhabited = codes "term prod.graph{'a,'b} [x:'a] [y:'b]\nrefl 0\nterm ?x0:'b. prod.graph{'a,'b} [x:'a] [y:'b] = prod.graph{'a,'b} [x:'a] x0\nterm [y:'b]\nex_i 1 2 0\nterm ?x0:'a. ?x1:'b. prod.graph{'a,'b} [x:'a] [y:'b] = prod.graph{'a,'b} x0 x1\nterm [x:'a]\nex_i 3 4 1\nterm (\\x0:'a -> 'b -> bool. ?x1:'a. ?x2:'b. x0 = prod.graph{'a,'b} x1 x2) (prod.graph{'a,'b} [x:'a] [y:'b])\nbeta_norm 5\nsym 3\neq_mp 4 2\n"

pub prod_inhabited_shows : IsTypeAt 15 prod_inhabited
unfolding library_table
prod_inhabited_shows = new_type_at refl

abbrev prod_abs_rep : Text
prod_abs_rep = codes "type_abs 15\nterm [a:('a,'b) prod]\ngen 0 0\n"

prod_abs_rep_agrees : agree (table_sequent (base 16) [] nothing prod_abs_rep) (fact_sequent facts.prod_abs_rep) ≡ true
unfolding library_table
prod_abs_rep_agrees = refl

pub prod_abs_rep_proves : Proves (base 16) [] prod_abs_rep facts.prod_abs_rep
prod_abs_rep_proves = proves prod_abs_rep_agrees

abbrev prod_rep_abs : Text
prod_rep_abs = codes "type_rep 15\nterm [r:'a -> 'b -> bool]\ngen 0 0\nnorm 1\n"

prod_rep_abs_agrees : agree (table_sequent (base 16) [] nothing prod_rep_abs) (fact_sequent facts.prod_rep_abs) ≡ true
unfolding library_table
prod_rep_abs_agrees = refl

pub prod_rep_abs_proves : Proves (base 16) [] prod_rep_abs facts.prod_rep_abs
prod_rep_abs_proves = proves prod_rep_abs_agrees

pub constant_16 : IsConstantAt 16
unfolding library_table
constant_16 = constant_at refl

pub constant_17 : IsConstantAt 17
unfolding library_table
constant_17 = constant_at refl

pub constant_18 : IsConstantAt 18
unfolding library_table
constant_18 = constant_at refl

abbrev pair_rep : Text
pair_rep = codes "term prod.graph{'a,'b} [x:'a] [y:'b]\nrefl 0\nterm ?x0:'b. prod.graph{'a,'b} [x:'a] [y:'b] = prod.graph{'a,'b} [x:'a] x0\nterm [y:'b]\nex_i 1 2 1\nterm ?x0:'a. ?x1:'b. prod.graph{'a,'b} [x:'a] [y:'b] = prod.graph{'a,'b} x0 x1\nterm [x:'a]\nex_i 3 4 2\nspec 0 0\neq_mp 4 3\ndef 16\nterm pair{'a,'b} [x:'a] [y:'b]\nrewrite_all 5 6\nnorm 7\nterm prod.rep{'a,'b}\nrefl 6\ncomb 9 8\ntrans 10 5\ngen 2 11\ngen 4 12\n"

pair_rep_agrees : agree (table_sequent (base 19) (facts.prod_rep_abs ∷ []) nothing pair_rep) (fact_sequent facts.pair_rep) ≡ true
unfolding library_table
pair_rep_agrees = refl

pub pair_rep_proves : Proves (base 19) (facts.prod_rep_abs ∷ []) pair_rep facts.pair_rep
pair_rep_proves = proves pair_rep_agrees

abbrev pair_injective : Text
pair_injective = codes "term pair{'a,'b} [x:'a] [y:'b] = pair{'a,'b} [z:'a] [w:'b]\nassume 0\nterm [x:'a]\nspec 1 0\nterm [y:'b]\nspec 2 2\nterm [v:('a,'b) prod]\nterm prod.rep{'a,'b} [v:('a,'b) prod] = prod.graph{'a,'b} [x:'a] [y:'b]\nsubst 3 4 1 3\nsym 4\nterm [z:'a]\nspec 5 0\nterm [w:'b]\nspec 6 6\ntrans 5 7\nrefl 1\ncomb 8 9\nrefl 2\ncomb 10 11\ndef 14\nterm [v:'a -> 'b -> 'a -> 'b -> bool]\nterm [v:'a -> 'b -> 'a -> 'b -> bool] [x:'a] [y:'b] [x:'a] [y:'b] = [v:'a -> 'b -> 'a -> 'b -> bool] [z:'a] [w:'b] [x:'a] [y:'b]\nsubst 7 8 13 12\nnorm 14\nconj_i 9 11\neq_mp 15 16\ndisch 0 17\ngen 6 18\ngen 5 19\ngen 2 20\ngen 1 21\n"

pair_injective_agrees : agree (table_sequent (base 19) (facts.pair_rep ∷ []) nothing pair_injective) (fact_sequent facts.pair_injective) ≡ true
unfolding library_table
pair_injective_agrees = refl

pub pair_injective_proves : Proves (base 19) (facts.pair_rep ∷ []) pair_injective facts.pair_injective
pair_injective_proves = proves pair_injective_agrees

abbrev pair_exhausts : Text
pair_exhausts = codes "term [p:('a,'b) prod]\nspec 0 0\nterm prod.rep{'a,'b} [p:('a,'b) prod]\nspec 1 1\nterm prod.rep{'a,'b}\nrefl 2\ncomb 4 2\nsym 3\neq_mp 6 5\nterm prod.rep{'a,'b} [p:('a,'b) prod] = prod.graph{'a,'b} [x:'a] [y:'b]\nassume 3\nterm prod.abs{'a,'b}\nrefl 4\ncomb 9 8\nsym 2\ndef 16\nterm pair{'a,'b} [x:'a] [y:'b]\nrewrite_all 5 12\nnorm 13\nsym 14\ntrans 11 10\ntrans 16 15\nterm ?x0:'b. [p:('a,'b) prod] = pair{'a,'b} [x:'a] x0\nterm [y:'b]\nex_i 6 7 17\nterm ?x0:'a. ?x1:'b. [p:('a,'b) prod] = pair{'a,'b} x0 x1\nterm [x:'a]\nex_i 8 9 18\nterm ?x0:'b. prod.rep{'a,'b} [p:('a,'b) prod] = prod.graph{'a,'b} [x:'a] x0\nassume 10\nchoose 7 20 19\nchoose 9 7 21\ngen 0 22\n"

pair_exhausts_agrees : agree (table_sequent (base 19) (facts.prod_abs_rep ∷ facts.prod_rep_abs ∷ []) nothing pair_exhausts) (fact_sequent facts.pair_exhausts) ≡ true
unfolding library_table
pair_exhausts_agrees = refl

pub pair_exhausts_proves : Proves (base 19) (facts.prod_abs_rep ∷ facts.prod_rep_abs ∷ []) pair_exhausts facts.pair_exhausts
pair_exhausts_proves = proves pair_exhausts_agrees

abbrev fst_pair : Text
fst_pair = codes "def 17\nterm fst{'a,'b} (pair{'a,'b} [x:'a] [y:'b])\nrewrite_all 0 2\nnorm 3\nterm \\x0:'a. ?x1:'b. pair{'a,'b} [x:'a] [y:'b] = pair{'a,'b} x0 x1\nspec 1 0\nterm [x:'a]\nspec 2 5\nnorm 6\nterm pair{'a,'b} [x:'a] [y:'b]\nrefl 3\nterm ?x0:'b. pair{'a,'b} [x:'a] [y:'b] = pair{'a,'b} [x:'a] x0\nterm [y:'b]\nex_i 4 5 8\nspec 2 1\nspec 5 10\nterm [a:'a]\nspec 6 11\nterm [b:'b]\nspec 7 12\nterm pair{'a,'b} [x:'a] [y:'b] = pair{'a,'b} [a:'a] [b:'b]\nassume 8\nmp 13 14\nconj_l 15\nsym 16\nterm ?x0:'b. pair{'a,'b} [x:'a] [y:'b] = pair{'a,'b} [a:'a] x0\nassume 9\nchoose 7 18 17\ndisch 9 19\ngen 6 20\nmp 7 9\nmp 22 21\ntrans 4 23\ngen 5 24\ngen 2 25\n"

fst_pair_agrees : agree (table_sequent (base 19) (facts.unique_choice ∷ facts.pair_injective ∷ []) nothing fst_pair) (fact_sequent facts.fst_pair) ≡ true
unfolding library_table
fst_pair_agrees = refl

pub fst_pair_proves : Proves (base 19) (facts.unique_choice ∷ facts.pair_injective ∷ []) fst_pair facts.fst_pair
fst_pair_proves = proves fst_pair_agrees

abbrev snd_pair : Text
snd_pair = codes "def 18\nterm snd{'a,'b} (pair{'a,'b} [x:'a] [y:'b])\nrewrite_all 0 2\nnorm 3\ntype 'b\ninst_type 0 a 0\nterm \\x0:'b. ?x1:'a. pair{'a,'b} [x:'a] [y:'b] = pair{'a,'b} x1 x0\nspec 1 5\nterm [y:'b]\nspec 2 6\nnorm 7\nterm pair{'a,'b} [x:'a] [y:'b]\nrefl 3\nterm ?x0:'a. pair{'a,'b} [x:'a] [y:'b] = pair{'a,'b} x0 [y:'b]\nterm [x:'a]\nex_i 4 5 9\nspec 5 1\nspec 2 11\nterm [a:'a]\nspec 6 12\nterm [b:'b]\nspec 7 13\nterm pair{'a,'b} [x:'a] [y:'b] = pair{'a,'b} [a:'a] [b:'b]\nassume 8\nmp 14 15\nconj_r 16\nsym 17\nterm ?x0:'a. pair{'a,'b} [x:'a] [y:'b] = pair{'a,'b} x0 [b:'b]\nassume 9\nchoose 6 19 18\ndisch 9 20\ngen 7 21\nmp 8 10\nmp 23 22\ntrans 4 24\ngen 2 25\ngen 5 26\n"

snd_pair_agrees : agree (table_sequent (base 19) (facts.unique_choice ∷ facts.pair_injective ∷ []) nothing snd_pair) (fact_sequent facts.snd_pair) ≡ true
unfolding library_table
snd_pair_agrees = refl

pub snd_pair_proves : Proves (base 19) (facts.unique_choice ∷ facts.pair_injective ∷ []) snd_pair facts.snd_pair
snd_pair_proves = proves snd_pair_agrees

abbrev pair_of_components : Text
pair_of_components = codes "term [x:'a]\nspec 0 0\nterm [y:'b]\nspec 1 3\nterm pair{'a,'b}\nrefl 2\ncomb 5 4\nspec 0 1\nspec 1 7\ncomb 6 8\nterm [p:('a,'b) prod] = pair{'a,'b} [x:'a] [y:'b]\nassume 3\nsym 10\nterm [v:('a,'b) prod]\nterm pair{'a,'b} (fst{'a,'b} [v:('a,'b) prod]) (snd{'a,'b} [v:('a,'b) prod]) = [v:('a,'b) prod]\nsubst 4 5 11 9\nterm [p:('a,'b) prod]\nspec 6 2\nterm ?x0:'b. [p:('a,'b) prod] = pair{'a,'b} [x:'a] x0\nassume 7\nchoose 1 14 12\nchoose 0 13 15\ngen 6 16\n"

pair_of_components_agrees : agree (table_sequent (base 19) (facts.fst_pair ∷ facts.snd_pair ∷ facts.pair_exhausts ∷ []) nothing pair_of_components) (fact_sequent facts.pair_of_components) ≡ true
unfolding library_table
pair_of_components_agrees = refl

pub pair_of_components_proves : Proves (base 19) (facts.fst_pair ∷ facts.snd_pair ∷ facts.pair_exhausts ∷ []) pair_of_components facts.pair_of_components
pair_of_components_proves = proves pair_of_components_agrees

pub constant_19 : IsConstantAt 19
unfolding library_table
constant_19 = constant_at refl

pub constant_20 : IsConstantAt 20
unfolding library_table
constant_20 = constant_at refl

pub constant_21 : IsConstantAt 21
unfolding library_table
constant_21 = constant_at refl

pub constant_22 : IsConstantAt 22
unfolding library_table
constant_22 = constant_at refl
