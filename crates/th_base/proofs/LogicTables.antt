-- Written by `python3 tools/library.py write` from the scripts of tools/library/.
-- What the tables give, and which base definitions are constants.
use Rattle.std.proofs.Common.{◌≡◌, true, refl, [], ◌∷◌, codes}
use Rattle.hol_terms.specs.Base.{base}
use Rattle.hol_terms.specs.Text.{Text}
use Rattle.script_core.specs.Tables.{fact_sequent, table_sequent}
use Rattle.library_steps.specs.Closed.{nothing, Proves}
use Rattle.library_steps.specs.Building.{IsConstantAt}
use Rattle.library_steps.proofs.Computed.{library_table, agree, proves, constant_at}
use Rattle.th_base.specs.Facts as facts

abbrev truth : Text
truth = codes "term T\nrefl 0\neqt_e 0\n"

truth_agrees : agree (table_sequent (base 10) [] nothing truth) (fact_sequent facts.truth) ≡ true
unfolding library_table
truth_agrees = refl

pub truth_proves : Proves (base 10) [] truth facts.truth
truth_proves = proves truth_agrees

abbrev extensionality : Text
extensionality = codes "term !x0:'a. [f:'a -> 'b] x0 = [g:'a -> 'b] x0\nassume 0\nterm [x:'a]\nspec 1 0\nabs 1 1\nterm \\x0:'a. [f:'a -> 'b] x0\neta_conv 2\nsym 3\nterm \\x0:'a. [g:'a -> 'b] x0\neta_conv 3\ntrans 4 2\ntrans 6 5\ndisch 0 7\nterm [g:'a -> 'b]\ngen 4 8\nterm [f:'a -> 'b]\ngen 5 9\n"

extensionality_agrees : agree (table_sequent (base 10) [] nothing extensionality) (fact_sequent facts.extensionality) ≡ true
unfolding library_table
extensionality_agrees = refl

pub extensionality_proves : Proves (base 10) [] extensionality facts.extensionality
extensionality_proves = proves extensionality_agrees

abbrev excluded_middle : Text
excluded_middle = codes "axiom 2\ntype bool\ninst_type 0 a 0\nterm \\x0:bool. (x0 = [c:bool]) \\/ [p:bool]\nspec 0 1\nterm [c:bool]\nspec 1 2\nnorm 3\nrefl 1\nterm [p:bool]\ndisj_l 5 2\nmp 4 6\nassume 2\nterm [y:bool] = F\ndisj_r 3 8\nterm [y:bool] = T\ndisj_r 4 8\ndeduct 9 10\nterm [y:bool]\nabs 5 11\nterm some{bool}\nrefl 6\ncomb 13 12\nterm some{bool} (\\x0:bool. (x0 = T) \\/ [p:bool]) = T\nassume 7\ntrans 14 15\nterm some{bool} (\\x0:bool. (x0 = F) \\/ [p:bool]) = F\nassume 8\neqt_e 16\neq_mp 17 18\ndisch 2 19\nnot_i 20\ndisj_r 2 21\nterm ~ [p:bool]\ndisj_l 8 9\nterm T\ninst 7 1 10\nterm F\ninst 7 1 11\ndisj_e 25 22 23\ndisj_e 24 26 23\ngen 2 27\n"

excluded_middle_agrees : agree (table_sequent (base 10) [] nothing excluded_middle) (fact_sequent facts.excluded_middle) ≡ true
unfolding library_table
excluded_middle_agrees = refl

pub excluded_middle_proves : Proves (base 10) [] excluded_middle facts.excluded_middle
excluded_middle_proves = proves excluded_middle_agrees

abbrev contradiction : Text
contradiction = codes "term (~ [p:bool]) ==> F\nassume 0\nterm ~ [p:bool]\nassume 1\nmp 1 2\ndef 6\neq_mp 4 3\nterm [p:bool]\nspec 2 5\nspec 2 0\nassume 2\ndisj_e 7 8 6\ndisch 0 9\ngen 2 10\n"

contradiction_agrees : agree (table_sequent (base 10) (facts.excluded_middle ∷ []) nothing contradiction) (fact_sequent facts.contradiction) ≡ true
unfolding library_table
contradiction_agrees = refl

pub contradiction_proves : Proves (base 10) (facts.excluded_middle ∷ []) contradiction facts.contradiction
contradiction_proves = proves contradiction_agrees

abbrev double_negation : Text
double_negation = codes "term [p:bool]\nspec 0 0\nterm ~ (~ [p:bool])\nassume 1\nnot_e 2\nmp 1 3\nterm ~ [p:bool]\nassume 2\nassume 0\nnot_e 5\nmp 7 6\ndisch 2 8\nnot_i 9\ndeduct 10 4\ngen 0 11\n"

double_negation_agrees : agree (table_sequent (base 10) (facts.contradiction ∷ []) nothing double_negation) (fact_sequent facts.double_negation) ≡ true
unfolding library_table
double_negation_agrees = refl

pub double_negation_proves : Proves (base 10) (facts.contradiction ∷ []) double_negation facts.double_negation
double_negation_proves = proves double_negation_agrees

abbrev not_disj : Text
not_disj = codes "term ~ ([p:bool] \\/ [q:bool])\nassume 0\nterm [p:bool]\nassume 1\nterm [q:bool]\ndisj_l 1 2\nnot_e 0\nmp 3 2\ndisch 1 4\nnot_i 5\nassume 2\ndisj_r 1 7\nmp 3 8\ndisch 2 9\nnot_i 10\nterm (~ [p:bool]) /\\ (~ [q:bool])\nassume 3\nterm [p:bool] \\/ [q:bool]\nassume 4\nconj_l 12\nnot_e 14\nmp 15 1\nconj_r 12\nnot_e 17\nmp 18 7\ndisj_e 13 16 19\nconj_i 6 11\ndisch 4 20\nnot_i 22\ndeduct 23 21\ngen 2 24\ngen 1 25\n"

not_disj_agrees : agree (table_sequent (base 10) [] nothing not_disj) (fact_sequent facts.not_disj) ≡ true
unfolding library_table
not_disj_agrees = refl

pub not_disj_proves : Proves (base 10) [] not_disj facts.not_disj
not_disj_proves = proves not_disj_agrees

abbrev not_conj : Text
not_conj = codes "term ~ [p:bool]\nspec 0 0\nterm ~ [q:bool]\nspec 1 2\nterm [p:bool]\nspec 2 1\nterm [q:bool]\nspec 3 1\nterm [v:bool]\nterm (~ ((~ [p:bool]) \\/ (~ [q:bool]))) = ([v:bool] /\\ (~ (~ [q:bool])))\nsubst 4 5 4 3\nterm (~ ((~ [p:bool]) \\/ (~ [q:bool]))) = ([p:bool] /\\ [v:bool])\nsubst 4 6 5 6\nterm not\nrefl 7\ncomb 8 7\nsym 9\nterm (~ [p:bool]) \\/ (~ [q:bool])\nspec 8 1\ntrans 10 11\ngen 3 12\ngen 2 13\n"

not_conj_agrees : agree (table_sequent (base 10) (facts.not_disj ∷ facts.double_negation ∷ []) nothing not_conj) (fact_sequent facts.not_conj) ≡ true
unfolding library_table
not_conj_agrees = refl

pub not_conj_proves : Proves (base 10) (facts.not_disj ∷ facts.double_negation ∷ []) not_conj facts.not_conj
not_conj_proves = proves not_conj_agrees

abbrev imp_as_disj : Text
imp_as_disj = codes "term [p:bool] ==> [q:bool]\nassume 0\nterm [p:bool]\nassume 1\nmp 1 2\nterm ~ [p:bool]\ndisj_r 2 3\nspec 1 0\nassume 2\nterm [q:bool]\ndisj_l 6 3\ndisj_e 5 4 7\nnot_e 6\nmp 9 2\ndef 6\neq_mp 11 10\nspec 3 12\nterm (~ [p:bool]) \\/ [q:bool]\nassume 4\nassume 3\ndisj_e 14 13 15\ndisch 1 16\ndeduct 17 8\ngen 3 18\ngen 1 19\n"

imp_as_disj_agrees : agree (table_sequent (base 10) (facts.excluded_middle ∷ []) nothing imp_as_disj) (fact_sequent facts.imp_as_disj) ≡ true
unfolding library_table
imp_as_disj_agrees = refl

pub imp_as_disj_proves : Proves (base 10) (facts.excluded_middle ∷ []) imp_as_disj facts.imp_as_disj
imp_as_disj_proves = proves imp_as_disj_agrees

abbrev not_imp : Text
not_imp = codes "term [p:bool]\nspec 0 0\nterm [q:bool]\nspec 1 3\nterm not\nrefl 2\ncomb 5 4\nterm ~ [p:bool]\nspec 3 1\nspec 1 7\ntrans 6 8\nspec 0 2\nterm [v:bool]\nterm (~ ([p:bool] ==> [q:bool])) = ([v:bool] /\\ (~ [q:bool]))\nsubst 4 5 10 9\ngen 1 11\ngen 0 12\n"

not_imp_agrees : agree (table_sequent (base 10) (facts.imp_as_disj ∷ facts.not_disj ∷ facts.double_negation ∷ []) nothing not_imp) (fact_sequent facts.not_imp) ≡ true
unfolding library_table
not_imp_agrees = refl

pub not_imp_proves : Proves (base 10) (facts.imp_as_disj ∷ facts.not_disj ∷ facts.double_negation ∷ []) not_imp facts.not_imp
not_imp_proves = proves not_imp_agrees

abbrev not_ex : Text
not_ex = codes "term [P:'a -> bool] [x:'a]\nassume 0\nterm ~ (?x0:'a. [P:'a -> bool] x0)\nassume 1\nterm ?x0:'a. [P:'a -> bool] x0\nterm [x:'a]\nex_i 2 3 0\nnot_e 1\nmp 3 2\ndisch 0 4\nnot_i 5\ngen 3 6\nterm !x0:'a. ~ [P:'a -> bool] x0\nassume 4\nspec 3 8\nnot_e 9\nmp 10 0\nassume 2\nchoose 3 12 11\ndisch 2 13\nnot_i 14\ndeduct 15 7\nterm [P:'a -> bool]\ngen 5 16\n"

not_ex_agrees : agree (table_sequent (base 10) [] nothing not_ex) (fact_sequent facts.not_ex) ≡ true
unfolding library_table
not_ex_agrees = refl

pub not_ex_proves : Proves (base 10) [] not_ex facts.not_ex
not_ex_proves = proves not_ex_agrees

abbrev not_all : Text
not_all = codes "term \\x0:'a. ~ [P:'a -> bool] x0\nspec 0 0\nnorm 2\nterm [P:'a -> bool] [x:'a]\nspec 1 1\nterm [x:'a]\nabs 2 4\nterm all{'a}\nrefl 3\ncomb 6 5\ntrans 3 7\nterm not\nrefl 4\ncomb 9 8\nsym 10\nterm ?x0:'a. ~ [P:'a -> bool] x0\nspec 5 1\ntrans 11 12\nterm [P:'a -> bool]\ngen 6 13\n"

not_all_agrees : agree (table_sequent (base 10) (facts.not_ex ∷ facts.double_negation ∷ []) nothing not_all) (fact_sequent facts.not_all) ≡ true
unfolding library_table
not_all_agrees = refl

pub not_all_proves : Proves (base 10) (facts.not_ex ∷ facts.double_negation ∷ []) not_all facts.not_all
not_all_proves = proves not_all_agrees

abbrev not_as_equation : Text
not_as_equation = codes "term ~ [p:bool]\nassume 0\nterm [p:bool]\nassume 1\nnot_e 0\nmp 2 1\nterm F\nassume 2\ndef 6\neq_mp 5 4\nspec 1 6\ndeduct 7 3\nterm [p:bool] = F\nassume 3\neq_mp 9 1\ndisch 1 10\nnot_i 11\ndeduct 12 8\ngen 1 13\n"

not_as_equation_agrees : agree (table_sequent (base 10) [] nothing not_as_equation) (fact_sequent facts.not_as_equation) ≡ true
unfolding library_table
not_as_equation_agrees = refl

pub not_as_equation_proves : Proves (base 10) [] not_as_equation facts.not_as_equation
not_as_equation_proves = proves not_as_equation_agrees

abbrev functions_differ : Text
functions_differ = codes "term [f:'a -> 'b] = [g:'a -> 'b]\nassume 0\nterm [x:'a]\nrefl 1\ncomb 2 3\ngen 1 4\nterm [f:'a -> 'b]\nspec 2 0\nterm [g:'a -> 'b]\nspec 3 6\nterm !x0:'a. [f:'a -> 'b] x0 = [g:'a -> 'b] x0\nassume 4\nmp 7 8\ndeduct 9 5\nterm not\nrefl 5\ncomb 11 10\nterm \\x0:'a. [f:'a -> 'b] x0 = [g:'a -> 'b] x0\nspec 6 1\nnorm 13\ntrans 12 14\ngen 3 15\ngen 2 16\n"

functions_differ_agrees : agree (table_sequent (base 10) (facts.extensionality ∷ facts.not_all ∷ []) nothing functions_differ) (fact_sequent facts.functions_differ) ≡ true
unfolding library_table
functions_differ_agrees = refl

pub functions_differ_proves : Proves (base 10) (facts.extensionality ∷ facts.not_all ∷ []) functions_differ facts.functions_differ
functions_differ_proves = proves functions_differ_agrees

abbrev truth_values_differ : Text
truth_values_differ = codes "term [p:bool] = [q:bool]\nassume 0\nterm [p:bool]\nassume 1\neq_mp 2 3\ndisch 1 4\nterm [q:bool]\nassume 2\nsym 2\neq_mp 7 6\ndisch 2 8\nterm ([p:bool] ==> [q:bool]) /\\ ([q:bool] ==> [p:bool])\nassume 3\nconj_r 10\nmp 11 6\nconj_l 10\nmp 13 3\ndeduct 12 14\nconj_i 5 9\ndeduct 15 16\nterm not\nrefl 4\ncomb 18 17\nterm [p:bool] ==> [q:bool]\nspec 5 0\nterm [q:bool] ==> [p:bool]\nspec 6 20\ntrans 19 21\nterm [q:bool] /\\ [r:bool]\nassume 7\nconj_r 23\nconj_l 23\nconj_i 24 25\nterm [r:bool]\nterm ~ [p:bool]\ninst 26 8 9\ninst 26 2 9 8 2\ndeduct 28 27\nspec 1 1\nspec 2 30\nspec 2 1\nspec 1 32\nterm [v:bool]\nterm (~ ([p:bool] = [q:bool])) = ([v:bool] \\/ (~ ([q:bool] ==> [p:bool])))\nsubst 10 11 31 22\nterm (~ ([p:bool] = [q:bool])) = (([p:bool] /\\ (~ [q:bool])) \\/ [v:bool])\nsubst 10 12 33 34\nsubst 10 12 29 35\ngen 2 36\ngen 1 37\n"

truth_values_differ_agrees : agree (table_sequent (base 10) (facts.not_conj ∷ facts.not_imp ∷ []) nothing truth_values_differ) (fact_sequent facts.truth_values_differ) ≡ true
unfolding library_table
truth_values_differ_agrees = refl

pub truth_values_differ_proves : Proves (base 10) (facts.not_conj ∷ facts.not_imp ∷ []) truth_values_differ facts.truth_values_differ
truth_values_differ_proves = proves truth_values_differ_agrees

abbrev some_holds : Text
some_holds = codes "axiom 2\nterm [P:'a -> bool]\nspec 0 0\nterm [x:'a]\nspec 1 1\nterm [P:'a -> bool] [x:'a]\nassume 2\nmp 2 3\nterm ?x0:'a. [P:'a -> bool] x0\nassume 3\nchoose 1 5 4\ndisch 3 6\ngen 0 7\n"

some_holds_agrees : agree (table_sequent (base 10) [] nothing some_holds) (fact_sequent facts.some_holds) ≡ true
unfolding library_table
some_holds_agrees = refl

pub some_holds_proves : Proves (base 10) [] some_holds facts.some_holds
some_holds_proves = proves some_holds_agrees

abbrev choice : Text
choice = codes "term !x0:'a. ?x1:'b. [R:'a -> 'b -> bool] x0 x1\nassume 0\ntype 'b\ninst_type 0 a 0\nterm [R:'a -> 'b -> bool] [x:'a]\nspec 1 2\nterm [x:'a]\nspec 2 1\nmp 3 4\ngen 2 5\nterm !x0:'a. [R:'a -> 'b -> bool] x0 ((\\x1:'a. some{'b} ([R:'a -> 'b -> bool] x1)) x0)\nbeta_norm 3\nsym 7\neq_mp 8 6\nterm ?x0:'a -> 'b. !x1:'a. [R:'a -> 'b -> bool] x1 (x0 x1)\nterm \\x0:'a. some{'b} ([R:'a -> 'b -> bool] x0)\nex_i 4 5 9\ndisch 0 10\nterm [R:'a -> 'b -> bool]\ngen 6 11\n"

choice_agrees : agree (table_sequent (base 10) (facts.some_holds ∷ []) nothing choice) (fact_sequent facts.choice) ≡ true
unfolding library_table
choice_agrees = refl

pub choice_proves : Proves (base 10) (facts.some_holds ∷ []) choice facts.choice
choice_proves = proves choice_agrees

abbrev choice_on : Text
choice_on = codes "term !x0:'a. [S:'a -> bool] x0 ==> (?x1:'b. [R:'a -> 'b -> bool] x0 x1)\nassume 0\ntype 'b\ninst_type 0 a 0\nterm [R:'a -> 'b -> bool] [x:'a]\nspec 1 2\nterm [x:'a]\nspec 2 1\nterm [S:'a -> bool] [x:'a]\nassume 3\nmp 4 5\nmp 3 6\ndisch 3 7\ngen 2 8\nterm !x0:'a. [S:'a -> bool] x0 ==> [R:'a -> 'b -> bool] x0 ((\\x1:'a. some{'b} ([R:'a -> 'b -> bool] x1)) x0)\nbeta_norm 4\nsym 10\neq_mp 11 9\nterm ?x0:'a -> 'b. !x1:'a. [S:'a -> bool] x1 ==> [R:'a -> 'b -> bool] x1 (x0 x1)\nterm \\x0:'a. some{'b} ([R:'a -> 'b -> bool] x0)\nex_i 5 6 12\ndisch 0 13\nterm [R:'a -> 'b -> bool]\ngen 7 14\nterm [S:'a -> bool]\ngen 8 15\n"

choice_on_agrees : agree (table_sequent (base 10) (facts.some_holds ∷ []) nothing choice_on) (fact_sequent facts.choice_on) ≡ true
unfolding library_table
choice_on_agrees = refl

pub choice_on_proves : Proves (base 10) (facts.some_holds ∷ []) choice_on facts.choice_on
choice_on_proves = proves choice_on_agrees

abbrev unique_choice : Text
unique_choice = codes "term [P:'a -> bool] [a:'a]\nassume 0\nterm !x0:'a. [P:'a -> bool] x0 ==> (x0 = [a:'a])\nassume 1\naxiom 2\nterm [P:'a -> bool]\nspec 2 2\nterm [a:'a]\nspec 3 3\nmp 4 0\nterm some{'a} [P:'a -> bool]\nspec 4 1\nmp 6 5\ndisch 1 7\ndisch 0 8\ngen 3 9\ngen 2 10\n"

unique_choice_agrees : agree (table_sequent (base 10) [] nothing unique_choice) (fact_sequent facts.unique_choice) ≡ true
unfolding library_table
unique_choice_agrees = refl

pub unique_choice_proves : Proves (base 10) [] unique_choice facts.unique_choice
unique_choice_proves = proves unique_choice_agrees

pub constant_10 : IsConstantAt 10
unfolding library_table
constant_10 = constant_at refl

abbrev identity : Text
identity = codes "def 10\nterm id{'a} [x:'a]\nrewrite_all 0 0\nnorm 1\nterm [x:'a]\ngen 1 2\n"

identity_agrees : agree (table_sequent (base 11) [] nothing identity) (fact_sequent facts.identity) ≡ true
unfolding library_table
identity_agrees = refl

pub identity_proves : Proves (base 11) [] identity facts.identity
identity_proves = proves identity_agrees

pub constant_11 : IsConstantAt 11
unfolding library_table
constant_11 = constant_at refl

abbrev if_true : Text
if_true = codes "term [c:bool]\nassume 0\nterm \\x0:'a. (([c:bool] = T) ==> (x0 = [x:'a])) /\\ (([c:bool] = F) ==> (x0 = [y:'a]))\nspec 1 0\nterm [x:'a]\nspec 2 2\nnorm 3\nrefl 2\nterm [c:bool] = T\ndisch 3 5\nterm [c:bool] = F\nassume 4\neq_mp 7 1\ndef 6\neq_mp 9 8\nterm [x:'a] = [y:'a]\nspec 5 10\ndisch 4 11\nterm (([c:bool] = T) ==> ([z:'a] = [x:'a])) /\\ (([c:bool] = F) ==> ([z:'a] = [y:'a]))\nassume 6\nconj_l 13\neqt_i 1\nmp 14 15\ndisch 6 16\nterm [z:'a]\ngen 7 17\nconj_i 6 12\nmp 4 19\nmp 20 18\ndef 11\nterm if{'a} [c:bool] [x:'a] [y:'a]\nrewrite_all 8 22\nnorm 23\ntrans 24 21\ndisch 0 25\nterm [y:'a]\ngen 9 26\ngen 2 27\ngen 0 28\n"

if_true_agrees : agree (table_sequent (base 12) (facts.unique_choice ∷ []) nothing if_true) (fact_sequent facts.if_true) ≡ true
unfolding library_table
if_true_agrees = refl

pub if_true_proves : Proves (base 12) (facts.unique_choice ∷ []) if_true facts.if_true
if_true_proves = proves if_true_agrees

abbrev if_false : Text
if_false = codes "term ~ [c:bool]\nassume 0\nterm \\x0:'a. (([c:bool] = T) ==> (x0 = [x:'a])) /\\ (([c:bool] = F) ==> (x0 = [y:'a]))\nspec 1 0\nterm [y:'a]\nspec 2 3\nnorm 4\nterm [c:bool] = T\nassume 3\neqt_e 6\nnot_e 2\nmp 8 7\ndef 6\neq_mp 10 9\nterm [y:'a] = [x:'a]\nspec 4 11\ndisch 3 12\nrefl 2\nterm [c:bool] = F\ndisch 5 14\nterm (([c:bool] = T) ==> ([z:'a] = [x:'a])) /\\ (([c:bool] = F) ==> ([z:'a] = [y:'a]))\nassume 6\nterm [c:bool]\nspec 7 1\neq_mp 17 2\nconj_r 16\nmp 19 18\ndisch 6 20\nterm [z:'a]\ngen 8 21\nconj_i 13 15\nmp 5 23\nmp 24 22\ndef 11\nterm if{'a} [c:bool] [x:'a] [y:'a]\nrewrite_all 9 26\nnorm 27\ntrans 28 25\ndisch 0 29\ngen 2 30\nterm [x:'a]\ngen 10 31\ngen 7 32\n"

if_false_agrees : agree (table_sequent (base 12) (facts.unique_choice ∷ facts.not_as_equation ∷ []) nothing if_false) (fact_sequent facts.if_false) ≡ true
unfolding library_table
if_false_agrees = refl

pub if_false_proves : Proves (base 12) (facts.unique_choice ∷ facts.not_as_equation ∷ []) if_false facts.if_false
if_false_proves = proves if_false_agrees
