-- Written by `python3 tools/library.py write` from the scripts of tools/library/.
-- The facts of this library, in the order of proving.
use Rattle.std.specs.Prelude.{List, [], ◌∷◌, ◌++◌, codes}
use Rattle.hol_terms.specs.Text.{Text}

-- the truth value T holds
abbrev pub truth : Text
truth = codes "T"

-- functions that agree at each argument are equal
abbrev pub extensionality : Text
extensionality = codes "!x0:'a -> 'b. !x1:'a -> 'b. (!x2:'a. x0 x2 = x1 x2) ==> (x0 = x1)"

-- a truth value or its negation holds
abbrev pub excluded_middle : Text
excluded_middle = codes "!x0:bool. x0 \\/ (~ x0)"

-- what cannot be false holds
abbrev pub contradiction : Text
contradiction = codes "!x0:bool. ((~ x0) ==> F) ==> x0"

-- a truth value is its double negation
abbrev pub double_negation : Text
double_negation = codes "!x0:bool. (~ (~ x0)) = x0"

-- de Morgan: a disjunction fails where both of its sides do
abbrev pub not_disj : Text
not_disj = codes "!x0:bool. !x1:bool. (~ (x0 \\/ x1)) = ((~ x0) /\\ (~ x1))"

-- de Morgan: a conjunction fails where one of its sides does
abbrev pub not_conj : Text
not_conj = codes "!x0:bool. !x1:bool. (~ (x0 /\\ x1)) = ((~ x0) \\/ (~ x1))"

-- an implication holds where its premise fails or its conclusion holds
abbrev pub imp_as_disj : Text
imp_as_disj = codes "!x0:bool. !x1:bool. (x0 ==> x1) = ((~ x0) \\/ x1)"

-- an implication fails where its premise holds and its conclusion does not
abbrev pub not_imp : Text
not_imp = codes "!x0:bool. !x1:bool. (~ (x0 ==> x1)) = (x0 /\\ (~ x1))"

-- where there is none, all are not
abbrev pub not_ex : Text
not_ex = codes "!x0:'a -> bool. (~ (?x1:'a. x0 x1)) = (!x1:'a. ~ x0 x1)"

-- where not all are, there is one that is not
abbrev pub not_all : Text
not_all = codes "!x0:'a -> bool. (~ (!x1:'a. x0 x1)) = (?x1:'a. ~ x0 x1)"

-- a negation says that the truth value is F
abbrev pub not_as_equation : Text
not_as_equation = codes "!x0:bool. (~ x0) = (x0 = F)"

-- different functions differ at some argument
abbrev pub functions_differ : Text
functions_differ = codes "!x0:'a -> 'b. !x1:'a -> 'b. (~ (x0 = x1)) = (?x2:'a. ~ (x0 x2 = x1 x2))"

-- of two different truth values one holds and the other does not
abbrev pub truth_values_differ : Text
truth_values_differ = codes "!x0:bool. !x1:bool. (~ (x0 = x1)) = ((x0 /\\ (~ x1)) \\/ ((~ x0) /\\ x1))"

-- where there is one, the chosen one is
abbrev pub some_holds : Text
some_holds = codes "!x0:'a -> bool. (?x1:'a. x0 x1) ==> x0 (some{'a} x0)"

-- where each argument has a value, there is a function that chooses one
abbrev pub choice : Text
choice = codes "!x0:'a -> 'b -> bool. (!x1:'a. ?x2:'b. x0 x1 x2) ==> (?x1:'a -> 'b. !x2:'a. x0 x2 (x1 x2))"

-- the same for the arguments of a set
abbrev pub choice_on : Text
choice_on = codes "!x0:'a -> bool. !x1:'a -> 'b -> bool. (!x2:'a. x0 x2 ==> (?x3:'b. x1 x2 x3)) ==> (?x2:'a -> 'b. !x3:'a. x0 x3 ==> x1 x3 (x2 x3))"

-- the chosen one of a set with one element is that element
abbrev pub unique_choice : Text
unique_choice = codes "!x0:'a -> bool. !x1:'a. x0 x1 ==> ((!x2:'a. x0 x2 ==> (x2 = x1)) ==> (some{'a} x0 = x1))"

-- the identity gives its argument
abbrev pub identity : Text
identity = codes "!x0:'a. id{'a} x0 = x0"

-- a conditional gives its first value where its condition holds
abbrev pub if_true : Text
if_true = codes "!x0:bool. !x1:'a. !x2:'a. x0 ==> (if{'a} x0 x1 x2 = x1)"

-- a conditional gives its second value where its condition fails
abbrev pub if_false : Text
if_false = codes "!x0:bool. !x1:'a. !x2:'a. (~ x0) ==> (if{'a} x0 x1 x2 = x2)"

-- an element of unit is the one that its representation stands for
abbrev pub unit_abs_rep : Text
unit_abs_rep = codes "!x0:unit. unit.abs (unit.rep x0) = x0"

-- a truth value represents an element of unit where it holds
abbrev pub unit_rep_abs : Text
unit_rep_abs = codes "!x0:bool. x0 = (unit.rep (unit.abs x0) = x0)"

-- unit has one element
abbrev pub unit_equal : Text
unit_equal = codes "!x0:unit. !x1:unit. x0 = x1"

-- an element of a product is the one that its representation stands for
abbrev pub prod_abs_rep : Text
prod_abs_rep = codes "!x0:('a,'b) prod. prod.abs{'a,'b} (prod.rep{'a,'b} x0) = x0"

-- a relation represents an element of a product where it is the graph of a pair
abbrev pub prod_rep_abs : Text
prod_rep_abs = codes "!x0:'a -> 'b -> bool. (?x1:'a. ?x2:'b. x0 = prod.graph{'a,'b} x1 x2) = (prod.rep{'a,'b} (prod.abs{'a,'b} x0) = x0)"

-- a pair is represented by its graph
abbrev pub pair_rep : Text
pair_rep = codes "!x0:'a. !x1:'b. prod.rep{'a,'b} (pair{'a,'b} x0 x1) = prod.graph{'a,'b} x0 x1"

-- equal pairs have equal components
abbrev pub pair_injective : Text
pair_injective = codes "!x0:'a. !x1:'b. !x2:'a. !x3:'b. (pair{'a,'b} x0 x1 = pair{'a,'b} x2 x3) ==> ((x0 = x2) /\\ (x1 = x3))"

-- each element of a product is a pair
abbrev pub pair_exhausts : Text
pair_exhausts = codes "!x0:('a,'b) prod. ?x1:'a. ?x2:'b. x0 = pair{'a,'b} x1 x2"

-- the first component of a pair
abbrev pub fst_pair : Text
fst_pair = codes "!x0:'a. !x1:'b. fst{'a,'b} (pair{'a,'b} x0 x1) = x0"

-- the second component of a pair
abbrev pub snd_pair : Text
snd_pair = codes "!x0:'a. !x1:'b. snd{'a,'b} (pair{'a,'b} x0 x1) = x1"

-- an element of a product is the pair of its components
abbrev pub pair_of_components : Text
pair_of_components = codes "!x0:('a,'b) prod. pair{'a,'b} (fst{'a,'b} x0) (snd{'a,'b} x0) = x0"

-- an element of a sum is the one that its representation stands for
abbrev pub sum_abs_rep : Text
sum_abs_rep = codes "!x0:('a,'b) sum. sum.abs{'a,'b} (sum.rep{'a,'b} x0) = x0"

-- a relation represents an element of a sum where it is that of a left or a right value
abbrev pub sum_rep_abs : Text
sum_rep_abs = codes "!x0:bool -> 'a -> 'b -> bool. ((?x1:'a. x0 = sum.left{'a,'b} x1) \\/ (?x1:'b. x0 = sum.right{'b,'a} x1)) = (sum.rep{'a,'b} (sum.abs{'a,'b} x0) = x0)"

-- how a left value is represented
abbrev pub inl_rep : Text
inl_rep = codes "!x0:'a. sum.rep{'a,'b} (inl{'a,'b} x0) = sum.left{'a,'b} x0"

-- how a right value is represented
abbrev pub inr_rep : Text
inr_rep = codes "!x0:'b. sum.rep{'a,'b} (inr{'b,'a} x0) = sum.right{'b,'a} x0"

-- equal left values have equal contents
abbrev pub inl_injective : Text
inl_injective = codes "!x0:'a. !x1:'a. (inl{'a,'b} x0 = inl{'a,'b} x1) ==> (x0 = x1)"

-- equal right values have equal contents
abbrev pub inr_injective : Text
inr_injective = codes "!x0:'b. !x1:'b. (inr{'b,'a} x0 = inr{'b,'a} x1) ==> (x0 = x1)"

-- a left value is no right value
abbrev pub inl_not_inr : Text
inl_not_inr = codes "!x0:'a. !x1:'b. ~ (inl{'a,'b} x0 = inr{'b,'a} x1)"

-- a right value is no left value
abbrev pub inr_not_inl : Text
inr_not_inl = codes "!x0:'a. !x1:'b. ~ (inr{'b,'a} x1 = inl{'a,'b} x0)"

-- each element of a sum is a left or a right value
abbrev pub inl_or_inr : Text
inl_or_inr = codes "!x0:('a,'b) sum. (?x1:'a. x0 = inl{'a,'b} x1) \\/ (?x1:'b. x0 = inr{'b,'a} x1)"

-- case analysis of a left value
abbrev pub case_inl : Text
case_inl = codes "!x0:'a -> 'b. !x1:'c -> 'b. !x2:'a. sum.case{'a,'b,'c} x0 x1 (inl{'a,'c} x2) = x0 x2"

-- case analysis of a right value
abbrev pub case_inr : Text
case_inr = codes "!x0:'a -> 'b. !x1:'c -> 'b. !x2:'c. sum.case{'a,'b,'c} x0 x1 (inr{'c,'a} x2) = x1 x2"

-- on logic, choice, the identity and the conditional
abbrev pub logic_facts : List Text
logic_facts =
    truth
    ∷ extensionality
    ∷ excluded_middle
    ∷ contradiction
    ∷ double_negation
    ∷ not_disj
    ∷ not_conj
    ∷ imp_as_disj
    ∷ not_imp
    ∷ not_ex
    ∷ not_all
    ∷ not_as_equation
    ∷ functions_differ
    ∷ truth_values_differ
    ∷ some_holds
    ∷ choice
    ∷ choice_on
    ∷ unique_choice
    ∷ identity
    ∷ if_true
    ∷ if_false
    ∷ []

-- on unit and products
abbrev pub product_facts : List Text
product_facts =
    unit_abs_rep
    ∷ unit_rep_abs
    ∷ unit_equal
    ∷ prod_abs_rep
    ∷ prod_rep_abs
    ∷ pair_rep
    ∷ pair_injective
    ∷ pair_exhausts
    ∷ fst_pair
    ∷ snd_pair
    ∷ pair_of_components
    ∷ []

-- on sums
abbrev pub sum_facts : List Text
sum_facts =
    sum_abs_rep
    ∷ sum_rep_abs
    ∷ inl_rep
    ∷ inr_rep
    ∷ inl_injective
    ∷ inr_injective
    ∷ inl_not_inr
    ∷ inr_not_inl
    ∷ inl_or_inr
    ∷ case_inl
    ∷ case_inr
    ∷ []

-- all of them
abbrev pub base_facts : List Text
base_facts = logic_facts ++ product_facts ++ sum_facts
