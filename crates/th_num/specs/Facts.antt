-- Written by `python3 tools/library.py write` from the scripts of tools/library/.
-- The facts of this library, in the order of proving.
use Rattle.std.specs.Prelude.{List, [], ◌∷◌, ◌++◌, codes}
use Rattle.hol_terms.specs.Text.{Text}

-- the successor on ind is injective and not onto
abbrev pub ind_infinite : Text
ind_infinite = codes "one_one{ind,ind} num.suc_ind /\\ (~ onto{ind,ind} num.suc_ind)"

-- what stands for zero in ind is no successor
abbrev pub zero_ind_not_suc : Text
zero_ind_not_suc = codes "!x0:ind. ~ (num.suc_ind x0 = num.zero_ind)"

-- it represents a number
abbrev pub zero_ind_is_num : Text
zero_ind_is_num = codes "num.is num.zero_ind"

-- the successor of what represents a number represents one
abbrev pub suc_ind_is_num : Text
suc_ind_is_num = codes "!x0:ind. num.is x0 ==> num.is (num.suc_ind x0)"

-- a number is the one that its representation stands for
abbrev pub num_abs_rep : Text
num_abs_rep = codes "!x0:num. num.abs (num.rep x0) = x0"

-- an element of ind represents a number where it is reached from zero by successors
abbrev pub num_rep_abs : Text
num_rep_abs = codes "!x0:ind. num.is x0 = (num.rep (num.abs x0) = x0)"

-- the representation of a number represents one
abbrev pub rep_is_num : Text
rep_is_num = codes "!x0:num. num.is (num.rep x0)"

-- how zero is represented
abbrev pub rep_zero : Text
rep_zero = codes "num.rep 0 = num.zero_ind"

-- how a successor is represented
abbrev pub rep_suc : Text
rep_suc = codes "!x0:num. num.rep (suc x0) = num.suc_ind (num.rep x0)"

-- a successor is not zero
abbrev pub suc_not_zero : Text
suc_not_zero = codes "!x0:num. ~ (suc x0 = 0)"

-- numbers with equal successors are equal
abbrev pub suc_injective : Text
suc_injective = codes "!x0:num. !x1:num. (suc x0 = suc x1) ==> (x0 = x1)"

-- induction over numbers
abbrev pub num_induction : Text
num_induction = codes "!x0:num -> bool. x0 0 ==> ((!x1:num. x0 x1 ==> x0 (suc x1)) ==> (!x1:num. x0 x1))"

-- a number is zero or a successor
abbrev pub num_cases : Text
num_cases = codes "!x0:num. (x0 = 0) \\/ (?x1:num. x0 = suc x1)"

-- Knaster and Tarski: a monotone function of relations has a fixed relation
abbrev pub fixed_relation : Text
fixed_relation = codes "!x0:('a -> 'b -> bool) -> 'a -> 'b -> bool. (!x1:'a -> 'b -> bool. !x2:'a -> 'b -> bool. (!x3:'a. !x4:'b. x1 x3 x4 ==> x2 x3 x4) ==> (!x3:'a. !x4:'b. x0 x1 x3 x4 ==> x0 x2 x3 x4)) ==> (?x1:'a -> 'b -> bool. !x2:'a. !x3:'b. x1 x2 x3 = x0 x1 x2 x3)"

-- there is a relation that satisfies the equation of a graph of recursion along a step function c
abbrev pub recursion_graph : Text
recursion_graph = codes "!x0:'a. !x1:'b -> num -> 'a -> 'a. !x2:'b -> num -> num. ?x3:num -> 'a -> bool. !x4:num. !x5:'a. x3 x4 x5 = (((x4 = 0) /\\ (x5 = x0)) \\/ (?x6:'b. ?x7:num. (x4 = x2 x6 x7) /\\ (?x8:'a. x3 x7 x8 /\\ (x5 = x1 x6 x7 x8))))"

-- where no step gives zero, such a relation has the start alone at zero
abbrev pub graph_at_zero : Text
graph_at_zero = codes "!x0:'a. !x1:'b -> num -> 'a -> 'a. !x2:'b -> num -> num. !x3:num -> 'a -> bool. (!x4:num. !x5:'a. x3 x4 x5 = (((x4 = 0) /\\ (x5 = x0)) \\/ (?x6:'b. ?x7:num. (x4 = x2 x6 x7) /\\ (?x8:'a. x3 x7 x8 /\\ (x5 = x1 x6 x7 x8))))) ==> ((!x4:'b. !x5:num. ~ (x2 x4 x5 = 0)) ==> (!x4:'a. x3 0 x4 = (x4 = x0)))"

-- one-point rule: there are arguments of P at which an injective function has its value at i and p where P holds of i and p
abbrev pub one_point_of_two : Text
one_point_of_two = codes "!x0:'a -> 'b -> 'c. (!x1:'a. !x2:'b. !x3:'a. !x4:'b. (x0 x1 x2 = x0 x3 x4) ==> ((x1 = x3) /\\ (x2 = x4))) ==> (!x1:'a -> 'b -> bool. !x2:'a. !x3:'b. (?x4:'a. ?x5:'b. (x0 x2 x3 = x0 x4 x5) /\\ x1 x4 x5) = x1 x2 x3)"

-- where steps are also injective, it has at a step what the function makes of the values before it
abbrev pub graph_at_step : Text
graph_at_step = codes "!x0:'a. !x1:'b -> num -> 'a -> 'a. !x2:'b -> num -> num. !x3:num -> 'a -> bool. (!x4:num. !x5:'a. x3 x4 x5 = (((x4 = 0) /\\ (x5 = x0)) \\/ (?x6:'b. ?x7:num. (x4 = x2 x6 x7) /\\ (?x8:'a. x3 x7 x8 /\\ (x5 = x1 x6 x7 x8))))) ==> ((!x4:'b. !x5:num. ~ (x2 x4 x5 = 0)) ==> ((!x4:'b. !x5:num. !x6:'b. !x7:num. (x2 x4 x5 = x2 x6 x7) ==> ((x4 = x6) /\\ (x5 = x7))) ==> (!x4:'b. !x5:num. !x6:'a. x3 (x2 x4 x5) x6 = (?x7:'a. x3 x5 x7 /\\ (x6 = x1 x4 x5 x7)))))"

-- one-point rule: where b alone satisfies P, there is one that satisfies P and Q where b satisfies Q
abbrev pub only_one : Text
only_one = codes "!x0:'a -> bool. !x1:'a. (!x2:'a. x0 x2 = (x2 = x1)) ==> (!x2:'a -> bool. (?x3:'a. x0 x3 /\\ x2 x3) = x2 x1)"

-- by induction along the steps, it has one value everywhere
abbrev pub graph_values : Text
graph_values = codes "!x0:'a. !x1:'b -> num -> 'a -> 'a. !x2:'b -> num -> num. !x3:num -> 'a -> bool. (!x4:'a. x3 0 x4 = (x4 = x0)) ==> ((!x4:'b. !x5:num. !x6:'a. x3 (x2 x4 x5) x6 = (?x7:'a. x3 x5 x7 /\\ (x6 = x1 x4 x5 x7))) ==> ((!x4:num -> bool. x4 0 ==> ((!x5:'b. !x6:num. x4 x6 ==> x4 (x2 x5 x6)) ==> (!x5:num. x4 x5))) ==> (!x4:num. ?x5:'a. !x6:'a. x3 x4 x6 = (x6 = x5))))"

-- the function of these values satisfies the equations of recursion
abbrev pub graph_function : Text
graph_function = codes "!x0:'a. !x1:'b -> num -> 'a -> 'a. !x2:'b -> num -> num. !x3:num -> 'a -> bool. (!x4:'a. x3 0 x4 = (x4 = x0)) ==> ((!x4:'b. !x5:num. !x6:'a. x3 (x2 x4 x5) x6 = (?x7:'a. x3 x5 x7 /\\ (x6 = x1 x4 x5 x7))) ==> ((!x4:num. ?x5:'a. !x6:'a. x3 x4 x6 = (x6 = x5)) ==> (?x4:num -> 'a. (x4 0 = x0) /\\ (!x5:'b. !x6:num. x4 (x2 x5 x6) = x1 x5 x6 (x4 x6)))))"

-- by induction along the steps, a relation with both equations of the graph gives a function of recursion
abbrev pub recursion_from_graph : Text
recursion_from_graph = codes "!x0:'a. !x1:'b -> num -> 'a -> 'a. !x2:'b -> num -> num. !x3:num -> 'a -> bool. (!x4:'a. x3 0 x4 = (x4 = x0)) ==> ((!x4:'b. !x5:num. !x6:'a. x3 (x2 x4 x5) x6 = (?x7:'a. x3 x5 x7 /\\ (x6 = x1 x4 x5 x7))) ==> ((!x4:num -> bool. x4 0 ==> ((!x5:'b. !x6:num. x4 x6 ==> x4 (x2 x5 x6)) ==> (!x5:num. x4 x5))) ==> (?x4:num -> 'a. (x4 0 = x0) /\\ (!x5:'b. !x6:num. x4 (x2 x5 x6) = x1 x5 x6 (x4 x6)))))"

-- recursion along steps that are injective, never zero, and reach each number
abbrev pub recursion : Text
recursion = codes "!x0:'b -> num -> num. (!x1:'b. !x2:num. ~ (x0 x1 x2 = 0)) ==> ((!x1:'b. !x2:num. !x3:'b. !x4:num. (x0 x1 x2 = x0 x3 x4) ==> ((x1 = x3) /\\ (x2 = x4))) ==> ((!x1:num -> bool. x1 0 ==> ((!x2:'b. !x3:num. x1 x3 ==> x1 (x0 x2 x3)) ==> (!x2:num. x1 x2))) ==> (!x1:'a. !x2:'b -> num -> 'a -> 'a. ?x3:num -> 'a. (x3 0 = x1) /\\ (!x4:'b. !x5:num. x3 (x0 x4 x5) = x2 x4 x5 (x3 x5)))))"

-- recursion over numbers: there is a function with these two equations
abbrev pub num_recursion : Text
num_recursion = codes "!x0:'a. !x1:num -> 'a -> 'a. ?x2:num -> 'a. (x2 0 = x0) /\\ (!x3:num. x2 (suc x3) = x1 x3 (x2 x3))"

-- the recursor satisfies both equations
abbrev pub rec_equations : Text
rec_equations = codes "!x0:'a. !x1:num -> 'a -> 'a. (num.rec{'a} x0 x1 0 = x0) /\\ (!x2:num. num.rec{'a} x0 x1 (suc x2) = x1 x2 (num.rec{'a} x0 x1 x2))"

-- the recursor at zero
abbrev pub rec_zero : Text
rec_zero = codes "!x0:'a. !x1:num -> 'a -> 'a. num.rec{'a} x0 x1 0 = x0"

-- the recursor at a successor
abbrev pub rec_suc : Text
rec_suc = codes "!x0:'a. !x1:num -> 'a -> 'a. !x2:num. num.rec{'a} x0 x1 (suc x2) = x1 x2 (num.rec{'a} x0 x1 x2)"

-- a number is at most itself
abbrev pub le_reflexive : Text
le_reflexive = codes "!x0:num. num.le x0 x0"

-- what is at most a number is at most its successor
abbrev pub le_suc : Text
le_suc = codes "!x0:num. !x1:num. num.le x0 x1 ==> num.le x0 (suc x1)"

-- induction from a number upwards
abbrev pub le_induction : Text
le_induction = codes "!x0:num -> bool. !x1:num. !x2:num. x0 x1 ==> ((!x3:num. x0 x3 ==> x0 (suc x3)) ==> (num.le x1 x2 ==> x0 x2))"

-- the order is transitive
abbrev pub le_transitive : Text
le_transitive = codes "!x0:num. !x1:num. !x2:num. num.le x0 x1 ==> (num.le x1 x2 ==> num.le x0 x2)"

-- successors keep the order
abbrev pub le_suc_suc : Text
le_suc_suc = codes "!x0:num. !x1:num. num.le x0 x1 ==> num.le (suc x0) (suc x1)"

-- what is at most a number is that number or below it
abbrev pub le_cases : Text
le_cases = codes "!x0:num. !x1:num. num.le x0 x1 ==> ((x0 = x1) \\/ num.le (suc x0) x1)"

-- nothing is below zero
abbrev pub none_below_zero : Text
none_below_zero = codes "!x0:num. ~ num.le (suc x0) 0"

-- the order of successors is that of the numbers
abbrev pub le_of_sucs : Text
le_of_sucs = codes "!x0:num. !x1:num. num.le (suc x0) (suc x1) ==> num.le x0 x1"

-- induction over smaller numbers
abbrev pub strong_induction : Text
strong_induction = codes "!x0:num -> bool. (!x1:num. (!x2:num. num.le (suc x2) x1 ==> x0 x2) ==> x0 x1) ==> (!x1:num. x0 x1)"

-- twice zero
abbrev pub double_zero : Text
double_zero = codes "num.dbl 0 = 0"

-- twice a successor
abbrev pub double_suc : Text
double_suc = codes "!x0:num. num.dbl (suc x0) = suc (suc (num.dbl x0))"

-- a function that gives the first of two functions of n at twice n, and the second at the number after it
abbrev pub even_odd_selector : Text
even_odd_selector = codes "?x0:num -> (num -> 'a) -> (num -> 'a) -> 'a. !x1:num. (x0 (num.dbl x1) = (\\x2:num -> 'a. \\x3:num -> 'a. x2 x1)) /\\ (x0 (suc (num.dbl x1)) = (\\x2:num -> 'a. \\x3:num -> 'a. x3 x1))"

-- an even number is not odd
abbrev pub double_not_odd : Text
double_not_odd = codes "!x0:num. !x1:num. ~ (num.dbl x0 = suc (num.dbl x1))"

-- numbers of which the doubles are equal are equal
abbrev pub double_injective : Text
double_injective = codes "!x0:num. !x1:num. (num.dbl x0 = num.dbl x1) ==> (x0 = x1)"

-- twice zero alone is zero
abbrev pub double_is_zero : Text
double_is_zero = codes "!x0:num. (num.dbl x0 = 0) ==> (x0 = 0)"

-- a number is at most its double
abbrev pub le_double : Text
le_double = codes "!x0:num. num.le x0 (num.dbl x0)"

-- a number is zero or below its double
abbrev pub below_double : Text
below_double = codes "!x0:num. (x0 = 0) \\/ num.le (suc x0) (num.dbl x0)"

-- a number is even or odd
abbrev pub even_or_odd : Text
even_or_odd = codes "!x0:num. ?x1:num. (x0 = num.dbl x1) \\/ (x0 = suc (num.dbl x1))"

-- the path code of a step 0
abbrev pub cons_zero : Text
cons_zero = codes "!x0:num. num.cons 0 x0 = suc (num.dbl x0)"

-- the path code of a step that is a successor
abbrev pub cons_suc : Text
cons_suc = codes "!x0:num. !x1:num. num.cons (suc x0) x1 = num.dbl (num.cons x0 x1)"

-- the rest of a path has a smaller code than the path
abbrev pub below_cons : Text
below_cons = codes "!x0:num. !x1:num. num.le (suc x1) (num.cons x0 x1)"

-- the path code of a step is not zero, which is that of the empty path
abbrev pub cons_not_zero : Text
cons_not_zero = codes "!x0:num. !x1:num. ~ (num.cons x0 x1 = 0)"

-- a path code that is one of a step 0 has the step 0 and the same rest
abbrev pub cons_step_zero : Text
cons_step_zero = codes "!x0:num. !x1:num. !x2:num. (num.cons x0 x1 = num.cons 0 x2) ==> ((x0 = 0) /\\ (x1 = x2))"

-- where a path code of a step 0 is another code, the steps and the rests are equal
abbrev pub cons_zero_injective : Text
cons_zero_injective = codes "!x0:num. !x1:num. !x2:num. (num.cons 0 x0 = num.cons x1 x2) ==> ((0 = x1) /\\ (x0 = x2))"

-- equal path codes have equal first steps and equal rests
abbrev pub cons_injective : Text
cons_injective = codes "!x0:num. !x1:num. !x2:num. !x3:num. (num.cons x0 x1 = num.cons x2 x3) ==> ((x0 = x2) /\\ (x1 = x3))"

-- twice the path code of a step is the path code of one
abbrev pub double_is_code : Text
double_is_code = codes "!x0:num. (?x1:num. ?x2:num. x0 = num.cons x1 x2) ==> (?x1:num. ?x2:num. num.dbl x0 = num.cons x1 x2)"

-- each number is a path code
abbrev pub path_cases : Text
path_cases = codes "!x0:num. (x0 = 0) \\/ (?x1:num. ?x2:num. x0 = num.cons x1 x2)"

-- induction along path codes
abbrev pub path_induction : Text
path_induction = codes "!x0:num -> bool. x0 0 ==> ((!x1:num. !x2:num. x0 x2 ==> x0 (num.cons x1 x2)) ==> (!x1:num. x0 x1))"

-- recursion along path codes
abbrev pub path_recursion : Text
path_recursion = codes "!x0:'a. !x1:num -> num -> 'a -> 'a. ?x2:num -> 'a. (x2 0 = x0) /\\ (!x3:num. !x4:num. x2 (num.cons x3 x4) = x1 x3 x4 (x2 x4))"

-- on numbers
abbrev pub number_facts : List Text
number_facts =
    ind_infinite
    ∷ zero_ind_not_suc
    ∷ zero_ind_is_num
    ∷ suc_ind_is_num
    ∷ num_abs_rep
    ∷ num_rep_abs
    ∷ rep_is_num
    ∷ rep_zero
    ∷ rep_suc
    ∷ suc_not_zero
    ∷ suc_injective
    ∷ num_induction
    ∷ num_cases
    ∷ []

-- on the graph of a recursion
abbrev pub graph_facts : List Text
graph_facts =
    fixed_relation
    ∷ recursion_graph
    ∷ graph_at_zero
    ∷ one_point_of_two
    ∷ graph_at_step
    ∷ []

-- on recursion over numbers
abbrev pub recursion_facts : List Text
recursion_facts =
    only_one
    ∷ graph_values
    ∷ graph_function
    ∷ recursion_from_graph
    ∷ recursion
    ∷ num_recursion
    ∷ rec_equations
    ∷ rec_zero
    ∷ rec_suc
    ∷ []

-- on the order of numbers
abbrev pub order_facts : List Text
order_facts =
    le_reflexive
    ∷ le_suc
    ∷ le_induction
    ∷ le_transitive
    ∷ le_suc_suc
    ∷ le_cases
    ∷ none_below_zero
    ∷ le_of_sucs
    ∷ strong_induction
    ∷ []

-- on doubling
abbrev pub doubling_facts : List Text
doubling_facts =
    double_zero
    ∷ double_suc
    ∷ even_odd_selector
    ∷ double_not_odd
    ∷ double_injective
    ∷ double_is_zero
    ∷ le_double
    ∷ below_double
    ∷ even_or_odd
    ∷ []

-- on path codes
abbrev pub path_facts : List Text
path_facts =
    cons_zero
    ∷ cons_suc
    ∷ below_cons
    ∷ cons_not_zero
    ∷ cons_step_zero
    ∷ cons_zero_injective
    ∷ cons_injective
    ∷ double_is_code
    ∷ path_cases
    ∷ path_induction
    ∷ path_recursion
    ∷ []

-- all of them
abbrev pub num_facts : List Text
num_facts = number_facts ++ graph_facts ++ recursion_facts ++ order_facts ++ doubling_facts ++ path_facts
