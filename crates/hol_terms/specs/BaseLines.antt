-- The 52 base definitions and the three axioms in canonical text.
use Rattle.std.specs.Prelude.{List, [], ◌∷◌, codes}
use Rattle.hol_terms.specs.Text.{Text}

-- the definitions, in order
unfoldable pub base_lines : List Text
base_lines =
    codes "def T : bool = (\\x0:bool. x0) = (\\x0:bool. x0)"
    ∷ codes "def conj : bool -> bool -> bool = \\x0:bool. \\x1:bool. (\\x2:bool -> bool -> bool. x2 x0 x1) = (\\x2:bool -> bool -> bool. x2 T T)"
    ∷ codes "def imp : bool -> bool -> bool = \\x0:bool. \\x1:bool. (x0 /\\ x1) = x0"
    ∷ codes "def all : ('a -> bool) -> bool = \\x0:'a -> bool. x0 = (\\x1:'a. T)"
    ∷ codes "def ex : ('a -> bool) -> bool = \\x0:'a -> bool. !x1:bool. (!x2:'a. x0 x2 ==> x1) ==> x1"
    ∷ codes "def disj : bool -> bool -> bool = \\x0:bool. \\x1:bool. !x2:bool. (x0 ==> x2) ==> ((x1 ==> x2) ==> x2)"
    ∷ codes "def F : bool = !x0:bool. x0"
    ∷ codes "def not : bool -> bool = \\x0:bool. x0 ==> F"
    ∷ codes "def one_one : ('a -> 'b) -> bool = \\x0:'a -> 'b. !x1:'a. !x2:'a. (x0 x1 = x0 x2) ==> (x1 = x2)"
    ∷ codes "def onto : ('a -> 'b) -> bool = \\x0:'a -> 'b. !x1:'b. ?x2:'a. x1 = x0 x2"
    ∷ codes "def id : 'a -> 'a = \\x0:'a. x0"
    ∷ codes "def if : bool -> 'a -> 'a -> 'a = \\x0:bool. \\x1:'a. \\x2:'a. some{'a} (\\x3:'a. ((x0 = T) ==> (x3 = x1)) /\\ ((x0 = F) ==> (x3 = x2)))"
    ∷ codes "type unit = \\x0:bool. x0"
    ∷ codes "def one : unit = some{unit} (\\x0:unit. T)"
    ∷ codes "def prod.graph : 'a -> 'b -> 'a -> 'b -> bool = \\x0:'a. \\x1:'b. \\x2:'a. \\x3:'b. (x2 = x0) /\\ (x3 = x1)"
    ∷ codes "type ('a,'b) prod = \\x0:'a -> 'b -> bool. ?x1:'a. ?x2:'b. x0 = prod.graph{'a,'b} x1 x2"
    ∷ codes "def pair : 'a -> 'b -> ('a,'b) prod = \\x0:'a. \\x1:'b. prod.abs{'a,'b} (prod.graph{'a,'b} x0 x1)"
    ∷ codes "def fst : ('a,'b) prod -> 'a = \\x0:('a,'b) prod. some{'a} (\\x1:'a. ?x2:'b. x0 = pair{'a,'b} x1 x2)"
    ∷ codes "def snd : ('a,'b) prod -> 'b = \\x0:('a,'b) prod. some{'b} (\\x1:'b. ?x2:'a. x0 = pair{'a,'b} x2 x1)"
    ∷ codes "def prod.map : ('a -> 'b) -> ('c -> 'd) -> ('a,'c) prod -> ('b,'d) prod = \\x0:'a -> 'b. \\x1:'c -> 'd. \\x2:('a,'c) prod. pair{'b,'d} (x0 (fst{'a,'c} x2)) (x1 (snd{'a,'c} x2))"
    ∷ codes "def prod.set1 : ('a,'b) prod -> 'a -> bool = \\x0:('a,'b) prod. \\x1:'a. x1 = fst{'a,'b} x0"
    ∷ codes "def prod.set2 : ('a,'b) prod -> 'b -> bool = \\x0:('a,'b) prod. \\x1:'b. x1 = snd{'a,'b} x0"
    ∷ codes "def prod.rel : ('a -> 'b -> bool) -> ('c -> 'd -> bool) -> ('a,'c) prod -> ('b,'d) prod -> bool = \\x0:'a -> 'b -> bool. \\x1:'c -> 'd -> bool. \\x2:('a,'c) prod. \\x3:('b,'d) prod. x0 (fst{'a,'c} x2) (fst{'b,'d} x3) /\\ x1 (snd{'a,'c} x2) (snd{'b,'d} x3)"
    ∷ codes "def sum.left : 'a -> bool -> 'a -> 'b -> bool = \\x0:'a. \\x1:bool. \\x2:'a. \\x3:'b. x1 /\\ (x2 = x0)"
    ∷ codes "def sum.right : 'b -> bool -> 'a -> 'b -> bool = \\x0:'b. \\x1:bool. \\x2:'a. \\x3:'b. (~ x1) /\\ (x3 = x0)"
    ∷ codes "type ('a,'b) sum = \\x0:bool -> 'a -> 'b -> bool. (?x1:'a. x0 = sum.left{'a,'b} x1) \\/ (?x1:'b. x0 = sum.right{'b,'a} x1)"
    ∷ codes "def inl : 'a -> ('a,'b) sum = \\x0:'a. sum.abs{'a,'b} (sum.left{'a,'b} x0)"
    ∷ codes "def inr : 'b -> ('a,'b) sum = \\x0:'b. sum.abs{'a,'b} (sum.right{'b,'a} x0)"
    ∷ codes "def sum.case : ('a -> 'b) -> ('c -> 'b) -> ('a,'c) sum -> 'b = \\x0:'a -> 'b. \\x1:'c -> 'b. \\x2:('a,'c) sum. some{'b} (\\x3:'b. (?x4:'a. (x2 = inl{'a,'c} x4) /\\ (x3 = x0 x4)) \\/ (?x4:'c. (x2 = inr{'c,'a} x4) /\\ (x3 = x1 x4)))"
    ∷ codes "def sum.map : ('a -> 'b) -> ('c -> 'd) -> ('a,'c) sum -> ('b,'d) sum = \\x0:'a -> 'b. \\x1:'c -> 'd. sum.case{'a,('b,'d) sum,'c} (\\x2:'a. inl{'b,'d} (x0 x2)) (\\x2:'c. inr{'d,'b} (x1 x2))"
    ∷ codes "def sum.set1 : ('a,'b) sum -> 'a -> bool = \\x0:('a,'b) sum. \\x1:'a. x0 = inl{'a,'b} x1"
    ∷ codes "def sum.set2 : ('a,'b) sum -> 'b -> bool = \\x0:('a,'b) sum. \\x1:'b. x0 = inr{'b,'a} x1"
    ∷ codes "def sum.rel : ('a -> 'b -> bool) -> ('c -> 'd -> bool) -> ('a,'c) sum -> ('b,'d) sum -> bool = \\x0:'a -> 'b -> bool. \\x1:'c -> 'd -> bool. \\x2:('a,'c) sum. \\x3:('b,'d) sum. (?x4:'a. ?x5:'b. (x2 = inl{'a,'c} x4) /\\ ((x3 = inl{'b,'d} x5) /\\ x0 x4 x5)) \\/ (?x4:'c. ?x5:'d. (x2 = inr{'c,'a} x4) /\\ ((x3 = inr{'d,'b} x5) /\\ x1 x4 x5))"
    ∷ codes "def num.suc_ind : ind -> ind = some{ind -> ind} (\\x0:ind -> ind. one_one{ind,ind} x0 /\\ (~ onto{ind,ind} x0))"
    ∷ codes "def num.zero_ind : ind = some{ind} (\\x0:ind. !x1:ind. ~ (num.suc_ind x1 = x0))"
    ∷ codes "def num.is : ind -> bool = \\x0:ind. !x1:ind -> bool. (x1 num.zero_ind /\\ (!x2:ind. x1 x2 ==> x1 (num.suc_ind x2))) ==> x1 x0"
    ∷ codes "type num = num.is"
    ∷ codes "def 0 : num = num.abs num.zero_ind"
    ∷ codes "def suc : num -> num = \\x0:num. num.abs (num.suc_ind (num.rep x0))"
    ∷ codes "def num.rec : 'a -> (num -> 'a -> 'a) -> num -> 'a = \\x0:'a. \\x1:num -> 'a -> 'a. some{num -> 'a} (\\x2:num -> 'a. (x2 0 = x0) /\\ (!x3:num. x2 (suc x3) = x1 x3 (x2 x3)))"
    ∷ codes "def num.le : num -> num -> bool = \\x0:num. \\x1:num. !x2:num -> bool. (x2 x0 /\\ (!x3:num. x2 x3 ==> x2 (suc x3))) ==> x2 x1"
    ∷ codes "def num.dbl : num -> num = num.rec{num} 0 (\\x0:num. \\x1:num. suc (suc x1))"
    ∷ codes "def num.cons : num -> num -> num = \\x0:num. \\x1:num. num.rec{num} (suc (num.dbl x1)) (\\x2:num. \\x3:num. num.dbl x3) x0"
    ∷ codes "def countable : ('a -> bool) -> bool = \\x0:'a -> bool. ?x1:'a -> num. !x2:'a. !x3:'a. x0 x2 ==> (x0 x3 ==> ((x1 x2 = x1 x3) ==> (x2 = x3)))"
    ∷ codes "type 'a cset = countable{'a}"
    ∷ codes "def cset.empty : 'a cset = cset.abs{'a} (\\x0:'a. F)"
    ∷ codes "def cset.map : ('a -> 'b) -> 'a cset -> 'b cset = \\x0:'a -> 'b. \\x1:'a cset. cset.abs{'b} (\\x2:'b. ?x3:'a. cset.rep{'a} x1 x3 /\\ (x2 = x0 x3))"
    ∷ codes "def cset.set1 : 'a cset -> 'a -> bool = \\x0:'a cset. cset.rep{'a} x0"
    ∷ codes "def cset.rel : ('a -> 'b -> bool) -> 'a cset -> 'b cset -> bool = \\x0:'a -> 'b -> bool. \\x1:'a cset. \\x2:'b cset. (!x3:'a. cset.rep{'a} x1 x3 ==> (?x4:'b. cset.rep{'b} x2 x4 /\\ x0 x3 x4)) /\\ (!x3:'b. cset.rep{'b} x2 x3 ==> (?x4:'a. cset.rep{'a} x1 x4 /\\ x0 x4 x3))"
    ∷ codes "def fun.map : ('a -> 'b) -> ('c -> 'a) -> 'c -> 'b = \\x0:'a -> 'b. \\x1:'c -> 'a. \\x2:'c. x0 (x1 x2)"
    ∷ codes "def fun.set2 : ('a -> 'b) -> 'b -> bool = \\x0:'a -> 'b. \\x1:'b. ?x2:'a. x1 = x0 x2"
    ∷ codes "def fun.rel : ('a -> 'b -> bool) -> ('c -> 'a) -> ('c -> 'b) -> bool = \\x0:'a -> 'b -> bool. \\x1:'c -> 'a. \\x2:'c -> 'b. !x3:'c. x0 (x1 x3) (x2 x3)"
    ∷ []

-- extensionality, choice and infinity
unfoldable pub axiom_lines : List Text
axiom_lines =
    codes "!x0:'a -> 'b. (\\x1:'a. x0 x1) = x0"
    ∷ codes "!x0:'a -> bool. !x1:'a. x0 x1 ==> x0 (some{'a} x0)"
    ∷ codes "?x0:ind -> ind. one_one{ind,ind} x0 /\\ (~ onto{ind,ind} x0)"
    ∷ []
