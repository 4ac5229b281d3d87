-- `datatype ('a,'b) t = A (p : 'a) 'b | B (q : num) | C;` and its facts in canonical text.
use Rattle.std.specs.Prelude.{List, [], ◌∷◌, Some, None, codes}
use Rattle.hol_terms.specs.Ty.{ty_var, ty_app, tys}
use Rattle.hol_terms.specs.Text.{Text}
use Rattle.decl_core.specs.Declaration.{Decl}
use Rattle.decl_core.specs.Statements.{Fact}
use Rattle.decl_core.specs.Functors.{basic_lives}
use Rattle.decl_core.specs.Liveness.{with_group}
use Rattle.decl_core.specs.CharacteristicList.{datatype_facts}

abbrev pub declared : List Decl
declared =
    record {
      params = (codes "a" ∷ codes "b" ∷ []);
      name = codes "t";
      ctors = (
          record { name = codes "A"; args = (record { selector = Some (codes "p"); ty = (ty_var (codes "a")) } ∷ record { selector = None; ty = (ty_var (codes "b")) } ∷ []) } ∷
          record { name = codes "B"; args = (record { selector = Some (codes "q"); ty = (ty_app (codes "num") (tys [])) } ∷ []) } ∷
          record { name = codes "C"; args = [] } ∷ []);
    }
    ∷ []

abbrev pub facts : List Fact
facts = datatype_facts (with_group basic_lives declared) declared

unfoldable pub lines : List Text
lines =
    codes "t.inject.A : !x0:'a. !x1:'b. !x2:'a. !x3:'b. (A{'a,'b} x0 x1 = A{'a,'b} x2 x3) = ((x0 = x2) /\\ (x1 = x3))"
    ∷ codes "t.inject.B : !x0:num. !x1:num. (B{'a,'b} x0 = B{'a,'b} x1) = (x0 = x1)"
    ∷ codes "t.distinct.A.B : !x0:'a. !x1:'b. !x2:num. ~ (A{'a,'b} x0 x1 = B{'a,'b} x2)"
    ∷ codes "t.distinct.A.C : !x0:'a. !x1:'b. ~ (A{'a,'b} x0 x1 = C{'a,'b})"
    ∷ codes "t.distinct.B.C : !x0:num. ~ (B{'a,'b} x0 = C{'a,'b})"
    ∷ codes "t.exhaust : !x0:('a,'b) t. !x1:bool. (!x2:'a. !x3:'b. (x0 = A{'a,'b} x2 x3) ==> x1) ==> ((!x2:num. (x0 = B{'a,'b} x2) ==> x1) ==> (((x0 = C{'a,'b}) ==> x1) ==> x1))"
    ∷ codes "t.case.A : !x0:'a -> 'b -> 'x1. !x1:num -> 'x1. !x2:'x1. !x3:'a. !x4:'b. t.case{'a,'b,'x1} x0 x1 x2 (A{'a,'b} x3 x4) = x0 x3 x4"
    ∷ codes "t.case.B : !x0:'a -> 'b -> 'x1. !x1:num -> 'x1. !x2:'x1. !x3:num. t.case{'a,'b,'x1} x0 x1 x2 (B{'a,'b} x3) = x1 x3"
    ∷ codes "t.case.C : !x0:'a -> 'b -> 'x1. !x1:num -> 'x1. !x2:'x1. t.case{'a,'b,'x1} x0 x1 x2 C{'a,'b} = x2"
    ∷ codes "t.split : !x0:'x1 -> bool. !x1:'a -> 'b -> 'x1. !x2:num -> 'x1. !x3:'x1. !x4:('a,'b) t. x0 (t.case{'a,'b,'x1} x1 x2 x3 x4) = ((!x5:'a. !x6:'b. (x4 = A{'a,'b} x5 x6) ==> x0 (x1 x5 x6)) /\\ ((!x5:num. (x4 = B{'a,'b} x5) ==> x0 (x2 x5)) /\\ ((x4 = C{'a,'b}) ==> x0 x3)))"
    ∷ codes "t.disc.A.A : !x0:'a. !x1:'b. t.is_A{'a,'b} (A{'a,'b} x0 x1)"
    ∷ codes "t.disc.A.B : !x0:num. ~ t.is_A{'a,'b} (B{'a,'b} x0)"
    ∷ codes "t.disc.A.C : ~ t.is_A{'a,'b} C{'a,'b}"
    ∷ codes "t.disc.B.A : !x0:'a. !x1:'b. ~ t.is_B{'a,'b} (A{'a,'b} x0 x1)"
    ∷ codes "t.disc.B.B : !x0:num. t.is_B{'a,'b} (B{'a,'b} x0)"
    ∷ codes "t.disc.B.C : ~ t.is_B{'a,'b} C{'a,'b}"
    ∷ codes "t.disc.C.A : !x0:'a. !x1:'b. ~ t.is_C{'a,'b} (A{'a,'b} x0 x1)"
    ∷ codes "t.disc.C.B : !x0:num. ~ t.is_C{'a,'b} (B{'a,'b} x0)"
    ∷ codes "t.disc.C.C : t.is_C{'a,'b} C{'a,'b}"
    ∷ codes "t.sel.p : !x0:'a. !x1:'b. p{'a,'b} (A{'a,'b} x0 x1) = x0"
    ∷ codes "t.sel.q : !x0:num. q{'a,'b} (B{'a,'b} x0) = x0"
    ∷ codes "t.collapse.B : !x0:('a,'b) t. t.is_B{'a,'b} x0 ==> (B{'a,'b} (q{'a,'b} x0) = x0)"
    ∷ codes "t.map.A : !x0:'a -> 'x1. !x1:'b -> 'x2. !x2:'a. !x3:'b. t.map{'a,'x1,'b,'x2} x0 x1 (A{'a,'b} x2 x3) = A{'x1,'x2} (x0 x2) (x1 x3)"
    ∷ codes "t.map.B : !x0:'a -> 'x1. !x1:'b -> 'x2. !x2:num. t.map{'a,'x1,'b,'x2} x0 x1 (B{'a,'b} x2) = B{'x1,'x2} x2"
    ∷ codes "t.map.C : !x0:'a -> 'x1. !x1:'b -> 'x2. t.map{'a,'x1,'b,'x2} x0 x1 C{'a,'b} = C{'x1,'x2}"
    ∷ codes "t.set1.A : !x0:'a. !x1:'b. !x2:'a. t.set1{'a,'b} (A{'a,'b} x0 x1) x2 = (x2 = x0)"
    ∷ codes "t.set1.B : !x0:num. !x1:'a. t.set1{'a,'b} (B{'a,'b} x0) x1 = F"
    ∷ codes "t.set1.C : !x0:'a. t.set1{'a,'b} C{'a,'b} x0 = F"
    ∷ codes "t.set2.A : !x0:'a. !x1:'b. !x2:'b. t.set2{'a,'b} (A{'a,'b} x0 x1) x2 = (x2 = x1)"
    ∷ codes "t.set2.B : !x0:num. !x1:'b. t.set2{'a,'b} (B{'a,'b} x0) x1 = F"
    ∷ codes "t.set2.C : !x0:'b. t.set2{'a,'b} C{'a,'b} x0 = F"
    ∷ codes "t.rel_inject.A : !x0:'a -> 'x1 -> bool. !x1:'b -> 'x2 -> bool. !x2:'a. !x3:'b. !x4:'x1. !x5:'x2. t.rel{'a,'x1,'b,'x2} x0 x1 (A{'a,'b} x2 x3) (A{'x1,'x2} x4 x5) = (x0 x2 x4 /\\ x1 x3 x5)"
    ∷ codes "t.rel_inject.B : !x0:'a -> 'x1 -> bool. !x1:'b -> 'x2 -> bool. !x2:num. !x3:num. t.rel{'a,'x1,'b,'x2} x0 x1 (B{'a,'b} x2) (B{'x1,'x2} x3) = (x2 = x3)"
    ∷ codes "t.rel_inject.C : !x0:'a -> 'x1 -> bool. !x1:'b -> 'x2 -> bool. t.rel{'a,'x1,'b,'x2} x0 x1 C{'a,'b} C{'x1,'x2} = T"
    ∷ codes "t.rel_distinct.A.B : !x0:'a -> 'x1 -> bool. !x1:'b -> 'x2 -> bool. !x2:'a. !x3:'b. !x4:num. ~ t.rel{'a,'x1,'b,'x2} x0 x1 (A{'a,'b} x2 x3) (B{'x1,'x2} x4)"
    ∷ codes "t.rel_distinct.A.C : !x0:'a -> 'x1 -> bool. !x1:'b -> 'x2 -> bool. !x2:'a. !x3:'b. ~ t.rel{'a,'x1,'b,'x2} x0 x1 (A{'a,'b} x2 x3) C{'x1,'x2}"
    ∷ codes "t.rel_distinct.B.A : !x0:'a -> 'x1 -> bool. !x1:'b -> 'x2 -> bool. !x2:num. !x3:'x1. !x4:'x2. ~ t.rel{'a,'x1,'b,'x2} x0 x1 (B{'a,'b} x2) (A{'x1,'x2} x3 x4)"
    ∷ codes "t.rel_distinct.B.C : !x0:'a -> 'x1 -> bool. !x1:'b -> 'x2 -> bool. !x2:num. ~ t.rel{'a,'x1,'b,'x2} x0 x1 (B{'a,'b} x2) C{'x1,'x2}"
    ∷ codes "t.rel_distinct.C.A : !x0:'a -> 'x1 -> bool. !x1:'b -> 'x2 -> bool. !x2:'x1. !x3:'x2. ~ t.rel{'a,'x1,'b,'x2} x0 x1 C{'a,'b} (A{'x1,'x2} x2 x3)"
    ∷ codes "t.rel_distinct.C.B : !x0:'a -> 'x1 -> bool. !x1:'b -> 'x2 -> bool. !x2:num. ~ t.rel{'a,'x1,'b,'x2} x0 x1 C{'a,'b} (B{'x1,'x2} x2)"
    ∷ codes "t.map_id : !x0:('a,'b) t. t.map{'a,'a,'b,'b} id{'a} id{'b} x0 = x0"
    ∷ codes "t.map_comp : !x0:'a -> 'x1. !x1:'b -> 'x2. !x2:'x1 -> 'x5. !x3:'x2 -> 'x6. !x4:('a,'b) t. t.map{'x1,'x5,'x2,'x6} x2 x3 (t.map{'a,'x1,'b,'x2} x0 x1 x4) = t.map{'a,'x5,'b,'x6} (fun.map{'x1,'x5,'a} x2 x0) (fun.map{'x2,'x6,'b} x3 x1) x4"
    ∷ codes "t.map_cong : !x0:'a -> 'x1. !x1:'b -> 'x2. !x2:'a -> 'x1. !x3:'b -> 'x2. !x4:('a,'b) t. (!x5:'a. t.set1{'a,'b} x4 x5 ==> (x0 x5 = x2 x5)) ==> ((!x5:'b. t.set2{'a,'b} x4 x5 ==> (x1 x5 = x3 x5)) ==> (t.map{'a,'x1,'b,'x2} x0 x1 x4 = t.map{'a,'x1,'b,'x2} x2 x3 x4))"
    ∷ codes "t.set1_map : !x0:'a -> 'x1. !x1:'b -> 'x2. !x2:('a,'b) t. !x3:'x1. t.set1{'x1,'x2} (t.map{'a,'x1,'b,'x2} x0 x1 x2) x3 = (?x4:'a. t.set1{'a,'b} x2 x4 /\\ (x3 = x0 x4))"
    ∷ codes "t.set2_map : !x0:'a -> 'x1. !x1:'b -> 'x2. !x2:('a,'b) t. !x3:'x2. t.set2{'x1,'x2} (t.map{'a,'x1,'b,'x2} x0 x1 x2) x3 = (?x4:'b. t.set2{'a,'b} x2 x4 /\\ (x3 = x1 x4))"
    ∷ codes "t.set1_count : !x0:('a,'b) t. countable{'a} (t.set1{'a,'b} x0)"
    ∷ codes "t.set2_count : !x0:('a,'b) t. countable{'b} (t.set2{'a,'b} x0)"
    ∷ codes "t.rel_comp : !x0:'a -> 'x1 -> bool. !x1:'b -> 'x2 -> bool. !x2:'x1 -> 'x5 -> bool. !x3:'x2 -> 'x6 -> bool. !x4:('a,'b) t. !x5:('x5,'x6) t. t.rel{'a,'x5,'b,'x6} (\\x6:'a. \\x7:'x5. ?x8:'x1. x0 x6 x8 /\\ x2 x8 x7) (\\x6:'b. \\x7:'x6. ?x8:'x2. x1 x6 x8 /\\ x3 x8 x7) x4 x5 = (?x6:('x1,'x2) t. t.rel{'a,'x1,'b,'x2} x0 x1 x4 x6 /\\ t.rel{'x1,'x5,'x2,'x6} x2 x3 x6 x5)"
    ∷ codes "t.rel_in : !x0:'a -> 'x1 -> bool. !x1:'b -> 'x2 -> bool. !x2:('a,'b) t. !x3:('x1,'x2) t. t.rel{'a,'x1,'b,'x2} x0 x1 x2 x3 = (?x4:(('a,'x1) prod,('b,'x2) prod) t. (!x5:('a,'x1) prod. t.set1{('a,'x1) prod,('b,'x2) prod} x4 x5 ==> x0 (fst{'a,'x1} x5) (snd{'a,'x1} x5)) /\\ ((!x5:('b,'x2) prod. t.set2{('a,'x1) prod,('b,'x2) prod} x4 x5 ==> x1 (fst{'b,'x2} x5) (snd{'b,'x2} x5)) /\\ ((t.map{('a,'x1) prod,'a,('b,'x2) prod,'b} fst{'a,'x1} fst{'b,'x2} x4 = x2) /\\ (t.map{('a,'x1) prod,'x1,('b,'x2) prod,'x2} snd{'a,'x1} snd{'b,'x2} x4 = x3))))"
    ∷ codes "t.induct : !x0:('a,'b) t -> bool. (!x1:'a. !x2:'b. x0 (A{'a,'b} x1 x2)) ==> ((!x1:num. x0 (B{'a,'b} x1)) ==> (x0 C{'a,'b} ==> (!x1:('a,'b) t. x0 x1)))"
    ∷ codes "t.rec.A : !x0:'a -> 'b -> 'x1. !x1:num -> 'x1. !x2:'x1. !x3:'a. !x4:'b. t.rec{'a,'b,'x1} x0 x1 x2 (A{'a,'b} x3 x4) = x0 x3 x4"
    ∷ codes "t.rec.B : !x0:'a -> 'b -> 'x1. !x1:num -> 'x1. !x2:'x1. !x3:num. t.rec{'a,'b,'x1} x0 x1 x2 (B{'a,'b} x3) = x1 x3"
    ∷ codes "t.rec.C : !x0:'a -> 'b -> 'x1. !x1:num -> 'x1. !x2:'x1. t.rec{'a,'b,'x1} x0 x1 x2 C{'a,'b} = x2"
    ∷ []
