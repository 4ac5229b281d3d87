-- `datatype 'a t = C 'a and 'a u = D ('a t) | E;` and its facts in canonical text.
use Rattle.std.specs.Prelude.{List, [], ◌∷◌, None, codes}
use Rattle.hol_terms.specs.Ty.{ty_var, ty_app, tys}
use Rattle.hol_terms.specs.Text.{Text}
use Rattle.decl_core.specs.Declaration.{Decl}
use Rattle.decl_core.specs.Statements.{Fact}
use Rattle.decl_core.specs.Functors.{basic_lives}
use Rattle.decl_core.specs.Liveness.{with_group}
use Rattle.decl_core.specs.CharacteristicList.{datatype_facts}

abbrev pub declared : List Decl
declared =
    record {
      params = (codes "a" ∷ []);
      name = codes "t";
      ctors = (
          record { name = codes "C"; args = (record { selector = None; ty = (ty_var (codes "a")) } ∷ []) } ∷ []);
    }
    ∷ record {
      params = (codes "a" ∷ []);
      name = codes "u";
      ctors = (
          record { name = codes "D"; args = (record { selector = None; ty = (ty_app (codes "t") (tys ((ty_var (codes "a")) ∷ []))) } ∷ []) } ∷
          record { name = codes "E"; args = [] } ∷ []);
    }
    ∷ []

abbrev pub facts : List Fact
facts = datatype_facts (with_group basic_lives declared) declared

unfoldable pub lines : List Text
lines =
    codes "t.inject.C : !x0:'a. !x1:'a. (C{'a} x0 = C{'a} x1) = (x0 = x1)"
    ∷ codes "t.exhaust : !x0:'a t. !x1:bool. (!x2:'a. (x0 = C{'a} x2) ==> x1) ==> x1"
    ∷ codes "t.case.C : !x0:'a -> 'x1. !x1:'a. t.case{'a,'x1} x0 (C{'a} x1) = x0 x1"
    ∷ codes "t.split : !x0:'x1 -> bool. !x1:'a -> 'x1. !x2:'a t. x0 (t.case{'a,'x1} x1 x2) = (!x3:'a. (x2 = C{'a} x3) ==> x0 (x1 x3))"
    ∷ codes "t.disc.C.C : !x0:'a. t.is_C{'a} (C{'a} x0)"
    ∷ codes "u.inject.D : !x0:'a t. !x1:'a t. (D{'a} x0 = D{'a} x1) = (x0 = x1)"
    ∷ codes "u.distinct.D.E : !x0:'a t. ~ (D{'a} x0 = E{'a})"
    ∷ codes "u.exhaust : !x0:'a u. !x1:bool. (!x2:'a t. (x0 = D{'a} x2) ==> x1) ==> (((x0 = E{'a}) ==> x1) ==> x1)"
    ∷ codes "u.case.D : !x0:'a t -> 'x1. !x1:'x1. !x2:'a t. u.case{'a,'x1} x0 x1 (D{'a} x2) = x0 x2"
    ∷ codes "u.case.E : !x0:'a t -> 'x1. !x1:'x1. u.case{'a,'x1} x0 x1 E{'a} = x1"
    ∷ codes "u.split : !x0:'x1 -> bool. !x1:'a t -> 'x1. !x2:'x1. !x3:'a u. x0 (u.case{'a,'x1} x1 x2 x3) = ((!x4:'a t. (x3 = D{'a} x4) ==> x0 (x1 x4)) /\\ ((x3 = E{'a}) ==> x0 x2))"
    ∷ codes "u.disc.D.D : !x0:'a t. u.is_D{'a} (D{'a} x0)"
    ∷ codes "u.disc.D.E : ~ u.is_D{'a} E{'a}"
    ∷ codes "u.disc.E.D : !x0:'a t. ~ u.is_E{'a} (D{'a} x0)"
    ∷ codes "u.disc.E.E : u.is_E{'a} E{'a}"
    ∷ codes "t.map.C : !x0:'a -> 'x1. !x1:'a. t.map{'a,'x1} x0 (C{'a} x1) = C{'x1} (x0 x1)"
    ∷ codes "t.set1.C : !x0:'a. !x1:'a. t.set1{'a} (C{'a} x0) x1 = (x1 = x0)"
    ∷ codes "t.rel_inject.C : !x0:'a -> 'x1 -> bool. !x1:'a. !x2:'x1. t.rel{'a,'x1} x0 (C{'a} x1) (C{'x1} x2) = x0 x1 x2"
    ∷ codes "t.map_id : !x0:'a t. t.map{'a,'a} id{'a} x0 = x0"
    ∷ codes "t.map_comp : !x0:'a -> 'x1. !x1:'x1 -> 'x5. !x2:'a t. t.map{'x1,'x5} x1 (t.map{'a,'x1} x0 x2) = t.map{'a,'x5} (fun.map{'x1,'x5,'a} x1 x0) x2"
    ∷ codes "t.map_cong : !x0:'a -> 'x1. !x1:'a -> 'x1. !x2:'a t. (!x3:'a. t.set1{'a} x2 x3 ==> (x0 x3 = x1 x3)) ==> (t.map{'a,'x1} x0 x2 = t.map{'a,'x1} x1 x2)"
    ∷ codes "t.set1_map : !x0:'a -> 'x1. !x1:'a t. !x2:'x1. t.set1{'x1} (t.map{'a,'x1} x0 x1) x2 = (?x3:'a. t.set1{'a} x1 x3 /\\ (x2 = x0 x3))"
    ∷ codes "t.set1_count : !x0:'a t. countable{'a} (t.set1{'a} x0)"
    ∷ codes "t.rel_comp : !x0:'a -> 'x1 -> bool. !x1:'x1 -> 'x5 -> bool. !x2:'a t. !x3:'x5 t. t.rel{'a,'x5} (\\x4:'a. \\x5:'x5. ?x6:'x1. x0 x4 x6 /\\ x1 x6 x5) x2 x3 = (?x4:'x1 t. t.rel{'a,'x1} x0 x2 x4 /\\ t.rel{'x1,'x5} x1 x4 x3)"
    ∷ codes "t.rel_in : !x0:'a -> 'x1 -> bool. !x1:'a t. !x2:'x1 t. t.rel{'a,'x1} x0 x1 x2 = (?x3:('a,'x1) prod t. (!x4:('a,'x1) prod. t.set1{('a,'x1) prod} x3 x4 ==> x0 (fst{'a,'x1} x4) (snd{'a,'x1} x4)) /\\ ((t.map{('a,'x1) prod,'a} fst{'a,'x1} x3 = x1) /\\ (t.map{('a,'x1) prod,'x1} snd{'a,'x1} x3 = x2)))"
    ∷ codes "u.map.D : !x0:'a -> 'x1. !x1:'a t. u.map{'a,'x1} x0 (D{'a} x1) = D{'x1} (t.map{'a,'x1} x0 x1)"
    ∷ codes "u.map.E : !x0:'a -> 'x1. u.map{'a,'x1} x0 E{'a} = E{'x1}"
    ∷ codes "u.set1.D : !x0:'a t. !x1:'a. u.set1{'a} (D{'a} x0) x1 = t.set1{'a} x0 x1"
    ∷ codes "u.set1.E : !x0:'a. u.set1{'a} E{'a} x0 = F"
    ∷ codes "u.rel_inject.D : !x0:'a -> 'x1 -> bool. !x1:'a t. !x2:'x1 t. u.rel{'a,'x1} x0 (D{'a} x1) (D{'x1} x2) = t.rel{'a,'x1} x0 x1 x2"
    ∷ codes "u.rel_inject.E : !x0:'a -> 'x1 -> bool. u.rel{'a,'x1} x0 E{'a} E{'x1} = T"
    ∷ codes "u.rel_distinct.D.E : !x0:'a -> 'x1 -> bool. !x1:'a t. ~ u.rel{'a,'x1} x0 (D{'a} x1) E{'x1}"
    ∷ codes "u.rel_distinct.E.D : !x0:'a -> 'x1 -> bool. !x1:'x1 t. ~ u.rel{'a,'x1} x0 E{'a} (D{'x1} x1)"
    ∷ codes "u.map_id : !x0:'a u. u.map{'a,'a} id{'a} x0 = x0"
    ∷ codes "u.map_comp : !x0:'a -> 'x1. !x1:'x1 -> 'x5. !x2:'a u. u.map{'x1,'x5} x1 (u.map{'a,'x1} x0 x2) = u.map{'a,'x5} (fun.map{'x1,'x5,'a} x1 x0) x2"
    ∷ codes "u.map_cong : !x0:'a -> 'x1. !x1:'a -> 'x1. !x2:'a u. (!x3:'a. u.set1{'a} x2 x3 ==> (x0 x3 = x1 x3)) ==> (u.map{'a,'x1} x0 x2 = u.map{'a,'x1} x1 x2)"
    ∷ codes "u.set1_map : !x0:'a -> 'x1. !x1:'a u. !x2:'x1. u.set1{'x1} (u.map{'a,'x1} x0 x1) x2 = (?x3:'a. u.set1{'a} x1 x3 /\\ (x2 = x0 x3))"
    ∷ codes "u.set1_count : !x0:'a u. countable{'a} (u.set1{'a} x0)"
    ∷ codes "u.rel_comp : !x0:'a -> 'x1 -> bool. !x1:'x1 -> 'x5 -> bool. !x2:'a u. !x3:'x5 u. u.rel{'a,'x5} (\\x4:'a. \\x5:'x5. ?x6:'x1. x0 x4 x6 /\\ x1 x6 x5) x2 x3 = (?x4:'x1 u. u.rel{'a,'x1} x0 x2 x4 /\\ u.rel{'x1,'x5} x1 x4 x3)"
    ∷ codes "u.rel_in : !x0:'a -> 'x1 -> bool. !x1:'a u. !x2:'x1 u. u.rel{'a,'x1} x0 x1 x2 = (?x3:('a,'x1) prod u. (!x4:('a,'x1) prod. u.set1{('a,'x1) prod} x3 x4 ==> x0 (fst{'a,'x1} x4) (snd{'a,'x1} x4)) /\\ ((u.map{('a,'x1) prod,'a} fst{'a,'x1} x3 = x1) /\\ (u.map{('a,'x1) prod,'x1} snd{'a,'x1} x3 = x2)))"
    ∷ codes "t.induct : !x0:'a t -> bool. !x1:'a u -> bool. (!x2:'a. x0 (C{'a} x2)) ==> ((!x2:'a t. x0 x2 ==> x1 (D{'a} x2)) ==> (x1 E{'a} ==> ((!x2:'a t. x0 x2) /\\ (!x2:'a u. x1 x2))))"
    ∷ codes "t.rec.C : !x0:'a -> 'x1. !x1:('a t,'x1) prod -> 'x2. !x2:'x2. !x3:'a. t.rec{'a,'x1,'x2} x0 x1 x2 (C{'a} x3) = x0 x3"
    ∷ codes "u.rec.D : !x0:'a -> 'x1. !x1:('a t,'x1) prod -> 'x2. !x2:'x2. !x3:'a t. u.rec{'a,'x1,'x2} x0 x1 x2 (D{'a} x3) = x1 (pair{'a t,'x1} x3 (t.rec{'a,'x1,'x2} x0 x1 x2 x3))"
    ∷ codes "u.rec.E : !x0:'a -> 'x1. !x1:('a t,'x1) prod -> 'x2. !x2:'x2. u.rec{'a,'x1,'x2} x0 x1 x2 E{'a} = x2"
    ∷ []
