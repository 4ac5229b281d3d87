-- `datatype ('a,'b) ph = Ph 'a;` and its facts in canonical text.
use Rattle.std.specs.Prelude.{List, [], ◌∷◌, None, codes}
use Rattle.hol_terms.specs.Ty.{ty_var}
use Rattle.hol_terms.specs.Text.{Text}
use Rattle.decl_core.specs.Declaration.{Decl}
use Rattle.decl_core.specs.Statements.{Fact}
use Rattle.decl_core.specs.Functors.{basic_lives}
use Rattle.decl_core.specs.Liveness.{with_group}
use Rattle.decl_core.specs.CharacteristicList.{datatype_facts}

abbrev pub declared : List Decl
declared =
    record {
      params = (codes "a" ∷ codes "b" ∷ []);
      name = codes "ph";
      ctors = (
          record { name = codes "Ph"; args = (record { selector = None; ty = (ty_var (codes "a")) } ∷ []) } ∷ []);
    }
    ∷ []

abbrev pub facts : List Fact
facts = datatype_facts (with_group basic_lives declared) declared

unfoldable pub lines : List Text
lines =
    codes "ph.inject.Ph : !x0:'a. !x1:'a. (Ph{'a,'b} x0 = Ph{'a,'b} x1) = (x0 = x1)"
    ∷ codes "ph.exhaust : !x0:('a,'b) ph. !x1:bool. (!x2:'a. (x0 = Ph{'a,'b} x2) ==> x1) ==> x1"
    ∷ codes "ph.case.Ph : !x0:'a -> 'x1. !x1:'a. ph.case{'a,'x1,'b} x0 (Ph{'a,'b} x1) = x0 x1"
    ∷ codes "ph.split : !x0:'x1 -> bool. !x1:'a -> 'x1. !x2:('a,'b) ph. x0 (ph.case{'a,'x1,'b} x1 x2) = (!x3:'a. (x2 = Ph{'a,'b} x3) ==> x0 (x1 x3))"
    ∷ codes "ph.disc.Ph.Ph : !x0:'a. ph.is_Ph{'a,'b} (Ph{'a,'b} x0)"
    ∷ codes "ph.map.Ph : !x0:'a -> 'x1. !x1:'b -> 'x2. !x2:'a. ph.map{'a,'x1,'b,'x2} x0 x1 (Ph{'a,'b} x2) = Ph{'x1,'x2} (x0 x2)"
    ∷ codes "ph.set1.Ph : !x0:'a. !x1:'a. ph.set1{'a,'b} (Ph{'a,'b} x0) x1 = (x1 = x0)"
    ∷ codes "ph.set2.Ph : !x0:'a. !x1:'b. ph.set2{'a,'b} (Ph{'a,'b} x0) x1 = F"
    ∷ codes "ph.rel_inject.Ph : !x0:'a -> 'x1 -> bool. !x1:'b -> 'x2 -> bool. !x2:'a. !x3:'x1. ph.rel{'a,'x1,'b,'x2} x0 x1 (Ph{'a,'b} x2) (Ph{'x1,'x2} x3) = x0 x2 x3"
    ∷ codes "ph.map_id : !x0:('a,'b) ph. ph.map{'a,'a,'b,'b} id{'a} id{'b} x0 = x0"
    ∷ codes "ph.map_comp : !x0:'a -> 'x1. !x1:'b -> 'x2. !x2:'x1 -> 'x5. !x3:'x2 -> 'x6. !x4:('a,'b) ph. ph.map{'x1,'x5,'x2,'x6} x2 x3 (ph.map{'a,'x1,'b,'x2} x0 x1 x4) = ph.map{'a,'x5,'b,'x6} (fun.map{'x1,'x5,'a} x2 x0) (fun.map{'x2,'x6,'b} x3 x1) x4"
    ∷ codes "ph.map_cong : !x0:'a -> 'x1. !x1:'b -> 'x2. !x2:'a -> 'x1. !x3:'b -> 'x2. !x4:('a,'b) ph. (!x5:'a. ph.set1{'a,'b} x4 x5 ==> (x0 x5 = x2 x5)) ==> ((!x5:'b. ph.set2{'a,'b} x4 x5 ==> (x1 x5 = x3 x5)) ==> (ph.map{'a,'x1,'b,'x2} x0 x1 x4 = ph.map{'a,'x1,'b,'x2} x2 x3 x4))"
    ∷ codes "ph.set1_map : !x0:'a -> 'x1. !x1:'b -> 'x2. !x2:('a,'b) ph. !x3:'x1. ph.set1{'x1,'x2} (ph.map{'a,'x1,'b,'x2} x0 x1 x2) x3 = (?x4:'a. ph.set1{'a,'b} x2 x4 /\\ (x3 = x0 x4))"
    ∷ codes "ph.set2_map : !x0:'a -> 'x1. !x1:'b -> 'x2. !x2:('a,'b) ph. !x3:'x2. ph.set2{'x1,'x2} (ph.map{'a,'x1,'b,'x2} x0 x1 x2) x3 = (?x4:'b. ph.set2{'a,'b} x2 x4 /\\ (x3 = x1 x4))"
    ∷ codes "ph.set1_count : !x0:('a,'b) ph. countable{'a} (ph.set1{'a,'b} x0)"
    ∷ codes "ph.set2_count : !x0:('a,'b) ph. countable{'b} (ph.set2{'a,'b} x0)"
    ∷ codes "ph.rel_comp : !x0:'a -> 'x1 -> bool. !x1:'b -> 'x2 -> bool. !x2:'x1 -> 'x5 -> bool. !x3:'x2 -> 'x6 -> bool. !x4:('a,'b) ph. !x5:('x5,'x6) ph. ph.rel{'a,'x5,'b,'x6} (\\x6:'a. \\x7:'x5. ?x8:'x1. x0 x6 x8 /\\ x2 x8 x7) (\\x6:'b. \\x7:'x6. ?x8:'x2. x1 x6 x8 /\\ x3 x8 x7) x4 x5 = (?x6:('x1,'x2) ph. ph.rel{'a,'x1,'b,'x2} x0 x1 x4 x6 /\\ ph.rel{'x1,'x5,'x2,'x6} x2 x3 x6 x5)"
    ∷ codes "ph.rel_in : !x0:'a -> 'x1 -> bool. !x1:'b -> 'x2 -> bool. !x2:('a,'b) ph. !x3:('x1,'x2) ph. ph.rel{'a,'x1,'b,'x2} x0 x1 x2 x3 = (?x4:(('a,'x1) prod,('b,'x2) prod) ph. (!x5:('a,'x1) prod. ph.set1{('a,'x1) prod,('b,'x2) prod} x4 x5 ==> x0 (fst{'a,'x1} x5) (snd{'a,'x1} x5)) /\\ ((!x5:('b,'x2) prod. ph.set2{('a,'x1) prod,('b,'x2) prod} x4 x5 ==> x1 (fst{'b,'x2} x5) (snd{'b,'x2} x5)) /\\ ((ph.map{('a,'x1) prod,'a,('b,'x2) prod,'b} fst{'a,'x1} fst{'b,'x2} x4 = x2) /\\ (ph.map{('a,'x1) prod,'x1,('b,'x2) prod,'x2} snd{'a,'x1} snd{'b,'x2} x4 = x3))))"
    ∷ codes "ph.induct : !x0:('a,'b) ph -> bool. (!x1:'a. x0 (Ph{'a,'b} x1)) ==> (!x1:('a,'b) ph. x0 x1)"
    ∷ codes "ph.rec.Ph : !x0:'a -> 'x1. !x1:'a. ph.rec{'a,'x1,'b} x0 (Ph{'a,'b} x1) = x0 x1"
    ∷ []
