-- `datatype 'a fan = Tip 'a | Fan (num -> 'a fan);` and its facts in canonical text.
use Rattle.std.specs.Prelude.{List, [], ◌∷◌, None, codes}
use Rattle.hol_terms.specs.Ty.{ty_var, ty_app, tys}
use Rattle.hol_terms.specs.Notation.{◌⇒◌}
use Rattle.hol_terms.specs.Text.{Text}
use Rattle.decl_core.specs.Declaration.{Decl}
use Rattle.decl_core.specs.Statements.{Fact}
use Rattle.decl_core.specs.Functors.{basic_lives}
use Rattle.decl_core.specs.Liveness.{with_group}
use Rattle.decl_core.specs.CharacteristicList.{datatype_facts}

abbrev pub declared : List Decl
declared =
    record {
      params = (codes "a" ∷ []);
      name = codes "fan";
      ctors = (
          record { name = codes "Tip"; args = (record { selector = None; ty = (ty_var (codes "a")) } ∷ []) } ∷
          record { name = codes "Fan"; args = (record { selector = None; ty = ((ty_app (codes "num") (tys [])) ⇒ (ty_app (codes "fan") (tys ((ty_var (codes "a")) ∷ [])))) } ∷ []) } ∷ []);
    }
    ∷ []

abbrev pub facts : List Fact
facts = datatype_facts (with_group basic_lives declared) declared

unfoldable pub lines : List Text
lines =
    codes "fan.inject.Tip : !x0:'a. !x1:'a. (Tip{'a} x0 = Tip{'a} x1) = (x0 = x1)"
    ∷ codes "fan.inject.Fan : !x0:num -> 'a fan. !x1:num -> 'a fan. (Fan{'a} x0 = Fan{'a} x1) = (x0 = x1)"
    ∷ codes "fan.distinct.Tip.Fan : !x0:'a. !x1:num -> 'a fan. ~ (Tip{'a} x0 = Fan{'a} x1)"
    ∷ codes "fan.exhaust : !x0:'a fan. !x1:bool. (!x2:'a. (x0 = Tip{'a} x2) ==> x1) ==> ((!x2:num -> 'a fan. (x0 = Fan{'a} x2) ==> x1) ==> x1)"
    ∷ codes "fan.case.Tip : !x0:'a -> 'x1. !x1:(num -> 'a fan) -> 'x1. !x2:'a. fan.case{'a,'x1} x0 x1 (Tip{'a} x2) = x0 x2"
    ∷ codes "fan.case.Fan : !x0:'a -> 'x1. !x1:(num -> 'a fan) -> 'x1. !x2:num -> 'a fan. fan.case{'a,'x1} x0 x1 (Fan{'a} x2) = x1 x2"
    ∷ codes "fan.split : !x0:'x1 -> bool. !x1:'a -> 'x1. !x2:(num -> 'a fan) -> 'x1. !x3:'a fan. x0 (fan.case{'a,'x1} x1 x2 x3) = ((!x4:'a. (x3 = Tip{'a} x4) ==> x0 (x1 x4)) /\\ (!x4:num -> 'a fan. (x3 = Fan{'a} x4) ==> x0 (x2 x4)))"
    ∷ codes "fan.disc.Tip.Tip : !x0:'a. fan.is_Tip{'a} (Tip{'a} x0)"
    ∷ codes "fan.disc.Tip.Fan : !x0:num -> 'a fan. ~ fan.is_Tip{'a} (Fan{'a} x0)"
    ∷ codes "fan.disc.Fan.Tip : !x0:'a. ~ fan.is_Fan{'a} (Tip{'a} x0)"
    ∷ codes "fan.disc.Fan.Fan : !x0:num -> 'a fan. fan.is_Fan{'a} (Fan{'a} x0)"
    ∷ codes "fan.map.Tip : !x0:'a -> 'x1. !x1:'a. fan.map{'a,'x1} x0 (Tip{'a} x1) = Tip{'x1} (x0 x1)"
    ∷ codes "fan.map.Fan : !x0:'a -> 'x1. !x1:num -> 'a fan. fan.map{'a,'x1} x0 (Fan{'a} x1) = Fan{'x1} (fun.map{'a fan,'x1 fan,num} (fan.map{'a,'x1} x0) x1)"
    ∷ codes "fan.set1.Tip : !x0:'a. !x1:'a. fan.set1{'a} (Tip{'a} x0) x1 = (x1 = x0)"
    ∷ codes "fan.set1.Fan : !x0:num -> 'a fan. !x1:'a. fan.set1{'a} (Fan{'a} x0) x1 = (?x2:'a fan. fun.set2{num,'a fan} x0 x2 /\\ fan.set1{'a} x2 x1)"
    ∷ codes "fan.rel_inject.Tip : !x0:'a -> 'x1 -> bool. !x1:'a. !x2:'x1. fan.rel{'a,'x1} x0 (Tip{'a} x1) (Tip{'x1} x2) = x0 x1 x2"
    ∷ codes "fan.rel_inject.Fan : !x0:'a -> 'x1 -> bool. !x1:num -> 'a fan. !x2:num -> 'x1 fan. fan.rel{'a,'x1} x0 (Fan{'a} x1) (Fan{'x1} x2) = fun.rel{'a fan,'x1 fan,num} (fan.rel{'a,'x1} x0) x1 x2"
    ∷ codes "fan.rel_distinct.Tip.Fan : !x0:'a -> 'x1 -> bool. !x1:'a. !x2:num -> 'x1 fan. ~ fan.rel{'a,'x1} x0 (Tip{'a} x1) (Fan{'x1} x2)"
    ∷ codes "fan.rel_distinct.Fan.Tip : !x0:'a -> 'x1 -> bool. !x1:num -> 'a fan. !x2:'x1. ~ fan.rel{'a,'x1} x0 (Fan{'a} x1) (Tip{'x1} x2)"
    ∷ codes "fan.map_id : !x0:'a fan. fan.map{'a,'a} id{'a} x0 = x0"
    ∷ codes "fan.map_comp : !x0:'a -> 'x1. !x1:'x1 -> 'x5. !x2:'a fan. fan.map{'x1,'x5} x1 (fan.map{'a,'x1} x0 x2) = fan.map{'a,'x5} (fun.map{'x1,'x5,'a} x1 x0) x2"
    ∷ codes "fan.map_cong : !x0:'a -> 'x1. !x1:'a -> 'x1. !x2:'a fan. (!x3:'a. fan.set1{'a} x2 x3 ==> (x0 x3 = x1 x3)) ==> (fan.map{'a,'x1} x0 x2 = fan.map{'a,'x1} x1 x2)"
    ∷ codes "fan.set1_map : !x0:'a -> 'x1. !x1:'a fan. !x2:'x1. fan.set1{'x1} (fan.map{'a,'x1} x0 x1) x2 = (?x3:'a. fan.set1{'a} x1 x3 /\\ (x2 = x0 x3))"
    ∷ codes "fan.set1_count : !x0:'a fan. countable{'a} (fan.set1{'a} x0)"
    ∷ codes "fan.rel_comp : !x0:'a -> 'x1 -> bool. !x1:'x1 -> 'x5 -> bool. !x2:'a fan. !x3:'x5 fan. fan.rel{'a,'x5} (\\x4:'a. \\x5:'x5. ?x6:'x1. x0 x4 x6 /\\ x1 x6 x5) x2 x3 = (?x4:'x1 fan. fan.rel{'a,'x1} x0 x2 x4 /\\ fan.rel{'x1,'x5} x1 x4 x3)"
    ∷ codes "fan.rel_in : !x0:'a -> 'x1 -> bool. !x1:'a fan. !x2:'x1 fan. fan.rel{'a,'x1} x0 x1 x2 = (?x3:('a,'x1) prod fan. (!x4:('a,'x1) prod. fan.set1{('a,'x1) prod} x3 x4 ==> x0 (fst{'a,'x1} x4) (snd{'a,'x1} x4)) /\\ ((fan.map{('a,'x1) prod,'a} fst{'a,'x1} x3 = x1) /\\ (fan.map{('a,'x1) prod,'x1} snd{'a,'x1} x3 = x2)))"
    ∷ codes "fan.induct : !x0:'a fan -> bool. (!x1:'a. x0 (Tip{'a} x1)) ==> ((!x1:num -> 'a fan. (!x2:'a fan. fun.set2{num,'a fan} x1 x2 ==> x0 x2) ==> x0 (Fan{'a} x1)) ==> (!x1:'a fan. x0 x1))"
    ∷ codes "fan.rec.Tip : !x0:'a -> 'x1. !x1:(num -> ('a fan,'x1) prod) -> 'x1. !x2:'a. fan.rec{'a,'x1} x0 x1 (Tip{'a} x2) = x0 x2"
    ∷ codes "fan.rec.Fan : !x0:'a -> 'x1. !x1:(num -> ('a fan,'x1) prod) -> 'x1. !x2:num -> 'a fan. fan.rec{'a,'x1} x0 x1 (Fan{'a} x2) = x1 (fun.map{'a fan,('a fan,'x1) prod,num} (\\x3:'a fan. pair{'a fan,'x1} x3 (fan.rec{'a,'x1} x0 x1 x3)) x2)"
    ∷ []
