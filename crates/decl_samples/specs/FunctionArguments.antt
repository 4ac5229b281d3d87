-- `datatype 'a f = F0 | F1 (bool -> num -> 'a f) | F2 ((num, bool) prod -> 'a);` and its facts in canonical text.
use Rattle.std.specs.Prelude.{List, [], ◌∷◌, None, codes}
use Rattle.hol_terms.specs.Ty.{ty_var, ty_app, tys}
use Rattle.hol_terms.specs.Notation.{◌⇒◌}
use Rattle.hol_terms.specs.Text.{Text}
use Rattle.decl_core.specs.Declaration.{Decl}
use Rattle.decl_core.specs.Statements.{Fact}
use Rattle.decl_core.specs.Functors.{basic_lives}
use Rattle.decl_core.specs.Liveness.{with_group}
use Rattle.decl_core.specs.CharacteristicList.{datatype_facts}

abbrev pub declared : List Decl
declared =
    record {
      params = (codes "a" ∷ []);
      name = codes "f";
      ctors = (
          record { name = codes "F0"; args = [] } ∷
          record { name = codes "F1"; args = (record { selector = None; ty = ((ty_app (codes "bool") (tys [])) ⇒ ((ty_app (codes "num") (tys [])) ⇒ (ty_app (codes "f") (tys ((ty_var (codes "a")) ∷ []))))) } ∷ []) } ∷
          record { name = codes "F2"; args = (record { selector = None; ty = ((ty_app (codes "prod") (tys ((ty_app (codes "num") (tys [])) ∷ (ty_app (codes "bool") (tys [])) ∷ []))) ⇒ (ty_var (codes "a"))) } ∷ []) } ∷ []);
    }
    ∷ []

abbrev pub facts : List Fact
facts = datatype_facts (with_group basic_lives declared) declared

unfoldable pub lines : List Text
lines =
    codes "f.inject.F1 : !x0:bool -> num -> 'a f. !x1:bool -> num -> 'a f. (F1{'a} x0 = F1{'a} x1) = (x0 = x1)"
    ∷ codes "f.inject.F2 : !x0:(num,bool) prod -> 'a. !x1:(num,bool) prod -> 'a. (F2{'a} x0 = F2{'a} x1) = (x0 = x1)"
    ∷ codes "f.distinct.F0.F1 : !x0:bool -> num -> 'a f. ~ (F0{'a} = F1{'a} x0)"
    ∷ codes "f.distinct.F0.F2 : !x0:(num,bool) prod -> 'a. ~ (F0{'a} = F2{'a} x0)"
    ∷ codes "f.distinct.F1.F2 : !x0:bool -> num -> 'a f. !x1:(num,bool) prod -> 'a. ~ (F1{'a} x0 = F2{'a} x1)"
    ∷ codes "f.exhaust : !x0:'a f. !x1:bool. ((x0 = F0{'a}) ==> x1) ==> ((!x2:bool -> num -> 'a f. (x0 = F1{'a} x2) ==> x1) ==> ((!x2:(num,bool) prod -> 'a. (x0 = F2{'a} x2) ==> x1) ==> x1))"
    ∷ codes "f.case.F0 : !x0:'x1. !x1:(bool -> num -> 'a f) -> 'x1. !x2:((num,bool) prod -> 'a) -> 'x1. f.case{'x1,'a} x0 x1 x2 F0{'a} = x0"
    ∷ codes "f.case.F1 : !x0:'x1. !x1:(bool -> num -> 'a f) -> 'x1. !x2:((num,bool) prod -> 'a) -> 'x1. !x3:bool -> num -> 'a f. f.case{'x1,'a} x0 x1 x2 (F1{'a} x3) = x1 x3"
    ∷ codes "f.case.F2 : !x0:'x1. !x1:(bool -> num -> 'a f) -> 'x1. !x2:((num,bool) prod -> 'a) -> 'x1. !x3:(num,bool) prod -> 'a. f.case{'x1,'a} x0 x1 x2 (F2{'a} x3) = x2 x3"
    ∷ codes "f.split : !x0:'x1 -> bool. !x1:'x1. !x2:(bool -> num -> 'a f) -> 'x1. !x3:((num,bool) prod -> 'a) -> 'x1. !x4:'a f. x0 (f.case{'x1,'a} x1 x2 x3 x4) = (((x4 = F0{'a}) ==> x0 x1) /\\ ((!x5:bool -> num -> 'a f. (x4 = F1{'a} x5) ==> x0 (x2 x5)) /\\ (!x5:(num,bool) prod -> 'a. (x4 = F2{'a} x5) ==> x0 (x3 x5))))"
    ∷ codes "f.disc.F0.F0 : f.is_F0{'a} F0{'a}"
    ∷ codes "f.disc.F0.F1 : !x0:bool -> num -> 'a f. ~ f.is_F0{'a} (F1{'a} x0)"
    ∷ codes "f.disc.F0.F2 : !x0:(num,bool) prod -> 'a. ~ f.is_F0{'a} (F2{'a} x0)"
    ∷ codes "f.disc.F1.F0 : ~ f.is_F1{'a} F0{'a}"
    ∷ codes "f.disc.F1.F1 : !x0:bool -> num -> 'a f. f.is_F1{'a} (F1{'a} x0)"
    ∷ codes "f.disc.F1.F2 : !x0:(num,bool) prod -> 'a. ~ f.is_F1{'a} (F2{'a} x0)"
    ∷ codes "f.disc.F2.F0 : ~ f.is_F2{'a} F0{'a}"
    ∷ codes "f.disc.F2.F1 : !x0:bool -> num -> 'a f. ~ f.is_F2{'a} (F1{'a} x0)"
    ∷ codes "f.disc.F2.F2 : !x0:(num,bool) prod -> 'a. f.is_F2{'a} (F2{'a} x0)"
    ∷ codes "f.map.F0 : !x0:'a -> 'x1. f.map{'a,'x1} x0 F0{'a} = F0{'x1}"
    ∷ codes "f.map.F1 : !x0:'a -> 'x1. !x1:bool -> num -> 'a f. f.map{'a,'x1} x0 (F1{'a} x1) = F1{'x1} (fun.map{num -> 'a f,num -> 'x1 f,bool} (fun.map{'a f,'x1 f,num} (f.map{'a,'x1} x0)) x1)"
    ∷ codes "f.map.F2 : !x0:'a -> 'x1. !x1:(num,bool) prod -> 'a. f.map{'a,'x1} x0 (F2{'a} x1) = F2{'x1} (fun.map{'a,'x1,(num,bool) prod} x0 x1)"
    ∷ codes "f.set1.F0 : !x0:'a. f.set1{'a} F0{'a} x0 = F"
    ∷ codes "f.set1.F1 : !x0:bool -> num -> 'a f. !x1:'a. f.set1{'a} (F1{'a} x0) x1 = (?x2:num -> 'a f. fun.set2{bool,num -> 'a f} x0 x2 /\\ (?x3:'a f. fun.set2{num,'a f} x2 x3 /\\ f.set1{'a} x3 x1))"
    ∷ codes "f.set1.F2 : !x0:(num,bool) prod -> 'a. !x1:'a. f.set1{'a} (F2{'a} x0) x1 = fun.set2{(num,bool) prod,'a} x0 x1"
    ∷ codes "f.rel_inject.F0 : !x0:'a -> 'x1 -> bool. f.rel{'a,'x1} x0 F0{'a} F0{'x1} = T"
    ∷ codes "f.rel_inject.F1 : !x0:'a -> 'x1 -> bool. !x1:bool -> num -> 'a f. !x2:bool -> num -> 'x1 f. f.rel{'a,'x1} x0 (F1{'a} x1) (F1{'x1} x2) = fun.rel{num -> 'a f,num -> 'x1 f,bool} (fun.rel{'a f,'x1 f,num} (f.rel{'a,'x1} x0)) x1 x2"
    ∷ codes "f.rel_inject.F2 : !x0:'a -> 'x1 -> bool. !x1:(num,bool) prod -> 'a. !x2:(num,bool) prod -> 'x1. f.rel{'a,'x1} x0 (F2{'a} x1) (F2{'x1} x2) = fun.rel{'a,'x1,(num,bool) prod} x0 x1 x2"
    ∷ codes "f.rel_distinct.F0.F1 : !x0:'a -> 'x1 -> bool. !x1:bool -> num -> 'x1 f. ~ f.rel{'a,'x1} x0 F0{'a} (F1{'x1} x1)"
    ∷ codes "f.rel_distinct.F0.F2 : !x0:'a -> 'x1 -> bool. !x1:(num,bool) prod -> 'x1. ~ f.rel{'a,'x1} x0 F0{'a} (F2{'x1} x1)"
    ∷ codes "f.rel_distinct.F1.F0 : !x0:'a -> 'x1 -> bool. !x1:bool -> num -> 'a f. ~ f.rel{'a,'x1} x0 (F1{'a} x1) F0{'x1}"
    ∷ codes "f.rel_distinct.F1.F2 : !x0:'a -> 'x1 -> bool. !x1:bool -> num -> 'a f. !x2:(num,bool) prod -> 'x1. ~ f.rel{'a,'x1} x0 (F1{'a} x1) (F2{'x1} x2)"
    ∷ codes "f.rel_distinct.F2.F0 : !x0:'a -> 'x1 -> bool. !x1:(num,bool) prod -> 'a. ~ f.rel{'a,'x1} x0 (F2{'a} x1) F0{'x1}"
    ∷ codes "f.rel_distinct.F2.F1 : !x0:'a -> 'x1 -> bool. !x1:(num,bool) prod -> 'a. !x2:bool -> num -> 'x1 f. ~ f.rel{'a,'x1} x0 (F2{'a} x1) (F1{'x1} x2)"
    ∷ codes "f.map_id : !x0:'a f. f.map{'a,'a} id{'a} x0 = x0"
    ∷ codes "f.map_comp : !x0:'a -> 'x1. !x1:'x1 -> 'x5. !x2:'a f. f.map{'x1,'x5} x1 (f.map{'a,'x1} x0 x2) = f.map{'a,'x5} (fun.map{'x1,'x5,'a} x1 x0) x2"
    ∷ codes "f.map_cong : !x0:'a -> 'x1. !x1:'a -> 'x1. !x2:'a f. (!x3:'a. f.set1{'a} x2 x3 ==> (x0 x3 = x1 x3)) ==> (f.map{'a,'x1} x0 x2 = f.map{'a,'x1} x1 x2)"
    ∷ codes "f.set1_map : !x0:'a -> 'x1. !x1:'a f. !x2:'x1. f.set1{'x1} (f.map{'a,'x1} x0 x1) x2 = (?x3:'a. f.set1{'a} x1 x3 /\\ (x2 = x0 x3))"
    ∷ codes "f.set1_count : !x0:'a f. countable{'a} (f.set1{'a} x0)"
    ∷ codes "f.rel_comp : !x0:'a -> 'x1 -> bool. !x1:'x1 -> 'x5 -> bool. !x2:'a f. !x3:'x5 f. f.rel{'a,'x5} (\\x4:'a. \\x5:'x5. ?x6:'x1. x0 x4 x6 /\\ x1 x6 x5) x2 x3 = (?x4:'x1 f. f.rel{'a,'x1} x0 x2 x4 /\\ f.rel{'x1,'x5} x1 x4 x3)"
    ∷ codes "f.rel_in : !x0:'a -> 'x1 -> bool. !x1:'a f. !x2:'x1 f. f.rel{'a,'x1} x0 x1 x2 = (?x3:('a,'x1) prod f. (!x4:('a,'x1) prod. f.set1{('a,'x1) prod} x3 x4 ==> x0 (fst{'a,'x1} x4) (snd{'a,'x1} x4)) /\\ ((f.map{('a,'x1) prod,'a} fst{'a,'x1} x3 = x1) /\\ (f.map{('a,'x1) prod,'x1} snd{'a,'x1} x3 = x2)))"
    ∷ codes "f.induct : !x0:'a f -> bool. x0 F0{'a} ==> ((!x1:bool -> num -> 'a f. (!x2:'a f. (?x3:num -> 'a f. fun.set2{bool,num -> 'a f} x1 x3 /\\ fun.set2{num,'a f} x3 x2) ==> x0 x2) ==> x0 (F1{'a} x1)) ==> ((!x1:(num,bool) prod -> 'a. x0 (F2{'a} x1)) ==> (!x1:'a f. x0 x1)))"
    ∷ codes "f.rec.F0 : !x0:'x1. !x1:(bool -> num -> ('a f,'x1) prod) -> 'x1. !x2:((num,bool) prod -> 'a) -> 'x1. f.rec{'x1,'a} x0 x1 x2 F0{'a} = x0"
    ∷ codes "f.rec.F1 : !x0:'x1. !x1:(bool -> num -> ('a f,'x1) prod) -> 'x1. !x2:((num,bool) prod -> 'a) -> 'x1. !x3:bool -> num -> 'a f. f.rec{'x1,'a} x0 x1 x2 (F1{'a} x3) = x1 (fun.map{num -> 'a f,num -> ('a f,'x1) prod,bool} (fun.map{'a f,('a f,'x1) prod,num} (\\x4:'a f. pair{'a f,'x1} x4 (f.rec{'x1,'a} x0 x1 x2 x4))) x3)"
    ∷ codes "f.rec.F2 : !x0:'x1. !x1:(bool -> num -> ('a f,'x1) prod) -> 'x1. !x2:((num,bool) prod -> 'a) -> 'x1. !x3:(num,bool) prod -> 'a. f.rec{'x1,'a} x0 x1 x2 (F2{'a} x3) = x2 x3"
    ∷ []
