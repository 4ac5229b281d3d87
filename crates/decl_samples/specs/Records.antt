-- `datatype ('a,'b) rec2 = Rec (left : 'a) (right : 'b) num;` and its facts in canonical text.
use Rattle.std.specs.Prelude.{List, [], ◌∷◌, Some, None, codes}
use Rattle.hol_terms.specs.Ty.{ty_var, ty_app, tys}
use Rattle.hol_terms.specs.Text.{Text}
use Rattle.decl_core.specs.Declaration.{Decl}
use Rattle.decl_core.specs.Statements.{Fact}
use Rattle.decl_core.specs.Functors.{basic_lives}
use Rattle.decl_core.specs.Liveness.{with_group}
use Rattle.decl_core.specs.CharacteristicList.{datatype_facts}

abbrev pub declared : List Decl
declared =
    record {
      params = (codes "a" ∷ codes "b" ∷ []);
      name = codes "rec2";
      ctors = (
          record { name = codes "Rec"; args = (record { selector = Some (codes "left"); ty = (ty_var (codes "a")) } ∷ record { selector = Some (codes "right"); ty = (ty_var (codes "b")) } ∷ record { selector = None; ty = (ty_app (codes "num") (tys [])) } ∷ []) } ∷ []);
    }
    ∷ []

abbrev pub facts : List Fact
facts = datatype_facts (with_group basic_lives declared) declared

unfoldable pub lines : List Text
lines =
    codes "rec2.inject.Rec : !x0:'a. !x1:'b. !x2:num. !x3:'a. !x4:'b. !x5:num. (Rec{'a,'b} x0 x1 x2 = Rec{'a,'b} x3 x4 x5) = ((x0 = x3) /\\ ((x1 = x4) /\\ (x2 = x5)))"
    ∷ codes "rec2.exhaust : !x0:('a,'b) rec2. !x1:bool. (!x2:'a. !x3:'b. !x4:num. (x0 = Rec{'a,'b} x2 x3 x4) ==> x1) ==> x1"
    ∷ codes "rec2.case.Rec : !x0:'a -> 'b -> num -> 'x1. !x1:'a. !x2:'b. !x3:num. rec2.case{'a,'b,'x1} x0 (Rec{'a,'b} x1 x2 x3) = x0 x1 x2 x3"
    ∷ codes "rec2.split : !x0:'x1 -> bool. !x1:'a -> 'b -> num -> 'x1. !x2:('a,'b) rec2. x0 (rec2.case{'a,'b,'x1} x1 x2) = (!x3:'a. !x4:'b. !x5:num. (x2 = Rec{'a,'b} x3 x4 x5) ==> x0 (x1 x3 x4 x5))"
    ∷ codes "rec2.disc.Rec.Rec : !x0:'a. !x1:'b. !x2:num. rec2.is_Rec{'a,'b} (Rec{'a,'b} x0 x1 x2)"
    ∷ codes "rec2.sel.left : !x0:'a. !x1:'b. !x2:num. left{'a,'b} (Rec{'a,'b} x0 x1 x2) = x0"
    ∷ codes "rec2.sel.right : !x0:'a. !x1:'b. !x2:num. right{'a,'b} (Rec{'a,'b} x0 x1 x2) = x1"
    ∷ codes "rec2.map.Rec : !x0:'a -> 'x1. !x1:'b -> 'x2. !x2:'a. !x3:'b. !x4:num. rec2.map{'a,'x1,'b,'x2} x0 x1 (Rec{'a,'b} x2 x3 x4) = Rec{'x1,'x2} (x0 x2) (x1 x3) x4"
    ∷ codes "rec2.set1.Rec : !x0:'a. !x1:'b. !x2:num. !x3:'a. rec2.set1{'a,'b} (Rec{'a,'b} x0 x1 x2) x3 = (x3 = x0)"
    ∷ codes "rec2.set2.Rec : !x0:'a. !x1:'b. !x2:num. !x3:'b. rec2.set2{'a,'b} (Rec{'a,'b} x0 x1 x2) x3 = (x3 = x1)"
    ∷ codes "rec2.rel_inject.Rec : !x0:'a -> 'x1 -> bool. !x1:'b -> 'x2 -> bool. !x2:'a. !x3:'b. !x4:num. !x5:'x1. !x6:'x2. !x7:num. rec2.rel{'a,'x1,'b,'x2} x0 x1 (Rec{'a,'b} x2 x3 x4) (Rec{'x1,'x2} x5 x6 x7) = (x0 x2 x5 /\\ (x1 x3 x6 /\\ (x4 = x7)))"
    ∷ codes "rec2.map_id : !x0:('a,'b) rec2. rec2.map{'a,'a,'b,'b} id{'a} id{'b} x0 = x0"
    ∷ codes "rec2.map_comp : !x0:'a -> 'x1. !x1:'b -> 'x2. !x2:'x1 -> 'x5. !x3:'x2 -> 'x6. !x4:('a,'b) rec2. rec2.map{'x1,'x5,'x2,'x6} x2 x3 (rec2.map{'a,'x1,'b,'x2} x0 x1 x4) = rec2.map{'a,'x5,'b,'x6} (fun.map{'x1,'x5,'a} x2 x0) (fun.map{'x2,'x6,'b} x3 x1) x4"
    ∷ codes "rec2.map_cong : !x0:'a -> 'x1. !x1:'b -> 'x2. !x2:'a -> 'x1. !x3:'b -> 'x2. !x4:('a,'b) rec2. (!x5:'a. rec2.set1{'a,'b} x4 x5 ==> (x0 x5 = x2 x5)) ==> ((!x5:'b. rec2.set2{'a,'b} x4 x5 ==> (x1 x5 = x3 x5)) ==> (rec2.map{'a,'x1,'b,'x2} x0 x1 x4 = rec2.map{'a,'x1,'b,'x2} x2 x3 x4))"
    ∷ codes "rec2.set1_map : !x0:'a -> 'x1. !x1:'b -> 'x2. !x2:('a,'b) rec2. !x3:'x1. rec2.set1{'x1,'x2} (rec2.map{'a,'x1,'b,'x2} x0 x1 x2) x3 = (?x4:'a. rec2.set1{'a,'b} x2 x4 /\\ (x3 = x0 x4))"
    ∷ codes "rec2.set2_map : !x0:'a -> 'x1. !x1:'b -> 'x2. !x2:('a,'b) rec2. !x3:'x2. rec2.set2{'x1,'x2} (rec2.map{'a,'x1,'b,'x2} x0 x1 x2) x3 = (?x4:'b. rec2.set2{'a,'b} x2 x4 /\\ (x3 = x1 x4))"
    ∷ codes "rec2.set1_count : !x0:('a,'b) rec2. countable{'a} (rec2.set1{'a,'b} x0)"
    ∷ codes "rec2.set2_count : !x0:('a,'b) rec2. countable{'b} (rec2.set2{'a,'b} x0)"
    ∷ codes "rec2.rel_comp : !x0:'a -> 'x1 -> bool. !x1:'b -> 'x2 -> bool. !x2:'x1 -> 'x5 -> bool. !x3:'x2 -> 'x6 -> bool. !x4:('a,'b) rec2. !x5:('x5,'x6) rec2. rec2.rel{'a,'x5,'b,'x6} (\\x6:'a. \\x7:'x5. ?x8:'x1. x0 x6 x8 /\\ x2 x8 x7) (\\x6:'b. \\x7:'x6. ?x8:'x2. x1 x6 x8 /\\ x3 x8 x7) x4 x5 = (?x6:('x1,'x2) rec2. rec2.rel{'a,'x1,'b,'x2} x0 x1 x4 x6 /\\ rec2.rel{'x1,'x5,'x2,'x6} x2 x3 x6 x5)"
    ∷ codes "rec2.rel_in : !x0:'a -> 'x1 -> bool. !x1:'b -> 'x2 -> bool. !x2:('a,'b) rec2. !x3:('x1,'x2) rec2. rec2.rel{'a,'x1,'b,'x2} x0 x1 x2 x3 = (?x4:(('a,'x1) prod,('b,'x2) prod) rec2. (!x5:('a,'x1) prod. rec2.set1{('a,'x1) prod,('b,'x2) prod} x4 x5 ==> x0 (fst{'a,'x1} x5) (snd{'a,'x1} x5)) /\\ ((!x5:('b,'x2) prod. rec2.set2{('a,'x1) prod,('b,'x2) prod} x4 x5 ==> x1 (fst{'b,'x2} x5) (snd{'b,'x2} x5)) /\\ ((rec2.map{('a,'x1) prod,'a,('b,'x2) prod,'b} fst{'a,'x1} fst{'b,'x2} x4 = x2) /\\ (rec2.map{('a,'x1) prod,'x1,('b,'x2) prod,'x2} snd{'a,'x1} snd{'b,'x2} x4 = x3))))"
    ∷ codes "rec2.induct : !x0:('a,'b) rec2 -> bool. (!x1:'a. !x2:'b. !x3:num. x0 (Rec{'a,'b} x1 x2 x3)) ==> (!x1:('a,'b) rec2. x0 x1)"
    ∷ codes "rec2.rec.Rec : !x0:'a -> 'b -> num -> 'x1. !x1:'a. !x2:'b. !x3:num. rec2.rec{'a,'b,'x1} x0 (Rec{'a,'b} x1 x2 x3) = x0 x1 x2 x3"
    ∷ []
