-- `datatype 'a list = Nil | Cons (hd : 'a) (tl : 'a list);` and its facts in canonical text.
use Rattle.std.specs.Prelude.{List, [], ◌∷◌, Some, codes}
use Rattle.hol_terms.specs.Ty.{ty_var, ty_app, tys}
use Rattle.hol_terms.specs.Text.{Text}
use Rattle.decl_core.specs.Declaration.{Decl}
use Rattle.decl_core.specs.Statements.{Fact}
use Rattle.decl_core.specs.Functors.{basic_lives}
use Rattle.decl_core.specs.Liveness.{with_group}
use Rattle.decl_core.specs.CharacteristicList.{datatype_facts}

abbrev pub declared : List Decl
declared =
    record {
      params = (codes "a" ∷ []);
      name = codes "list";
      ctors = (
          record { name = codes "Nil"; args = [] } ∷
          record { name = codes "Cons"; args = (record { selector = Some (codes "hd"); ty = (ty_var (codes "a")) } ∷ record { selector = Some (codes "tl"); ty = (ty_app (codes "list") (tys ((ty_var (codes "a")) ∷ []))) } ∷ []) } ∷ []);
    }
    ∷ []

abbrev pub facts : List Fact
facts = datatype_facts (with_group basic_lives declared) declared

unfoldable pub lines : List Text
lines =
    codes "list.inject.Cons : !x0:'a. !x1:'a list. !x2:'a. !x3:'a list. (Cons{'a} x0 x1 = Cons{'a} x2 x3) = ((x0 = x2) /\\ (x1 = x3))"
    ∷ codes "list.distinct.Nil.Cons : !x0:'a. !x1:'a list. ~ (Nil{'a} = Cons{'a} x0 x1)"
    ∷ codes "list.exhaust : !x0:'a list. !x1:bool. ((x0 = Nil{'a}) ==> x1) ==> ((!x2:'a. !x3:'a list. (x0 = Cons{'a} x2 x3) ==> x1) ==> x1)"
    ∷ codes "list.case.Nil : !x0:'x1. !x1:'a -> 'a list -> 'x1. list.case{'x1,'a} x0 x1 Nil{'a} = x0"
    ∷ codes "list.case.Cons : !x0:'x1. !x1:'a -> 'a list -> 'x1. !x2:'a. !x3:'a list. list.case{'x1,'a} x0 x1 (Cons{'a} x2 x3) = x1 x2 x3"
    ∷ codes "list.split : !x0:'x1 -> bool. !x1:'x1. !x2:'a -> 'a list -> 'x1. !x3:'a list. x0 (list.case{'x1,'a} x1 x2 x3) = (((x3 = Nil{'a}) ==> x0 x1) /\\ (!x4:'a. !x5:'a list. (x3 = Cons{'a} x4 x5) ==> x0 (x2 x4 x5)))"
    ∷ codes "list.disc.Nil.Nil : list.is_Nil{'a} Nil{'a}"
    ∷ codes "list.disc.Nil.Cons : !x0:'a. !x1:'a list. ~ list.is_Nil{'a} (Cons{'a} x0 x1)"
    ∷ codes "list.disc.Cons.Nil : ~ list.is_Cons{'a} Nil{'a}"
    ∷ codes "list.disc.Cons.Cons : !x0:'a. !x1:'a list. list.is_Cons{'a} (Cons{'a} x0 x1)"
    ∷ codes "list.sel.hd : !x0:'a. !x1:'a list. hd{'a} (Cons{'a} x0 x1) = x0"
    ∷ codes "list.sel.tl : !x0:'a. !x1:'a list. tl{'a} (Cons{'a} x0 x1) = x1"
    ∷ codes "list.collapse.Cons : !x0:'a list. list.is_Cons{'a} x0 ==> (Cons{'a} (hd{'a} x0) (tl{'a} x0) = x0)"
    ∷ codes "list.map.Nil : !x0:'a -> 'x1. list.map{'a,'x1} x0 Nil{'a} = Nil{'x1}"
    ∷ codes "list.map.Cons : !x0:'a -> 'x1. !x1:'a. !x2:'a list. list.map{'a,'x1} x0 (Cons{'a} x1 x2) = Cons{'x1} (x0 x1) (list.map{'a,'x1} x0 x2)"
    ∷ codes "list.set1.Nil : !x0:'a. list.set1{'a} Nil{'a} x0 = F"
    ∷ codes "list.set1.Cons : !x0:'a. !x1:'a list. !x2:'a. list.set1{'a} (Cons{'a} x0 x1) x2 = ((x2 = x0) \\/ list.set1{'a} x1 x2)"
    ∷ codes "list.rel_inject.Nil : !x0:'a -> 'x1 -> bool. list.rel{'a,'x1} x0 Nil{'a} Nil{'x1} = T"
    ∷ codes "list.rel_inject.Cons : !x0:'a -> 'x1 -> bool. !x1:'a. !x2:'a list. !x3:'x1. !x4:'x1 list. list.rel{'a,'x1} x0 (Cons{'a} x1 x2) (Cons{'x1} x3 x4) = (x0 x1 x3 /\\ list.rel{'a,'x1} x0 x2 x4)"
    ∷ codes "list.rel_distinct.Nil.Cons : !x0:'a -> 'x1 -> bool. !x1:'x1. !x2:'x1 list. ~ list.rel{'a,'x1} x0 Nil{'a} (Cons{'x1} x1 x2)"
    ∷ codes "list.rel_distinct.Cons.Nil : !x0:'a -> 'x1 -> bool. !x1:'a. !x2:'a list. ~ list.rel{'a,'x1} x0 (Cons{'a} x1 x2) Nil{'x1}"
    ∷ codes "list.map_id : !x0:'a list. list.map{'a,'a} id{'a} x0 = x0"
    ∷ codes "list.map_comp : !x0:'a -> 'x1. !x1:'x1 -> 'x5. !x2:'a list. list.map{'x1,'x5} x1 (list.map{'a,'x1} x0 x2) = list.map{'a,'x5} (fun.map{'x1,'x5,'a} x1 x0) x2"
    ∷ codes "list.map_cong : !x0:'a -> 'x1. !x1:'a -> 'x1. !x2:'a list. (!x3:'a. list.set1{'a} x2 x3 ==> (x0 x3 = x1 x3)) ==> (list.map{'a,'x1} x0 x2 = list.map{'a,'x1} x1 x2)"
    ∷ codes "list.set1_map : !x0:'a -> 'x1. !x1:'a list. !x2:'x1. list.set1{'x1} (list.map{'a,'x1} x0 x1) x2 = (?x3:'a. list.set1{'a} x1 x3 /\\ (x2 = x0 x3))"
    ∷ codes "list.set1_count : !x0:'a list. countable{'a} (list.set1{'a} x0)"
    ∷ codes "list.rel_comp : !x0:'a -> 'x1 -> bool. !x1:'x1 -> 'x5 -> bool. !x2:'a list. !x3:'x5 list. list.rel{'a,'x5} (\\x4:'a. \\x5:'x5. ?x6:'x1. x0 x4 x6 /\\ x1 x6 x5) x2 x3 = (?x4:'x1 list. list.rel{'a,'x1} x0 x2 x4 /\\ list.rel{'x1,'x5} x1 x4 x3)"
    ∷ codes "list.rel_in : !x0:'a -> 'x1 -> bool. !x1:'a list. !x2:'x1 list. list.rel{'a,'x1} x0 x1 x2 = (?x3:('a,'x1) prod list. (!x4:('a,'x1) prod. list.set1{('a,'x1) prod} x3 x4 ==> x0 (fst{'a,'x1} x4) (snd{'a,'x1} x4)) /\\ ((list.map{('a,'x1) prod,'a} fst{'a,'x1} x3 = x1) /\\ (list.map{('a,'x1) prod,'x1} snd{'a,'x1} x3 = x2)))"
    ∷ codes "list.induct : !x0:'a list -> bool. x0 Nil{'a} ==> ((!x1:'a. !x2:'a list. x0 x2 ==> x0 (Cons{'a} x1 x2)) ==> (!x1:'a list. x0 x1))"
    ∷ codes "list.rec.Nil : !x0:'x1. !x1:'a -> ('a list,'x1) prod -> 'x1. list.rec{'x1,'a} x0 x1 Nil{'a} = x0"
    ∷ codes "list.rec.Cons : !x0:'x1. !x1:'a -> ('a list,'x1) prod -> 'x1. !x2:'a. !x3:'a list. list.rec{'x1,'a} x0 x1 (Cons{'a} x2 x3) = x1 x2 (pair{'a list,'x1} x3 (list.rec{'x1,'a} x0 x1 x3))"
    ∷ []
