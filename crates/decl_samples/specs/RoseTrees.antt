-- `datatype 'a rose = Rose 'a (('a rose) list);` and its facts in canonical text.
use Rattle.std.specs.Prelude.{List, [], ◌∷◌, None, codes}
use Rattle.hol_terms.specs.Ty.{ty_var, ty_app, tys}
use Rattle.hol_terms.specs.Text.{Text}
use Rattle.decl_core.specs.Declaration.{Decl}
use Rattle.decl_core.specs.Statements.{Fact}
use Rattle.decl_core.specs.Functors.{basic_lives}
use Rattle.decl_core.specs.Liveness.{with_group}
use Rattle.decl_core.specs.CharacteristicList.{datatype_facts}
use Rattle.decl_samples.specs.Lists as Lists

abbrev pub declared : List Decl
declared =
    record {
      params = (codes "a" ∷ []);
      name = codes "rose";
      ctors = (
          record { name = codes "Rose"; args = (record { selector = None; ty = (ty_var (codes "a")) } ∷ record { selector = None; ty = (ty_app (codes "list") (tys ((ty_app (codes "rose") (tys ((ty_var (codes "a")) ∷ []))) ∷ []))) } ∷ []) } ∷ []);
    }
    ∷ []

abbrev pub facts : List Fact
facts = datatype_facts (with_group (with_group basic_lives Lists.declared) declared) declared

unfoldable pub lines : List Text
lines =
    codes "rose.inject.Rose : !x0:'a. !x1:'a rose list. !x2:'a. !x3:'a rose list. (Rose{'a} x0 x1 = Rose{'a} x2 x3) = ((x0 = x2) /\\ (x1 = x3))"
    ∷ codes "rose.exhaust : !x0:'a rose. !x1:bool. (!x2:'a. !x3:'a rose list. (x0 = Rose{'a} x2 x3) ==> x1) ==> x1"
    ∷ codes "rose.case.Rose : !x0:'a -> 'a rose list -> 'x1. !x1:'a. !x2:'a rose list. rose.case{'a,'x1} x0 (Rose{'a} x1 x2) = x0 x1 x2"
    ∷ codes "rose.split : !x0:'x1 -> bool. !x1:'a -> 'a rose list -> 'x1. !x2:'a rose. x0 (rose.case{'a,'x1} x1 x2) = (!x3:'a. !x4:'a rose list. (x2 = Rose{'a} x3 x4) ==> x0 (x1 x3 x4))"
    ∷ codes "rose.disc.Rose.Rose : !x0:'a. !x1:'a rose list. rose.is_Rose{'a} (Rose{'a} x0 x1)"
    ∷ codes "rose.map.Rose : !x0:'a -> 'x1. !x1:'a. !x2:'a rose list. rose.map{'a,'x1} x0 (Rose{'a} x1 x2) = Rose{'x1} (x0 x1) (list.map{'a rose,'x1 rose} (rose.map{'a,'x1} x0) x2)"
    ∷ codes "rose.set1.Rose : !x0:'a. !x1:'a rose list. !x2:'a. rose.set1{'a} (Rose{'a} x0 x1) x2 = ((x2 = x0) \\/ (?x3:'a rose. list.set1{'a rose} x1 x3 /\\ rose.set1{'a} x3 x2))"
    ∷ codes "rose.rel_inject.Rose : !x0:'a -> 'x1 -> bool. !x1:'a. !x2:'a rose list. !x3:'x1. !x4:'x1 rose list. rose.rel{'a,'x1} x0 (Rose{'a} x1 x2) (Rose{'x1} x3 x4) = (x0 x1 x3 /\\ list.rel{'a rose,'x1 rose} (rose.rel{'a,'x1} x0) x2 x4)"
    ∷ codes "rose.map_id : !x0:'a rose. rose.map{'a,'a} id{'a} x0 = x0"
    ∷ codes "rose.map_comp : !x0:'a -> 'x1. !x1:'x1 -> 'x5. !x2:'a rose. rose.map{'x1,'x5} x1 (rose.map{'a,'x1} x0 x2) = rose.map{'a,'x5} (fun.map{'x1,'x5,'a} x1 x0) x2"
    ∷ codes "rose.map_cong : !x0:'a -> 'x1. !x1:'a -> 'x1. !x2:'a rose. (!x3:'a. rose.set1{'a} x2 x3 ==> (x0 x3 = x1 x3)) ==> (rose.map{'a,'x1} x0 x2 = rose.map{'a,'x1} x1 x2)"
    ∷ codes "rose.set1_map : !x0:'a -> 'x1. !x1:'a rose. !x2:'x1. rose.set1{'x1} (rose.map{'a,'x1} x0 x1) x2 = (?x3:'a. rose.set1{'a} x1 x3 /\\ (x2 = x0 x3))"
    ∷ codes "rose.set1_count : !x0:'a rose. countable{'a} (rose.set1{'a} x0)"
    ∷ codes "rose.rel_comp : !x0:'a -> 'x1 -> bool. !x1:'x1 -> 'x5 -> bool. !x2:'a rose. !x3:'x5 rose. rose.rel{'a,'x5} (\\x4:'a. \\x5:'x5. ?x6:'x1. x0 x4 x6 /\\ x1 x6 x5) x2 x3 = (?x4:'x1 rose. rose.rel{'a,'x1} x0 x2 x4 /\\ rose.rel{'x1,'x5} x1 x4 x3)"
    ∷ codes "rose.rel_in : !x0:'a -> 'x1 -> bool. !x1:'a rose. !x2:'x1 rose. rose.rel{'a,'x1} x0 x1 x2 = (?x3:('a,'x1) prod rose. (!x4:('a,'x1) prod. rose.set1{('a,'x1) prod} x3 x4 ==> x0 (fst{'a,'x1} x4) (snd{'a,'x1} x4)) /\\ ((rose.map{('a,'x1) prod,'a} fst{'a,'x1} x3 = x1) /\\ (rose.map{('a,'x1) prod,'x1} snd{'a,'x1} x3 = x2)))"
    ∷ codes "rose.induct : !x0:'a rose -> bool. (!x1:'a. !x2:'a rose list. (!x3:'a rose. list.set1{'a rose} x2 x3 ==> x0 x3) ==> x0 (Rose{'a} x1 x2)) ==> (!x1:'a rose. x0 x1)"
    ∷ codes "rose.rec.Rose : !x0:'a -> ('a rose,'x1) prod list -> 'x1. !x1:'a. !x2:'a rose list. rose.rec{'a,'x1} x0 (Rose{'a} x1 x2) = x0 x1 (list.map{'a rose,('a rose,'x1) prod} (\\x3:'a rose. pair{'a rose,'x1} x3 (rose.rec{'a,'x1} x0 x3)) x2)"
    ∷ []
