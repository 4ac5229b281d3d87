-- `datatype 'a option = None | Some (the : 'a);` and its facts in canonical text.
use Rattle.std.specs.Prelude.{List, [], ◌∷◌, Some, codes}
use Rattle.hol_terms.specs.Ty.{ty_var}
use Rattle.hol_terms.specs.Text.{Text}
use Rattle.decl_core.specs.Declaration.{Decl}
use Rattle.decl_core.specs.Statements.{Fact}
use Rattle.decl_core.specs.Functors.{basic_lives}
use Rattle.decl_core.specs.Liveness.{with_group}
use Rattle.decl_core.specs.CharacteristicList.{datatype_facts}

abbrev pub declared : List Decl
declared =
    record {
      params = (codes "a" ∷ []);
      name = codes "option";
      ctors = (
          record { name = codes "None"; args = [] } ∷
          record { name = codes "Some"; args = (record { selector = Some (codes "the"); ty = (ty_var (codes "a")) } ∷ []) } ∷ []);
    }
    ∷ []

abbrev pub facts : List Fact
facts = datatype_facts (with_group basic_lives declared) declared

unfoldable pub lines : List Text
lines =
    codes "option.inject.Some : !x0:'a. !x1:'a. (Some{'a} x0 = Some{'a} x1) = (x0 = x1)"
    ∷ codes "option.distinct.None.Some : !x0:'a. ~ (None{'a} = Some{'a} x0)"
    ∷ codes "option.exhaust : !x0:'a option. !x1:bool. ((x0 = None{'a}) ==> x1) ==> ((!x2:'a. (x0 = Some{'a} x2) ==> x1) ==> x1)"
    ∷ codes "option.case.None : !x0:'x1. !x1:'a -> 'x1. option.case{'x1,'a} x0 x1 None{'a} = x0"
    ∷ codes "option.case.Some : !x0:'x1. !x1:'a -> 'x1. !x2:'a. option.case{'x1,'a} x0 x1 (Some{'a} x2) = x1 x2"
    ∷ codes "option.split : !x0:'x1 -> bool. !x1:'x1. !x2:'a -> 'x1. !x3:'a option. x0 (option.case{'x1,'a} x1 x2 x3) = (((x3 = None{'a}) ==> x0 x1) /\\ (!x4:'a. (x3 = Some{'a} x4) ==> x0 (x2 x4)))"
    ∷ codes "option.disc.None.None : option.is_None{'a} None{'a}"
    ∷ codes "option.disc.None.Some : !x0:'a. ~ option.is_None{'a} (Some{'a} x0)"
    ∷ codes "option.disc.Some.None : ~ option.is_Some{'a} None{'a}"
    ∷ codes "option.disc.Some.Some : !x0:'a. option.is_Some{'a} (Some{'a} x0)"
    ∷ codes "option.sel.the : !x0:'a. the{'a} (Some{'a} x0) = x0"
    ∷ codes "option.collapse.Some : !x0:'a option. option.is_Some{'a} x0 ==> (Some{'a} (the{'a} x0) = x0)"
    ∷ codes "option.map.None : !x0:'a -> 'x1. option.map{'a,'x1} x0 None{'a} = None{'x1}"
    ∷ codes "option.map.Some : !x0:'a -> 'x1. !x1:'a. option.map{'a,'x1} x0 (Some{'a} x1) = Some{'x1} (x0 x1)"
    ∷ codes "option.set1.None : !x0:'a. option.set1{'a} None{'a} x0 = F"
    ∷ codes "option.set1.Some : !x0:'a. !x1:'a. option.set1{'a} (Some{'a} x0) x1 = (x1 = x0)"
    ∷ codes "option.rel_inject.None : !x0:'a -> 'x1 -> bool. option.rel{'a,'x1} x0 None{'a} None{'x1} = T"
    ∷ codes "option.rel_inject.Some : !x0:'a -> 'x1 -> bool. !x1:'a. !x2:'x1. option.rel{'a,'x1} x0 (Some{'a} x1) (Some{'x1} x2) = x0 x1 x2"
    ∷ codes "option.rel_distinct.None.Some : !x0:'a -> 'x1 -> bool. !x1:'x1. ~ option.rel{'a,'x1} x0 None{'a} (Some{'x1} x1)"
    ∷ codes "option.rel_distinct.Some.None : !x0:'a -> 'x1 -> bool. !x1:'a. ~ option.rel{'a,'x1} x0 (Some{'a} x1) None{'x1}"
    ∷ codes "option.map_id : !x0:'a option. option.map{'a,'a} id{'a} x0 = x0"
    ∷ codes "option.map_comp : !x0:'a -> 'x1. !x1:'x1 -> 'x5. !x2:'a option. option.map{'x1,'x5} x1 (option.map{'a,'x1} x0 x2) = option.map{'a,'x5} (fun.map{'x1,'x5,'a} x1 x0) x2"
    ∷ codes "option.map_cong : !x0:'a -> 'x1. !x1:'a -> 'x1. !x2:'a option. (!x3:'a. option.set1{'a} x2 x3 ==> (x0 x3 = x1 x3)) ==> (option.map{'a,'x1} x0 x2 = option.map{'a,'x1} x1 x2)"
    ∷ codes "option.set1_map : !x0:'a -> 'x1. !x1:'a option. !x2:'x1. option.set1{'x1} (option.map{'a,'x1} x0 x1) x2 = (?x3:'a. option.set1{'a} x1 x3 /\\ (x2 = x0 x3))"
    ∷ codes "option.set1_count : !x0:'a option. countable{'a} (option.set1{'a} x0)"
    ∷ codes "option.rel_comp : !x0:'a -> 'x1 -> bool. !x1:'x1 -> 'x5 -> bool. !x2:'a option. !x3:'x5 option. option.rel{'a,'x5} (\\x4:'a. \\x5:'x5. ?x6:'x1. x0 x4 x6 /\\ x1 x6 x5) x2 x3 = (?x4:'x1 option. option.rel{'a,'x1} x0 x2 x4 /\\ option.rel{'x1,'x5} x1 x4 x3)"
    ∷ codes "option.rel_in : !x0:'a -> 'x1 -> bool. !x1:'a option. !x2:'x1 option. option.rel{'a,'x1} x0 x1 x2 = (?x3:('a,'x1) prod option. (!x4:('a,'x1) prod. option.set1{('a,'x1) prod} x3 x4 ==> x0 (fst{'a,'x1} x4) (snd{'a,'x1} x4)) /\\ ((option.map{('a,'x1) prod,'a} fst{'a,'x1} x3 = x1) /\\ (option.map{('a,'x1) prod,'x1} snd{'a,'x1} x3 = x2)))"
    ∷ codes "option.induct : !x0:'a option -> bool. x0 None{'a} ==> ((!x1:'a. x0 (Some{'a} x1)) ==> (!x1:'a option. x0 x1))"
    ∷ codes "option.rec.None : !x0:'x1. !x1:'a -> 'x1. option.rec{'x1,'a} x0 x1 None{'a} = x0"
    ∷ codes "option.rec.Some : !x0:'x1. !x1:'a -> 'x1. !x2:'a. option.rec{'x1,'a} x0 x1 (Some{'a} x2) = x1 x2"
    ∷ []
