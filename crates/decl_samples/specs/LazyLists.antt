-- `codatatype 'a llist = LNil | LCons 'a ('a llist);` and its facts in canonical text.
use Rattle.std.specs.Prelude.{List, [], ◌∷◌, None, codes}
use Rattle.hol_terms.specs.Ty.{ty_var, ty_app, tys}
use Rattle.hol_terms.specs.Text.{Text}
use Rattle.decl_core.specs.Declaration.{Decl}
use Rattle.decl_core.specs.Statements.{Fact}
use Rattle.decl_core.specs.Functors.{basic_lives}
use Rattle.decl_core.specs.Liveness.{with_group}
use Rattle.decl_core.specs.CharacteristicList.{codatatype_facts}

abbrev pub declared : List Decl
declared =
    record {
      params = (codes "a" ∷ []);
      name = codes "llist";
      ctors = (
          record { name = codes "LNil"; args = [] } ∷
          record { name = codes "LCons"; args = (record { selector = None; ty = (ty_var (codes "a")) } ∷ record { selector = None; ty = (ty_app (codes "llist") (tys ((ty_var (codes "a")) ∷ []))) } ∷ []) } ∷ []);
    }
    ∷ []

abbrev pub facts : List Fact
facts = codatatype_facts (with_group basic_lives declared) declared

unfoldable pub lines : List Text
lines =
    codes "llist.inject.LCons : !x0:'a. !x1:'a llist. !x2:'a. !x3:'a llist. (LCons{'a} x0 x1 = LCons{'a} x2 x3) = ((x0 = x2) /\\ (x1 = x3))"
    ∷ codes "llist.distinct.LNil.LCons : !x0:'a. !x1:'a llist. ~ (LNil{'a} = LCons{'a} x0 x1)"
    ∷ codes "llist.exhaust : !x0:'a llist. !x1:bool. ((x0 = LNil{'a}) ==> x1) ==> ((!x2:'a. !x3:'a llist. (x0 = LCons{'a} x2 x3) ==> x1) ==> x1)"
    ∷ codes "llist.case.LNil : !x0:'x1. !x1:'a -> 'a llist -> 'x1. llist.case{'x1,'a} x0 x1 LNil{'a} = x0"
    ∷ codes "llist.case.LCons : !x0:'x1. !x1:'a -> 'a llist -> 'x1. !x2:'a. !x3:'a llist. llist.case{'x1,'a} x0 x1 (LCons{'a} x2 x3) = x1 x2 x3"
    ∷ codes "llist.split : !x0:'x1 -> bool. !x1:'x1. !x2:'a -> 'a llist -> 'x1. !x3:'a llist. x0 (llist.case{'x1,'a} x1 x2 x3) = (((x3 = LNil{'a}) ==> x0 x1) /\\ (!x4:'a. !x5:'a llist. (x3 = LCons{'a} x4 x5) ==> x0 (x2 x4 x5)))"
    ∷ codes "llist.disc.LNil.LNil : llist.is_LNil{'a} LNil{'a}"
    ∷ codes "llist.disc.LNil.LCons : !x0:'a. !x1:'a llist. ~ llist.is_LNil{'a} (LCons{'a} x0 x1)"
    ∷ codes "llist.disc.LCons.LNil : ~ llist.is_LCons{'a} LNil{'a}"
    ∷ codes "llist.disc.LCons.LCons : !x0:'a. !x1:'a llist. llist.is_LCons{'a} (LCons{'a} x0 x1)"
    ∷ codes "llist.map.LNil : !x0:'a -> 'x1. llist.map{'a,'x1} x0 LNil{'a} = LNil{'x1}"
    ∷ codes "llist.map.LCons : !x0:'a -> 'x1. !x1:'a. !x2:'a llist. llist.map{'a,'x1} x0 (LCons{'a} x1 x2) = LCons{'x1} (x0 x1) (llist.map{'a,'x1} x0 x2)"
    ∷ codes "llist.set1.LNil : !x0:'a. llist.set1{'a} LNil{'a} x0 = F"
    ∷ codes "llist.set1.LCons : !x0:'a. !x1:'a llist. !x2:'a. llist.set1{'a} (LCons{'a} x0 x1) x2 = ((x2 = x0) \\/ llist.set1{'a} x1 x2)"
    ∷ codes "llist.rel_inject.LNil : !x0:'a -> 'x1 -> bool. llist.rel{'a,'x1} x0 LNil{'a} LNil{'x1} = T"
    ∷ codes "llist.rel_inject.LCons : !x0:'a -> 'x1 -> bool. !x1:'a. !x2:'a llist. !x3:'x1. !x4:'x1 llist. llist.rel{'a,'x1} x0 (LCons{'a} x1 x2) (LCons{'x1} x3 x4) = (x0 x1 x3 /\\ llist.rel{'a,'x1} x0 x2 x4)"
    ∷ codes "llist.rel_distinct.LNil.LCons : !x0:'a -> 'x1 -> bool. !x1:'x1. !x2:'x1 llist. ~ llist.rel{'a,'x1} x0 LNil{'a} (LCons{'x1} x1 x2)"
    ∷ codes "llist.rel_distinct.LCons.LNil : !x0:'a -> 'x1 -> bool. !x1:'a. !x2:'a llist. ~ llist.rel{'a,'x1} x0 (LCons{'a} x1 x2) LNil{'x1}"
    ∷ codes "llist.map_id : !x0:'a llist. llist.map{'a,'a} id{'a} x0 = x0"
    ∷ codes "llist.map_comp : !x0:'a -> 'x1. !x1:'x1 -> 'x5. !x2:'a llist. llist.map{'x1,'x5} x1 (llist.map{'a,'x1} x0 x2) = llist.map{'a,'x5} (fun.map{'x1,'x5,'a} x1 x0) x2"
    ∷ codes "llist.map_cong : !x0:'a -> 'x1. !x1:'a -> 'x1. !x2:'a llist. (!x3:'a. llist.set1{'a} x2 x3 ==> (x0 x3 = x1 x3)) ==> (llist.map{'a,'x1} x0 x2 = llist.map{'a,'x1} x1 x2)"
    ∷ codes "llist.set1_map : !x0:'a -> 'x1. !x1:'a llist. !x2:'x1. llist.set1{'x1} (llist.map{'a,'x1} x0 x1) x2 = (?x3:'a. llist.set1{'a} x1 x3 /\\ (x2 = x0 x3))"
    ∷ codes "llist.set1_count : !x0:'a llist. countable{'a} (llist.set1{'a} x0)"
    ∷ codes "llist.rel_comp : !x0:'a -> 'x1 -> bool. !x1:'x1 -> 'x5 -> bool. !x2:'a llist. !x3:'x5 llist. llist.rel{'a,'x5} (\\x4:'a. \\x5:'x5. ?x6:'x1. x0 x4 x6 /\\ x1 x6 x5) x2 x3 = (?x4:'x1 llist. llist.rel{'a,'x1} x0 x2 x4 /\\ llist.rel{'x1,'x5} x1 x4 x3)"
    ∷ codes "llist.rel_in : !x0:'a -> 'x1 -> bool. !x1:'a llist. !x2:'x1 llist. llist.rel{'a,'x1} x0 x1 x2 = (?x3:('a,'x1) prod llist. (!x4:('a,'x1) prod. llist.set1{('a,'x1) prod} x3 x4 ==> x0 (fst{'a,'x1} x4) (snd{'a,'x1} x4)) /\\ ((llist.map{('a,'x1) prod,'a} fst{'a,'x1} x3 = x1) /\\ (llist.map{('a,'x1) prod,'x1} snd{'a,'x1} x3 = x2)))"
    ∷ codes "llist.coinduct : !x0:'a llist -> 'a llist -> bool. (!x1:'a llist. !x2:'a llist. x0 x1 x2 ==> (((x1 = LNil{'a}) /\\ (x2 = LNil{'a})) \\/ (?x3:'a. ?x4:'a llist. ?x5:'a. ?x6:'a llist. (x1 = LCons{'a} x3 x4) /\\ ((x2 = LCons{'a} x5 x6) /\\ ((x3 = x5) /\\ x0 x4 x6))))) ==> (!x1:'a llist. !x2:'a llist. x0 x1 x2 ==> (x1 = x2))"
    ∷ codes "llist.ctor.LNil : llist.ctor{'a} (inl{unit,('a,'a llist) prod} one) = LNil{'a}"
    ∷ codes "llist.ctor.LCons : !x0:'a. !x1:'a llist. llist.ctor{'a} (inr{('a,'a llist) prod,unit} (pair{'a,'a llist} x0 x1)) = LCons{'a} x0 x1"
    ∷ codes "llist.corec : !x0:'x1 -> (unit,('a,('a llist,'x1) sum) prod) sum. !x1:'x1. llist.corec{'x1,'a} x0 x1 = llist.ctor{'a} (sum.map{unit,unit,('a,('a llist,'x1) sum) prod,('a,'a llist) prod} id{unit} (prod.map{'a,'a,('a llist,'x1) sum,'a llist} id{'a} (sum.case{'a llist,'a llist,'x1} id{'a llist} (llist.corec{'x1,'a} x0))) (x0 x1))"
    ∷ []
