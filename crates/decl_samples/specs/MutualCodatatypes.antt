-- `codatatype 'a even = E 'a ('a odd) and 'a odd = O ('a even);` and its facts in canonical text.
use Rattle.std.specs.Prelude.{List, [], ◌∷◌, None, codes}
use Rattle.hol_terms.specs.Ty.{ty_var, ty_app, tys}
use Rattle.hol_terms.specs.Text.{Text}
use Rattle.decl_core.specs.Declaration.{Decl}
use Rattle.decl_core.specs.Statements.{Fact}
use Rattle.decl_core.specs.Functors.{basic_lives}
use Rattle.decl_core.specs.Liveness.{with_group}
use Rattle.decl_core.specs.CharacteristicList.{codatatype_facts}

abbrev pub declared : List Decl
declared =
    record {
      params = (codes "a" ∷ []);
      name = codes "even";
      ctors = (
          record { name = codes "E"; args = (record { selector = None; ty = (ty_var (codes "a")) } ∷ record { selector = None; ty = (ty_app (codes "odd") (tys ((ty_var (codes "a")) ∷ []))) } ∷ []) } ∷ []);
    }
    ∷ record {
      params = (codes "a" ∷ []);
      name = codes "odd";
      ctors = (
          record { name = codes "O"; args = (record { selector = None; ty = (ty_app (codes "even") (tys ((ty_var (codes "a")) ∷ []))) } ∷ []) } ∷ []);
    }
    ∷ []

abbrev pub facts : List Fact
facts = codatatype_facts (with_group basic_lives declared) declared

unfoldable pub lines : List Text
lines =
    codes "even.inject.E : !x0:'a. !x1:'a odd. !x2:'a. !x3:'a odd. (E{'a} x0 x1 = E{'a} x2 x3) = ((x0 = x2) /\\ (x1 = x3))"
    ∷ codes "even.exhaust : !x0:'a even. !x1:bool. (!x2:'a. !x3:'a odd. (x0 = E{'a} x2 x3) ==> x1) ==> x1"
    ∷ codes "even.case.E : !x0:'a -> 'a odd -> 'x1. !x1:'a. !x2:'a odd. even.case{'a,'x1} x0 (E{'a} x1 x2) = x0 x1 x2"
    ∷ codes "even.split : !x0:'x1 -> bool. !x1:'a -> 'a odd -> 'x1. !x2:'a even. x0 (even.case{'a,'x1} x1 x2) = (!x3:'a. !x4:'a odd. (x2 = E{'a} x3 x4) ==> x0 (x1 x3 x4))"
    ∷ codes "even.disc.E.E : !x0:'a. !x1:'a odd. even.is_E{'a} (E{'a} x0 x1)"
    ∷ codes "odd.inject.O : !x0:'a even. !x1:'a even. (O{'a} x0 = O{'a} x1) = (x0 = x1)"
    ∷ codes "odd.exhaust : !x0:'a odd. !x1:bool. (!x2:'a even. (x0 = O{'a} x2) ==> x1) ==> x1"
    ∷ codes "odd.case.O : !x0:'a even -> 'x1. !x1:'a even. odd.case{'a,'x1} x0 (O{'a} x1) = x0 x1"
    ∷ codes "odd.split : !x0:'x1 -> bool. !x1:'a even -> 'x1. !x2:'a odd. x0 (odd.case{'a,'x1} x1 x2) = (!x3:'a even. (x2 = O{'a} x3) ==> x0 (x1 x3))"
    ∷ codes "odd.disc.O.O : !x0:'a even. odd.is_O{'a} (O{'a} x0)"
    ∷ codes "even.map.E : !x0:'a -> 'x1. !x1:'a. !x2:'a odd. even.map{'a,'x1} x0 (E{'a} x1 x2) = E{'x1} (x0 x1) (odd.map{'a,'x1} x0 x2)"
    ∷ codes "even.set1.E : !x0:'a. !x1:'a odd. !x2:'a. even.set1{'a} (E{'a} x0 x1) x2 = ((x2 = x0) \\/ odd.set1{'a} x1 x2)"
    ∷ codes "even.rel_inject.E : !x0:'a -> 'x1 -> bool. !x1:'a. !x2:'a odd. !x3:'x1. !x4:'x1 odd. even.rel{'a,'x1} x0 (E{'a} x1 x2) (E{'x1} x3 x4) = (x0 x1 x3 /\\ odd.rel{'a,'x1} x0 x2 x4)"
    ∷ codes "even.map_id : !x0:'a even. even.map{'a,'a} id{'a} x0 = x0"
    ∷ codes "even.map_comp : !x0:'a -> 'x1. !x1:'x1 -> 'x5. !x2:'a even. even.map{'x1,'x5} x1 (even.map{'a,'x1} x0 x2) = even.map{'a,'x5} (fun.map{'x1,'x5,'a} x1 x0) x2"
    ∷ codes "even.map_cong : !x0:'a -> 'x1. !x1:'a -> 'x1. !x2:'a even. (!x3:'a. even.set1{'a} x2 x3 ==> (x0 x3 = x1 x3)) ==> (even.map{'a,'x1} x0 x2 = even.map{'a,'x1} x1 x2)"
    ∷ codes "even.set1_map : !x0:'a -> 'x1. !x1:'a even. !x2:'x1. even.set1{'x1} (even.map{'a,'x1} x0 x1) x2 = (?x3:'a. even.set1{'a} x1 x3 /\\ (x2 = x0 x3))"
    ∷ codes "even.set1_count : !x0:'a even. countable{'a} (even.set1{'a} x0)"
    ∷ codes "even.rel_comp : !x0:'a -> 'x1 -> bool. !x1:'x1 -> 'x5 -> bool. !x2:'a even. !x3:'x5 even. even.rel{'a,'x5} (\\x4:'a. \\x5:'x5. ?x6:'x1. x0 x4 x6 /\\ x1 x6 x5) x2 x3 = (?x4:'x1 even. even.rel{'a,'x1} x0 x2 x4 /\\ even.rel{'x1,'x5} x1 x4 x3)"
    ∷ codes "even.rel_in : !x0:'a -> 'x1 -> bool. !x1:'a even. !x2:'x1 even. even.rel{'a,'x1} x0 x1 x2 = (?x3:('a,'x1) prod even. (!x4:('a,'x1) prod. even.set1{('a,'x1) prod} x3 x4 ==> x0 (fst{'a,'x1} x4) (snd{'a,'x1} x4)) /\\ ((even.map{('a,'x1) prod,'a} fst{'a,'x1} x3 = x1) /\\ (even.map{('a,'x1) prod,'x1} snd{'a,'x1} x3 = x2)))"
    ∷ codes "odd.map.O : !x0:'a -> 'x1. !x1:'a even. odd.map{'a,'x1} x0 (O{'a} x1) = O{'x1} (even.map{'a,'x1} x0 x1)"
    ∷ codes "odd.set1.O : !x0:'a even. !x1:'a. odd.set1{'a} (O{'a} x0) x1 = even.set1{'a} x0 x1"
    ∷ codes "odd.rel_inject.O : !x0:'a -> 'x1 -> bool. !x1:'a even. !x2:'x1 even. odd.rel{'a,'x1} x0 (O{'a} x1) (O{'x1} x2) = even.rel{'a,'x1} x0 x1 x2"
    ∷ codes "odd.map_id : !x0:'a odd. odd.map{'a,'a} id{'a} x0 = x0"
    ∷ codes "odd.map_comp : !x0:'a -> 'x1. !x1:'x1 -> 'x5. !x2:'a odd. odd.map{'x1,'x5} x1 (odd.map{'a,'x1} x0 x2) = odd.map{'a,'x5} (fun.map{'x1,'x5,'a} x1 x0) x2"
    ∷ codes "odd.map_cong : !x0:'a -> 'x1. !x1:'a -> 'x1. !x2:'a odd. (!x3:'a. odd.set1{'a} x2 x3 ==> (x0 x3 = x1 x3)) ==> (odd.map{'a,'x1} x0 x2 = odd.map{'a,'x1} x1 x2)"
    ∷ codes "odd.set1_map : !x0:'a -> 'x1. !x1:'a odd. !x2:'x1. odd.set1{'x1} (odd.map{'a,'x1} x0 x1) x2 = (?x3:'a. odd.set1{'a} x1 x3 /\\ (x2 = x0 x3))"
    ∷ codes "odd.set1_count : !x0:'a odd. countable{'a} (odd.set1{'a} x0)"
    ∷ codes "odd.rel_comp : !x0:'a -> 'x1 -> bool. !x1:'x1 -> 'x5 -> bool. !x2:'a odd. !x3:'x5 odd. odd.rel{'a,'x5} (\\x4:'a. \\x5:'x5. ?x6:'x1. x0 x4 x6 /\\ x1 x6 x5) x2 x3 = (?x4:'x1 odd. odd.rel{'a,'x1} x0 x2 x4 /\\ odd.rel{'x1,'x5} x1 x4 x3)"
    ∷ codes "odd.rel_in : !x0:'a -> 'x1 -> bool. !x1:'a odd. !x2:'x1 odd. odd.rel{'a,'x1} x0 x1 x2 = (?x3:('a,'x1) prod odd. (!x4:('a,'x1) prod. odd.set1{('a,'x1) prod} x3 x4 ==> x0 (fst{'a,'x1} x4) (snd{'a,'x1} x4)) /\\ ((odd.map{('a,'x1) prod,'a} fst{'a,'x1} x3 = x1) /\\ (odd.map{('a,'x1) prod,'x1} snd{'a,'x1} x3 = x2)))"
    ∷ codes "even.coinduct : !x0:'a even -> 'a even -> bool. !x1:'a odd -> 'a odd -> bool. (!x2:'a even. !x3:'a even. x0 x2 x3 ==> (?x4:'a. ?x5:'a odd. ?x6:'a. ?x7:'a odd. (x2 = E{'a} x4 x5) /\\ ((x3 = E{'a} x6 x7) /\\ ((x4 = x6) /\\ x1 x5 x7)))) ==> ((!x2:'a odd. !x3:'a odd. x1 x2 x3 ==> (?x4:'a even. ?x5:'a even. (x2 = O{'a} x4) /\\ ((x3 = O{'a} x5) /\\ x0 x4 x5))) ==> ((!x2:'a even. !x3:'a even. x0 x2 x3 ==> (x2 = x3)) /\\ (!x2:'a odd. !x3:'a odd. x1 x2 x3 ==> (x2 = x3))))"
    ∷ codes "even.ctor.E : !x0:'a. !x1:'a odd. even.ctor{'a} (pair{'a,'a odd} x0 x1) = E{'a} x0 x1"
    ∷ codes "even.corec : !x0:'x1 -> ('a,('a odd,'x2) sum) prod. !x1:'x2 -> ('a even,'x1) sum. !x2:'x1. even.corec{'x1,'a,'x2} x0 x1 x2 = even.ctor{'a} (prod.map{'a,'a,('a odd,'x2) sum,'a odd} id{'a} (sum.case{'a odd,'a odd,'x2} id{'a odd} (odd.corec{'x1,'a,'x2} x0 x1)) (x0 x2))"
    ∷ codes "odd.ctor.O : !x0:'a even. odd.ctor{'a} x0 = O{'a} x0"
    ∷ codes "odd.corec : !x0:'x1 -> ('a,('a odd,'x2) sum) prod. !x1:'x2 -> ('a even,'x1) sum. !x2:'x2. odd.corec{'x1,'a,'x2} x0 x1 x2 = odd.ctor{'a} (sum.case{'a even,'a even,'x1} id{'a even} (even.corec{'x1,'a,'x2} x0 x1) (x1 x2))"
    ∷ []
