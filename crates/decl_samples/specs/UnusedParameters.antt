-- `codatatype ('a,'b) cph = Cph 'b;` and its facts in canonical text.
use Rattle.std.specs.Prelude.{List, [], ◌∷◌, None, codes}
use Rattle.hol_terms.specs.Ty.{ty_var}
use Rattle.hol_terms.specs.Text.{Text}
use Rattle.decl_core.specs.Declaration.{Decl}
use Rattle.decl_core.specs.Statements.{Fact}
use Rattle.decl_core.specs.Functors.{basic_lives}
use Rattle.decl_core.specs.Liveness.{with_group}
use Rattle.decl_core.specs.CharacteristicList.{codatatype_facts}
use Rattle.decl_samples.specs.UnusedParameters1 as UnusedParameters1

abbrev pub declared : List Decl
declared =
    record {
      params = (codes "a" ∷ codes "b" ∷ []);
      name = codes "cph";
      ctors = (
          record { name = codes "Cph"; args = (record { selector = None; ty = (ty_var (codes "b")) } ∷ []) } ∷ []);
    }
    ∷ []

abbrev pub facts : List Fact
facts = codatatype_facts (with_group (with_group basic_lives UnusedParameters1.declared) declared) declared

unfoldable pub lines : List Text
lines =
    codes "cph.inject.Cph : !x0:'b. !x1:'b. (Cph{'b,'a} x0 = Cph{'b,'a} x1) = (x0 = x1)"
    ∷ codes "cph.exhaust : !x0:('a,'b) cph. !x1:bool. (!x2:'b. (x0 = Cph{'b,'a} x2) ==> x1) ==> x1"
    ∷ codes "cph.case.Cph : !x0:'b -> 'x1. !x1:'b. cph.case{'b,'x1,'a} x0 (Cph{'b,'a} x1) = x0 x1"
    ∷ codes "cph.split : !x0:'x1 -> bool. !x1:'b -> 'x1. !x2:('a,'b) cph. x0 (cph.case{'b,'x1,'a} x1 x2) = (!x3:'b. (x2 = Cph{'b,'a} x3) ==> x0 (x1 x3))"
    ∷ codes "cph.disc.Cph.Cph : !x0:'b. cph.is_Cph{'a,'b} (Cph{'b,'a} x0)"
    ∷ codes "cph.map.Cph : !x0:'a -> 'x1. !x1:'b -> 'x2. !x2:'b. cph.map{'a,'x1,'b,'x2} x0 x1 (Cph{'b,'a} x2) = Cph{'x2,'x1} (x1 x2)"
    ∷ codes "cph.set1.Cph : !x0:'b. !x1:'a. cph.set1{'a,'b} (Cph{'b,'a} x0) x1 = F"
    ∷ codes "cph.set2.Cph : !x0:'b. !x1:'b. cph.set2{'a,'b} (Cph{'b,'a} x0) x1 = (x1 = x0)"
    ∷ codes "cph.rel_inject.Cph : !x0:'a -> 'x1 -> bool. !x1:'b -> 'x2 -> bool. !x2:'b. !x3:'x2. cph.rel{'a,'x1,'b,'x2} x0 x1 (Cph{'b,'a} x2) (Cph{'x2,'x1} x3) = x1 x2 x3"
    ∷ codes "cph.map_id : !x0:('a,'b) cph. cph.map{'a,'a,'b,'b} id{'a} id{'b} x0 = x0"
    ∷ codes "cph.map_comp : !x0:'a -> 'x1. !x1:'b -> 'x2. !x2:'x1 -> 'x5. !x3:'x2 -> 'x6. !x4:('a,'b) cph. cph.map{'x1,'x5,'x2,'x6} x2 x3 (cph.map{'a,'x1,'b,'x2} x0 x1 x4) = cph.map{'a,'x5,'b,'x6} (fun.map{'x1,'x5,'a} x2 x0) (fun.map{'x2,'x6,'b} x3 x1) x4"
    ∷ codes "cph.map_cong : !x0:'a -> 'x1. !x1:'b -> 'x2. !x2:'a -> 'x1. !x3:'b -> 'x2. !x4:('a,'b) cph. (!x5:'a. cph.set1{'a,'b} x4 x5 ==> (x0 x5 = x2 x5)) ==> ((!x5:'b. cph.set2{'a,'b} x4 x5 ==> (x1 x5 = x3 x5)) ==> (cph.map{'a,'x1,'b,'x2} x0 x1 x4 = cph.map{'a,'x1,'b,'x2} x2 x3 x4))"
    ∷ codes "cph.set1_map : !x0:'a -> 'x1. !x1:'b -> 'x2. !x2:('a,'b) cph. !x3:'x1. cph.set1{'x1,'x2} (cph.map{'a,'x1,'b,'x2} x0 x1 x2) x3 = (?x4:'a. cph.set1{'a,'b} x2 x4 /\\ (x3 = x0 x4))"
    ∷ codes "cph.set2_map : !x0:'a -> 'x1. !x1:'b -> 'x2. !x2:('a,'b) cph. !x3:'x2. cph.set2{'x1,'x2} (cph.map{'a,'x1,'b,'x2} x0 x1 x2) x3 = (?x4:'b. cph.set2{'a,'b} x2 x4 /\\ (x3 = x1 x4))"
    ∷ codes "cph.set1_count : !x0:('a,'b) cph. countable{'a} (cph.set1{'a,'b} x0)"
    ∷ codes "cph.set2_count : !x0:('a,'b) cph. countable{'b} (cph.set2{'a,'b} x0)"
    ∷ codes "cph.rel_comp : !x0:'a -> 'x1 -> bool. !x1:'b -> 'x2 -> bool. !x2:'x1 -> 'x5 -> bool. !x3:'x2 -> 'x6 -> bool. !x4:('a,'b) cph. !x5:('x5,'x6) cph. cph.rel{'a,'x5,'b,'x6} (\\x6:'a. \\x7:'x5. ?x8:'x1. x0 x6 x8 /\\ x2 x8 x7) (\\x6:'b. \\x7:'x6. ?x8:'x2. x1 x6 x8 /\\ x3 x8 x7) x4 x5 = (?x6:('x1,'x2) cph. cph.rel{'a,'x1,'b,'x2} x0 x1 x4 x6 /\\ cph.rel{'x1,'x5,'x2,'x6} x2 x3 x6 x5)"
    ∷ codes "cph.rel_in : !x0:'a -> 'x1 -> bool. !x1:'b -> 'x2 -> bool. !x2:('a,'b) cph. !x3:('x1,'x2) cph. cph.rel{'a,'x1,'b,'x2} x0 x1 x2 x3 = (?x4:(('a,'x1) prod,('b,'x2) prod) cph. (!x5:('a,'x1) prod. cph.set1{('a,'x1) prod,('b,'x2) prod} x4 x5 ==> x0 (fst{'a,'x1} x5) (snd{'a,'x1} x5)) /\\ ((!x5:('b,'x2) prod. cph.set2{('a,'x1) prod,('b,'x2) prod} x4 x5 ==> x1 (fst{'b,'x2} x5) (snd{'b,'x2} x5)) /\\ ((cph.map{('a,'x1) prod,'a,('b,'x2) prod,'b} fst{'a,'x1} fst{'b,'x2} x4 = x2) /\\ (cph.map{('a,'x1) prod,'x1,('b,'x2) prod,'x2} snd{'a,'x1} snd{'b,'x2} x4 = x3))))"
    ∷ codes "cph.coinduct : !x0:('a,'b) cph -> ('a,'b) cph -> bool. (!x1:('a,'b) cph. !x2:('a,'b) cph. x0 x1 x2 ==> (?x3:'b. ?x4:'b. (x1 = Cph{'b,'a} x3) /\\ ((x2 = Cph{'b,'a} x4) /\\ (x3 = x4)))) ==> (!x1:('a,'b) cph. !x2:('a,'b) cph. x0 x1 x2 ==> (x1 = x2))"
    ∷ codes "cph.ctor.Cph : !x0:'b. cph.ctor{'b,'a} x0 = Cph{'b,'a} x0"
    ∷ codes "cph.corec : !x0:'x1 -> 'b. !x1:'x1. cph.corec{'x1,'b,'a} x0 x1 = cph.ctor{'b,'a} (x0 x1)"
    ∷ []
