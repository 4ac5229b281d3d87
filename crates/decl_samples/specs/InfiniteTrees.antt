-- `codatatype 'a inf = Inf 'a (num -> 'a inf);` and its facts in canonical text.
use Rattle.std.specs.Prelude.{List, [], ◌∷◌, None, codes}
use Rattle.hol_terms.specs.Ty.{ty_var, ty_app, tys}
use Rattle.hol_terms.specs.Notation.{◌⇒◌}
use Rattle.hol_terms.specs.Text.{Text}
use Rattle.decl_core.specs.Declaration.{Decl}
use Rattle.decl_core.specs.Statements.{Fact}
use Rattle.decl_core.specs.Functors.{basic_lives}
use Rattle.decl_core.specs.Liveness.{with_group}
use Rattle.decl_core.specs.CharacteristicList.{codatatype_facts}

abbrev pub declared : List Decl
declared =
    record {
      params = (codes "a" ∷ []);
      name = codes "inf";
      ctors = (
          record { name = codes "Inf"; args = (record { selector = None; ty = (ty_var (codes "a")) } ∷ record { selector = None; ty = ((ty_app (codes "num") (tys [])) ⇒ (ty_app (codes "inf") (tys ((ty_var (codes "a")) ∷ [])))) } ∷ []) } ∷ []);
    }
    ∷ []

abbrev pub facts : List Fact
facts = codatatype_facts (with_group basic_lives declared) declared

unfoldable pub lines : List Text
lines =
    codes "inf.inject.Inf : !x0:'a. !x1:num -> 'a inf. !x2:'a. !x3:num -> 'a inf. (Inf{'a} x0 x1 = Inf{'a} x2 x3) = ((x0 = x2) /\\ (x1 = x3))"
    ∷ codes "inf.exhaust : !x0:'a inf. !x1:bool. (!x2:'a. !x3:num -> 'a inf. (x0 = Inf{'a} x2 x3) ==> x1) ==> x1"
    ∷ codes "inf.case.Inf : !x0:'a -> (num -> 'a inf) -> 'x1. !x1:'a. !x2:num -> 'a inf. inf.case{'a,'x1} x0 (Inf{'a} x1 x2) = x0 x1 x2"
    ∷ codes "inf.split : !x0:'x1 -> bool. !x1:'a -> (num -> 'a inf) -> 'x1. !x2:'a inf. x0 (inf.case{'a,'x1} x1 x2) = (!x3:'a. !x4:num -> 'a inf. (x2 = Inf{'a} x3 x4) ==> x0 (x1 x3 x4))"
    ∷ codes "inf.disc.Inf.Inf : !x0:'a. !x1:num -> 'a inf. inf.is_Inf{'a} (Inf{'a} x0 x1)"
    ∷ codes "inf.map.Inf : !x0:'a -> 'x1. !x1:'a. !x2:num -> 'a inf. inf.map{'a,'x1} x0 (Inf{'a} x1 x2) = Inf{'x1} (x0 x1) (fun.map{'a inf,'x1 inf,num} (inf.map{'a,'x1} x0) x2)"
    ∷ codes "inf.set1.Inf : !x0:'a. !x1:num -> 'a inf. !x2:'a. inf.set1{'a} (Inf{'a} x0 x1) x2 = ((x2 = x0) \\/ (?x3:'a inf. fun.set2{num,'a inf} x1 x3 /\\ inf.set1{'a} x3 x2))"
    ∷ codes "inf.rel_inject.Inf : !x0:'a -> 'x1 -> bool. !x1:'a. !x2:num -> 'a inf. !x3:'x1. !x4:num -> 'x1 inf. inf.rel{'a,'x1} x0 (Inf{'a} x1 x2) (Inf{'x1} x3 x4) = (x0 x1 x3 /\\ fun.rel{'a inf,'x1 inf,num} (inf.rel{'a,'x1} x0) x2 x4)"
    ∷ codes "inf.map_id : !x0:'a inf. inf.map{'a,'a} id{'a} x0 = x0"
    ∷ codes "inf.map_comp : !x0:'a -> 'x1. !x1:'x1 -> 'x5. !x2:'a inf. inf.map{'x1,'x5} x1 (inf.map{'a,'x1} x0 x2) = inf.map{'a,'x5} (fun.map{'x1,'x5,'a} x1 x0) x2"
    ∷ codes "inf.map_cong : !x0:'a -> 'x1. !x1:'a -> 'x1. !x2:'a inf. (!x3:'a. inf.set1{'a} x2 x3 ==> (x0 x3 = x1 x3)) ==> (inf.map{'a,'x1} x0 x2 = inf.map{'a,'x1} x1 x2)"
    ∷ codes "inf.set1_map : !x0:'a -> 'x1. !x1:'a inf. !x2:'x1. inf.set1{'x1} (inf.map{'a,'x1} x0 x1) x2 = (?x3:'a. inf.set1{'a} x1 x3 /\\ (x2 = x0 x3))"
    ∷ codes "inf.set1_count : !x0:'a inf. countable{'a} (inf.set1{'a} x0)"
    ∷ codes "inf.rel_comp : !x0:'a -> 'x1 -> bool. !x1:'x1 -> 'x5 -> bool. !x2:'a inf. !x3:'x5 inf. inf.rel{'a,'x5} (\\x4:'a. \\x5:'x5. ?x6:'x1. x0 x4 x6 /\\ x1 x6 x5) x2 x3 = (?x4:'x1 inf. inf.rel{'a,'x1} x0 x2 x4 /\\ inf.rel{'x1,'x5} x1 x4 x3)"
    ∷ codes "inf.rel_in : !x0:'a -> 'x1 -> bool. !x1:'a inf. !x2:'x1 inf. inf.rel{'a,'x1} x0 x1 x2 = (?x3:('a,'x1) prod inf. (!x4:('a,'x1) prod. inf.set1{('a,'x1) prod} x3 x4 ==> x0 (fst{'a,'x1} x4) (snd{'a,'x1} x4)) /\\ ((inf.map{('a,'x1) prod,'a} fst{'a,'x1} x3 = x1) /\\ (inf.map{('a,'x1) prod,'x1} snd{'a,'x1} x3 = x2)))"
    ∷ codes "inf.coinduct : !x0:'a inf -> 'a inf -> bool. (!x1:'a inf. !x2:'a inf. x0 x1 x2 ==> (?x3:'a. ?x4:num -> 'a inf. ?x5:'a. ?x6:num -> 'a inf. (x1 = Inf{'a} x3 x4) /\\ ((x2 = Inf{'a} x5 x6) /\\ ((x3 = x5) /\\ fun.rel{'a inf,'a inf,num} x0 x4 x6)))) ==> (!x1:'a inf. !x2:'a inf. x0 x1 x2 ==> (x1 = x2))"
    ∷ codes "inf.ctor.Inf : !x0:'a. !x1:num -> 'a inf. inf.ctor{'a} (pair{'a,num -> 'a inf} x0 x1) = Inf{'a} x0 x1"
    ∷ codes "inf.corec : !x0:'x1 -> ('a,num -> ('a inf,'x1) sum) prod. !x1:'x1. inf.corec{'x1,'a} x0 x1 = inf.ctor{'a} (prod.map{'a,'a,num -> ('a inf,'x1) sum,num -> 'a inf} id{'a} (fun.map{('a inf,'x1) sum,'a inf,num} (sum.case{'a inf,'a inf,'x1} id{'a inf} (inf.corec{'x1,'a} x0))) (x0 x1))"
    ∷ []
