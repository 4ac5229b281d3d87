-- `codatatype ('a,'b) proc = Step ('a) (('b, ('a,'b) proc) prod cset);` and its facts in canonical text.
use Rattle.std.specs.Prelude.{List, [], ◌∷◌, None, codes}
use Rattle.hol_terms.specs.Ty.{ty_var, ty_app, tys}
use Rattle.hol_terms.specs.Text.{Text}
use Rattle.decl_core.specs.Declaration.{Decl}
use Rattle.decl_core.specs.Statements.{Fact}
use Rattle.decl_core.specs.Functors.{basic_lives}
use Rattle.decl_core.specs.Liveness.{with_group}
use Rattle.decl_core.specs.CharacteristicList.{codatatype_facts}

abbrev pub declared : List Decl
declared =
    record {
      params = (codes "a" ∷ codes "b" ∷ []);
      name = codes "proc";
      ctors = (
          record { name = codes "Step"; args = (record { selector = None; ty = (ty_var (codes "a")) } ∷ record { selector = None; ty = (ty_app (codes "cset") (tys ((ty_app (codes "prod") (tys ((ty_var (codes "b")) ∷ (ty_app (codes "proc") (tys ((ty_var (codes "a")) ∷ (ty_var (codes "b")) ∷ []))) ∷ []))) ∷ []))) } ∷ []) } ∷ []);
    }
    ∷ []

abbrev pub facts : List Fact
facts = codatatype_facts (with_group basic_lives declared) declared

unfoldable pub lines : List Text
lines =
    codes "proc.inject.Step : !x0:'a. !x1:('b,('a,'b) proc) prod cset. !x2:'a. !x3:('b,('a,'b) proc) prod cset. (Step{'a,'b} x0 x1 = Step{'a,'b} x2 x3) = ((x0 = x2) /\\ (x1 = x3))"
    ∷ codes "proc.exhaust : !x0:('a,'b) proc. !x1:bool. (!x2:'a. !x3:('b,('a,'b) proc) prod cset. (x0 = Step{'a,'b} x2 x3) ==> x1) ==> x1"
    ∷ codes "proc.case.Step : !x0:'a -> ('b,('a,'b) proc) prod cset -> 'x1. !x1:'a. !x2:('b,('a,'b) proc) prod cset. proc.case{'a,'b,'x1} x0 (Step{'a,'b} x1 x2) = x0 x1 x2"
    ∷ codes "proc.split : !x0:'x1 -> bool. !x1:'a -> ('b,('a,'b) proc) prod cset -> 'x1. !x2:('a,'b) proc. x0 (proc.case{'a,'b,'x1} x1 x2) = (!x3:'a. !x4:('b,('a,'b) proc) prod cset. (x2 = Step{'a,'b} x3 x4) ==> x0 (x1 x3 x4))"
    ∷ codes "proc.disc.Step.Step : !x0:'a. !x1:('b,('a,'b) proc) prod cset. proc.is_Step{'a,'b} (Step{'a,'b} x0 x1)"
    ∷ codes "proc.map.Step : !x0:'a -> 'x1. !x1:'b -> 'x2. !x2:'a. !x3:('b,('a,'b) proc) prod cset. proc.map{'a,'x1,'b,'x2} x0 x1 (Step{'a,'b} x2 x3) = Step{'x1,'x2} (x0 x2) (cset.map{('b,('a,'b) proc) prod,('x2,('x1,'x2) proc) prod} (prod.map{'b,'x2,('a,'b) proc,('x1,'x2) proc} x1 (proc.map{'a,'x1,'b,'x2} x0 x1)) x3)"
    ∷ codes "proc.set1.Step : !x0:'a. !x1:('b,('a,'b) proc) prod cset. !x2:'a. proc.set1{'a,'b} (Step{'a,'b} x0 x1) x2 = ((x2 = x0) \\/ (?x3:('b,('a,'b) proc) prod. cset.set1{('b,('a,'b) proc) prod} x1 x3 /\\ (?x4:('a,'b) proc. prod.set2{'b,('a,'b) proc} x3 x4 /\\ proc.set1{'a,'b} x4 x2)))"
    ∷ codes "proc.set2.Step : !x0:'a. !x1:('b,('a,'b) proc) prod cset. !x2:'b. proc.set2{'a,'b} (Step{'a,'b} x0 x1) x2 = (?x3:('b,('a,'b) proc) prod. cset.set1{('b,('a,'b) proc) prod} x1 x3 /\\ (prod.set1{'b,('a,'b) proc} x3 x2 \\/ (?x4:('a,'b) proc. prod.set2{'b,('a,'b) proc} x3 x4 /\\ proc.set2{'a,'b} x4 x2)))"
    ∷ codes "proc.rel_inject.Step : !x0:'a -> 'x1 -> bool. !x1:'b -> 'x2 -> bool. !x2:'a. !x3:('b,('a,'b) proc) prod cset. !x4:'x1. !x5:('x2,('x1,'x2) proc) prod cset. proc.rel{'a,'x1,'b,'x2} x0 x1 (Step{'a,'b} x2 x3) (Step{'x1,'x2} x4 x5) = (x0 x2 x4 /\\ cset.rel{('b,('a,'b) proc) prod,('x2,('x1,'x2) proc) prod} (prod.rel{'b,'x2,('a,'b) proc,('x1,'x2) proc} x1 (proc.rel{'a,'x1,'b,'x2} x0 x1)) x3 x5)"
    ∷ codes "proc.map_id : !x0:('a,'b) proc. proc.map{'a,'a,'b,'b} id{'a} id{'b} x0 = x0"
    ∷ codes "proc.map_comp : !x0:'a -> 'x1. !x1:'b -> 'x2. !x2:'x1 -> 'x5. !x3:'x2 -> 'x6. !x4:('a,'b) proc. proc.map{'x1,'x5,'x2,'x6} x2 x3 (proc.map{'a,'x1,'b,'x2} x0 x1 x4) = proc.map{'a,'x5,'b,'x6} (fun.map{'x1,'x5,'a} x2 x0) (fun.map{'x2,'x6,'b} x3 x1) x4"
    ∷ codes "proc.map_cong : !x0:'a -> 'x1. !x1:'b -> 'x2. !x2:'a -> 'x1. !x3:'b -> 'x2. !x4:('a,'b) proc. (!x5:'a. proc.set1{'a,'b} x4 x5 ==> (x0 x5 = x2 x5)) ==> ((!x5:'b. proc.set2{'a,'b} x4 x5 ==> (x1 x5 = x3 x5)) ==> (proc.map{'a,'x1,'b,'x2} x0 x1 x4 = proc.map{'a,'x1,'b,'x2} x2 x3 x4))"
    ∷ codes "proc.set1_map : !x0:'a -> 'x1. !x1:'b -> 'x2. !x2:('a,'b) proc. !x3:'x1. proc.set1{'x1,'x2} (proc.map{'a,'x1,'b,'x2} x0 x1 x2) x3 = (?x4:'a. proc.set1{'a,'b} x2 x4 /\\ (x3 = x0 x4))"
    ∷ codes "proc.set2_map : !x0:'a -> 'x1. !x1:'b -> 'x2. !x2:('a,'b) proc. !x3:'x2. proc.set2{'x1,'x2} (proc.map{'a,'x1,'b,'x2} x0 x1 x2) x3 = (?x4:'b. proc.set2{'a,'b} x2 x4 /\\ (x3 = x1 x4))"
    ∷ codes "proc.set1_count : !x0:('a,'b) proc. countable{'a} (proc.set1{'a,'b} x0)"
    ∷ codes "proc.set2_count : !x0:('a,'b) proc. countable{'b} (proc.set2{'a,'b} x0)"
    ∷ codes "proc.rel_comp : !x0:'a -> 'x1 -> bool. !x1:'b -> 'x2 -> bool. !x2:'x1 -> 'x5 -> bool. !x3:'x2 -> 'x6 -> bool. !x4:('a,'b) proc. !x5:('x5,'x6) proc. proc.rel{'a,'x5,'b,'x6} (\\x6:'a. \\x7:'x5. ?x8:'x1. x0 x6 x8 /\\ x2 x8 x7) (\\x6:'b. \\x7:'x6. ?x8:'x2. x1 x6 x8 /\\ x3 x8 x7) x4 x5 = (?x6:('x1,'x2) proc. proc.rel{'a,'x1,'b,'x2} x0 x1 x4 x6 /\\ proc.rel{'x1,'x5,'x2,'x6} x2 x3 x6 x5)"
    ∷ codes "proc.rel_in : !x0:'a -> 'x1 -> bool. !x1:'b -> 'x2 -> bool. !x2:('a,'b) proc. !x3:('x1,'x2) proc. proc.rel{'a,'x1,'b,'x2} x0 x1 x2 x3 = (?x4:(('a,'x1) prod,('b,'x2) prod) proc. (!x5:('a,'x1) prod. proc.set1{('a,'x1) prod,('b,'x2) prod} x4 x5 ==> x0 (fst{'a,'x1} x5) (snd{'a,'x1} x5)) /\\ ((!x5:('b,'x2) prod. proc.set2{('a,'x1) prod,('b,'x2) prod} x4 x5 ==> x1 (fst{'b,'x2} x5) (snd{'b,'x2} x5)) /\\ ((proc.map{('a,'x1) prod,'a,('b,'x2) prod,'b} fst{'a,'x1} fst{'b,'x2} x4 = x2) /\\ (proc.map{('a,'x1) prod,'x1,('b,'x2) prod,'x2} snd{'a,'x1} snd{'b,'x2} x4 = x3))))"
    ∷ codes "proc.coinduct : !x0:('a,'b) proc -> ('a,'b) proc -> bool. (!x1:('a,'b) proc. !x2:('a,'b) proc. x0 x1 x2 ==> (?x3:'a. ?x4:('b,('a,'b) proc) prod cset. ?x5:'a. ?x6:('b,('a,'b) proc) prod cset. (x1 = Step{'a,'b} x3 x4) /\\ ((x2 = Step{'a,'b} x5 x6) /\\ ((x3 = x5) /\\ cset.rel{('b,('a,'b) proc) prod,('b,('a,'b) proc) prod} (prod.rel{'b,'b,('a,'b) proc,('a,'b) proc} eq{'b} x0) x4 x6)))) ==> (!x1:('a,'b) proc. !x2:('a,'b) proc. x0 x1 x2 ==> (x1 = x2))"
    ∷ codes "proc.ctor.Step : !x0:'a. !x1:('b,('a,'b) proc) prod cset. proc.ctor{'a,'b} (pair{'a,('b,('a,'b) proc) prod cset} x0 x1) = Step{'a,'b} x0 x1"
    ∷ codes "proc.corec : !x0:'x1 -> ('a,('b,(('a,'b) proc,'x1) sum) prod cset) prod. !x1:'x1. proc.corec{'x1,'a,'b} x0 x1 = proc.ctor{'a,'b} (prod.map{'a,'a,('b,(('a,'b) proc,'x1) sum) prod cset,('b,('a,'b) proc) prod cset} id{'a} (cset.map{('b,(('a,'b) proc,'x1) sum) prod,('b,('a,'b) proc) prod} (prod.map{'b,'b,(('a,'b) proc,'x1) sum,('a,'b) proc} id{'b} (sum.case{('a,'b) proc,('a,'b) proc,'x1} id{('a,'b) proc} (proc.corec{'x1,'a,'b} x0)))) (x0 x1))"
    ∷ []
