-- `datatype 'a t = Te | Tf (('a t, ('a, 'a t) sum) prod);` and its facts in canonical text.
use Rattle.std.specs.Prelude.{List, [], ◌∷◌, None, codes}
use Rattle.hol_terms.specs.Ty.{ty_var, ty_app, tys}
use Rattle.hol_terms.specs.Text.{Text}
use Rattle.decl_core.specs.Declaration.{Decl}
use Rattle.decl_core.specs.Statements.{Fact}
use Rattle.decl_core.specs.Functors.{basic_lives}
use Rattle.decl_core.specs.Liveness.{with_group}
use Rattle.decl_core.specs.CharacteristicList.{datatype_facts}

abbrev pub declared : List Decl
declared =
    record {
      params = (codes "a" ∷ []);
      name = codes "t";
      ctors = (
          record { name = codes "Te"; args = [] } ∷
          record { name = codes "Tf"; args = (record { selector = None; ty = (ty_app (codes "prod") (tys ((ty_app (codes "t") (tys ((ty_var (codes "a")) ∷ []))) ∷ (ty_app (codes "sum") (tys ((ty_var (codes "a")) ∷ (ty_app (codes "t") (tys ((ty_var (codes "a")) ∷ []))) ∷ []))) ∷ []))) } ∷ []) } ∷ []);
    }
    ∷ []

abbrev pub facts : List Fact
facts = datatype_facts (with_group basic_lives declared) declared

unfoldable pub lines : List Text
lines =
    codes "t.inject.Tf : !x0:('a t,('a,'a t) sum) prod. !x1:('a t,('a,'a t) sum) prod. (Tf{'a} x0 = Tf{'a} x1) = (x0 = x1)"
    ∷ codes "t.distinct.Te.Tf : !x0:('a t,('a,'a t) sum) prod. ~ (Te{'a} = Tf{'a} x0)"
    ∷ codes "t.exhaust : !x0:'a t. !x1:bool. ((x0 = Te{'a}) ==> x1) ==> ((!x2:('a t,('a,'a t) sum) prod. (x0 = Tf{'a} x2) ==> x1) ==> x1)"
    ∷ codes "t.case.Te : !x0:'x1. !x1:('a t,('a,'a t) sum) prod -> 'x1. t.case{'x1,'a} x0 x1 Te{'a} = x0"
    ∷ codes "t.case.Tf : !x0:'x1. !x1:('a t,('a,'a t) sum) prod -> 'x1. !x2:('a t,('a,'a t) sum) prod. t.case{'x1,'a} x0 x1 (Tf{'a} x2) = x1 x2"
    ∷ codes "t.split : !x0:'x1 -> bool. !x1:'x1. !x2:('a t,('a,'a t) sum) prod -> 'x1. !x3:'a t. x0 (t.case{'x1,'a} x1 x2 x3) = (((x3 = Te{'a}) ==> x0 x1) /\\ (!x4:('a t,('a,'a t) sum) prod. (x3 = Tf{'a} x4) ==> x0 (x2 x4)))"
    ∷ codes "t.disc.Te.Te : t.is_Te{'a} Te{'a}"
    ∷ codes "t.disc.Te.Tf : !x0:('a t,('a,'a t) sum) prod. ~ t.is_Te{'a} (Tf{'a} x0)"
    ∷ codes "t.disc.Tf.Te : ~ t.is_Tf{'a} Te{'a}"
    ∷ codes "t.disc.Tf.Tf : !x0:('a t,('a,'a t) sum) prod. t.is_Tf{'a} (Tf{'a} x0)"
    ∷ codes "t.map.Te : !x0:'a -> 'x1. t.map{'a,'x1} x0 Te{'a} = Te{'x1}"
    ∷ codes "t.map.Tf : !x0:'a -> 'x1. !x1:('a t,('a,'a t) sum) prod. t.map{'a,'x1} x0 (Tf{'a} x1) = Tf{'x1} (prod.map{'a t,'x1 t,('a,'a t) sum,('x1,'x1 t) sum} (t.map{'a,'x1} x0) (sum.map{'a,'x1,'a t,'x1 t} x0 (t.map{'a,'x1} x0)) x1)"
    ∷ codes "t.set1.Te : !x0:'a. t.set1{'a} Te{'a} x0 = F"
    ∷ codes "t.set1.Tf : !x0:('a t,('a,'a t) sum) prod. !x1:'a. t.set1{'a} (Tf{'a} x0) x1 = ((?x2:'a t. prod.set1{'a t,('a,'a t) sum} x0 x2 /\\ t.set1{'a} x2 x1) \\/ (?x2:('a,'a t) sum. prod.set2{'a t,('a,'a t) sum} x0 x2 /\\ (sum.set1{'a,'a t} x2 x1 \\/ (?x3:'a t. sum.set2{'a,'a t} x2 x3 /\\ t.set1{'a} x3 x1))))"
    ∷ codes "t.rel_inject.Te : !x0:'a -> 'x1 -> bool. t.rel{'a,'x1} x0 Te{'a} Te{'x1} = T"
    ∷ codes "t.rel_inject.Tf : !x0:'a -> 'x1 -> bool. !x1:('a t,('a,'a t) sum) prod. !x2:('x1 t,('x1,'x1 t) sum) prod. t.rel{'a,'x1} x0 (Tf{'a} x1) (Tf{'x1} x2) = prod.rel{'a t,'x1 t,('a,'a t) sum,('x1,'x1 t) sum} (t.rel{'a,'x1} x0) (sum.rel{'a,'x1,'a t,'x1 t} x0 (t.rel{'a,'x1} x0)) x1 x2"
    ∷ codes "t.rel_distinct.Te.Tf : !x0:'a -> 'x1 -> bool. !x1:('x1 t,('x1,'x1 t) sum) prod. ~ t.rel{'a,'x1} x0 Te{'a} (Tf{'x1} x1)"
    ∷ codes "t.rel_distinct.Tf.Te : !x0:'a -> 'x1 -> bool. !x1:('a t,('a,'a t) sum) prod. ~ t.rel{'a,'x1} x0 (Tf{'a} x1) Te{'x1}"
    ∷ codes "t.map_id : !x0:'a t. t.map{'a,'a} id{'a} x0 = x0"
    ∷ codes "t.map_comp : !x0:'a -> 'x1. !x1:'x1 -> 'x5. !x2:'a t. t.map{'x1,'x5} x1 (t.map{'a,'x1} x0 x2) = t.map{'a,'x5} (fun.map{'x1,'x5,'a} x1 x0) x2"
    ∷ codes "t.map_cong : !x0:'a -> 'x1. !x1:'a -> 'x1. !x2:'a t. (!x3:'a. t.set1{'a} x2 x3 ==> (x0 x3 = x1 x3)) ==> (t.map{'a,'x1} x0 x2 = t.map{'a,'x1} x1 x2)"
    ∷ codes "t.set1_map : !x0:'a -> 'x1. !x1:'a t. !x2:'x1. t.set1{'x1} (t.map{'a,'x1} x0 x1) x2 = (?x3:'a. t.set1{'a} x1 x3 /\\ (x2 = x0 x3))"
    ∷ codes "t.set1_count : !x0:'a t. countable{'a} (t.set1{'a} x0)"
    ∷ codes "t.rel_comp : !x0:'a -> 'x1 -> bool. !x1:'x1 -> 'x5 -> bool. !x2:'a t. !x3:'x5 t. t.rel{'a,'x5} (\\x4:'a. \\x5:'x5. ?x6:'x1. x0 x4 x6 /\\ x1 x6 x5) x2 x3 = (?x4:'x1 t. t.rel{'a,'x1} x0 x2 x4 /\\ t.rel{'x1,'x5} x1 x4 x3)"
    ∷ codes "t.rel_in : !x0:'a -> 'x1 -> bool. !x1:'a t. !x2:'x1 t. t.rel{'a,'x1} x0 x1 x2 = (?x3:('a,'x1) prod t. (!x4:('a,'x1) prod. t.set1{('a,'x1) prod} x3 x4 ==> x0 (fst{'a,'x1} x4) (snd{'a,'x1} x4)) /\\ ((t.map{('a,'x1) prod,'a} fst{'a,'x1} x3 = x1) /\\ (t.map{('a,'x1) prod,'x1} snd{'a,'x1} x3 = x2)))"
    ∷ codes "t.induct : !x0:'a t -> bool. x0 Te{'a} ==> ((!x1:('a t,('a,'a t) sum) prod. (!x2:'a t. (prod.set1{'a t,('a,'a t) sum} x1 x2 \\/ (?x3:('a,'a t) sum. prod.set2{'a t,('a,'a t) sum} x1 x3 /\\ sum.set2{'a,'a t} x3 x2)) ==> x0 x2) ==> x0 (Tf{'a} x1)) ==> (!x1:'a t. x0 x1))"
    ∷ codes "t.rec.Te : !x0:'x1. !x1:(('a t,'x1) prod,('a,('a t,'x1) prod) sum) prod -> 'x1. t.rec{'x1,'a} x0 x1 Te{'a} = x0"
    ∷ codes "t.rec.Tf : !x0:'x1. !x1:(('a t,'x1) prod,('a,('a t,'x1) prod) sum) prod -> 'x1. !x2:('a t,('a,'a t) sum) prod. t.rec{'x1,'a} x0 x1 (Tf{'a} x2) = x1 (prod.map{'a t,('a t,'x1) prod,('a,'a t) sum,('a,('a t,'x1) prod) sum} (\\x3:'a t. pair{'a t,'x1} x3 (t.rec{'x1,'a} x0 x1 x3)) (sum.map{'a,'a,'a t,('a t,'x1) prod} id{'a} (\\x3:'a t. pair{'a t,'x1} x3 (t.rec{'x1,'a} x0 x1 x3))) x2)"
    ∷ []
