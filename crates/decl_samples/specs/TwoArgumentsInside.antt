-- `datatype 'a w = W (('a w) cset) 'a | V ('a cset) ('a cset);` and its facts in canonical text.
use Rattle.std.specs.Prelude.{List, [], ◌∷◌, None, codes}
use Rattle.hol_terms.specs.Ty.{ty_var, ty_app, tys}
use Rattle.hol_terms.specs.Text.{Text}
use Rattle.decl_core.specs.Declaration.{Decl}
use Rattle.decl_core.specs.Statements.{Fact}
use Rattle.decl_core.specs.Functors.{basic_lives}
use Rattle.decl_core.specs.Liveness.{with_group}
use Rattle.decl_core.specs.CharacteristicList.{datatype_facts}

abbrev pub declared : List Decl
declared =
    record {
      params = (codes "a" ∷ []);
      name = codes "w";
      ctors = (
          record { name = codes "W"; args = (record { selector = None; ty = (ty_app (codes "cset") (tys ((ty_app (codes "w") (tys ((ty_var (codes "a")) ∷ []))) ∷ []))) } ∷ record { selector = None; ty = (ty_var (codes "a")) } ∷ []) } ∷
          record { name = codes "V"; args = (record { selector = None; ty = (ty_app (codes "cset") (tys ((ty_var (codes "a")) ∷ []))) } ∷ record { selector = None; ty = (ty_app (codes "cset") (tys ((ty_var (codes "a")) ∷ []))) } ∷ []) } ∷ []);
    }
    ∷ []

abbrev pub facts : List Fact
facts = datatype_facts (with_group basic_lives declared) declared

unfoldable pub lines : List Text
lines =
    codes "w.inject.W : !x0:'a w cset. !x1:'a. !x2:'a w cset. !x3:'a. (W{'a} x0 x1 = W{'a} x2 x3) = ((x0 = x2) /\\ (x1 = x3))"
    ∷ codes "w.inject.V : !x0:'a cset. !x1:'a cset. !x2:'a cset. !x3:'a cset. (V{'a} x0 x1 = V{'a} x2 x3) = ((x0 = x2) /\\ (x1 = x3))"
    ∷ codes "w.distinct.W.V : !x0:'a w cset. !x1:'a. !x2:'a cset. !x3:'a cset. ~ (W{'a} x0 x1 = V{'a} x2 x3)"
    ∷ codes "w.exhaust : !x0:'a w. !x1:bool. (!x2:'a w cset. !x3:'a. (x0 = W{'a} x2 x3) ==> x1) ==> ((!x2:'a cset. !x3:'a cset. (x0 = V{'a} x2 x3) ==> x1) ==> x1)"
    ∷ codes "w.case.W : !x0:'a w cset -> 'a -> 'x1. !x1:'a cset -> 'a cset -> 'x1. !x2:'a w cset. !x3:'a. w.case{'a,'x1} x0 x1 (W{'a} x2 x3) = x0 x2 x3"
    ∷ codes "w.case.V : !x0:'a w cset -> 'a -> 'x1. !x1:'a cset -> 'a cset -> 'x1. !x2:'a cset. !x3:'a cset. w.case{'a,'x1} x0 x1 (V{'a} x2 x3) = x1 x2 x3"
    ∷ codes "w.split : !x0:'x1 -> bool. !x1:'a w cset -> 'a -> 'x1. !x2:'a cset -> 'a cset -> 'x1. !x3:'a w. x0 (w.case{'a,'x1} x1 x2 x3) = ((!x4:'a w cset. !x5:'a. (x3 = W{'a} x4 x5) ==> x0 (x1 x4 x5)) /\\ (!x4:'a cset. !x5:'a cset. (x3 = V{'a} x4 x5) ==> x0 (x2 x4 x5)))"
    ∷ codes "w.disc.W.W : !x0:'a w cset. !x1:'a. w.is_W{'a} (W{'a} x0 x1)"
    ∷ codes "w.disc.W.V : !x0:'a cset. !x1:'a cset. ~ w.is_W{'a} (V{'a} x0 x1)"
    ∷ codes "w.disc.V.W : !x0:'a w cset. !x1:'a. ~ w.is_V{'a} (W{'a} x0 x1)"
    ∷ codes "w.disc.V.V : !x0:'a cset. !x1:'a cset. w.is_V{'a} (V{'a} x0 x1)"
    ∷ codes "w.map.W : !x0:'a -> 'x1. !x1:'a w cset. !x2:'a. w.map{'a,'x1} x0 (W{'a} x1 x2) = W{'x1} (cset.map{'a w,'x1 w} (w.map{'a,'x1} x0) x1) (x0 x2)"
    ∷ codes "w.map.V : !x0:'a -> 'x1. !x1:'a cset. !x2:'a cset. w.map{'a,'x1} x0 (V{'a} x1 x2) = V{'x1} (cset.map{'a,'x1} x0 x1) (cset.map{'a,'x1} x0 x2)"
    ∷ codes "w.set1.W : !x0:'a w cset. !x1:'a. !x2:'a. w.set1{'a} (W{'a} x0 x1) x2 = ((?x3:'a w. cset.set1{'a w} x0 x3 /\\ w.set1{'a} x3 x2) \\/ (x2 = x1))"
    ∷ codes "w.set1.V : !x0:'a cset. !x1:'a cset. !x2:'a. w.set1{'a} (V{'a} x0 x1) x2 = (cset.set1{'a} x0 x2 \\/ cset.set1{'a} x1 x2)"
    ∷ codes "w.rel_inject.W : !x0:'a -> 'x1 -> bool. !x1:'a w cset. !x2:'a. !x3:'x1 w cset. !x4:'x1. w.rel{'a,'x1} x0 (W{'a} x1 x2) (W{'x1} x3 x4) = (cset.rel{'a w,'x1 w} (w.rel{'a,'x1} x0) x1 x3 /\\ x0 x2 x4)"
    ∷ codes "w.rel_inject.V : !x0:'a -> 'x1 -> bool. !x1:'a cset. !x2:'a cset. !x3:'x1 cset. !x4:'x1 cset. w.rel{'a,'x1} x0 (V{'a} x1 x2) (V{'x1} x3 x4) = (cset.rel{'a,'x1} x0 x1 x3 /\\ cset.rel{'a,'x1} x0 x2 x4)"
    ∷ codes "w.rel_distinct.W.V : !x0:'a -> 'x1 -> bool. !x1:'a w cset. !x2:'a. !x3:'x1 cset. !x4:'x1 cset. ~ w.rel{'a,'x1} x0 (W{'a} x1 x2) (V{'x1} x3 x4)"
    ∷ codes "w.rel_distinct.V.W : !x0:'a -> 'x1 -> bool. !x1:'a cset. !x2:'a cset. !x3:'x1 w cset. !x4:'x1. ~ w.rel{'a,'x1} x0 (V{'a} x1 x2) (W{'x1} x3 x4)"
    ∷ codes "w.map_id : !x0:'a w. w.map{'a,'a} id{'a} x0 = x0"
    ∷ codes "w.map_comp : !x0:'a -> 'x1. !x1:'x1 -> 'x5. !x2:'a w. w.map{'x1,'x5} x1 (w.map{'a,'x1} x0 x2) = w.map{'a,'x5} (fun.map{'x1,'x5,'a} x1 x0) x2"
    ∷ codes "w.map_cong : !x0:'a -> 'x1. !x1:'a -> 'x1. !x2:'a w. (!x3:'a. w.set1{'a} x2 x3 ==> (x0 x3 = x1 x3)) ==> (w.map{'a,'x1} x0 x2 = w.map{'a,'x1} x1 x2)"
    ∷ codes "w.set1_map : !x0:'a -> 'x1. !x1:'a w. !x2:'x1. w.set1{'x1} (w.map{'a,'x1} x0 x1) x2 = (?x3:'a. w.set1{'a} x1 x3 /\\ (x2 = x0 x3))"
    ∷ codes "w.set1_count : !x0:'a w. countable{'a} (w.set1{'a} x0)"
    ∷ codes "w.rel_comp : !x0:'a -> 'x1 -> bool. !x1:'x1 -> 'x5 -> bool. !x2:'a w. !x3:'x5 w. w.rel{'a,'x5} (\\x4:'a. \\x5:'x5. ?x6:'x1. x0 x4 x6 /\\ x1 x6 x5) x2 x3 = (?x4:'x1 w. w.rel{'a,'x1} x0 x2 x4 /\\ w.rel{'x1,'x5} x1 x4 x3)"
    ∷ codes "w.rel_in : !x0:'a -> 'x1 -> bool. !x1:'a w. !x2:'x1 w. w.rel{'a,'x1} x0 x1 x2 = (?x3:('a,'x1) prod w. (!x4:('a,'x1) prod. w.set1{('a,'x1) prod} x3 x4 ==> x0 (fst{'a,'x1} x4) (snd{'a,'x1} x4)) /\\ ((w.map{('a,'x1) prod,'a} fst{'a,'x1} x3 = x1) /\\ (w.map{('a,'x1) prod,'x1} snd{'a,'x1} x3 = x2)))"
    ∷ codes "w.induct : !x0:'a w -> bool. (!x1:'a w cset. !x2:'a. (!x3:'a w. cset.set1{'a w} x1 x3 ==> x0 x3) ==> x0 (W{'a} x1 x2)) ==> ((!x1:'a cset. !x2:'a cset. x0 (V{'a} x1 x2)) ==> (!x1:'a w. x0 x1))"
    ∷ codes "w.rec.W : !x0:('a w,'x1) prod cset -> 'a -> 'x1. !x1:'a cset -> 'a cset -> 'x1. !x2:'a w cset. !x3:'a. w.rec{'a,'x1} x0 x1 (W{'a} x2 x3) = x0 (cset.map{'a w,('a w,'x1) prod} (\\x4:'a w. pair{'a w,'x1} x4 (w.rec{'a,'x1} x0 x1 x4)) x2) x3"
    ∷ codes "w.rec.V : !x0:('a w,'x1) prod cset -> 'a -> 'x1. !x1:'a cset -> 'a cset -> 'x1. !x2:'a cset. !x3:'a cset. w.rec{'a,'x1} x0 x1 (V{'a} x2 x3) = x1 x2 x3"
    ∷ []
