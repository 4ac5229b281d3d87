-- `datatype ('a,'b) fn = Fn ('a -> 'b) | Val 'b;` and its facts in canonical text.
use Rattle.std.specs.Prelude.{List, [], ◌∷◌, None, codes}
use Rattle.hol_terms.specs.Ty.{ty_var}
use Rattle.hol_terms.specs.Notation.{◌⇒◌}
use Rattle.hol_terms.specs.Text.{Text}
use Rattle.decl_core.specs.Declaration.{Decl}
use Rattle.decl_core.specs.Statements.{Fact}
use Rattle.decl_core.specs.Functors.{basic_lives}
use Rattle.decl_core.specs.Liveness.{with_group}
use Rattle.decl_core.specs.CharacteristicList.{datatype_facts}

abbrev pub declared : List Decl
declared =
    record {
      params = (codes "a" ∷ codes "b" ∷ []);
      name = codes "fn";
      ctors = (
          record { name = codes "Fn"; args = (record { selector = None; ty = ((ty_var (codes "a")) ⇒ (ty_var (codes "b"))) } ∷ []) } ∷
          record { name = codes "Val"; args = (record { selector = None; ty = (ty_var (codes "b")) } ∷ []) } ∷ []);
    }
    ∷ []

abbrev pub facts : List Fact
facts = datatype_facts (with_group basic_lives declared) declared

unfoldable pub lines : List Text
lines =
    codes "fn.inject.Fn : !x0:'a -> 'b. !x1:'a -> 'b. (Fn{'a,'b} x0 = Fn{'a,'b} x1) = (x0 = x1)"
    ∷ codes "fn.inject.Val : !x0:'b. !x1:'b. (Val{'b,'a} x0 = Val{'b,'a} x1) = (x0 = x1)"
    ∷ codes "fn.distinct.Fn.Val : !x0:'a -> 'b. !x1:'b. ~ (Fn{'a,'b} x0 = Val{'b,'a} x1)"
    ∷ codes "fn.exhaust : !x0:('a,'b) fn. !x1:bool. (!x2:'a -> 'b. (x0 = Fn{'a,'b} x2) ==> x1) ==> ((!x2:'b. (x0 = Val{'b,'a} x2) ==> x1) ==> x1)"
    ∷ codes "fn.case.Fn : !x0:('a -> 'b) -> 'x1. !x1:'b -> 'x1. !x2:'a -> 'b. fn.case{'a,'b,'x1} x0 x1 (Fn{'a,'b} x2) = x0 x2"
    ∷ codes "fn.case.Val : !x0:('a -> 'b) -> 'x1. !x1:'b -> 'x1. !x2:'b. fn.case{'a,'b,'x1} x0 x1 (Val{'b,'a} x2) = x1 x2"
    ∷ codes "fn.split : !x0:'x1 -> bool. !x1:('a -> 'b) -> 'x1. !x2:'b -> 'x1. !x3:('a,'b) fn. x0 (fn.case{'a,'b,'x1} x1 x2 x3) = ((!x4:'a -> 'b. (x3 = Fn{'a,'b} x4) ==> x0 (x1 x4)) /\\ (!x4:'b. (x3 = Val{'b,'a} x4) ==> x0 (x2 x4)))"
    ∷ codes "fn.disc.Fn.Fn : !x0:'a -> 'b. fn.is_Fn{'a,'b} (Fn{'a,'b} x0)"
    ∷ codes "fn.disc.Fn.Val : !x0:'b. ~ fn.is_Fn{'a,'b} (Val{'b,'a} x0)"
    ∷ codes "fn.disc.Val.Fn : !x0:'a -> 'b. ~ fn.is_Val{'a,'b} (Fn{'a,'b} x0)"
    ∷ codes "fn.disc.Val.Val : !x0:'b. fn.is_Val{'a,'b} (Val{'b,'a} x0)"
    ∷ codes "fn.induct : !x0:('a,'b) fn -> bool. (!x1:'a -> 'b. x0 (Fn{'a,'b} x1)) ==> ((!x1:'b. x0 (Val{'b,'a} x1)) ==> (!x1:('a,'b) fn. x0 x1))"
    ∷ codes "fn.rec.Fn : !x0:('a -> 'b) -> 'x1. !x1:'b -> 'x1. !x2:'a -> 'b. fn.rec{'a,'b,'x1} x0 x1 (Fn{'a,'b} x2) = x0 x2"
    ∷ codes "fn.rec.Val : !x0:('a -> 'b) -> 'x1. !x1:'b -> 'x1. !x2:'b. fn.rec{'a,'b,'x1} x0 x1 (Val{'b,'a} x2) = x1 x2"
    ∷ []
