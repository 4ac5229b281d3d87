-- `datatype typ = Int | Arrow typ typ;` and its facts in canonical text.
use Rattle.std.specs.Prelude.{List, [], ◌∷◌, None, codes}
use Rattle.hol_terms.specs.Ty.{ty_app, tys}
use Rattle.hol_terms.specs.Text.{Text}
use Rattle.decl_core.specs.Declaration.{Decl}
use Rattle.decl_core.specs.Statements.{Fact}
use Rattle.decl_core.specs.Functors.{basic_lives}
use Rattle.decl_core.specs.Liveness.{with_group}
use Rattle.decl_core.specs.CharacteristicList.{datatype_facts}

abbrev pub declared : List Decl
declared =
    record {
      params = [];
      name = codes "typ";
      ctors = (
          record { name = codes "Int"; args = [] } ∷
          record { name = codes "Arrow"; args = (record { selector = None; ty = (ty_app (codes "typ") (tys [])) } ∷ record { selector = None; ty = (ty_app (codes "typ") (tys [])) } ∷ []) } ∷ []);
    }
    ∷ []

abbrev pub facts : List Fact
facts = datatype_facts (with_group basic_lives declared) declared

unfoldable pub lines : List Text
lines =
    codes "typ.inject.Arrow : !x0:typ. !x1:typ. !x2:typ. !x3:typ. (Arrow x0 x1 = Arrow x2 x3) = ((x0 = x2) /\\ (x1 = x3))"
    ∷ codes "typ.distinct.Int.Arrow : !x0:typ. !x1:typ. ~ (Int = Arrow x0 x1)"
    ∷ codes "typ.exhaust : !x0:typ. !x1:bool. ((x0 = Int) ==> x1) ==> ((!x2:typ. !x3:typ. (x0 = Arrow x2 x3) ==> x1) ==> x1)"
    ∷ codes "typ.case.Int : !x0:'x1. !x1:typ -> typ -> 'x1. typ.case{'x1} x0 x1 Int = x0"
    ∷ codes "typ.case.Arrow : !x0:'x1. !x1:typ -> typ -> 'x1. !x2:typ. !x3:typ. typ.case{'x1} x0 x1 (Arrow x2 x3) = x1 x2 x3"
    ∷ codes "typ.split : !x0:'x1 -> bool. !x1:'x1. !x2:typ -> typ -> 'x1. !x3:typ. x0 (typ.case{'x1} x1 x2 x3) = (((x3 = Int) ==> x0 x1) /\\ (!x4:typ. !x5:typ. (x3 = Arrow x4 x5) ==> x0 (x2 x4 x5)))"
    ∷ codes "typ.disc.Int.Int : typ.is_Int Int"
    ∷ codes "typ.disc.Int.Arrow : !x0:typ. !x1:typ. ~ typ.is_Int (Arrow x0 x1)"
    ∷ codes "typ.disc.Arrow.Int : ~ typ.is_Arrow Int"
    ∷ codes "typ.disc.Arrow.Arrow : !x0:typ. !x1:typ. typ.is_Arrow (Arrow x0 x1)"
    ∷ codes "typ.induct : !x0:typ -> bool. x0 Int ==> ((!x1:typ. !x2:typ. x0 x1 ==> (x0 x2 ==> x0 (Arrow x1 x2))) ==> (!x1:typ. x0 x1))"
    ∷ codes "typ.rec.Int : !x0:'x1. !x1:(typ,'x1) prod -> (typ,'x1) prod -> 'x1. typ.rec{'x1} x0 x1 Int = x0"
    ∷ codes "typ.rec.Arrow : !x0:'x1. !x1:(typ,'x1) prod -> (typ,'x1) prod -> 'x1. !x2:typ. !x3:typ. typ.rec{'x1} x0 x1 (Arrow x2 x3) = x1 (pair{typ,'x1} x2 (typ.rec{'x1} x0 x1 x2)) (pair{typ,'x1} x3 (typ.rec{'x1} x0 x1 x3))"
    ∷ []
