-- `datatype n = Z | S n;` and its facts in canonical text.
use Rattle.std.specs.Prelude.{List, [], ◌∷◌, None, codes}
use Rattle.hol_terms.specs.Ty.{ty_app, tys}
use Rattle.hol_terms.specs.Text.{Text}
use Rattle.decl_core.specs.Declaration.{Decl}
use Rattle.decl_core.specs.Statements.{Fact}
use Rattle.decl_core.specs.Functors.{basic_lives}
use Rattle.decl_core.specs.Liveness.{with_group}
use Rattle.decl_core.specs.CharacteristicList.{datatype_facts}

abbrev pub declared : List Decl
declared =
    record {
      params = [];
      name = codes "n";
      ctors = (
          record { name = codes "Z"; args = [] } ∷
          record { name = codes "S"; args = (record { selector = None; ty = (ty_app (codes "n") (tys [])) } ∷ []) } ∷ []);
    }
    ∷ []

abbrev pub facts : List Fact
facts = datatype_facts (with_group basic_lives declared) declared

unfoldable pub lines : List Text
lines =
    codes "n.inject.S : !x0:n. !x1:n. (S x0 = S x1) = (x0 = x1)"
    ∷ codes "n.distinct.Z.S : !x0:n. ~ (Z = S x0)"
    ∷ codes "n.exhaust : !x0:n. !x1:bool. ((x0 = Z) ==> x1) ==> ((!x2:n. (x0 = S x2) ==> x1) ==> x1)"
    ∷ codes "n.case.Z : !x0:'x1. !x1:n -> 'x1. n.case{'x1} x0 x1 Z = x0"
    ∷ codes "n.case.S : !x0:'x1. !x1:n -> 'x1. !x2:n. n.case{'x1} x0 x1 (S x2) = x1 x2"
    ∷ codes "n.split : !x0:'x1 -> bool. !x1:'x1. !x2:n -> 'x1. !x3:n. x0 (n.case{'x1} x1 x2 x3) = (((x3 = Z) ==> x0 x1) /\\ (!x4:n. (x3 = S x4) ==> x0 (x2 x4)))"
    ∷ codes "n.disc.Z.Z : n.is_Z Z"
    ∷ codes "n.disc.Z.S : !x0:n. ~ n.is_Z (S x0)"
    ∷ codes "n.disc.S.Z : ~ n.is_S Z"
    ∷ codes "n.disc.S.S : !x0:n. n.is_S (S x0)"
    ∷ codes "n.induct : !x0:n -> bool. x0 Z ==> ((!x1:n. x0 x1 ==> x0 (S x1)) ==> (!x1:n. x0 x1))"
    ∷ codes "n.rec.Z : !x0:'x1. !x1:(n,'x1) prod -> 'x1. n.rec{'x1} x0 x1 Z = x0"
    ∷ codes "n.rec.S : !x0:'x1. !x1:(n,'x1) prod -> 'x1. !x2:n. n.rec{'x1} x0 x1 (S x2) = x1 (pair{n,'x1} x2 (n.rec{'x1} x0 x1 x2))"
    ∷ []
