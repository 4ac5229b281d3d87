-- `datatype value = VNum num | VClos exp (num -> value);` and its facts in canonical text.
use Rattle.std.specs.Prelude.{List, [], ◌∷◌, None, codes}
use Rattle.hol_terms.specs.Ty.{ty_app, tys}
use Rattle.hol_terms.specs.Notation.{◌⇒◌}
use Rattle.hol_terms.specs.Text.{Text}
use Rattle.decl_core.specs.Declaration.{Decl}
use Rattle.decl_core.specs.Statements.{Fact}
use Rattle.decl_core.specs.Functors.{basic_lives}
use Rattle.decl_core.specs.Liveness.{with_group}
use Rattle.decl_core.specs.CharacteristicList.{datatype_facts}
use Rattle.decl_samples.specs.Languages1 as Languages1
use Rattle.decl_samples.specs.Languages2 as Languages2

abbrev pub declared : List Decl
declared =
    record {
      params = [];
      name = codes "value";
      ctors = (
          record { name = codes "VNum"; args = (record { selector = None; ty = (ty_app (codes "num") (tys [])) } ∷ []) } ∷
          record { name = codes "VClos"; args = (record { selector = None; ty = (ty_app (codes "exp") (tys [])) } ∷ record { selector = None; ty = ((ty_app (codes "num") (tys [])) ⇒ (ty_app (codes "value") (tys []))) } ∷ []) } ∷ []);
    }
    ∷ []

abbrev pub facts : List Fact
facts = datatype_facts (with_group (with_group (with_group basic_lives Languages1.declared) Languages2.declared) declared) declared

unfoldable pub lines : List Text
lines =
    codes "value.inject.VNum : !x0:num. !x1:num. (VNum x0 = VNum x1) = (x0 = x1)"
    ∷ codes "value.inject.VClos : !x0:exp. !x1:num -> value. !x2:exp. !x3:num -> value. (VClos x0 x1 = VClos x2 x3) = ((x0 = x2) /\\ (x1 = x3))"
    ∷ codes "value.distinct.VNum.VClos : !x0:num. !x1:exp. !x2:num -> value. ~ (VNum x0 = VClos x1 x2)"
    ∷ codes "value.exhaust : !x0:value. !x1:bool. (!x2:num. (x0 = VNum x2) ==> x1) ==> ((!x2:exp. !x3:num -> value. (x0 = VClos x2 x3) ==> x1) ==> x1)"
    ∷ codes "value.case.VNum : !x0:num -> 'x1. !x1:exp -> (num -> value) -> 'x1. !x2:num. value.case{'x1} x0 x1 (VNum x2) = x0 x2"
    ∷ codes "value.case.VClos : !x0:num -> 'x1. !x1:exp -> (num -> value) -> 'x1. !x2:exp. !x3:num -> value. value.case{'x1} x0 x1 (VClos x2 x3) = x1 x2 x3"
    ∷ codes "value.split : !x0:'x1 -> bool. !x1:num -> 'x1. !x2:exp -> (num -> value) -> 'x1. !x3:value. x0 (value.case{'x1} x1 x2 x3) = ((!x4:num. (x3 = VNum x4) ==> x0 (x1 x4)) /\\ (!x4:exp. !x5:num -> value. (x3 = VClos x4 x5) ==> x0 (x2 x4 x5)))"
    ∷ codes "value.disc.VNum.VNum : !x0:num. value.is_VNum (VNum x0)"
    ∷ codes "value.disc.VNum.VClos : !x0:exp. !x1:num -> value. ~ value.is_VNum (VClos x0 x1)"
    ∷ codes "value.disc.VClos.VNum : !x0:num. ~ value.is_VClos (VNum x0)"
    ∷ codes "value.disc.VClos.VClos : !x0:exp. !x1:num -> value. value.is_VClos (VClos x0 x1)"
    ∷ codes "value.induct : !x0:value -> bool. (!x1:num. x0 (VNum x1)) ==> ((!x1:exp. !x2:num -> value. (!x3:value. fun.set2{num,value} x2 x3 ==> x0 x3) ==> x0 (VClos x1 x2)) ==> (!x1:value. x0 x1))"
    ∷ codes "value.rec.VNum : !x0:num -> 'x1. !x1:exp -> (num -> (value,'x1) prod) -> 'x1. !x2:num. value.rec{'x1} x0 x1 (VNum x2) = x0 x2"
    ∷ codes "value.rec.VClos : !x0:num -> 'x1. !x1:exp -> (num -> (value,'x1) prod) -> 'x1. !x2:exp. !x3:num -> value. value.rec{'x1} x0 x1 (VClos x2 x3) = x1 x2 (fun.map{value,(value,'x1) prod,num} (\\x4:value. pair{value,'x1} x4 (value.rec{'x1} x0 x1 x4)) x3)"
    ∷ []
