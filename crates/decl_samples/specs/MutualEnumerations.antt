-- `datatype p = P and q = Q;` and its facts in canonical text.
use Rattle.std.specs.Prelude.{List, [], ◌∷◌, codes}
use Rattle.hol_terms.specs.Text.{Text}
use Rattle.decl_core.specs.Declaration.{Decl}
use Rattle.decl_core.specs.Statements.{Fact}
use Rattle.decl_core.specs.Functors.{basic_lives}
use Rattle.decl_core.specs.Liveness.{with_group}
use Rattle.decl_core.specs.CharacteristicList.{datatype_facts}

abbrev pub declared : List Decl
declared =
    record {
      params = [];
      name = codes "p";
      ctors = (
          record { name = codes "P"; args = [] } ∷ []);
    }
    ∷ record {
      params = [];
      name = codes "q";
      ctors = (
          record { name = codes "Q"; args = [] } ∷ []);
    }
    ∷ []

abbrev pub facts : List Fact
facts = datatype_facts (with_group basic_lives declared) declared

unfoldable pub lines : List Text
lines =
    codes "p.exhaust : !x0:p. !x1:bool. ((x0 = P) ==> x1) ==> x1"
    ∷ codes "p.case.P : !x0:'x1. p.case{'x1} x0 P = x0"
    ∷ codes "p.split : !x0:'x1 -> bool. !x1:'x1. !x2:p. x0 (p.case{'x1} x1 x2) = ((x2 = P) ==> x0 x1)"
    ∷ codes "p.disc.P.P : p.is_P P"
    ∷ codes "q.exhaust : !x0:q. !x1:bool. ((x0 = Q) ==> x1) ==> x1"
    ∷ codes "q.case.Q : !x0:'x1. q.case{'x1} x0 Q = x0"
    ∷ codes "q.split : !x0:'x1 -> bool. !x1:'x1. !x2:q. x0 (q.case{'x1} x1 x2) = ((x2 = Q) ==> x0 x1)"
    ∷ codes "q.disc.Q.Q : q.is_Q Q"
    ∷ codes "p.induct : !x0:p -> bool. !x1:q -> bool. x0 P ==> (x1 Q ==> ((!x2:p. x0 x2) /\\ (!x2:q. x1 x2)))"
    ∷ codes "p.rec.P : !x0:'x1. !x1:'x2. p.rec{'x1,'x2} x0 x1 P = x0"
    ∷ codes "q.rec.Q : !x0:'x1. !x1:'x2. q.rec{'x1,'x2} x0 x1 Q = x1"
    ∷ []
