-- `datatype abc = A | B | C;` and its facts in canonical text.
use Rattle.std.specs.Prelude.{List, [], ◌∷◌, codes}
use Rattle.hol_terms.specs.Text.{Text}
use Rattle.decl_core.specs.Declaration.{Decl}
use Rattle.decl_core.specs.Statements.{Fact}
use Rattle.decl_core.specs.Functors.{basic_lives}
use Rattle.decl_core.specs.Liveness.{with_group}
use Rattle.decl_core.specs.CharacteristicList.{datatype_facts}

abbrev pub declared : List Decl
declared =
    record {
      params = [];
      name = codes "abc";
      ctors = (
          record { name = codes "A"; args = [] } ∷
          record { name = codes "B"; args = [] } ∷
          record { name = codes "C"; args = [] } ∷ []);
    }
    ∷ []

abbrev pub facts : List Fact
facts = datatype_facts (with_group basic_lives declared) declared

unfoldable pub lines : List Text
lines =
    codes "abc.distinct.A.B : ~ (A = B)"
    ∷ codes "abc.distinct.A.C : ~ (A = C)"
    ∷ codes "abc.distinct.B.C : ~ (B = C)"
    ∷ codes "abc.exhaust : !x0:abc. !x1:bool. ((x0 = A) ==> x1) ==> (((x0 = B) ==> x1) ==> (((x0 = C) ==> x1) ==> x1))"
    ∷ codes "abc.case.A : !x0:'x1. !x1:'x1. !x2:'x1. abc.case{'x1} x0 x1 x2 A = x0"
    ∷ codes "abc.case.B : !x0:'x1. !x1:'x1. !x2:'x1. abc.case{'x1} x0 x1 x2 B = x1"
    ∷ codes "abc.case.C : !x0:'x1. !x1:'x1. !x2:'x1. abc.case{'x1} x0 x1 x2 C = x2"
    ∷ codes "abc.split : !x0:'x1 -> bool. !x1:'x1. !x2:'x1. !x3:'x1. !x4:abc. x0 (abc.case{'x1} x1 x2 x3 x4) = (((x4 = A) ==> x0 x1) /\\ (((x4 = B) ==> x0 x2) /\\ ((x4 = C) ==> x0 x3)))"
    ∷ codes "abc.disc.A.A : abc.is_A A"
    ∷ codes "abc.disc.A.B : ~ abc.is_A B"
    ∷ codes "abc.disc.A.C : ~ abc.is_A C"
    ∷ codes "abc.disc.B.A : ~ abc.is_B A"
    ∷ codes "abc.disc.B.B : abc.is_B B"
    ∷ codes "abc.disc.B.C : ~ abc.is_B C"
    ∷ codes "abc.disc.C.A : ~ abc.is_C A"
    ∷ codes "abc.disc.C.B : ~ abc.is_C B"
    ∷ codes "abc.disc.C.C : abc.is_C C"
    ∷ codes "abc.induct : !x0:abc -> bool. x0 A ==> (x0 B ==> (x0 C ==> (!x1:abc. x0 x1)))"
    ∷ codes "abc.rec.A : !x0:'x1. !x1:'x1. !x2:'x1. abc.rec{'x1} x0 x1 x2 A = x0"
    ∷ codes "abc.rec.B : !x0:'x1. !x1:'x1. !x2:'x1. abc.rec{'x1} x0 x1 x2 B = x1"
    ∷ codes "abc.rec.C : !x0:'x1. !x1:'x1. !x2:'x1. abc.rec{'x1} x0 x1 x2 C = x2"
    ∷ []
