-- `datatype solo = Solo;` and its facts in canonical text.
use Rattle.std.specs.Prelude.{List, [], ◌∷◌, codes}
use Rattle.hol_terms.specs.Text.{Text}
use Rattle.decl_core.specs.Declaration.{Decl}
use Rattle.decl_core.specs.Statements.{Fact}
use Rattle.decl_core.specs.Functors.{basic_lives}
use Rattle.decl_core.specs.Liveness.{with_group}
use Rattle.decl_core.specs.CharacteristicList.{datatype_facts}

abbrev pub declared : List Decl
declared =
    record {
      params = [];
      name = codes "solo";
      ctors = (
          record { name = codes "Solo"; args = [] } ∷ []);
    }
    ∷ []

abbrev pub facts : List Fact
facts = datatype_facts (with_group basic_lives declared) declared

unfoldable pub lines : List Text
lines =
    codes "solo.exhaust : !x0:solo. !x1:bool. ((x0 = Solo) ==> x1) ==> x1"
    ∷ codes "solo.case.Solo : !x0:'x1. solo.case{'x1} x0 Solo = x0"
    ∷ codes "solo.split : !x0:'x1 -> bool. !x1:'x1. !x2:solo. x0 (solo.case{'x1} x1 x2) = ((x2 = Solo) ==> x0 x1)"
    ∷ codes "solo.disc.Solo.Solo : solo.is_Solo Solo"
    ∷ codes "solo.induct : !x0:solo -> bool. x0 Solo ==> (!x1:solo. x0 x1)"
    ∷ codes "solo.rec.Solo : !x0:'x1. solo.rec{'x1} x0 Solo = x0"
    ∷ []
