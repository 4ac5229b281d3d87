-- `codatatype loop = Loop loop;` and its facts in canonical text.
use Rattle.std.specs.Prelude.{List, [], ◌∷◌, None, codes}
use Rattle.hol_terms.specs.Ty.{ty_app, tys}
use Rattle.hol_terms.specs.Text.{Text}
use Rattle.decl_core.specs.Declaration.{Decl}
use Rattle.decl_core.specs.Statements.{Fact}
use Rattle.decl_core.specs.Functors.{basic_lives}
use Rattle.decl_core.specs.Liveness.{with_group}
use Rattle.decl_core.specs.CharacteristicList.{codatatype_facts}

abbrev pub declared : List Decl
declared =
    record {
      params = [];
      name = codes "loop";
      ctors = (
          record { name = codes "Loop"; args = (record { selector = None; ty = (ty_app (codes "loop") (tys [])) } ∷ []) } ∷ []);
    }
    ∷ []

abbrev pub facts : List Fact
facts = codatatype_facts (with_group basic_lives declared) declared

unfoldable pub lines : List Text
lines =
    codes "loop.inject.Loop : !x0:loop. !x1:loop. (Loop x0 = Loop x1) = (x0 = x1)"
    ∷ codes "loop.exhaust : !x0:loop. !x1:bool. (!x2:loop. (x0 = Loop x2) ==> x1) ==> x1"
    ∷ codes "loop.case.Loop : !x0:loop -> 'x1. !x1:loop. loop.case{'x1} x0 (Loop x1) = x0 x1"
    ∷ codes "loop.split : !x0:'x1 -> bool. !x1:loop -> 'x1. !x2:loop. x0 (loop.case{'x1} x1 x2) = (!x3:loop. (x2 = Loop x3) ==> x0 (x1 x3))"
    ∷ codes "loop.disc.Loop.Loop : !x0:loop. loop.is_Loop (Loop x0)"
    ∷ codes "loop.coinduct : !x0:loop -> loop -> bool. (!x1:loop. !x2:loop. x0 x1 x2 ==> (?x3:loop. ?x4:loop. (x1 = Loop x3) /\\ ((x2 = Loop x4) /\\ x0 x3 x4))) ==> (!x1:loop. !x2:loop. x0 x1 x2 ==> (x1 = x2))"
    ∷ codes "loop.ctor.Loop : !x0:loop. loop.ctor x0 = Loop x0"
    ∷ codes "loop.corec : !x0:'x1 -> (loop,'x1) sum. !x1:'x1. loop.corec{'x1} x0 x1 = loop.ctor (sum.case{loop,loop,'x1} id{loop} (loop.corec{'x1} x0) (x0 x1))"
    ∷ []
