-- `datatype 'a pred = Pred ('a -> bool);` and its facts in canonical text.
use Rattle.std.specs.Prelude.{List, [], ◌∷◌, None, codes}
use Rattle.hol_terms.specs.Ty.{ty_var, ty_app, tys}
use Rattle.hol_terms.specs.Notation.{◌⇒◌}
use Rattle.hol_terms.specs.Text.{Text}
use Rattle.decl_core.specs.Declaration.{Decl}
use Rattle.decl_core.specs.Statements.{Fact}
use Rattle.decl_core.specs.Functors.{basic_lives}
use Rattle.decl_core.specs.Liveness.{with_group}
use Rattle.decl_core.specs.CharacteristicList.{datatype_facts}
use Rattle.decl_samples.specs.DeadParameters1 as DeadParameters1

abbrev pub declared : List Decl
declared =
    record {
      params = (codes "a" ∷ []);
      name = codes "pred";
      ctors = (
          record { name = codes "Pred"; args = (record { selector = None; ty = ((ty_var (codes "a")) ⇒ (ty_app (codes "bool") (tys []))) } ∷ []) } ∷ []);
    }
    ∷ []

abbrev pub facts : List Fact
facts = datatype_facts (with_group (with_group basic_lives DeadParameters1.declared) declared) declared

unfoldable pub lines : List Text
lines =
    codes "pred.inject.Pred : !x0:'a -> bool. !x1:'a -> bool. (Pred{'a} x0 = Pred{'a} x1) = (x0 = x1)"
    ∷ codes "pred.exhaust : !x0:'a pred. !x1:bool. (!x2:'a -> bool. (x0 = Pred{'a} x2) ==> x1) ==> x1"
    ∷ codes "pred.case.Pred : !x0:('a -> bool) -> 'x1. !x1:'a -> bool. pred.case{'a,'x1} x0 (Pred{'a} x1) = x0 x1"
    ∷ codes "pred.split : !x0:'x1 -> bool. !x1:('a -> bool) -> 'x1. !x2:'a pred. x0 (pred.case{'a,'x1} x1 x2) = (!x3:'a -> bool. (x2 = Pred{'a} x3) ==> x0 (x1 x3))"
    ∷ codes "pred.disc.Pred.Pred : !x0:'a -> bool. pred.is_Pred{'a} (Pred{'a} x0)"
    ∷ codes "pred.induct : !x0:'a pred -> bool. (!x1:'a -> bool. x0 (Pred{'a} x1)) ==> (!x1:'a pred. x0 x1)"
    ∷ codes "pred.rec.Pred : !x0:('a -> bool) -> 'x1. !x1:'a -> bool. pred.rec{'a,'x1} x0 (Pred{'a} x1) = x0 x1"
    ∷ []
