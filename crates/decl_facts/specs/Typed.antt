-- What the builders ask of terms, and what they keep.
use Rattle.std.specs.Prelude.{◌≡◌, List, [], ◌∷◌}
use Rattle.hol_terms.specs.Ty.{Ty}
use Rattle.hol_terms.specs.Tm.{Tm}
use Rattle.hol_terms.specs.Typing.{tm_type}
use Rattle.hol_terms.specs.Takes.{Takes}
use Rattle.hol_terms.specs.Notation.{◌·◌}
use Rattle.hol_terms.specs.Loose.{IsClosedAt}
use Rattle.stmt_core.specs.Formulas.{IsBoolean}

-- the function takes the arguments one after another
abbrev pub TakesAll : Tm → List Tm → Type 0
TakesAll f [] = Unit {0}
TakesAll f (t ∷ ts) = Takes f t × TakesAll (f · t) ts

-- a term of the type without loose indices
pub record IsOfType (a : Ty) (t : Tm) : Type 0 where
  pub typed : tm_type t ≡ a
  pub closed : IsClosedAt 0 t

-- a formula without loose indices
pub record IsFormula (t : Tm) : Type 0 where
  pub boolean : IsBoolean t
  pub closed : IsClosedAt 0 t
