-- Types of which all variables were seen.
use Rattle.std.specs.Prelude.{◌≡◌, true, List, [], ◌∷◌}
use Rattle.hol_terms.specs.Ty.{Ty, ty_var, ty_app, Tys, no_tys, more_tys}
use Rattle.hol_terms.specs.TyVars.{is_among}
use Rattle.flat_terms.specs.Plain.{PlainTables, type_of}
use Rattle.flat_terms.specs.declared.nodes.TypeId.{TypeId}

-- each type variable of the type is among those seen
abbrev mutual
  pub IsSeen : List Ty → Ty → Type 0
  IsSeen seen (ty_var n) = is_among (ty_var n) seen ≡ true
  IsSeen seen (ty_app n ts) = AreSeen seen ts

  pub AreSeen : List Ty → Tys → Type 0
  AreSeen seen no_tys = Unit {0}
  AreSeen seen (more_tys t ts) = IsSeen seen t × AreSeen seen ts

abbrev pub AllWalked : PlainTables → List Ty → List TypeId → Type 0
AllWalked t seen [] = Unit {0}
AllWalked t seen (n ∷ ns) = IsSeen seen (type_of t n) × AllWalked t seen ns
