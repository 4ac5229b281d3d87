-- Generic types by their numbers.
use Rattle.std.specs.Prelude.{◌≡◌, Option, Some, None}
use Rattle.hol_terms.specs.Ty.{Ty}
use Rattle.hol_terms.specs.Definition.{eq_ty, some_ty, alpha}
use Rattle.flat_terms.specs.declared.nodes.TypeId.{TypeId}
use Rattle.flat_terms.specs.Plain.{PlainTables, HasType, type_of}
use Rattle.flat_instances.specs.Types.{IsTypeNumber}
use Rattle.flat_signatures.specs.declared.signature.BaseTypes.{BaseTypes}

-- the number of the generic type, where there is one
abbrev pub IsGenericOf : PlainTables → Option TypeId → Option Ty → Type 0
IsGenericOf t None o = o ≡ None
IsGenericOf t (Some n) o = HasType t n × (o ≡ Some (type_of t n))

pub record AreBaseTypes (t : PlainTables) (b : BaseTypes) : Type 0 where
  pub equality : IsTypeNumber t b.equality (eq_ty alpha)
  pub choice : IsTypeNumber t b.choice (some_ty alpha)
