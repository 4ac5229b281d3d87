-- Numbers that a reading over tables gives, beside what it reads.
use Rattle.std.specs.Prelude.{◌≡◌, Bool, true, false, List, Option, Some, None}
use Rattle.hol_terms.specs.Name.{Name}
use Rattle.hol_terms.specs.Ty.{Ty, Tys, tys}
use Rattle.hol_terms.specs.Tm.{Tm}
use Rattle.hol_terms.specs.Text.{Text}
use Rattle.flat_terms.specs.declared.nodes.NameId.{NameId}
use Rattle.flat_terms.specs.declared.nodes.TypeId.{TypeId}
use Rattle.flat_terms.specs.declared.nodes.TermId.{TermId}
use Rattle.flat_terms.specs.Plain.{PlainTables, HasName, HasType, HasTypes, HasTerm, name_of, type_of, types_of, term_of}
use Rattle.flat_instances.specs.Types.{IsTypeNumber}
use Rattle.flat_signatures.specs.declared.types.TypeRead.{TypeRead}
use Rattle.flat_signatures.specs.declared.types.TypesRead.{TypesRead}

-- n is the number of the name x
pub record IsNameNumber (t : PlainTables) (n : NameId) (x : Name) : Type 0 where
  pub has : HasName t n
  pub text : name_of t n ≡ x

-- the number of the type x, where the test holds
abbrev pub IsTypeWhere : PlainTables → Option TypeId → Bool → Ty → Type 0
IsTypeWhere t None b x = b ≡ false
IsTypeWhere t (Some n) b x = (b ≡ true) × IsTypeNumber t n x

-- the number of the term, where there is one
abbrev pub IsTermOf : PlainTables → Option TermId → Option Tm → Type 0
IsTermOf t None o = o ≡ None
IsTermOf t (Some n) o = HasTerm t n × (o ≡ Some (term_of t n))

-- the number of the type that was read, and what is left, where something was
abbrev pub IsTypeRead : PlainTables → Option TypeRead → Option (Ty × Text) → Type 0
IsTypeRead t None o = o ≡ None
IsTypeRead t (Some r) o = HasType t r.ty × (o ≡ Some (type_of t r.ty, r.rest.now))

abbrev pub AreTypesRead : PlainTables → Option TypesRead → Option (Tys × Text) → Type 0
AreTypesRead t None o = o ≡ None
AreTypesRead t (Some r) o = HasTypes t r.types.items × (o ≡ Some (tys (types_of t r.types.items), r.rest.now))

-- the numbers of the types, in their order
pub record AreTypeNumbers (t : PlainTables) (ns : List TypeId) (xs : List Ty) : Type 0 where
  pub has : HasTypes t ns
  pub trees : types_of t ns ≡ xs
