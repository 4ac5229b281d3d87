-- What a contract sees of a signature over tables, and the signature that it stands for.
use Rattle.std.specs.Prelude.{◌≡◌, ℕ, true, List, [], ◌∷◌, refl}
use Rattle.std.specs.Coded.{Coded, code_by, coded×, coded_list, coded_ℕ}
use Rattle.std.specs.Str.{is_utf8}
use Rattle.hol_terms.specs.Name.{Name}
use Rattle.hol_terms.specs.Ty.{Ty}
use Rattle.hol_terms.specs.Signature.{Signature}
use Rattle.flat_terms.specs.declared.nodes.NameId.{NameId}
use Rattle.flat_terms.specs.declared.nodes.TypeId.{TypeId}
use Rattle.flat_terms.specs.Plain.{PlainTables, HasName, HasType, name_of, type_of}

-- each type's number of arguments, and each constant's generic type
pub record FlatNames : Type 0 where
  pub types : List (NameId × ℕ)
  pub constants : List (NameId × TypeId)

abbrev name_id_code : Coded NameId
name_id_code = code_by ℕ coded_ℕ (λ n. n.0) (λ k. record { 0 = k }) (λ _. refl)

abbrev type_id_code : Coded TypeId
type_id_code = code_by ℕ coded_ℕ (λ n. n.0) (λ k. record { 0 = k }) (λ _. refl)

abbrev pub flat_names_code : Coded FlatNames
flat_names_code =
    code_by (List (NameId × ℕ) × List (NameId × TypeId)) (coded× (coded_list (coded× name_id_code coded_ℕ)) (coded_list (coded× name_id_code type_id_code)))
    (λ s. (s.types, s.constants)) (λ p. record { types = p.0; constants = p.1 }) (λ _. refl)

abbrev pub plain_types : PlainTables → List (NameId × ℕ) → List (Name × ℕ)
plain_types t [] = []
plain_types t (e ∷ es) = (name_of t e.0, e.1) ∷ plain_types t es

abbrev pub plain_constants : PlainTables → List (NameId × TypeId) → List (Name × Ty)
plain_constants t [] = []
plain_constants t (e ∷ es) = (name_of t e.0, type_of t e.1) ∷ plain_constants t es

-- the signature of the names and types at the numbers
abbrev pub plain_signature : PlainTables → FlatNames → Signature
plain_signature t s = record { types = plain_types t s.types; consts = plain_constants t s.constants }

-- the tables have the name, which is text
pub record HasText (t : PlainTables) (n : NameId) : Type 0 where
  pub has : HasName t n
  pub utf8 : is_utf8 (name_of t n) ≡ true

abbrev pub HaveTexts : {A : Type 0} → PlainTables → List (NameId × A) → Type 0
HaveTexts t [] = Unit {0}
HaveTexts t (e ∷ es) = HasText t e.0 × HaveTexts t es

abbrev pub HaveGenerics : PlainTables → List (NameId × TypeId) → Type 0
HaveGenerics t [] = Unit {0}
HaveGenerics t (e ∷ es) = HasType t e.1 × HaveGenerics t es

-- the tables have all numbers of the signature
pub record HasSignature (t : PlainTables) (s : FlatNames) : Type 0 where
  pub types : HaveTexts t s.types
  pub constants : HaveTexts t s.constants
  pub generics : HaveGenerics t s.constants
