-- Signatures whose types and constants are called by names.
use Rattle.std.specs.Prelude.{◌≡◌, ℕ, true, false, List, [], ◌∷◌}
use Rattle.hol_terms.specs.Name.{Name, is_name, is_numbered}
use Rattle.hol_terms.specs.Ty.{Ty}
use Rattle.hol_terms.specs.Signature.{Signature}

abbrev pub AllEntries : {A : Type 0} → (Name → A → Type 0) → List (Name × A) → Type 0
AllEntries P [] = Unit {0}
AllEntries P (e ∷ es) = P e.0 e.1 × AllEntries P es

abbrev pub IsTypeNamed : Name → ℕ → Type 0
IsTypeNamed n k = is_name n ≡ true

abbrev pub IsConstantNamed : Name → Ty → Type 0
IsConstantNamed c g = (is_name c ≡ true) × (is_numbered c ≡ false)

-- and no constant is called as canonical text calls bound variables
pub record AreNamed (s : Signature) : Type 0 where
  pub types : AllEntries IsTypeNamed s.types
  pub constants : AllEntries IsConstantNamed s.consts
