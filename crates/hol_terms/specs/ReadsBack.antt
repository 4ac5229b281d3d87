-- Signatures over which each canonical text is read as what it was printed from.
use Rattle.std.specs.Prelude.{◌≡◌, ℕ, true, false, List, [], ◌∷◌, Some, codes}
use Rattle.hol_terms.specs.Name.{Name, is_name, is_numbered}
use Rattle.hol_terms.specs.Ty.{Ty}
use Rattle.hol_terms.specs.Typing.{fun_ty}
use Rattle.hol_terms.specs.Signature.{Signature, entry_at, arity_of, generic_of}
use Rattle.hol_terms.specs.Definition.{bool_ty, alpha, eq_ty}

-- the constants that have a sign, with the generic types that they have in HOL Light
abbrev pub signed : List (Name × Ty)
signed =
    (codes "eq", eq_ty alpha) ∷ (codes "conj", fun_ty bool_ty (fun_ty bool_ty bool_ty)) ∷ (codes "disj", fun_ty bool_ty (fun_ty bool_ty bool_ty)) ∷ (codes "imp", fun_ty bool_ty (fun_ty bool_ty bool_ty))
    ∷ (codes "not", fun_ty bool_ty bool_ty) ∷ (codes "all", fun_ty (fun_ty alpha bool_ty) bool_ty) ∷ (codes "ex", fun_ty (fun_ty alpha bool_ty) bool_ty) ∷ []

-- Types and constants are called by names; no constant is called as canonical text calls bound variables; and a constant that has
-- a sign has its generic type of HOL Light. A signature that definitions give, one allowed after the other, is one of these where
-- it has the usual connectives and quantifiers or none of them.
pub record ReadsBack (s : Signature) : Type 0 where
  pub types_named : (c : Name) (k : ℕ) → arity_of s c ≡ Some k → is_name c ≡ true
  pub constants_named : (c : Name) (g : Ty) → generic_of s c ≡ Some g → is_name c ≡ true
  pub unnumbered : (c : Name) (g : Ty) → generic_of s c ≡ Some g → is_numbered c ≡ false
  pub usual : (c : Name) (g t : Ty) → generic_of s c ≡ Some g → entry_at signed c ≡ Some t → g ≡ t
