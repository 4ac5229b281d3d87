-- Signatures, and what is well typed over one (HOL Light).
use Rattle.std.specs.Prelude.{◌≡◌, ℕ, suc, true, Bool, ◌&&◌, not, List, [], ◌∷◌, length, if◌then◌else◌, Option, Some, None, is_none, bytes_eq, slice_get}
use Rattle.hol_terms.specs.Name.{Name, is_segment, is_name, is_numbered}
use Rattle.hol_terms.specs.Ty.{Ty, ty_var, ty_app, Tys, no_tys, more_tys, tys}
use Rattle.hol_terms.specs.Tm.{Tm, tm_index, tm_free, tm_const, tm_comb, tm_abs}
use Rattle.hol_terms.specs.Typing.{tm_type, range_ty, fun_ty}
use Rattle.hol_terms.specs.TyVars.{ty_vars, instance_at}

-- each type's number of arguments, and each constant's generic type
pub record Signature : Type 0 where
  pub types : List (Name × ℕ)
  pub consts : List (Name × Ty)

-- what a table of names has at a name
abbrev pub entry_at : {A : Type 0} → List (Name × A) → Name → Option A
entry_at [] n = None
entry_at (e ∷ es) n = if bytes_eq e.0 n then Some e.1 else entry_at es n

abbrev pub arity_of : Signature → Name → Option ℕ
arity_of s n = entry_at s.types n

abbrev pub generic_of : Signature → Name → Option Ty
generic_of s c = entry_at s.consts c

-- types and constants share one name space
abbrev pub is_new : Signature → Name → Bool
is_new s n = is_none (arity_of s n) && is_none (generic_of s n)

-- what a definition may introduce: a name that isn't `x` and digits, and is new
abbrev pub may_introduce : Signature → Name → Bool
may_introduce s n = is_name n && not (is_numbered n) && is_new s n

abbrev pub tys_count : Tys → ℕ
tys_count no_tys = 0
tys_count (more_tys t ts) = suc (tys_count ts)

-- the type is well formed over the signature: each name has its number of arguments, and variables are segments
abbrev mutual
  pub IsTyOver : Signature → Ty → Type 0
  IsTyOver s (ty_var n) = is_segment n ≡ true
  IsTyOver s (ty_app n ts) = (arity_of s n ≡ Some (tys_count ts)) × AreTysOver s ts

  pub AreTysOver : Signature → Tys → Type 0
  AreTysOver s no_tys = Unit {0}
  AreTysOver s (more_tys t ts) = IsTyOver s t × AreTysOver s ts

-- the constant has its generic type, with the arguments in place of its type variables
pub record IsConstOver (s : Signature) (c : Name) (args : List Ty) (ty : Ty) : Type 0 where
  pub generic : Ty
  pub known : generic_of s c ≡ Some generic
  pub as_many : length args ≡ length (ty_vars generic [])
  pub instance : ty ≡ instance_at generic args
  pub over : AreTysOver s (tys args)
  pub ty_over : IsTyOver s ty

-- the term is well typed over the signature, below binders of the types `bound`, the innermost first
abbrev pub IsOver : Signature → List Ty → Tm → Type 0
IsOver s bound (tm_index i t) = (slice_get bound i ≡ Some t) × IsTyOver s t
IsOver s bound (tm_free v) = (is_name v.name ≡ true) × IsTyOver s v.ty
IsOver s bound (tm_const c ts t) = IsConstOver s c ts t
IsOver s bound (tm_comb f x) = IsOver s bound f × IsOver s bound x × (tm_type f ≡ fun_ty (tm_type x) (range_ty (tm_type f)))
IsOver s bound (tm_abs t b) = IsTyOver s t × IsOver s (t ∷ bound) b
