-- A test of typing that computes: what passes it is well typed.
use Rattle.std.proofs.Common.{◌≡◌, ℕ, Bool, true, false, ◌&&◌, List, [], ◌∷◌, length, Option, Some, None, refl, ap}
use Rattle.std.specs.Prelude.{◌==◌, slice_get}
use Rattle.std.proofs.lemmas.Bool.{and_parts, eqb-true}
use Rattle.hol_terms.specs.Ty.{Ty, ty_var, ty_app, Tys, no_tys, more_tys, tys}
use Rattle.hol_terms.specs.Tm.{Tm, tm_index, tm_free, tm_const, tm_comb, tm_abs}
use Rattle.hol_terms.specs.Typing.{tm_type, range_ty, fun_ty}
use Rattle.hol_terms.specs.TyVars.{ty_vars, instance_at}
use Rattle.hol_terms.specs.Signature.{Signature, arity_of, generic_of, tys_count, IsTyOver, AreTysOver, IsConstOver, IsOver}
use Rattle.hol_terms.specs.Rules.{same_ty, fits}
use Rattle.hol_terms.proofs.Order.{ty_cmp-same, is_eq-same}
use Rattle.hol_terms.proofs.AsciiNames.{is_ascii_segment, is_ascii_name, is_segment_from_ascii, is_name_from_ascii}

abbrev pub is_arity : Option ℕ → ℕ → Bool
is_arity None n = false
is_arity (Some m) n = m == n

abbrev pub is_type : Option Ty → Ty → Bool
is_type None t = false
is_type (Some u) t = same_ty u t

abbrev pub is_instance : Option Ty → List Ty → Ty → Bool
is_instance None args t = false
is_instance (Some generic) args t = (length args == length (ty_vars generic [])) && same_ty t (instance_at generic args)

-- the names are tested as names of ASCII characters
abbrev mutual
  pub is_ty_over : Signature → Ty → Bool
  is_ty_over s (ty_var n) = is_ascii_segment n
  is_ty_over s (ty_app n ts) = is_arity (arity_of s n) (tys_count ts) && are_tys_over s ts

  pub are_tys_over : Signature → Tys → Bool
  are_tys_over s no_tys = true
  are_tys_over s (more_tys t ts) = is_ty_over s t && are_tys_over s ts

abbrev pub is_over : Signature → List Ty → Tm → Bool
is_over s bound (tm_index i t) = is_type (slice_get bound i) t && is_ty_over s t
is_over s bound (tm_free v) = is_ascii_name v.name && is_ty_over s v.ty
is_over s bound (tm_const c ts t) = is_instance (generic_of s c) ts t && are_tys_over s (tys ts) && is_ty_over s t
is_over s bound (tm_comb f x) = is_over s bound f && is_over s bound x && fits f x
is_over s bound (tm_abs t b) = is_ty_over s t && is_over s (t ∷ bound) b

three_parts : (a b c : Bool) → (a && b && c) ≡ true → (a ≡ true) × (b ≡ true) × (c ≡ true)
three_parts a b c h = let p = and_parts (a && b) c h in let q = and_parts a b p.0 in (q.0, q.1, p.1)

pub same_ty-is : (t u : Ty) → same_ty t u ≡ true → t ≡ u
unfolding same_ty
same_ty-is t u h = ty_cmp-same t u (is_eq-same _ h)

is_arity-is : (a : Option ℕ) (n : ℕ) → is_arity a n ≡ true → a ≡ Some n
is_arity-is None n h = cc
is_arity-is (Some m) n h = ap Some (eqb-true m n h)

is_type-is : (o : Option Ty) (t : Ty) → is_type o t ≡ true → o ≡ Some t
is_type-is None t h = cc
is_type-is (Some u) t h = ap Some (same_ty-is u t h)

mutual
  pub IsTyOver-checked : (s : Signature) (t : Ty) → is_ty_over s t ≡ true → IsTyOver s t
  IsTyOver-checked s (ty_var n) h = is_segment_from_ascii n h
  IsTyOver-checked s (ty_app n ts) h =
      let p = and_parts (is_arity (arity_of s n) (tys_count ts)) (are_tys_over s ts) h in
      (is_arity-is (arity_of s n) (tys_count ts) p.0, AreTysOver-checked s ts p.1)

  pub AreTysOver-checked : (s : Signature) (ts : Tys) → are_tys_over s ts ≡ true → AreTysOver s ts
  AreTysOver-checked s no_tys h = tt
  AreTysOver-checked s (more_tys t ts) h =
      let p = and_parts (is_ty_over s t) (are_tys_over s ts) h in
      (IsTyOver-checked s t p.0, AreTysOver-checked s ts p.1)

const_checked : (s : Signature) (c : List ℕ) (ts : List Ty) (t : Ty) (o : Option Ty) → generic_of s c ≡ o → is_instance o ts t ≡ true
    → AreTysOver s (tys ts) → IsTyOver s t → IsConstOver s c ts t
const_checked s c ts t None e h a b = cc
const_checked s c ts t (Some g) e h a b =
    let p = and_parts (length ts == length (ty_vars g [])) (same_ty t (instance_at g ts)) h in
    record { generic = g; known = e; as_many = eqb-true (length ts) (length (ty_vars g [])) p.0; instance = same_ty-is t (instance_at g ts) p.1; over = a; ty_over = b }

pub IsOver-checked : (s : Signature) (bound : List Ty) (t : Tm) → is_over s bound t ≡ true → IsOver s bound t
IsOver-checked s bound (tm_index i t) h =
    let p = and_parts (is_type (slice_get bound i) t) (is_ty_over s t) h in
    (is_type-is (slice_get bound i) t p.0, IsTyOver-checked s t p.1)
IsOver-checked s bound (tm_free v) h =
    let p = and_parts (is_ascii_name v.name) (is_ty_over s v.ty) h in
    (is_name_from_ascii v.name p.0, IsTyOver-checked s v.ty p.1)
IsOver-checked s bound (tm_const c ts t) h =
    let p = three_parts (is_instance (generic_of s c) ts t) (are_tys_over s (tys ts)) (is_ty_over s t) h in
    const_checked s c ts t (generic_of s c) refl p.0 (AreTysOver-checked s (tys ts) p.1) (IsTyOver-checked s t p.2)
IsOver-checked s bound (tm_comb f x) h =
    let p = three_parts (is_over s bound f) (is_over s bound x) (fits f x) h in
    (IsOver-checked s bound f p.0, IsOver-checked s bound x p.1, same_ty-is (tm_type f) (fun_ty (tm_type x) (range_ty (tm_type f))) p.2)
IsOver-checked s bound (tm_abs t b) h =
    let p = and_parts (is_ty_over s t) (is_over s (t ∷ bound) b) h in
    (IsTyOver-checked s t p.0, IsOver-checked s (t ∷ bound) b p.1)
