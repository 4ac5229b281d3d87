-- A replacement by a term of the same type keeps the type, and the types of the indices.
use Rattle.std.proofs.Common.{◌≡◌, ℕ, zero, suc, ◌+◌, Bool, true, false, ◌||◌, List, [], ◌∷◌, Option, Some, None, refl, ap, sym, ◌∙◌, arith}
use Rattle.hol_terms.specs.Ty.{Ty}
use Rattle.hol_terms.specs.Tm.{Tm, tm_index, tm_free, tm_const, tm_comb, tm_abs}
use Rattle.hol_terms.specs.Typing.{tm_type, range_ty, fun_ty}
use Rattle.hol_terms.specs.Takes.{Takes}
use Rattle.hol_terms.specs.Loose.{HasAt, IsClosedAt}
use Rattle.hol_terms.specs.Rules.{same}
use Rattle.hol_terms.specs.Replacing.{either, replaced, has_subterm, replaced_at, FitsAt}
use Rattle.hol_terms.proofs.LooseLemmas.{HasAt-closed}
use Rattle.hol_terms.proofs.Same.{same-is}

-- at a subterm that is replaced, and at one that isn't
type_either : (t from to new : Tm) → tm_type from ≡ tm_type to → tm_type new ≡ tm_type t → tm_type (either (same t from) to new) ≡ tm_type t
type_either t from to new e d = at (same t from) refl
  where
    at : (b : Bool) → same t from ≡ b → tm_type (either b to new) ≡ tm_type t
    at true s = sym e ∙ sym (ap tm_type (same-is t from s))
    at false s = d

pub tm_type-replaced : (from to t : Tm) → tm_type from ≡ tm_type to → tm_type (replaced from to t) ≡ tm_type t
tm_type-replaced from to (tm_index i t) e = type_either (tm_index i t) from to (tm_index i t) e refl
tm_type-replaced from to (tm_free v) e = type_either (tm_free v) from to (tm_free v) e refl
tm_type-replaced from to (tm_const c ts t) e = type_either (tm_const c ts t) from to (tm_const c ts t) e refl
tm_type-replaced from to (tm_comb f x) e = type_either (tm_comb f x) from to (tm_comb (replaced from to f) (replaced from to x)) e (ap range_ty (tm_type-replaced from to f e))
tm_type-replaced from to (tm_abs t b) e = type_either (tm_abs t b) from to (tm_abs t (replaced from to b)) e (ap (fun_ty t) (tm_type-replaced from to b e))

at_either : (k : ℕ) (a : Ty) (b : Bool) (to new : Tm) → IsClosedAt 0 to → HasAt k a new → HasAt k a (either b to new)
at_either k a true to new c h = HasAt-closed k 0 a to (omega arith) c
at_either k a false to new c h = h

pub HasAt-replaced : (k : ℕ) (a : Ty) (from to t : Tm) → IsClosedAt 0 to → HasAt k a t → HasAt k a (replaced from to t)
HasAt-replaced k a from to (tm_index i t) c h = at_either k a (same (tm_index i t) from) to (tm_index i t) c h
HasAt-replaced k a from to (tm_free v) c h = at_either k a (same (tm_free v) from) to (tm_free v) c h
HasAt-replaced k a from to (tm_const d ts t) c h = at_either k a (same (tm_const d ts t) from) to (tm_const d ts t) c h
HasAt-replaced k a from to (tm_comb f x) c h =
    at_either k a (same (tm_comb f x) from) to (tm_comb (replaced from to f) (replaced from to x)) c (HasAt-replaced k a from to f c h.0, HasAt-replaced k a from to x c h.1)
HasAt-replaced k a from to (tm_abs t b) c h = at_either k a (same (tm_abs t b) from) to (tm_abs t (replaced from to b)) c (HasAt-replaced (k + 1) a from to b c h)

pub replaced-here : (from to t : Tm) → same t from ≡ true → replaced from to t ≡ to
replaced-here from to (tm_index i t) e = ap (λ b. either b to (tm_index i t)) e
replaced-here from to (tm_free v) e = ap (λ b. either b to (tm_free v)) e
replaced-here from to (tm_const c ts t) e = ap (λ b. either b to (tm_const c ts t)) e
replaced-here from to (tm_comb f x) e = ap (λ b. either b to (tm_comb (replaced from to f) (replaced from to x))) e
replaced-here from to (tm_abs t b) e = ap (λ c. either c to (tm_abs t (replaced from to b))) e

pub has_subterm-here : (part t : Tm) → same t part ≡ true → true ≡ has_subterm part t
has_subterm-here part (tm_index i t) e = sym e
has_subterm-here part (tm_free v) e = sym e
has_subterm-here part (tm_const c ts t) e = sym e
has_subterm-here part (tm_comb f x) e = ap (λ b. b || (has_subterm part f || has_subterm part x)) (sym e)
has_subterm-here part (tm_abs t b) e = ap (λ c. c || has_subterm part b) (sym e)

pub ruleset subterm_lemmas = (has_subterm-here)

pub ruleset replace_lemmas = (tm_type-replaced, HasAt-replaced, replaced-here)

pub fits_function : (path : List ℕ) (to f x : Tm) → FitsAt (0 ∷ path) to (tm_comb f x) → FitsAt path to f
fits_function path to f x h = record { there = h.there; is = h.is; typed = h.typed }

pub fits_argument : (path : List ℕ) (to f x : Tm) → FitsAt (1 ∷ path) to (tm_comb f x) → FitsAt path to x
fits_argument path to f x h = record { there = h.there; is = h.is; typed = h.typed }

pub fits_body : (path : List ℕ) (to : Tm) (t : Ty) (b : Tm) → FitsAt (0 ∷ path) to (tm_abs t b) → FitsAt path to b
fits_body path to t b h = record { there = h.there; is = h.is; typed = h.typed }

abbrev value_or : Tm → Option Tm → Tm
value_or t None = t
value_or t (Some u) = u

there_is : (t u : Tm) → Some t ≡ Some u → t ≡ u
there_is t u e = ap (value_or t) e

pub tm_type-replaced_at : (path : List ℕ) (to t : Tm) → FitsAt path to t → tm_type (replaced_at path to t) ≡ tm_type t
tm_type-replaced_at [] to t h = sym h.typed ∙ ap tm_type (sym (there_is t h.there h.is))
tm_type-replaced_at (n ∷ path) to (tm_index i t) h = refl
tm_type-replaced_at (n ∷ path) to (tm_free v) h = refl
tm_type-replaced_at (n ∷ path) to (tm_const c ts t) h = refl
tm_type-replaced_at (zero ∷ path) to (tm_comb f x) h = ap range_ty (tm_type-replaced_at path to f (fits_function path to f x h))
tm_type-replaced_at (suc n ∷ path) to (tm_comb f x) h = refl
tm_type-replaced_at (zero ∷ path) to (tm_abs t b) h = ap (fun_ty t) (tm_type-replaced_at path to b (fits_body path to t b h))
tm_type-replaced_at (suc n ∷ path) to (tm_abs t b) h = no_place h.is
  where
    no_place : None ≡ Some h.there → tm_type (replaced_at (suc n ∷ path) to (tm_abs t b)) ≡ fun_ty t (tm_type b)
    no_place e = cc

pub HasAt-replaced_at : (path : List ℕ) (k : ℕ) (a : Ty) (to t : Tm) → IsClosedAt 0 to → HasAt k a t → HasAt k a (replaced_at path to t)
HasAt-replaced_at [] k a to t c h = HasAt-closed k 0 a to (omega arith) c
HasAt-replaced_at (n ∷ path) k a to (tm_index i t) c h = h
HasAt-replaced_at (n ∷ path) k a to (tm_free v) c h = tt
HasAt-replaced_at (n ∷ path) k a to (tm_const d ts t) c h = tt
HasAt-replaced_at (zero ∷ path) k a to (tm_comb f x) c h = (HasAt-replaced_at path k a to f c h.0, h.1)
HasAt-replaced_at (suc n ∷ path) k a to (tm_comb f x) c h = (h.0, HasAt-replaced_at path k a to x c h.1)
HasAt-replaced_at (n ∷ path) k a to (tm_abs t b) c h = HasAt-replaced_at path (k + 1) a to b c h

pub Takes-as : (f x g y : Tm) → Takes f x → tm_type g ≡ tm_type f → tm_type y ≡ tm_type x → Takes g y
Takes-as f x g y h d e = d ∙ h ∙ sym (λ i. fun_ty (e i) (range_ty (d i)))

pub ruleset replace_at_lemmas = (tm_type-replaced_at, HasAt-replaced_at, fits_function, fits_argument, fits_body)
