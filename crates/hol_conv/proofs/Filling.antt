-- A fresh variable in place of subterms, and a term for it.
use Rattle.std.proofs.Common.{◌≡◌, ℕ, zero, suc, ◌+◌, ◌-◌, ◌<◌, arith, Bool, true, false, cond, nat_eq, nat_lt, Option, Some, None, List, [], ◌∷◌, refl, ap, sym, ◌∙◌}
use Rattle.std.proofs.lemmas.Bool.Decides.{nat_tests}
use Rattle.hol_terms.specs.Ty.{Ty}
use Rattle.hol_terms.specs.Tm.{Tm, tm_index, tm_free, tm_const, tm_comb, tm_abs, FreeVar}
use Rattle.hol_terms.specs.Typing.{tm_type, range_ty, fun_ty}
use Rattle.hol_terms.specs.Binding.{tm_bind, has_free, var_eq}
use Rattle.hol_terms.specs.Loose.{IsClosedAt}
use Rattle.hol_terms.specs.Rules.{same}
use Rattle.hol_terms.specs.Signature.{Signature, IsOver}
use Rattle.hol_terms.specs.Replacing.{either, replaced, has_subterm, subterm_at, replaced_at, FitsAt}
use Rattle.hol_terms.proofs.Opened.{var_self}
use Rattle.hol_terms.proofs.Same.{same-is}
use Rattle.hol_terms.proofs.InstLemmas.{IsOver-below}
use Rattle.hol_terms.proofs.Replacements.{tm_type-replaced, tm_type-replaced_at, fits_function, fits_argument, fits_body}
use Rattle.hol_conv.specs.Reduction.{shift, put}
use Rattle.hol_conv.proofs.Contracting.{shift_closed, none_left, none_right}

-- the variable v, which is bound, goes to u
abbrev filled : ℕ → FreeVar → Tm → Tm → Tm
filled k v u t = put k u (tm_bind k v t)

same_index : (k : ℕ) → nat_eq k k ≡ true
same_index k = grind (arith, nat_tests)

filled_here : (k : ℕ) (v : FreeVar) (u : Tm) → IsClosedAt 0 u → filled k v u (tm_free v) ≡ u
filled_here k v u c = ap (λ b. put k u (cond b (tm_index k v.ty) (tm_free v))) (var_self v) ∙ ap (λ b. cond b (shift k 0 u) (cond (nat_lt k k) (tm_index k v.ty) (tm_index (k - 1) v.ty))) (same_index k) ∙ shift_closed k 0 u c

-- where the variable doesn't occur
filled_free : (k : ℕ) (v w : FreeVar) (u : Tm) → var_eq v w ≡ false → filled k v u (tm_free w) ≡ tm_free w
filled_free k v w u h = ap (λ b. put k u (cond b (tm_index k w.ty) (tm_free w))) h

filled_index : (k i : ℕ) (t : Ty) (u : Tm) → i < k → put k u (tm_index i t) ≡ tm_index i t
filled_index k i t u l = at (nat_eq i k) (nat_lt i k) refl refl
  where
    at : (b d : Bool) → nat_eq i k ≡ b → nat_lt i k ≡ d → cond b (shift k 0 u) (cond d (tm_index i t) (tm_index (i - 1) t)) ≡ tm_index i t
    at true d p q = absurd (grind (arith, nat_tests))
    at false true p q = refl
    at false false p q = absurd (grind (arith, nat_tests))

either_filled : (k : ℕ) (v : FreeVar) (u : Tm) (b : Bool) (s t : Tm) → IsClosedAt 0 u → filled k v u s ≡ t → filled k v u (either b (tm_free v) s) ≡ either b u t
either_filled k v u true s t c e = filled_here k v u c
either_filled k v u false s t c e = e

pub filled_replaced : (k : ℕ) (v : FreeVar) (l u t : Tm) → has_free v t ≡ false → IsClosedAt k t → IsClosedAt 0 u → filled k v u (replaced l (tm_free v) t) ≡ replaced l u t
filled_replaced k v l u (tm_index i t) f h c = either_filled k v u (same (tm_index i t) l) (tm_index i t) (tm_index i t) c (filled_index k i t u h)
filled_replaced k v l u (tm_free w) f h c = either_filled k v u (same (tm_free w) l) (tm_free w) (tm_free w) c (filled_free k v w u f)
filled_replaced k v l u (tm_const d ts t) f h c = either_filled k v u (same (tm_const d ts t) l) (tm_const d ts t) (tm_const d ts t) c refl
filled_replaced k v l u (tm_comb g x) f h c =
    either_filled k v u (same (tm_comb g x) l) (tm_comb (replaced l (tm_free v) g) (replaced l (tm_free v) x)) (tm_comb (replaced l u g) (replaced l u x)) c
    (λ i. tm_comb (filled_replaced k v l u g (none_left _ _ f) h.0 c i) (filled_replaced k v l u x (none_right (has_free v g) _ f) h.1 c i))
filled_replaced k v l u (tm_abs t b) f h c =
    either_filled k v u (same (tm_abs t b) l) (tm_abs t (replaced l (tm_free v) b)) (tm_abs t (replaced l u b)) c (ap (tm_abs t) (filled_replaced (k + 1) v l u b f h c))

-- a term without the variable
pub filled_absent : (k : ℕ) (v : FreeVar) (u t : Tm) → has_free v t ≡ false → IsClosedAt k t → filled k v u t ≡ t
filled_absent k v u (tm_index i t) f h = filled_index k i t u h
filled_absent k v u (tm_free w) f h = filled_free k v w u f
filled_absent k v u (tm_const d ts t) f h = refl
filled_absent k v u (tm_comb g x) f h = λ i. tm_comb (filled_absent k v u g (none_left _ _ f) h.0 i) (filled_absent k v u x (none_right (has_free v g) _ f) h.1 i)
filled_absent k v u (tm_abs t b) f h = ap (tm_abs t) (filled_absent (k + 1) v u b f h)

pub filled_replaced_at : (path : List ℕ) (k : ℕ) (v : FreeVar) (u t : Tm) → has_free v t ≡ false → IsClosedAt k t → IsClosedAt 0 u → filled k v u (replaced_at path (tm_free v) t) ≡ replaced_at path u t
filled_replaced_at [] k v u t f h c = filled_here k v u c
filled_replaced_at (n ∷ path) k v u (tm_index i t) f h c = filled_index k i t u h
filled_replaced_at (n ∷ path) k v u (tm_free w) f h c = filled_free k v w u f
filled_replaced_at (n ∷ path) k v u (tm_const d ts t) f h c = refl
filled_replaced_at (zero ∷ path) k v u (tm_comb g x) f h c =
    λ i. tm_comb (filled_replaced_at path k v u g (none_left _ _ f) h.0 c i) (filled_absent k v u x (none_right (has_free v g) _ f) h.1 i)
filled_replaced_at (suc n ∷ path) k v u (tm_comb g x) f h c =
    λ i. tm_comb (filled_absent k v u g (none_left _ _ f) h.0 i) (filled_replaced_at path k v u x (none_right (has_free v g) _ f) h.1 c i)
filled_replaced_at (n ∷ path) k v u (tm_abs t b) f h c = ap (tm_abs t) (filled_replaced_at path (k + 1) v u b f h c)

-- what is replaced by itself, and what doesn't occur
either_self : (l s t : Tm) → s ≡ t → either (same t l) l s ≡ t
either_self l s t e = at (same t l) refl
  where
    at : (b : Bool) → same t l ≡ b → either b l s ≡ t
    at true p = sym (same-is t l p)
    at false p = e

pub replaced_self : (l t : Tm) → replaced l l t ≡ t
replaced_self l (tm_index i t) = either_self l (tm_index i t) (tm_index i t) refl
replaced_self l (tm_free v) = either_self l (tm_free v) (tm_free v) refl
replaced_self l (tm_const c ts t) = either_self l (tm_const c ts t) (tm_const c ts t) refl
replaced_self l (tm_comb f x) = either_self l (tm_comb (replaced l l f) (replaced l l x)) (tm_comb f x) (λ i. tm_comb (replaced_self l f i) (replaced_self l x i))
replaced_self l (tm_abs t b) = either_self l (tm_abs t (replaced l l b)) (tm_abs t b) (ap (tm_abs t) (replaced_self l b))

pub replaced_none : (l u t : Tm) → has_subterm l t ≡ false → replaced l u t ≡ t
replaced_none l u (tm_index i t) h = ap (λ b. either b u (tm_index i t)) h
replaced_none l u (tm_free v) h = ap (λ b. either b u (tm_free v)) h
replaced_none l u (tm_const c ts t) h = ap (λ b. either b u (tm_const c ts t)) h
replaced_none l u (tm_comb f x) h =
    let p = none_right (same (tm_comb f x) l) _ h in
    ap (λ b. either b u (tm_comb (replaced l u f) (replaced l u x))) (none_left _ _ h)
    ∙ (λ i. tm_comb (replaced_none l u f (none_left _ _ p) i) (replaced_none l u x (none_right (has_subterm l f) _ p) i))
replaced_none l u (tm_abs t b) h = ap (λ c. either c u (tm_abs t (replaced l u b))) (none_left _ _ h) ∙ ap (tm_abs t) (replaced_none l u b (none_right (same (tm_abs t b) l) _ h))

abbrev value_or : Tm → Option Tm → Tm
value_or t None = t
value_or t (Some u) = u

pub replaced_at_self : (path : List ℕ) (l t : Tm) → subterm_at path t ≡ Some l → replaced_at path l t ≡ t
replaced_at_self [] l t e = sym (ap (value_or t) e)
replaced_at_self (n ∷ path) l (tm_index i t) e = refl
replaced_at_self (n ∷ path) l (tm_free v) e = refl
replaced_at_self (n ∷ path) l (tm_const c ts t) e = refl
replaced_at_self (zero ∷ path) l (tm_comb f x) e = ap (λ g. tm_comb g x) (replaced_at_self path l f e)
replaced_at_self (suc zero ∷ path) l (tm_comb f x) e = ap (λ y. tm_comb f y) (replaced_at_self path l x e)
replaced_at_self (suc (suc n) ∷ path) l (tm_comb f x) e = cc
replaced_at_self (zero ∷ path) l (tm_abs t b) e = ap (tm_abs t) (replaced_at_self path l b e)
replaced_at_self (suc n ∷ path) l (tm_abs t b) e = cc

-- a replacement by a well typed term of the same type is well typed
over_either : (sig : Signature) (bound : List Ty) (b : Bool) (to t : Tm) → IsOver sig [] to → IsOver sig bound t → IsOver sig bound (either b to t)
over_either sig bound true to t o h = IsOver-below sig [] bound to o
over_either sig bound false to t o h = h

pub IsOver-replaced : (sig : Signature) (bound : List Ty) (from to t : Tm) → tm_type from ≡ tm_type to → IsOver sig [] to → IsOver sig bound t → IsOver sig bound (replaced from to t)
IsOver-replaced sig bound from to (tm_index i t) e o h = over_either sig bound (same (tm_index i t) from) to (tm_index i t) o h
IsOver-replaced sig bound from to (tm_free v) e o h = over_either sig bound (same (tm_free v) from) to (tm_free v) o h
IsOver-replaced sig bound from to (tm_const c ts t) e o h = over_either sig bound (same (tm_const c ts t) from) to (tm_const c ts t) o h
IsOver-replaced sig bound from to (tm_comb f x) e o h =
    let p = tm_type-replaced from to f e in
    let q = tm_type-replaced from to x e in
    over_either sig bound (same (tm_comb f x) from) to (tm_comb (replaced from to f) (replaced from to x)) o
    (IsOver-replaced sig bound from to f e o h.0, IsOver-replaced sig bound from to x e o h.1, p ∙ h.2 ∙ sym (λ i. fun_ty (q i) (range_ty (p i))))
IsOver-replaced sig bound from to (tm_abs t b) e o h = over_either sig bound (same (tm_abs t b) from) to (tm_abs t (replaced from to b)) o (h.0, IsOver-replaced sig (t ∷ bound) from to b e o h.1)

pub IsOver-replaced_at : (path : List ℕ) (sig : Signature) (bound : List Ty) (to t : Tm) → FitsAt path to t → IsOver sig [] to → IsOver sig bound t → IsOver sig bound (replaced_at path to t)
IsOver-replaced_at [] sig bound to t f o h = IsOver-below sig [] bound to o
IsOver-replaced_at (n ∷ path) sig bound to (tm_index i t) f o h = h
IsOver-replaced_at (n ∷ path) sig bound to (tm_free v) f o h = h
IsOver-replaced_at (n ∷ path) sig bound to (tm_const c ts t) f o h = h
IsOver-replaced_at (zero ∷ path) sig bound to (tm_comb g x) f o h =
    let p = tm_type-replaced_at path to g (fits_function path to g x f) in
    (IsOver-replaced_at path sig bound to g (fits_function path to g x f) o h.0, h.1, p ∙ h.2 ∙ sym (λ i. fun_ty (tm_type x) (range_ty (p i))))
IsOver-replaced_at (suc zero ∷ path) sig bound to (tm_comb g x) f o h =
    let q = tm_type-replaced_at path to x (fits_argument path to g x f) in
    (h.0, IsOver-replaced_at path sig bound to x (fits_argument path to g x f) o h.1, h.2 ∙ sym (λ i. fun_ty (q i) (range_ty (tm_type g))))
IsOver-replaced_at (suc (suc n) ∷ path) sig bound to (tm_comb g x) f o h = no_place f.is
  where
    no_place : None ≡ Some f.there → IsOver sig bound (replaced_at (suc (suc n) ∷ path) to (tm_comb g x))
    no_place e = cc
IsOver-replaced_at (zero ∷ path) sig bound to (tm_abs t b) f o h = (h.0, IsOver-replaced_at path sig (t ∷ bound) to b (fits_body path to t b f) o h.1)
IsOver-replaced_at (suc n ∷ path) sig bound to (tm_abs t b) f o h = no_place f.is
  where
    no_place : None ≡ Some f.there → IsOver sig bound (replaced_at (suc n ∷ path) to (tm_abs t b))
    no_place e = cc
