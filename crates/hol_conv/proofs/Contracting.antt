-- Contraction goes below a binder through a fresh variable.
use Rattle.std.proofs.Common.{◌≡◌, ℕ, ◌+◌, ◌-◌, ◌≤◌, arith, Bool, true, false, cond, ◌||◌, nat_eq, nat_lt, suc, Option, Some, None, [], ◌∷◌, refl, ap, sym, ◌∙◌, subst}
use Rattle.std.proofs.lemmas.Bool.Decides.{nat_tests}
use Rattle.hol_terms.specs.Ty.{Ty}
use Rattle.hol_terms.specs.Tm.{Tm, tm_index, tm_free, tm_const, tm_comb, tm_abs, FreeVar, tm_size}
use Rattle.hol_terms.specs.Binding.{tm_bind, tm_open, tm_inst, has_free}
use Rattle.hol_terms.specs.Loose.{HasAt, IsClosedAt}
use Rattle.hol_terms.specs.Rules.{lambda}
use Rattle.hol_terms.proofs.Opened.{tm_put, bind_open}
use Rattle.hol_conv.specs.Reduction.{shift, put, in_either, in_body, contracted}

neither : (a b : Bool) → a ≡ false → b ≡ false → (a || b) ≡ false
neither a b p q = λ i. p i || q i

pub none_left : (a b : Bool) → (a || b) ≡ false → a ≡ false
none_left true b e = cc
none_left false b e = refl

pub none_right : (a b : Bool) → (a || b) ≡ false → b ≡ false
none_right true b e = cc
none_right false b e = e

abbrev value_or : Tm → Option Tm → Tm
value_or t None = t
value_or t (Some u) = u

some_same : {s t : Tm} → Some s ≡ Some t → s ≡ t
some_same {s} {t} e = ap (value_or s) e

-- opening above a shift
pub open_shift : (n c k : ℕ) (v : FreeVar) (u : Tm) → c ≤ k → tm_open (k + n) v (shift n c u) ≡ shift n c (tm_open k v u)
open_shift n c k v (tm_index i t) h = at (nat_lt i c) (nat_eq i k) (nat_eq i (k + n)) (nat_eq (i + n) (k + n)) refl refl refl refl
  where
    at : (b d e f : Bool) → nat_lt i c ≡ b → nat_eq i k ≡ d → nat_eq i (k + n) ≡ e → nat_eq (i + n) (k + n) ≡ f
        → tm_open (k + n) v (cond b (tm_index i t) (tm_index (i + n) t)) ≡ shift n c (cond d (tm_free v) (tm_index i t))
    at true true e f p q r s = absurd (grind (arith, nat_tests))
    at true false true f p q r s = absurd (grind (arith, nat_tests))
    at true false false f p q r s = rw (r, p) refl
    at false true e true p q r s = rw (s) refl
    at false true e false p q r s = absurd (grind (arith, nat_tests))
    at false false e true p q r s = absurd (grind (arith, nat_tests))
    at false false e false p q r s = rw (s, p) refl
open_shift n c k v (tm_free w) h = refl
open_shift n c k v (tm_const d ts t) h = refl
open_shift n c k v (tm_comb f x) h = λ i. tm_comb (open_shift n c k v f h i) (open_shift n c k v x h i)
open_shift n c k v (tm_abs t b) h = ap (λ d. tm_abs t d) (rw (order k n) (open_shift n (c + 1) (k + 1) v b (omega arith)))
  where
    order : (k n : ℕ) → k + n + 1 ≡ k + 1 + n
    order k n = omega arith

-- opening above a put
pub open_put : (j m : ℕ) (v : FreeVar) (u b : Tm) → tm_open (m + j) v (put j u b) ≡ put j (tm_open m v u) (tm_open (m + j + 1) v b)
open_put j m v u (tm_index i t) = at (nat_eq i j) (nat_lt i j) (nat_eq i (m + j)) (nat_eq (i - 1) (m + j)) (nat_eq i (m + j + 1)) refl refl refl refl refl
  where
    at : (b d e f g : Bool) → nat_eq i j ≡ b → nat_lt i j ≡ d → nat_eq i (m + j) ≡ e → nat_eq (i - 1) (m + j) ≡ f → nat_eq i (m + j + 1) ≡ g
        → tm_open (m + j) v (cond b (shift j 0 u) (cond d (tm_index i t) (tm_index (i - 1) t))) ≡ put j (tm_open m v u) (cond g (tm_free v) (tm_index i t))
    at true d e f true p q r s w = absurd (grind (arith, nat_tests))
    at true d e f false p q r s w = open_shift j 0 m v u (omega arith) ∙ sym (rw (p) refl)
    at false true true f g p q r s w = absurd (grind (arith, nat_tests))
    at false true false f true p q r s w = absurd (grind (arith, nat_tests))
    at false true false f false p q r s w = rw (r, p, q) refl
    at false false e true true p q r s w = rw (s) refl
    at false false e true false p q r s w = absurd (grind (arith, nat_tests))
    at false false e false true p q r s w = absurd (grind (arith, nat_tests))
    at false false e false false p q r s w = rw (s, p, q) refl
open_put j m v u (tm_free w) = refl
open_put j m v u (tm_const d ts t) = refl
open_put j m v u (tm_comb f x) = λ i. tm_comb (open_put j m v u f i) (open_put j m v u x i)
open_put j m v u (tm_abs t b) = ap (λ d. tm_abs t d) (rw (order m j) (open_put (j + 1) m v u b))
  where
    order : (m j : ℕ) → m + j + 1 ≡ m + (j + 1)
    order m j = omega arith

-- the indices of one binder keep their type
HasAt-shift : (n c k : ℕ) (a : Ty) (u : Tm) → c ≤ k → HasAt k a u → HasAt (k + n) a (shift n c u)
HasAt-shift n c k a (tm_index i t) l h = at (nat_lt i c) refl
  where
    at : (b : Bool) → nat_lt i c ≡ b → HasAt (k + n) a (cond b (tm_index i t) (tm_index (i + n) t))
    at true p = λ e. absurd (grind (arith, nat_tests))
    at false p = λ e. h (omega arith)
HasAt-shift n c k a (tm_free w) l h = tt
HasAt-shift n c k a (tm_const d ts t) l h = tt
HasAt-shift n c k a (tm_comb f x) l h = (HasAt-shift n c k a f l h.0, HasAt-shift n c k a x l h.1)
HasAt-shift n c k a (tm_abs t b) l h = subst (λ j. HasAt j a (shift n (c + 1) b)) (sym (order k n)) (HasAt-shift n (c + 1) (k + 1) a b (omega arith) h)
  where
    order : (k n : ℕ) → k + n + 1 ≡ k + 1 + n
    order k n = omega arith

HasAt-put : (j m : ℕ) (a : Ty) (u b : Tm) → HasAt m a u → HasAt (m + j + 1) a b → HasAt (m + j) a (put j u b)
HasAt-put j m a u (tm_index i t) g h = at (nat_eq i j) (nat_lt i j) refl refl
  where
    at : (b d : Bool) → nat_eq i j ≡ b → nat_lt i j ≡ d → HasAt (m + j) a (cond b (shift j 0 u) (cond d (tm_index i t) (tm_index (i - 1) t)))
    at true d p q = HasAt-shift j 0 m a u (omega arith) g
    at false true p q = λ e. absurd (grind (arith, nat_tests))
    at false false p q = λ e. h (grind (arith, nat_tests))
HasAt-put j m a u (tm_free w) g h = tt
HasAt-put j m a u (tm_const d ts t) g h = tt
HasAt-put j m a u (tm_comb f x) g h = (HasAt-put j m a u f g h.0, HasAt-put j m a u x g h.1)
HasAt-put j m a u (tm_abs t b) g h = subst (λ i. HasAt i a (put (j + 1) u b)) (sym (order m j)) (HasAt-put (j + 1) m a u b g (subst (λ i. HasAt (i + 1) a b) (order m j) h))
  where
    order : (m j : ℕ) → m + j + 1 ≡ m + (j + 1)
    order m j = omega arith

-- no free variable comes in
free_shift : (n c : ℕ) (v : FreeVar) (u : Tm) → has_free v (shift n c u) ≡ has_free v u
free_shift n c v (tm_index i t) = at (nat_lt i c)
  where
    at : (b : Bool) → has_free v (cond b (tm_index i t) (tm_index (i + n) t)) ≡ false
    at true = refl
    at false = refl
free_shift n c v (tm_free w) = refl
free_shift n c v (tm_const d ts t) = refl
free_shift n c v (tm_comb f x) = λ i. free_shift n c v f i || free_shift n c v x i
free_shift n c v (tm_abs t b) = free_shift n (c + 1) v b

free_put : (k : ℕ) (v : FreeVar) (u b : Tm) → has_free v u ≡ false → has_free v b ≡ false → has_free v (put k u b) ≡ false
free_put k v u (tm_index i t) g h = at (nat_eq i k) (nat_lt i k)
  where
    at : (b d : Bool) → has_free v (cond b (shift k 0 u) (cond d (tm_index i t) (tm_index (i - 1) t))) ≡ false
    at true d = free_shift k 0 v u ∙ g
    at false true = refl
    at false false = refl
free_put k v u (tm_free w) g h = h
free_put k v u (tm_const d ts t) g h = refl
free_put k v u (tm_comb f x) g h = neither _ _ (free_put k v u f g (none_left _ _ h)) (free_put k v u x g (none_right (has_free v f) _ h))
free_put k v u (tm_abs t b) g h = free_put (k + 1) v u b g h

-- what contraction gives, opened; has no such variable; and has such indices
abbrev opened : ℕ → FreeVar → Option Tm → Option Tm
opened k v None = None
opened k v (Some t) = Some (tm_open k v t)

abbrev Absent : FreeVar → Option Tm → Type 0
Absent v None = Unit {0}
Absent v (Some t) = has_free v t ≡ false

abbrev HaveAt : ℕ → Ty → Option Tm → Type 0
HaveAt k a None = Unit {0}
HaveAt k a (Some t) = HasAt k a t

either_open : (k : ℕ) (v : FreeVar) (f g x y : Tm) (r s : Option Tm) → g ≡ tm_open k v f → y ≡ tm_open k v x → in_either g y (opened k v r) (opened k v s) ≡ opened k v (in_either f x r s)
either_open k v f g x y (Some h) s e d = ap (λ z. Some (tm_comb (tm_open k v h) z)) d
either_open k v f g x y None (Some z) e d = ap (λ h. Some (tm_comb h (tm_open k v z))) e
either_open k v f g x y None None e d = refl

body_open : (k : ℕ) (v : FreeVar) (t : Ty) (r : Option Tm) → in_body t (opened (k + 1) v r) ≡ opened k v (in_body t r)
body_open k v t None = refl
body_open k v t (Some b) = refl

pub contracted_open : (k : ℕ) (v : FreeVar) (t : Tm) → contracted (tm_open k v t) ≡ opened k v (contracted t)
contracted_open k v (tm_index i t) = at (nat_eq i k)
  where
    at : (b : Bool) → contracted (cond b (tm_free v) (tm_index i t)) ≡ None
    at true = refl
    at false = refl
contracted_open k v (tm_free w) = refl
contracted_open k v (tm_const c ts t) = refl
contracted_open k v (tm_comb (tm_abs t b) x) = ap Some (sym (subst (λ j. tm_open j v (put 0 x b) ≡ put 0 (tm_open k v x) (tm_open (j + 1) v b)) (sym (nothing_more k)) (open_put 0 k v x b)))
  where
    nothing_more : (k : ℕ) → k ≡ k + 0
    nothing_more k = omega arith
contracted_open k v (tm_comb (tm_index i t) x) = at (nat_eq i k) ∙ ap (in_either (tm_open k v (tm_index i t)) (tm_open k v x) None) (contracted_open k v x) ∙ either_open k v (tm_index i t) _ x _ None (contracted x) refl refl
  where
    at : (b : Bool) → contracted (tm_comb (cond b (tm_free v) (tm_index i t)) (tm_open k v x)) ≡ in_either (cond b (tm_free v) (tm_index i t)) (tm_open k v x) None (contracted (tm_open k v x))
    at true = refl
    at false = refl
contracted_open k v (tm_comb (tm_free w) x) = ap (in_either (tm_free w) (tm_open k v x) None) (contracted_open k v x) ∙ either_open k v (tm_free w) _ x _ None (contracted x) refl refl
contracted_open k v (tm_comb (tm_const c ts t) x) = ap (in_either (tm_const c ts t) (tm_open k v x) None) (contracted_open k v x) ∙ either_open k v (tm_const c ts t) _ x _ None (contracted x) refl refl
contracted_open k v (tm_comb (tm_comb f y) x) =
    (λ i. in_either (tm_open k v (tm_comb f y)) (tm_open k v x) (contracted_open k v (tm_comb f y) i) (contracted_open k v x i)) ∙ either_open k v (tm_comb f y) _ x _ (contracted (tm_comb f y)) (contracted x) refl refl
contracted_open k v (tm_abs t b) = ap (in_body t) (contracted_open (k + 1) v b) ∙ body_open k v t (contracted b)

either_absent : (v : FreeVar) (f x : Tm) (r s : Option Tm) → has_free v f ≡ false → has_free v x ≡ false → Absent v r → Absent v s → Absent v (in_either f x r s)
either_absent v f x (Some g) s p q a b = neither _ _ a q
either_absent v f x None (Some y) p q a b = neither _ _ p b
either_absent v f x None None p q a b = tt

body_absent : (v : FreeVar) (t : Ty) (r : Option Tm) → Absent v r → Absent v (in_body t r)
body_absent v t None a = tt
body_absent v t (Some b) a = a

pub contracted_absent : (v : FreeVar) (t : Tm) → has_free v t ≡ false → Absent v (contracted t)
contracted_absent v (tm_index i t) h = tt
contracted_absent v (tm_free w) h = tt
contracted_absent v (tm_const c ts t) h = tt
contracted_absent v (tm_comb (tm_abs t b) x) h = free_put 0 v x b (none_right (has_free v b) _ h) (none_left _ _ h)
contracted_absent v (tm_comb (tm_index i t) x) h = either_absent v (tm_index i t) x None (contracted x) refl h tt (contracted_absent v x h)
contracted_absent v (tm_comb (tm_free w) x) h = either_absent v (tm_free w) x None (contracted x) (none_left _ _ h) (none_right (has_free v (tm_free w)) _ h) tt (contracted_absent v x (none_right (has_free v (tm_free w)) _ h))
contracted_absent v (tm_comb (tm_const c ts t) x) h = either_absent v (tm_const c ts t) x None (contracted x) refl h tt (contracted_absent v x h)
contracted_absent v (tm_comb (tm_comb f y) x) h =
    let p = none_left (has_free v (tm_comb f y)) _ h in
    let q = none_right (has_free v (tm_comb f y)) _ h in
    either_absent v (tm_comb f y) x (contracted (tm_comb f y)) (contracted x) p q (contracted_absent v (tm_comb f y) p) (contracted_absent v x q)
contracted_absent v (tm_abs t b) h = body_absent v t (contracted b) (contracted_absent v b h)

either_at : (k : ℕ) (a : Ty) (f x : Tm) (r s : Option Tm) → HasAt k a f → HasAt k a x → HaveAt k a r → HaveAt k a s → HaveAt k a (in_either f x r s)
either_at k a f x (Some g) s p q h i = (h, q)
either_at k a f x None (Some y) p q h i = (p, i)
either_at k a f x None None p q h i = tt

body_at : (k : ℕ) (a t : Ty) (r : Option Tm) → HaveAt (k + 1) a r → HaveAt k a (in_body t r)
body_at k a t None h = tt
body_at k a t (Some b) h = h

pub contracted_at : (k : ℕ) (a : Ty) (t : Tm) → HasAt k a t → HaveAt k a (contracted t)
contracted_at k a (tm_index i t) h = tt
contracted_at k a (tm_free w) h = tt
contracted_at k a (tm_const c ts t) h = tt
contracted_at k a (tm_comb (tm_abs t b) x) h = subst (λ j. HasAt j a (put 0 x b)) (sym (nothing_more k)) (HasAt-put 0 k a x b h.1 (subst (λ j. HasAt (j + 1) a b) (nothing_more k) h.0))
  where
    nothing_more : (k : ℕ) → k ≡ k + 0
    nothing_more k = omega arith
contracted_at k a (tm_comb (tm_index i t) x) h = either_at k a (tm_index i t) x None (contracted x) h.0 h.1 tt (contracted_at k a x h.1)
contracted_at k a (tm_comb (tm_free w) x) h = either_at k a (tm_free w) x None (contracted x) h.0 h.1 tt (contracted_at k a x h.1)
contracted_at k a (tm_comb (tm_const c ts t) x) h = either_at k a (tm_const c ts t) x None (contracted x) h.0 h.1 tt (contracted_at k a x h.1)
contracted_at k a (tm_comb (tm_comb f y) x) h = either_at k a (tm_comb f y) x (contracted (tm_comb f y)) (contracted x) h.0 h.1 (contracted_at k a (tm_comb f y) h.0) (contracted_at k a x h.1)
contracted_at k a (tm_abs t b) h = body_at k a t (contracted b) (contracted_at (k + 1) a b h)

-- an opened body that is contracted, bound again
pub below_binder : (v : FreeVar) (b u : Tm) → has_free v b ≡ false → HasAt 0 v.ty b → contracted (tm_open 0 v b) ≡ Some u → contracted (tm_abs v.ty b) ≡ Some (lambda v u)
below_binder v b u h a e = at (contracted b) (contracted_absent v b h) (contracted_at 0 v.ty b a) (sym (contracted_open 0 v b) ∙ e)
  where
    at : (r : Option Tm) → Absent v r → HaveAt 0 v.ty r → opened 0 v r ≡ Some u → in_body v.ty r ≡ Some (lambda v u)
    at None p q d = cc
    at (Some c) p q d = ap (λ z. Some (tm_abs v.ty z)) (sym (bind_open 0 v c p q) ∙ ap (tm_bind 0 v) (some_same d))

pub none_below : (k : ℕ) (v : FreeVar) (t : Ty) (b : Tm) → contracted (tm_open k v b) ≡ None → contracted (tm_abs t b) ≡ None
none_below k v t b e = at (contracted b) (sym (contracted_open k v b) ∙ e)
  where
    at : (r : Option Tm) → opened k v r ≡ None → in_body t r ≡ None
    at None d = refl
    at (Some c) d = cc

-- closed terms are not shifted
pub shift_closed : (n c : ℕ) (u : Tm) → IsClosedAt c u → shift n c u ≡ u
shift_closed n c (tm_index i t) h = at (nat_lt i c) refl
  where
    at : (b : Bool) → nat_lt i c ≡ b → cond b (tm_index i t) (tm_index (i + n) t) ≡ tm_index i t
    at true e = refl
    at false e = absurd (grind (arith, nat_tests))
shift_closed n c (tm_free w) h = refl
shift_closed n c (tm_const d ts t) h = refl
shift_closed n c (tm_comb f x) h = λ i. tm_comb (shift_closed n c f h.0 i) (shift_closed n c x h.1 i)
shift_closed n c (tm_abs t b) h = ap (λ d. tm_abs t d) (shift_closed n (c + 1) b h)

pub put_closed : (k : ℕ) (u b : Tm) → IsClosedAt 0 u → IsClosedAt (k + 1) b → tm_put k u b ≡ put k u b
put_closed k u (tm_index i t) g h = at (nat_eq i k) (nat_lt i k) refl refl
  where
    at : (b d : Bool) → nat_eq i k ≡ b → nat_lt i k ≡ d → cond b u (tm_index i t) ≡ cond b (shift k 0 u) (cond d (tm_index i t) (tm_index (i - 1) t))
    at true d p q = sym (shift_closed k 0 u g)
    at false true p q = refl
    at false false p q = absurd (grind (arith, nat_tests))
put_closed k u (tm_free w) g h = refl
put_closed k u (tm_const d ts t) g h = refl
put_closed k u (tm_comb f x) g h = λ i. tm_comb (put_closed k u f g h.0 i) (put_closed k u x g h.1 i)
put_closed k u (tm_abs t b) g h = ap (λ d. tm_abs t d) (put_closed (k + 1) u b g h)

-- a variable that doesn't occur is not replaced
pub inst_absent : (v : FreeVar) (u t : Tm) → has_free v t ≡ false → tm_inst ((v, u) ∷ []) t ≡ t
inst_absent v u (tm_index i t) h = refl
inst_absent v u (tm_free w) h = ap (λ (c : Bool). cond c u (tm_free w)) h
inst_absent v u (tm_const c ts t) h = refl
inst_absent v u (tm_comb f x) h = λ i. tm_comb (inst_absent v u f (none_left _ _ h) i) (inst_absent v u x (none_right (has_free v f) _ h) i)
inst_absent v u (tm_abs t b) h = ap (λ c. tm_abs t c) (inst_absent v u b h)

pub size_open : (k : ℕ) (v : FreeVar) (t : Tm) → tm_size (tm_open k v t) ≡ tm_size t
size_open k v (tm_index i t) = at (nat_eq i k)
  where
    at : (b : Bool) → tm_size (cond b (tm_free v) (tm_index i t)) ≡ 1
    at true = refl
    at false = refl
size_open k v (tm_free w) = refl
size_open k v (tm_const c ts t) = refl
size_open k v (tm_comb f x) = λ i. suc (size_open k v f i + size_open k v x i)
size_open k v (tm_abs t b) = ap suc (size_open (k + 1) v b)
