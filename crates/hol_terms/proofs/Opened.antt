-- Opening with a fresh variable, then putting a term for it, or binding it again.
use Rattle.std.proofs.Common.{◌≡◌, ℕ, ◌+◌, Bool, true, false, cond, ◌||◌, nat_eq, [], ◌∷◌, refl, ap, sym, ◌∙◌}
use Rattle.std.proofs.lemmas.Bool.Decides.{nat_tests}
use Rattle.std.proofs.Common.{arith}
use Rattle.std.specs.Cmp.{tied_itself}
use Rattle.std.specs.Ordering.{is_eq, ordering_then}
use Rattle.std.specs.Cmp.Lexicographic.{nat_list_cmp_total}
use Rattle.hol_terms.specs.Tm.{Tm, tm_index, tm_free, tm_const, tm_comb, tm_abs, FreeVar}
use Rattle.hol_terms.specs.Binding.{tm_bind, tm_open, tm_inst, has_free, var_eq}
use Rattle.hol_terms.specs.Loose.{HasAt}
use Rattle.hol_terms.proofs.TotalOrder.{ty_cmp_total}

pub var_self : (v : FreeVar) → var_eq v v ≡ true
var_self v =
    λ i. is_eq (ordering_then (tied_itself nat_list_cmp_total v.name i) (tied_itself ty_cmp_total v.ty i))

-- a term for an index
abbrev pub tm_put : ℕ → Tm → Tm → Tm
tm_put k u (tm_index i t) = cond (nat_eq i k) u (tm_index i t)
tm_put k u (tm_free w) = tm_free w
tm_put k u (tm_const c ts t) = tm_const c ts t
tm_put k u (tm_comb f x) = tm_comb (tm_put k u f) (tm_put k u x)
tm_put k u (tm_abs t b) = tm_abs t (tm_put (k + 1) u b)

none_left : (a b : Bool) → (a || b) ≡ false → a ≡ false
none_left true b e = cc
none_left false b e = refl

none_right : (a b : Bool) → (a || b) ≡ false → b ≡ false
none_right true b e = cc
none_right false b e = e

pub inst_open : (k : ℕ) (v : FreeVar) (u b : Tm) → has_free v b ≡ false → tm_inst ((v, u) ∷ []) (tm_open k v b) ≡ tm_put k u b
inst_open k v u (tm_index i t) h = at (nat_eq i k)
  where
    at : (c : Bool) → tm_inst ((v, u) ∷ []) (cond c (tm_free v) (tm_index i t)) ≡ cond c u (tm_index i t)
    at true = ap (λ (c : Bool). cond c u (tm_free v)) (var_self v)
    at false = refl
inst_open k v u (tm_free w) h = ap (λ (c : Bool). cond c u (tm_free w)) h
inst_open k v u (tm_const c ts t) h = refl
inst_open k v u (tm_comb f x) h = λ i. tm_comb (inst_open k v u f (none_left _ _ h) i) (inst_open k v u x (none_right (has_free v f) _ h) i)
inst_open k v u (tm_abs t b) h = ap (λ c. tm_abs t c) (inst_open (k + 1) v u b h)

same_number : (i k : ℕ) → nat_eq i k ≡ true → i ≡ k
same_number i k e = grind (arith, nat_tests)

pub bind_open : (k : ℕ) (v : FreeVar) (b : Tm) → has_free v b ≡ false → HasAt k v.ty b → tm_bind k v (tm_open k v b) ≡ b
bind_open k v (tm_index i t) h a = at (nat_eq i k) refl
  where
    at : (c : Bool) → nat_eq i k ≡ c → tm_bind k v (cond c (tm_free v) (tm_index i t)) ≡ tm_index i t
    at true e = ap (λ (c : Bool). cond c (tm_index k v.ty) (tm_free v)) (var_self v) ∙ (λ j. tm_index (sym (same_number i k e) j) (sym (a (same_number i k e)) j))
    at false e = refl
bind_open k v (tm_free w) h a = ap (λ (c : Bool). cond c (tm_index k w.ty) (tm_free w)) h
bind_open k v (tm_const c ts t) h a = refl
bind_open k v (tm_comb f x) h a = λ i. tm_comb (bind_open k v f (none_left _ _ h) a.0 i) (bind_open k v x (none_right (has_free v f) _ h) a.1 i)
bind_open k v (tm_abs t b) h a = ap (λ c. tm_abs t c) (bind_open (k + 1) v b h a)
