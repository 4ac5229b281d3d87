-- The rules' conditions on lists, a member at a time.
use Rattle.std.proofs.Common.{◌≡◌, ◌≢◌, ◌↔◌, suc, Bool, true, false, ◌||◌, List, [], ◌∷◌, All, AllPairs, Decides, refl, arith, bytes_eq, subst}
use Rattle.std.specs.List.{list_any}
use Rattle.std.proofs.lemmas.List.Elements.{All-nil, All-cons, All-head, All-tail}
use Rattle.std.proofs.lemmas.List.Kept.{AllPairs-cons}
use Rattle.std.proofs.lemmas.Slice.Eq.{bytes_eq-Decides}
use Rattle.hol_terms.specs.Tm.{Tm, FreeVar}
use Rattle.hol_terms.specs.Subst.{TySubst}
use Rattle.hol_terms.specs.Binding.{VarSubst, has_free, var_eq}
use Rattle.hol_terms.specs.Rules.{no, free_in_none, are_distinct_types, are_distinct_vars}
use Rattle.hol_terms.proofs.Opened.{var_self}
use Rattle.hol_terms.proofs.Order.{var_eq-same}
use Rattle.hol_kernel.proofs.Guards.{both_parts, no_is}

pub free_in_none-each : (v : FreeVar) (hs : List Tm) → (free_in_none v hs ≡ true) ↔ All (λ h. has_free v h ≡ false) hs
free_in_none-each v [] = (λ e. All-nil (λ h. has_free v h ≡ false), λ a. refl)
free_in_none-each v (h ∷ hs) =
    let rest = free_in_none-each v hs in (
      λ e. let p = both_parts _ _ e in All-cons (λ u. has_free v u ≡ false) h hs (no_is (has_free v h) p.0) (rest.0 p.1),
      λ a. rw (All-head (λ u. has_free v u ≡ false) h hs a, rest.1 (All-tail (λ u. has_free v u ≡ false) h hs a)) refl,
    )

-- the key differs from those of all others
each_differs : {X K : Type 0} (key : X → K) (eq : K → K → Bool) → ((a b : K) → Decides (eq a b) (a ≡ b)) → (x : X) (xs : List X)
    → (no (list_any (λ y. eq (key x) (key y)) xs) ≡ true) ↔ All (λ y. key x ≢ key y) xs
each_differs key eq d x [] = (λ e. All-nil (λ y. key x ≢ key y), λ a. refl)
each_differs key eq d x (y ∷ ys) = at (each_differs key eq d x ys) (eq (key x) (key y)) refl
  where
    at : ((no (list_any (λ z. eq (key x) (key z)) ys) ≡ true) ↔ All (λ z. key x ≢ key z) ys) → (b : Bool) → eq (key x) (key y) ≡ b
        → (no (b || list_any (λ z. eq (key x) (key z)) ys) ≡ true) ↔ All (λ z. key x ≢ key z) (y ∷ ys)
    at rest true e = (λ f. cc, λ a. absurd (All-head (λ z. key x ≢ key z) y ys a ((d (key x) (key y)).0 e)))
    at rest false e = (
      λ f. All-cons (λ z. key x ≢ key z) y ys (λ m. let g = (d (key x) (key y)).1 m in cc) (rest.0 f),
      λ a. rest.1 (All-tail (λ z. key x ≢ key z) y ys a),
    )

AllPairs-head : {X : Type 0} (R : X → X → Type 0) (x : X) (xs : List X) → AllPairs R (x ∷ xs) → All (R x) xs
AllPairs-head R x xs h = λ k d l. h 0 (suc k) d (omega arith) (omega arith)

AllPairs-tail : {X : Type 0} (R : X → X → Type 0) (x : X) (xs : List X) → AllPairs R (x ∷ xs) → AllPairs R xs
AllPairs-tail R x xs h = λ i j d l m. h (suc i) (suc j) d (omega arith) (omega arith)

AllPairs-nil : {X : Type 0} (R : X → X → Type 0) → AllPairs R []
AllPairs-nil R = λ i j d l m. absurd (omega arith)

pub are_distinct_types-each : (s : TySubst) → (are_distinct_types s ≡ true) ↔ AllPairs (λ p q. p.0 ≢ q.0) s
are_distinct_types-each [] = (λ e. AllPairs-nil (λ p q. p.0 ≢ q.0), λ a. refl)
are_distinct_types-each (p ∷ s) =
    let first = each_differs (λ q. q.0) bytes_eq bytes_eq-Decides p s in
    let rest = are_distinct_types-each s in (
      λ e. let b = both_parts _ _ e in AllPairs-cons (λ q r. q.0 ≢ r.0) p s (first.0 b.0) (rest.0 b.1),
      λ a. rw (first.1 (AllPairs-head (λ q r. q.0 ≢ r.0) p s a), rest.1 (AllPairs-tail (λ q r. q.0 ≢ r.0) p s a)) refl,
    )

var_eq-decides : (v w : FreeVar) → Decides (var_eq v w) (v ≡ w)
var_eq-decides v w = (var_eq-same v w, λ e. subst (λ u. var_eq v u ≡ true) e (var_self v))

pub are_distinct_vars-each : (s : VarSubst) → (are_distinct_vars s ≡ true) ↔ AllPairs (λ p q. p.0 ≢ q.0) s
are_distinct_vars-each [] = (λ e. AllPairs-nil (λ p q. p.0 ≢ q.0), λ a. refl)
are_distinct_vars-each (p ∷ s) =
    let first = each_differs (λ q. q.0) var_eq var_eq-decides p s in
    let rest = are_distinct_vars-each s in (
      λ e. let b = both_parts _ _ e in AllPairs-cons (λ q r. q.0 ≢ r.0) p s (first.0 b.0) (rest.0 b.1),
      λ a. rw (first.1 (AllPairs-head (λ q r. q.0 ≢ r.0) p s a), rest.1 (AllPairs-tail (λ q r. q.0 ≢ r.0) p s a)) refl,
    )
