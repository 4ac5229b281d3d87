-- What is among the hypotheses that are joined, or where one is left out.
use Rattle.std.proofs.Common.{◌≡◌, ◌≢◌, ◌⊎◌, ◌↔◌, inl, inr, ⊎_elim, zero, suc, Bool, true, false, List, [], ◌∷◌, All, Contains, refl, sym, ◌∙◌, arith, subst}
use Rattle.std.proofs.lemmas.List.Elements.{All-contains, All-contains_itself, All-cons, All-nil}
use Rattle.std.specs.declared.cmp.Ordering.{Ordering}
use Rattle.std.specs.declared.cmp.Ordering.TheVariants.{Less, Equal, Greater}
use Rattle.hol_terms.specs.Tm.{Tm}
use Rattle.hol_terms.specs.Binding.{tm_cmp}
use Rattle.hol_terms.specs.Sequent.{insert_at, insert_hyp, union}
use Rattle.hol_terms.specs.Rules.{same, keep_if, without}
use Rattle.hol_terms.proofs.TotalOrder.{tm_cmp-same, tm_cmp_total}
use Rattle.std.specs.Cmp.{tied_itself}
use Rattle.hol_kernel.specs.Ascending.{Ascends}
use Rattle.hol_terms.proofs.Same.{same-is, same_refl}
use Rattle.hol_kernel.proofs.Hyps.{All-union, All-without}

here : (t : Tm) (hs : List Tm) → Contains (t ∷ hs) t
here t hs = (0, omega arith, refl)

later : (h : Tm) (hs : List Tm) (t : Tm) → Contains hs t → Contains (h ∷ hs) t
later h hs t c = let l = c.1 in (suc c.0, omega arith, c.2)

one_of : (h : Tm) (hs : List Tm) (t : Tm) → Contains (h ∷ hs) t → (h ≡ t) ⊎ Contains hs t
one_of h hs t (zero, l, e) = inl e
one_of h hs t (suc k, l, e) = inr (k, omega arith, e)

insert_keeps : (t : Tm) (hs : List Tm) (u : Tm) → Contains hs u → Contains (insert_hyp t hs) u
insert_keeps t [] u c = later t [] u c
insert_keeps t (h ∷ hs) u c = at (insert_keeps t hs u) (tm_cmp t h) (one_of h hs u c)
  where
    at : (Contains hs u → Contains (insert_hyp t hs) u) → (o : Ordering) → (h ≡ u) ⊎ Contains hs u → Contains (insert_at o t h hs (insert_hyp t hs)) u
    at f Less m = later t (h ∷ hs) u c
    at f Equal m = c
    at f Greater (inl e) = subst (Contains (h ∷ insert_hyp t hs)) e (here h (insert_hyp t hs))
    at f Greater (inr m) = later h (insert_hyp t hs) u (f m)

insert_adds : (t : Tm) (hs : List Tm) → Contains (insert_hyp t hs) t
insert_adds t [] = here t []
insert_adds t (h ∷ hs) = at (insert_adds t hs) (tm_cmp t h) refl
  where
    at : Contains (insert_hyp t hs) t → (o : Ordering) → tm_cmp t h ≡ o → Contains (insert_at o t h hs (insert_hyp t hs)) t
    at r Less e = here t (h ∷ hs)
    at r Equal e = subst (Contains (h ∷ hs)) (sym (tm_cmp-same t h e)) (here h hs)
    at r Greater e = later h (insert_hyp t hs) t r

union_right : (ts hs : List Tm) (u : Tm) → Contains hs u → Contains (union ts hs) u
union_right [] hs u c = c
union_right (t ∷ ts) hs u c = union_right ts (insert_hyp t hs) u (insert_keeps t hs u c)

union_left : (ts hs : List Tm) (u : Tm) → Contains ts u → Contains (union ts hs) u
union_left [] hs u c = let l = c.1 in absurd (omega arith)
union_left (t ∷ ts) hs u c = at (union_left ts (insert_hyp t hs) u) (one_of t ts u c)
  where
    at : (Contains ts u → Contains (union ts (insert_hyp t hs)) u) → (t ≡ u) ⊎ Contains ts u → Contains (union ts (insert_hyp t hs)) u
    at f (inl e) = union_right ts (insert_hyp t hs) u (subst (Contains (insert_hyp t hs)) e (insert_adds t hs))
    at f (inr m) = f m

pub union_has : (a b : List Tm) (t : Tm) → Contains (union a b) t ↔ (Contains a t ⊎ Contains b t)
union_has a b t = (
  All-contains (λ u. Contains a u ⊎ Contains b u) (union a b) t
      (All-union (λ u. Contains a u ⊎ Contains b u) a b (λ k d l. inl (All-contains_itself a k d l)) (λ k d l. inr (All-contains_itself b k d l))),
  λ m. ⊎_elim (union_left a b t) (union_right a b t) m,
)

without_lacks : (t : Tm) (hs : List Tm) → All (λ u. u ≢ t) (without t hs)
without_lacks t [] = All-nil (λ u. u ≢ t)
without_lacks t (h ∷ hs) = at (without_lacks t hs) (same t h) refl
  where
    differs : same t h ≡ false → h ≢ t
    differs e f = let s = same_refl t in let g : same t t ≡ false = subst (λ u. same t u ≡ false) f e in cc

    at : All (λ u. u ≢ t) (without t hs) → (b : Bool) → same t h ≡ b → All (λ u. u ≢ t) (keep_if b h (without t hs))
    at r true e = r
    at r false e = All-cons (λ u. u ≢ t) h (without t hs) (differs e) r

without_keeps : (t : Tm) (hs : List Tm) (u : Tm) → u ≢ t → Contains hs u → Contains (without t hs) u
without_keeps t [] u n c = c
without_keeps t (h ∷ hs) u n c = at (without_keeps t hs u n) (same t h) refl (one_of h hs u c)
  where
    at : (Contains hs u → Contains (without t hs) u) → (b : Bool) → same t h ≡ b → (h ≡ u) ⊎ Contains hs u → Contains (keep_if b h (without t hs)) u
    at f true e (inl m) = absurd (n (sym m ∙ sym (same-is t h e)))
    at f true e (inr m) = f m
    at f false e (inl m) = subst (Contains (h ∷ without t hs)) m (here h (without t hs))
    at f false e (inr m) = later h (without t hs) u (f m)

pub without_has : (t : Tm) (hs : List Tm) (u : Tm) → Contains (without t hs) u ↔ (Contains hs u × (u ≢ t))
without_has t hs u = (
  λ c. (All-contains (Contains hs) (without t hs) u (All-without (Contains hs) t hs (All-contains_itself hs)) c, All-contains (λ v. v ≢ t) (without t hs) u (without_lacks t hs) c),
  λ m. without_keeps t hs u m.1 m.0,
)

-- the first of an ascending list is less than all the others
first_least : (t : Tm) (ts : List Tm) (u : Tm) → Ascends (t ∷ ts) → Contains ts u → tm_cmp t u ≡ Less
first_least t [] u a c = let l = c.1 in absurd (omega arith)
first_least t (h ∷ hs) u a c = at (first_least h hs u a.1) (one_of h hs u c)
  where
    at : (Contains hs u → tm_cmp h u ≡ Less) → (h ≡ u) ⊎ Contains hs u → tm_cmp t u ≡ Less
    at f (inl e) = subst (λ v. tm_cmp t v ≡ Less) e a.0
    at f (inr m) = tm_cmp_total.trans t h u a.0 (f m)

not_less : (t : Tm) → tm_cmp t t ≢ Less
not_less t e = let s = tied_itself tm_cmp_total t in cc

same_first : (x y : Tm) → (x ≡ y) ⊎ (tm_cmp x y ≡ Less) → (y ≡ x) ⊎ (tm_cmp y x ≡ Less) → x ≡ y
same_first x y (inl e) m = e
same_first x y (inr l) (inl e) = sym e
same_first x y (inr l) (inr g) = absurd (not_less x (tm_cmp_total.trans x y x l g))

-- a member is the first, or comes after it
from_first : (x : Tm) (xs : List Tm) (t : Tm) → Ascends (x ∷ xs) → Contains (x ∷ xs) t → (x ≡ t) ⊎ (tm_cmp x t ≡ Less)
from_first x xs t a c = ⊎_elim inl (λ m. inr (first_least x xs t a m)) (one_of x xs t c)

rest_within : (x : Tm) (xs ys : List Tm) (t : Tm) → Ascends (x ∷ xs) → (Contains (x ∷ xs) t → Contains (x ∷ ys) t) → Contains xs t → Contains ys t
rest_within x xs ys t a f c = at (one_of x ys t (f (later x xs t c)))
  where
    at : (x ≡ t) ⊎ Contains ys t → Contains ys t
    at (inl e) = absurd (not_less t (subst (λ u. tm_cmp u t ≡ Less) e (first_least x xs t a c)))
    at (inr m) = m

-- ascending lists of the same terms are the same
pub same_list : (xs ys : List Tm) → Ascends xs → Ascends ys → ((t : Tm) → Contains xs t ↔ Contains ys t) → xs ≡ ys
same_list [] [] a b h = refl
same_list [] (y ∷ ys) a b h = let l = ((h y).1 (here y ys)).1 in absurd (omega arith)
same_list (x ∷ xs) [] a b h = let l = ((h x).0 (here x xs)).1 in absurd (omega arith)
same_list (x ∷ xs) (y ∷ ys) a b h =
    let e = same_first x y (from_first x xs y a ((h y).1 (here y ys))) (from_first y ys x b ((h x).0 (here x xs))) in
    let c : Ascends (x ∷ ys) = subst (λ u. Ascends (u ∷ ys)) (sym e) b in
    let g : (t : Tm) → Contains (x ∷ xs) t ↔ Contains (x ∷ ys) t = λ t. subst (λ u. Contains (x ∷ xs) t ↔ Contains (u ∷ ys) t) (sym e) (h t) in
    let r = same_list xs ys a.1 b.1 (λ t. (rest_within x xs ys t a (g t).0, rest_within x ys xs t c (g t).1)) in
    λ i. e i ∷ r i
