-- Lists by place: one entry more, and lists without the same entry twice.
use Rattle.std.proofs.Common.{◌≡◌, ◌⊎◌, inl, inr, ℕ, zero, suc, ◌<◌, ◌≤◌, Bool, true, false, ◌||◌, if◌then◌else◌, List, [], ◌∷◌, ◌++◌, length, map, get_or, slice_get, Option, Some, None, position, refl, ap, sym, subst, ◌∙◌, arith, true≢false, length-append}
use Rattle.std.proofs.lemmas.List.{map-id}
use Rattle.std.specs.List.{list_any}
use Rattle.std.specs.Option.{option_map}
use Rattle.std.proofs.lemmas.Bool.{cases_lt}
use Rattle.std.proofs.lemmas.Option.{slice_get_within, slice_get-get_or, slice_get-map}
use Rattle.std.proofs.lemmas.List.Quantifiers.{position-Some}
use Rattle.std.proofs.Math.ListN.{get_or-append}
use Rattle.std.proofs.Math.Seq.{get_or-append_seam}
use Rattle.indexmap.specs.IndexSet.{insert_key}
use Rattle.flat_terms.specs.Trees.{Distinct, Fresh, Interned}

-- ys goes on from xs
pub record Extends {A : Type 0} (d : A) (xs ys : List A) : Type 0 where
  pub longer : length xs ≤ length ys
  pub same : (i : ℕ) → i < length xs → get_or ys i d ≡ get_or xs i d

pub extends_itself : {A : Type 0} (d : A) (xs : List A) → Extends d xs xs
extends_itself d xs = record { longer = omega arith; same = λ i h. refl }

pub extends_push : {A : Type 0} (d : A) (xs : List A) (x : A) → Extends d xs (xs ++ x ∷ [])
extends_push d xs x = record { longer = omega (arith, length-append xs (x ∷ [])); same = λ i h. get_or-append xs (x ∷ []) d i h }

pub extends_further : {A : Type 0} (d : A) (xs ys zs : List A) → Extends d xs ys → Extends d ys zs → Extends d xs zs
extends_further d xs ys zs e f = record { longer = omega (arith, e.longer, f.longer); same = λ i h. (let within : i < length ys = omega (arith, e.longer, h) in f.same i within ∙ e.same i h) }

pub extends_interned : {A : Type 0} (d : A) (old new : List A) (i : ℕ) (x : A) → Interned old new i x → Extends d old new
extends_interned {A} d old new i x n = by n.how
  where
    by : (new ≡ old) ⊎ ((new ≡ old ++ x ∷ []) × Fresh old x) → Extends d old new
    by (inl e) = subst (λ (l : List A). Extends d old l) (sym e) (extends_itself d old)
    by (inr e) = subst (λ (l : List A). Extends d old l) (sym e.0) (extends_push d old x)

-- a fresh entry more leaves the entries distinct
pub distinct_push : {A : Type 0} (d : A) (xs : List A) (x : A) → Distinct d xs → Fresh xs x → Distinct d (xs ++ x ∷ [])
distinct_push {A} d xs x distinct fresh i j hi hj e = by (cases_lt i (length xs)) (cases_lt j (length xs))
  where
    last : (k : ℕ) → k < length (xs ++ x ∷ []) → length xs ≤ k → k ≡ length xs
    last k h l = omega (arith, length-append xs (x ∷ []))

    there : (k : ℕ) → k < length xs → get_or (xs ++ x ∷ []) k d ≡ get_or xs k d
    there k h = get_or-append xs (x ∷ []) d k h

    behind : (k : ℕ) → k ≡ length xs → get_or (xs ++ x ∷ []) k d ≡ x
    behind k h = ap (λ n. get_or (xs ++ x ∷ []) n d) h ∙ get_or-append_seam xs x [] d

    not_there : (k : ℕ) → k < length xs → get_or xs k d ≡ x → ⊥
    not_there k h q = fresh k (slice_get-get_or xs k d h ∙ ap Some q)

    by : (i < length xs) ⊎ (length xs ≤ i) → (j < length xs) ⊎ (length xs ≤ j) → i ≡ j
    by (inl a) (inl b) = distinct i j a b (sym (there i a) ∙ e ∙ there j b)
    by (inl a) (inr b) = absurd (not_there i a (sym (there i a) ∙ e ∙ behind j (last j hj b)))
    by (inr a) (inl b) = absurd (not_there j b (sym (there j b) ∙ sym e ∙ behind i (last i hi a)))
    by (inr a) (inr b) = last i hi a ∙ sym (last j hj b)

pub distinct_interned : {A : Type 0} (d : A) (old new : List A) (i : ℕ) (x : A) → Distinct d old → Interned old new i x → Distinct d new
distinct_interned {A} d old new i x distinct n = by n.how
  where
    by : (new ≡ old) ⊎ ((new ≡ old ++ x ∷ []) × Fresh old x) → Distinct d new
    by (inl e) = subst (λ (l : List A). Distinct d l) (sym e) distinct
    by (inr e) = subst (λ (l : List A). Distinct d l) (sym e.0) (distinct_push d old x distinct e.1)

-- what a set of keys does, seen through a view that its equality decides
module _ {K A : Type 0} (eq : K → K → Bool) (view : K → A) (same : (x y : K) → eq x y ≡ true → view x ≡ view y) (back : (x y : K) → view x ≡ view y → eq x y ≡ true) where
  absent : (ks : List K) (k : K) → list_any (eq k) ks ≡ false → Fresh (map view ks) (view k)
  absent [] k h i e = let within : i < 0 = slice_get_within [] i (view k) e in absurd (omega arith)
  absent (x ∷ ks) k h zero e = absurd (true≢false (sym (ap (λ b. b || list_any (eq k) ks) (back k x (first e))) ∙ h))
    where
      first : Some (view x) ≡ Some (view k) → view k ≡ view x
      first e = cc
  absent (x ∷ ks) k h (suc i) e = absent ks k (rest (eq k x) h) i e
    where
      rest : (b : Bool) → (b || list_any (eq k) ks) ≡ false → list_any (eq k) ks ≡ false
      rest true h = absurd (true≢false h)
      rest false h = h

  pub interned : (old new : List K) (i : ℕ) (k : K) → new ≡ insert_key eq old k → (x : K) × (slice_get new i ≡ Some x) × (eq k x ≡ true) → Interned (map view old) (map view new) i (view k)
  interned old new i k e s = record { at = slice_get-map view new i ∙ ap (λ o. found o) s.1 ∙ ap Some (sym (same k s.0 s.2)); how = by (list_any (eq k) old) refl }
    where
      found : Option K → Option A
      found None = None
      found (Some x) = Some (view x)

      map_push : (ks : List K) → map view (ks ++ k ∷ []) ≡ map view ks ++ view k ∷ []
      map_push [] = refl
      map_push (x ∷ ks) = ap (λ l. view x ∷ l) (map_push ks)

      by : (b : Bool) → list_any (eq k) old ≡ b → (map view new ≡ map view old) ⊎ ((map view new ≡ map view old ++ view k ∷ []) × Fresh (map view old) (view k))
      by true h = inl (ap (map view) (e ∙ ap (λ c. if c then old else old ++ k ∷ []) h))
      by false h = inr (ap (map view) (e ∙ ap (λ c. if c then old else old ++ k ∷ []) h) ∙ map_push old, absent old k h)

-- a place that was found by a test
pub found_at : {K A : Type 0} (view : K → A) (test : K → Bool) (x : A) → ((k : K) → test k ≡ true → view k ≡ x) → (ks : List K) (i : ℕ) → position test ks ≡ Some i → Interned (map view ks) (map view ks) i x
found_at view test x tells [] i e = cc
found_at view test x tells (k ∷ ks) i e =
    let p = position-Some test (k ∷ ks) i k e in
    record { at = slice_get-map view (k ∷ ks) i ∙ ap (option_map view) (slice_get-get_or (k ∷ ks) i k p.0) ∙ ap Some (tells (get_or (k ∷ ks) i k) p.1); how = inl refl }

-- keys seen as they are
pub interned_keys : {K : Type 0} (eq : K → K → Bool) → ((x y : K) → eq x y ≡ true → x ≡ y) → ((x y : K) → x ≡ y → eq x y ≡ true) → (old new : List K) (i : ℕ) (k : K)
    → new ≡ insert_key eq old k → (x : K) × (slice_get new i ≡ Some x) × (eq k x ≡ true) → Interned old new i k
interned_keys {K} eq same back old new i k e s =
    let view : K → K = λ x. x in
    let seen = interned eq view same back old new i k e s in
    subst (λ (l : List K). Interned l new i k) (map-id old) (subst (λ (l : List K). Interned (map view old) l i k) (map-id new) seen)
