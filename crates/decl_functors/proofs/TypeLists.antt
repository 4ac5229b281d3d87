-- Lists of types and of names, a member at a time.
use Rattle.std.proofs.Common.{◌≡◌, ℕ, suc, ◌+◌, ◌<◌, ◌≤◌, Bool, true, false, ◌&&◌, ◌||◌, List, [], ◌∷◌, length, get_or, drop, refl, arith, add-one, drop-cons, drop_of_length-le, ◌==◌, cond, bytes_eq, if◌then◌else◌, Some, None}
use Rattle.std.specs.Option.{unwrap_or}
use Rattle.hol_terms.specs.Signature.{entry_at}
use Rattle.hol_terms.specs.Name.{Name}
use Rattle.hol_terms.specs.Ty.{Ty, ty_var, ty_app, tys}
use Rattle.hol_terms.specs.Tm.{Tm}
use Rattle.hol_terms.proofs.Lists.{ty_size-at}
use Rattle.decl_core.specs.Functors.{Names, Lives, same_type, has_name, any_has_name, has_names, term_for, lives_of}
use Rattle.decl_core.specs.Liveness.{is_one_of, basic, of_two, is_countable, are_countable}

pub has_name-at : (v : Ty) (ts : List Ty) (i : ℕ) (d : Ty) → i < length ts → any_has_name v (tys (drop i ts)) ≡ (has_name v (get_or ts i d) || any_has_name v (tys (drop (i + 1) ts)))
has_name-at v ts i d h = rw (add-one, drop-cons ts i d h) refl

pub has_name-end : (v : Ty) (ts : List Ty) (i : ℕ) → length ts ≤ i → any_has_name v (tys (drop i ts)) ≡ false
has_name-end v ts i h = rw (drop_of_length-le ts h) refl

pub has_name-same : (v a : Ty) → same_type v a ≡ true → has_name v a ≡ true
has_name-same v (ty_var n) h = h
has_name-same v (ty_app c ts) h = rw h refl

pub has_name-app : (v : Ty) (c : Name) (ts : List Ty) → same_type v (ty_app c (tys ts)) ≡ false → has_name v (ty_app c (tys ts)) ≡ any_has_name v (tys ts)
has_name-app v c ts h = rw h refl

pub ruleset name_lemmas = (has_name-same, has_name-app, has_name-at, has_name-end, ty_size-at)

pub has_names-at : (g : Names) (a : Ty) (i : ℕ) (d : Ty × Tm) → i < length g → has_names (drop i g) a ≡ (has_name (get_or g i d).0 a || has_names (drop (i + 1) g) a)
has_names-at g a i d h = rw (add-one, drop-cons g i d h) refl

pub has_names-end : (g : Names) (a : Ty) (i : ℕ) → length g ≤ i → has_names (drop i g) a ≡ false
has_names-end g a i h = rw (drop_of_length-le g h) refl

pub term_for-at : (g : Names) (a : Ty) (i : ℕ) (d : Ty × Tm) → i < length g → term_for (drop i g) a ≡ cond (same_type (get_or g i d).0 a) (Some (get_or g i d).1) (term_for (drop (i + 1) g) a)
term_for-at g a i d h = rw (add-one, drop-cons g i d h) refl

pub term_for-end : (g : Names) (a : Ty) (i : ℕ) → length g ≤ i → term_for (drop i g) a ≡ None
term_for-end g a i h = rw (drop_of_length-le g h) refl

pub ruleset names_lemmas = (has_names-at, has_names-end, term_for-at, term_for-end)

pub lives-at : (ls : Lives) (n : Name) (i : ℕ) (d : Name × List Bool) → i < length ls → lives_of (drop i ls) n ≡ cond (bytes_eq (get_or ls i d).0 n) (get_or ls i d).1 (lives_of (drop (i + 1) ls) n)
lives-at ls n i d h = rw (add-one, drop-cons ls i d h) (found (bytes_eq (get_or ls i d).0 n))
  where
    found : (b : Bool) → unwrap_or (if b then Some (get_or ls i d).1 else entry_at (drop (suc i) ls) n) [] ≡ cond b (get_or ls i d).1 (lives_of (drop (suc i) ls) n)
    found true = refl
    found false = refl

pub lives-end : (ls : Lives) (n : Name) (i : ℕ) → length ls ≤ i → lives_of (drop i ls) n ≡ []
lives-end ls n i h = rw (drop_of_length-le ls h) refl

pub ruleset lives_lemmas = (lives-at, lives-end)

pub countable-at : (ts : List Ty) (i : ℕ) (d : Ty) → i < length ts → are_countable (tys (drop i ts)) ≡ (is_countable (get_or ts i d) && are_countable (tys (drop (i + 1) ts)))
countable-at ts i d h = rw (add-one, drop-cons ts i d h) refl

pub countable-end : (ts : List Ty) (i : ℕ) → length ts ≤ i → are_countable (tys (drop i ts)) ≡ true
countable-end ts i h = rw (drop_of_length-le ts h) refl

pub countable-none : (c : Name) (ts : List Ty) → (length ts == 0) ≡ true → is_countable (ty_app c (tys ts)) ≡ is_one_of c basic
countable-none c [] h = refl
countable-none c (t ∷ ts) h = absurd (grind arith)

pub countable-some : (c : Name) (ts : List Ty) → (length ts == 0) ≡ false → is_countable (ty_app c (tys ts)) ≡ (is_one_of c of_two && are_countable (tys ts))
countable-some c [] h = absurd (grind arith)
countable-some c (t ∷ ts) h = refl

pub ruleset countable_lemmas = (countable-none, countable-some, countable-at, countable-end, ty_size-at)
