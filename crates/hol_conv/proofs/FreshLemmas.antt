-- A name that is longer than all others is new.
use Rattle.std.proofs.Common.{◌≡◌, ℕ, zero, suc, ◌+◌, ◌<◌, ◌≤◌, arith, Bool, true, false, ◌||◌, List, [], ◌∷◌, ◌++◌, length, refl, ap, ◌∙◌, subst, take, get_or, add-one}
use Rattle.std.proofs.lemmas.List.{take_all}
use Rattle.hol_terms.specs.Name.{is_name}
use Rattle.hol_terms.specs.Tm.{Tm, tm_index, tm_free, tm_const, tm_comb, tm_abs, FreeVar}
use Rattle.hol_terms.specs.Binding.{has_free, var_eq}
use Rattle.hol_terms.specs.Rules.{free_in_none, no, both}
use Rattle.hol_terms.proofs.Order.{var_eq-same}
use Rattle.hol_terms.proofs.AsciiNames.{is_ascii_name, are_ascii_segments, is_name_from_ascii}
use Rattle.hol_conv.specs.Fresh.{NamesWithin, AllNamesWithin, letters}

pub within_more : (m n : ℕ) (t : Tm) → m ≤ n → NamesWithin m t → NamesWithin n t
within_more m n (tm_index i t) l h = tt
within_more m n (tm_free v) l h = omega arith
within_more m n (tm_const c ts t) l h = tt
within_more m n (tm_comb f x) l h = (within_more m n f l h.0, within_more m n x l h.1)
within_more m n (tm_abs t b) l h = within_more m n b l h

pub more_within : (m n : ℕ) (ts : List Tm) → m ≤ n → AllNamesWithin m ts → AllNamesWithin n ts
more_within m n [] l h = tt
more_within m n (t ∷ ts) l h = (within_more m n t l h.0, more_within m n ts l h.1)

next_within : (m n i : ℕ) (ts : List Tm) (d : Tm) → m ≤ n → i < length ts → AllNamesWithin m (take i ts) → NamesWithin n (get_or ts i d) → AllNamesWithin n (take (suc i) ts)
next_within m n i [] d l b h g = tt
next_within m n zero (t ∷ ts) d l b h g = (g, tt)
next_within m n (suc i) (t ∷ ts) d l b h g = (within_more m n t l h.0, next_within m n i ts d l (omega arith) h.1 g)

pub within_next : (m n i : ℕ) (ts : List Tm) (d : Tm) → m ≤ n → i < length ts → AllNamesWithin m (take i ts) → NamesWithin n (get_or ts i d) → AllNamesWithin n (take (i + 1) ts)
within_next m n i ts d l b h g = rw (add-one) (next_within m n i ts d l b h g)

pub within_all : (n i : ℕ) (ts : List Tm) → length ts ≤ i → AllNamesWithin n (take i ts) → AllNamesWithin n ts
within_all n i ts l h = subst (AllNamesWithin n) (take_all i ts l) h

pub ruleset within_lemmas = (within_more)

pub ruleset all_lemmas = (within_next, within_all)

pub letters-push : (n : ℕ) → letters n ++ 118 ∷ [] ≡ letters (suc n)
letters-push zero = refl
letters-push (suc n) = ap (λ cs. 118 ∷ cs) (letters-push n)

pub letters-step : (n : ℕ) → letters n ++ 118 ∷ [] ≡ letters (n + 1)
letters-step n = rw (add-one) (letters-push n)

pub ruleset letters_lemmas = (letters-step)

letters-length : (n : ℕ) → length (letters n) ≡ n
letters-length zero = refl
letters-length (suc n) = ap suc (letters-length n)

letters-segment : (n : ℕ) → are_ascii_segments true (letters n) ≡ true
letters-segment zero = refl
letters-segment (suc n) = letters-segment n

letters-ascii : (n : ℕ) → is_ascii_name (letters (suc n)) ≡ true
letters-ascii n = rw (letters-segment n) refl

pub letters-name : (n : ℕ) → is_name (letters n ++ 118 ∷ []) ≡ true
letters-name n = ap is_name (letters-push n) ∙ is_name_from_ascii (letters (suc n)) (letters-ascii n)

longer : (n : ℕ) → n < length (letters n ++ 118 ∷ [])
longer n = rw (letters-push n) (rw (letters-length n) (omega arith))

differs : (n : ℕ) (v w : FreeVar) → n < length v.name → length w.name ≤ n → var_eq v w ≡ false
differs n v w l h = at (var_eq v w) refl
  where
    at : (b : Bool) → var_eq v w ≡ b → b ≡ false
    at true e = let same = ap (λ (u : FreeVar). length u.name) (var_eq-same v w e) in absurd (omega arith)
    at false e = refl

absent : (n : ℕ) (v : FreeVar) (t : Tm) → n < length v.name → NamesWithin n t → has_free v t ≡ false
absent n v (tm_index i t) l h = refl
absent n v (tm_free w) l h = differs n v w l h
absent n v (tm_const c ts t) l h = refl
absent n v (tm_comb f x) l h = λ i. absent n v f l h.0 i || absent n v x l h.1 i
absent n v (tm_abs t b) l h = absent n v b l h

none : (n : ℕ) (v : FreeVar) (ts : List Tm) → n < length v.name → AllNamesWithin n ts → free_in_none v ts ≡ true
none n v [] l h = refl
none n v (t ∷ ts) l h = λ i. both (no (absent n v t l h.0 i)) (none n v ts l h.1 i)

pub long_absent : (n : ℕ) (v : FreeVar) (t : Tm) → v.name ≡ letters n ++ 118 ∷ [] → NamesWithin n t → has_free v t ≡ false
long_absent n v t e h = absent n v t (rw (e) (longer n)) h

pub long_none : (n : ℕ) (v : FreeVar) (ts : List Tm) → v.name ≡ letters n ++ 118 ∷ [] → AllNamesWithin n ts → free_in_none v ts ≡ true
long_none n v ts e h = none n v ts (rw (e) (longer n)) h
