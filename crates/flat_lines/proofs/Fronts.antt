-- Fronts of bytes that pass a test, a byte at a time.
use Rattle.std.proofs.Common.{◌≡◌, refl, ap, ◌∙◌, ℕ, suc, ◌+◌, ◌<◌, ◌≤◌, Bool, true, false, cond, List, [], ◌∷◌, length, get_or, take, drop, drop-cons, arith}
use Rattle.std.specs.List.{list_all, prefix_len}
use Rattle.std.proofs.lemmas.Bool.{and_from}
use Rattle.std.proofs.lemmas.List.Sums.{prefix_len-drop_no, prefix_len-drop_all}

-- the front begins with the first bytes, and goes on behind them
pub record IsInFront (p : ℕ → Bool) (x : List ℕ) (i : ℕ) : Type 0 where
  pub within : i ≤ length x
  pub goes_on : prefix_len p x ≡ i + prefix_len p (drop i x)

pub front_start : (p : ℕ → Bool) (x : List ℕ) → IsInFront p x 0
front_start p x = record { within = omega arith; goes_on = omega arith }

pub front_more : (p : ℕ → Bool) (x : List ℕ) (i : ℕ) → IsInFront p x i → i < length x → p (get_or x i 0) ≡ true → IsInFront p x (i + 1)
front_more p x i f h e = record { within = omega arith; goes_on = f.goes_on ∙ ap (λ n. i + n) next ∙ counts }
  where
    one : suc i ≡ i + 1
    one = omega arith

    next : prefix_len p (drop i x) ≡ 1 + prefix_len p (drop (i + 1) x)
    next = ap (prefix_len p) (drop-cons x i 0 h) ∙ ap (λ b. cond b (1 + prefix_len p (drop (suc i) x)) 0) e ∙ ap (λ j. 1 + prefix_len p (drop j x)) one

    counts : i + (1 + prefix_len p (drop (i + 1) x)) ≡ (i + 1) + prefix_len p (drop (i + 1) x)
    counts = omega arith

pub front_stops : (p : ℕ → Bool) (x : List ℕ) (i : ℕ) → IsInFront p x i → i < length x → p (get_or x i 0) ≡ false → i ≡ prefix_len p x
front_stops p x i f h e = let none = prefix_len-drop_no p x i 0 h e in let on = f.goes_on in omega arith

pub front_ends : (p : ℕ → Bool) (x : List ℕ) (i : ℕ) → IsInFront p x i → length x ≤ i → i ≡ prefix_len p x
front_ends p x i f h = let none = prefix_len-drop_all p x i h in let on = f.goes_on in omega arith

-- all bytes of the front pass
pub front_passes : (p : ℕ → Bool) (x : List ℕ) → list_all p (take (prefix_len p x) x) ≡ true
front_passes p [] = refl
front_passes p (c ∷ x) = at (p c) refl (front_passes p x)
  where
    one : 1 + prefix_len p x ≡ suc (prefix_len p x)
    one = omega arith

    at : (b : Bool) → p c ≡ b → list_all p (take (prefix_len p x) x) ≡ true → list_all p (take (cond b (1 + prefix_len p x) 0) (c ∷ x)) ≡ true
    at true e h = ap (λ n. list_all p (take n (c ∷ x))) one ∙ and_from (p c) (list_all p (take (prefix_len p x) x)) e h
    at false e h = refl
