-- Numerals are digits without leading zeros, and fronts of bytes that pass a test.
use Rattle.std.proofs.Common.{◌≡◌, refl, ap, ◌∙◌, ℕ, zero, suc, ◌+◌, ◌/◌, ◌%◌, ◌<◌, Bool, true, false, cond, not, ◌&&◌, ◌==◌, [], ◌∷◌, ◌++◌, length, arith, nat_lt, eqb-true}
use Rattle.std.specs.List.{list_all, prefix_len}
use Rattle.std.specs.Char.{is_ascii_digit}
use Rattle.std.specs.Fmt.{digits_onto, digit_glyph}
use Rattle.std.proofs.lemmas.Bool.{and_parts, and_from, ne_eqb, eqb-false}
use Rattle.std.proofs.lemmas.Bool.Decides.{nat_tests}
use Rattle.hol_terms.specs.Text.{Text}
use Rattle.hol_logs.specs.Step.{numeral, is_numeral}

-- the glyph of a digit
glyph_is : (d : ℕ) → d < 10 → digit_glyph false d ≡ 48 + d
glyph_is d h = ap (λ b. cond b (48 + d) (87 + d)) small
  where
    small : nat_lt d 10 ≡ true
    small = grind (arith, nat_tests)

digit_is : (d : ℕ) → d < 10 → is_ascii_digit (48 + d) ≡ true
digit_is d h = grind (arith, nat_tests)

glyph_digit : (d : ℕ) → d < 10 → is_ascii_digit (digit_glyph false d) ≡ true
glyph_digit d h = ap is_ascii_digit (glyph_is d h) ∙ digit_is d h

glyph_nonzero : (d : ℕ) → 0 < d → d < 10 → not (digit_glyph false d == 48) ≡ true
glyph_nonzero d p h = ap not (ap (λ c. c == 48) (glyph_is d h) ∙ ne_eqb (48 + d) 48 (λ e. omega arith))

leading : (d : ℕ) (ds : Text) → is_ascii_digit d ≡ true → not (d == 48) ≡ true → list_all is_ascii_digit ds ≡ true → is_numeral (d ∷ ds) ≡ true
leading d [] g p h = g
leading d (e ∷ ds) g p h = and_from (is_ascii_digit d && not (d == 48)) (list_all is_ascii_digit (e ∷ ds)) (and_from (is_ascii_digit d) (not (d == 48)) g p) h

digits_lead : (k n : ℕ) (acc : Text) → n < k → 0 < n → list_all is_ascii_digit acc ≡ true → is_numeral (digits_onto k 10 false n acc) ≡ true
digits_lead zero n acc h p g = absurd (omega arith)
digits_lead (suc k) n acc h p g = at (n / 10 == 0) refl (λ q. digits_lead k (n / 10) (digit_glyph false (n % 10) ∷ acc) (omega arith) q more)
  where
    more : list_all is_ascii_digit (digit_glyph false (n % 10) ∷ acc) ≡ true
    more = and_from (is_ascii_digit (digit_glyph false (n % 10))) (list_all is_ascii_digit acc) (glyph_digit (n % 10) (omega arith)) g

    at : (b : Bool) → (n / 10 == 0) ≡ b → (0 < n / 10 → is_numeral (digits_onto k 10 false (n / 10) (digit_glyph false (n % 10) ∷ acc)) ≡ true)
        → is_numeral (cond b (digit_glyph false (n % 10) ∷ acc) (digits_onto k 10 false (n / 10) (digit_glyph false (n % 10) ∷ acc))) ≡ true
    at true e f =
        let none = eqb-true (n / 10) 0 e in
        let some : 0 < n % 10 = omega arith in
        leading (digit_glyph false (n % 10)) acc (glyph_digit (n % 10) (omega arith)) (glyph_nonzero (n % 10) some (omega arith)) g
    at false e f = let some = eqb-false (n / 10) 0 e in f (positive (n / 10) some)
      where
        positive : (m : ℕ) → (m ≡ 0 → ⊥) → 0 < m
        positive zero q = absurd (q refl)
        positive (suc m) q = omega arith

pub numeral_is : (n : ℕ) → is_numeral (numeral n) ≡ true
unfolding numeral
numeral_is zero = refl
numeral_is (suc n) = digits_lead (suc (suc n)) (suc n) [] (omega arith) (omega arith) refl

pub all_digits : (ds : Text) → is_numeral ds ≡ true → list_all is_ascii_digit ds ≡ true
all_digits [] h = cc
all_digits (d ∷ []) h = and_from (is_ascii_digit d) true h refl
all_digits (d ∷ e ∷ ds) h =
    let p = and_parts (is_ascii_digit d && not (d == 48)) (list_all is_ascii_digit (e ∷ ds)) h in
    and_from (is_ascii_digit d) (list_all is_ascii_digit (e ∷ ds)) (and_parts (is_ascii_digit d) (not (d == 48)) p.0).0 p.1

-- ---- fronts

-- no byte that passes follows
abbrev pub stops : (ℕ → Bool) → Text → Bool
stops p x = prefix_len p x == 0

pub front_long : (p : ℕ → Bool) (w rest : Text) → list_all p w ≡ true → stops p rest ≡ true → prefix_len p (w ++ rest) ≡ length w
front_long p [] rest h e = eqb-true (prefix_len p rest) 0 e
front_long p (c ∷ w) rest h e =
    let q = and_parts (p c) (list_all p w) h in ap (λ b. cond b (1 + prefix_len p (w ++ rest)) 0) q.0 ∙ ap (λ n. 1 + n) (front_long p w rest q.1 e) ∙ one_more (length w)
  where
    one_more : (n : ℕ) → 1 + n ≡ suc n
    one_more n = omega arith
