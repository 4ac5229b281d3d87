-- The numeral of a number is its digits without leading zeros, and no other such digits are.
use Rattle.std.proofs.Common.{◌≡◌, inl, inr, ◌⊎◌, ℕ, zero, suc, ◌+◌, ◌*◌, ◌/◌, ◌%◌, ◌<◌, ◌≤◌, Bool, true, false, cond, not, ◌&&◌, ◌==◌, [], ◌∷◌, ◌++◌, refl, sym, ap, ◌∙◌, append_assoc, arith, nat_lt}
use Rattle.std.specs.List.{list_all}
use Rattle.std.specs.Char.{is_ascii_digit, digit_value}
use Rattle.std.specs.Fmt.{digits_onto, digit_glyph}
use Rattle.std.specs.Str.Parse.{digits_value_after, digits_value}
use Rattle.std.proofs.lemmas.Bool.{and_parts, not-true, eqb-true, eqb-false, ne_eqb}
use Rattle.std.proofs.lemmas.Bool.Decides.{nat_tests}
use Rattle.std.proofs.lemmas.Int.Digits.{digits_value_push}
use Rattle.std.proofs.lemmas.List.Folds.{list_all-append}
use Rattle.hol_terms.specs.Text.{Text}
use Rattle.hol_logs.specs.Step.{numeral, is_numeral}

glyph_value : (d : ℕ) → d < 10 → digit_value (digit_glyph false d) ≡ d
glyph_value d h =
    let small : nat_lt d 10 ≡ true = grind (arith, nat_tests) in
    let least : nat_lt (48 + d) 48 ≡ false = grind (arith, nat_tests) in
    let most : nat_lt (48 + d) 58 ≡ true = grind (arith, nat_tests) in
    rw (small, least, most) (omega arith)

digits_value-digits : (k n : ℕ) (acc : Text) → n < k → digits_value_after 10 0 (digits_onto k 10 false n acc) ≡ digits_value_after 10 n acc
digits_value-digits zero n acc h = absurd (omega arith)
digits_value-digits (suc k) n acc h = at (n / 10 == 0) refl (digits_value-digits k (n / 10) (digit_glyph false (n % 10) ∷ acc))
  where
    at : (b : Bool) → (n / 10 == 0) ≡ b
        → (n / 10 < k → digits_value_after 10 0 (digits_onto k 10 false (n / 10) (digit_glyph false (n % 10) ∷ acc)) ≡ digits_value_after 10 (n / 10) (digit_glyph false (n % 10) ∷ acc))
        → digits_value_after 10 0 (cond b (digit_glyph false (n % 10) ∷ acc) (digits_onto k 10 false (n / 10) (digit_glyph false (n % 10) ∷ acc))) ≡ digits_value_after 10 n acc
    at true e f =
        let none = eqb-true (n / 10) 0 e in
        let value : 0 * 10 + digit_value (digit_glyph false (n % 10)) ≡ n = rw (glyph_value (n % 10) (omega arith)) (omega arith) in
        ap (λ m. digits_value_after 10 m acc) value
    at false e f =
        let some = eqb-false (n / 10) 0 e in
        let value : (n / 10) * 10 + digit_value (digit_glyph false (n % 10)) ≡ n = rw (glyph_value (n % 10) (omega arith)) (omega arith) in
        f (omega arith) ∙ ap (λ m. digits_value_after 10 m acc) value

pub value-numeral : (n : ℕ) → digits_value 10 (numeral n) ≡ n
unfolding numeral
value-numeral n = digits_value-digits (suc n) n [] (omega arith)

pub same_number : (i j : ℕ) → numeral i ≡ numeral j → i ≡ j
same_number i j e = sym (value-numeral i) ∙ ap (digits_value 10) e ∙ value-numeral j

-- ---- digits are the numeral of their value

digit_between : (c : ℕ) → is_ascii_digit c ≡ true → (48 ≤ c) × (c < 58)
digit_between c h = (grind (arith, nat_tests), grind (arith, nat_tests))

value_of_digit : (c : ℕ) → is_ascii_digit c ≡ true → digit_value c + 48 ≡ c
value_of_digit c h =
    let bounds = digit_between c h in
    let low = bounds.0 in
    let high = bounds.1 in
    let least : nat_lt c 48 ≡ false = grind (arith, nat_tests) in
    let most : nat_lt c 58 ≡ true = grind (arith, nat_tests) in
    rw (least, most) (omega arith)

glyph_of_digit : (c : ℕ) → is_ascii_digit c ≡ true → digit_glyph false (digit_value c) ≡ c
glyph_of_digit c h =
    let value = value_of_digit c h in
    let high = (digit_between c h).1 in
    let small : nat_lt (digit_value c) 10 ≡ true = below (digit_value c) (omega arith) in
    ap (λ b. cond b (48 + digit_value c) (87 + digit_value c)) small ∙ omega arith
  where
    below : (d : ℕ) → d < 10 → nat_lt d 10 ≡ true
    below d k = grind (arith, nat_tests)

grows : (m : ℕ) (ds : Text) → m ≤ digits_value_after 10 m ds
grows m [] = omega arith
grows m (c ∷ ds) = let more = grows (m * 10 + digit_value c) ds in omega arith

-- one digit, with what stands behind it
last_digit : (k n : ℕ) (acc : Text) → n < 10 → digits_onto (suc k) 10 false n acc ≡ digit_glyph false n ∷ acc
last_digit k n acc h =
    let none : n / 10 ≡ 0 = omega arith in
    let left : n % 10 ≡ n = omega arith in
    rw (none, left) refl

-- a digit behind others
more_digits : (k n d : ℕ) (acc : Text) → 0 < n → d < 10 → digits_onto (suc k) 10 false (n * 10 + d) acc ≡ digits_onto k 10 false n (digit_glyph false d ∷ acc)
more_digits k n d acc h g =
    let front : (n * 10 + d) / 10 ≡ n = omega arith in
    let back : (n * 10 + d) % 10 ≡ d = omega arith in
    let some : (n == 0) ≡ false = ne_eqb n 0 (λ e. omega arith) in
    rw (front, back, some) refl

last_of : (xs : Text) → (xs ≡ []) ⊎ ((ys : Text) × (y : ℕ) × (xs ≡ ys ++ y ∷ []))
last_of [] = inl refl
last_of (x ∷ xs) =
    elim (last_of xs) [
      | inl e ↦ inr ([], x, ap (λ ys. x ∷ ys) e)
      | inr p ↦ inr (x ∷ p.0, p.1, ap (λ ys. x ∷ ys) p.2)
    ]

digits_of_value : (k h : ℕ) (ds acc : Text) → is_ascii_digit h ≡ true → 0 < digit_value h → list_all is_ascii_digit ds ≡ true → digits_value 10 (h ∷ ds) < k
    → digits_onto k 10 false (digits_value 10 (h ∷ ds)) acc ≡ (h ∷ ds) ++ acc
digits_of_value zero h ds acc a p b e = absurd (omega arith)
digits_of_value (suc k) h ds acc a p b e = at (last_of ds) (λ es d g f. digits_of_value k h es (d ∷ acc) a p g f)
  where
    at : ((ds ≡ []) ⊎ ((es : Text) × (d : ℕ) × (ds ≡ es ++ d ∷ [])))
        → ((es : Text) (d : ℕ) → list_all is_ascii_digit es ≡ true → digits_value 10 (h ∷ es) < k → digits_onto k 10 false (digits_value 10 (h ∷ es)) (d ∷ acc) ≡ (h ∷ es) ++ d ∷ acc)
        → digits_onto (suc k) 10 false (digits_value 10 (h ∷ ds)) acc ≡ (h ∷ ds) ++ acc
    at (inl none) rest =
        let value = value_of_digit h a in
        let high = (digit_between h a).1 in
        let one : digits_value 10 (h ∷ ds) ≡ digit_value h = ap (λ es. digits_value 10 (h ∷ es)) none ∙ omega arith in
        ap (λ n. digits_onto (suc k) 10 false n acc) one ∙ last_digit k (digit_value h) acc (omega arith) ∙ (λ i. glyph_of_digit h a i ∷ acc) ∙ ap (λ es. (h ∷ es) ++ acc) (sym none)
    at (inr (es, d, is)) rest =
        let split = and_parts (list_all is_ascii_digit es) (list_all is_ascii_digit (d ∷ [])) (sym (list_all-append is_ascii_digit es (d ∷ [])) ∙ ap (list_all is_ascii_digit) (sym is) ∙ b) in
        let digit = (and_parts (is_ascii_digit d) true split.1).0 in
        let value = value_of_digit d digit in
        let high = (digit_between d digit).1 in
        let pushed : digits_value 10 (h ∷ ds) ≡ digits_value 10 (h ∷ es) * 10 + digit_value d = ap (λ xs. digits_value 10 (h ∷ xs)) is ∙ digits_value_push 10 (h ∷ es) d in
        let first = grows (0 * 10 + digit_value h) es in
        let positive : 0 < digits_value 10 (h ∷ es) = omega arith in
        let smaller : digits_value 10 (h ∷ es) < k = omega arith in
        ap (λ n. digits_onto (suc k) 10 false n acc) pushed ∙ more_digits k (digits_value 10 (h ∷ es)) (digit_value d) acc positive (omega arith)
        ∙ ap (λ c. digits_onto k 10 false (digits_value 10 (h ∷ es)) (c ∷ acc)) (glyph_of_digit d digit) ∙ rest es d split.0 smaller
        ∙ sym (append_assoc (h ∷ es) (d ∷ []) acc) ∙ ap (λ xs. (h ∷ xs) ++ acc) (sym is)

nonzero : (c : ℕ) → is_ascii_digit c ≡ true → not (c == 48) ≡ true → 0 < digit_value c
nonzero c h g =
    let value = value_of_digit c h in
    let apart = eqb-false c 48 (not-true (c == 48) g) in
    positive (digit_value c) value apart
  where
    positive : (d : ℕ) → d + 48 ≡ c → (c ≡ 48 → ⊥) → 0 < d
    positive zero e f = absurd (f (sym e))
    positive (suc d) e f = omega arith

pub numeral-value : (ds : Text) → is_numeral ds ≡ true → numeral (digits_value 10 ds) ≡ ds
unfolding numeral
numeral-value [] e = cc
numeral-value (d ∷ []) e =
    let value = value_of_digit d e in
    let high = (digit_between d e).1 in
    let one : 0 * 10 + digit_value d ≡ digit_value d = omega arith in
    last_digit (0 * 10 + digit_value d) (0 * 10 + digit_value d) [] (omega arith) ∙ (λ i. digit_glyph false (one i) ∷ []) ∙ (λ i. glyph_of_digit d e i ∷ [])
numeral-value (d ∷ c ∷ ds) e =
    let p = and_parts (is_ascii_digit d && not (d == 48)) (list_all is_ascii_digit (c ∷ ds)) e in
    let q = and_parts (is_ascii_digit d) (not (d == 48)) p.0 in
    digits_of_value (suc (digits_value 10 (d ∷ c ∷ ds))) d (c ∷ ds) [] q.0 (nonzero d q.0 q.1) p.1 (omega arith) ∙ nothing_behind (d ∷ c ∷ ds)
  where
    nothing_behind : (xs : Text) → xs ++ [] ≡ xs
    nothing_behind [] = refl
    nothing_behind (x ∷ xs) = ap (λ ys. x ∷ ys) (nothing_behind xs)
