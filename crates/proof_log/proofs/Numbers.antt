-- The digits that are written for a machine word are the numeral.
use Rattle.std.proofs.Common.{◌≡◌, ℕ, zero, suc, ◌+◌, ◌/◌, ◌%◌, ◌<◌, ◌≤◌, ◌^◌, ◌==◌, Bool, true, false, cond, [], ◌∷◌, ◌++◌, refl, sym, ap, ◌∙◌, append_assoc, append-nil, arith, nat_lt}
use Rattle.std.specs.Fmt.{decimal, digits_onto, digit_glyph}
use Rattle.std.proofs.lemmas.Bool.{eqb-true, eqb-false}
use Rattle.std.proofs.lemmas.Bool.Decides.{nat_tests}
use Rattle.std.proofs.lemmas.Fmt.{decimal_digit, decimal_step}
use Rattle.hol_terms.specs.Text.{Text}
use Rattle.hol_logs.specs.Step.{numeral}

glyph : (d : ℕ) → d < 10 → digit_glyph false d ≡ 48 + d
glyph d h = let small : nat_lt d 10 ≡ true = grind (arith, nat_tests) in ap (λ b. cond b (48 + d) (87 + d)) small

digits_before : (k n : ℕ) (acc : Text) → n < k → n < 2 ^ 64 → digits_onto k 10 false n acc ≡ decimal n ++ acc
digits_before zero n acc h w = absurd (omega arith)
digits_before (suc k) n acc h w = at (n / 10 == 0) refl (digits_before k (n / 10) (digit_glyph false (n % 10) ∷ acc))
  where
    at : (b : Bool) → (n / 10 == 0) ≡ b
        → (n / 10 < k → n / 10 < 2 ^ 64 → digits_onto k 10 false (n / 10) (digit_glyph false (n % 10) ∷ acc) ≡ decimal (n / 10) ++ digit_glyph false (n % 10) ∷ acc)
        → cond b (digit_glyph false (n % 10) ∷ acc) (digits_onto k 10 false (n / 10) (digit_glyph false (n % 10) ∷ acc)) ≡ decimal n ++ acc
    at true e f =
        let none = eqb-true (n / 10) 0 e in
        let small : n < 10 = omega arith in
        let same : n % 10 ≡ n = omega arith in
        ap (λ d. digit_glyph false d ∷ acc) same ∙ ap (λ d. d ∷ acc) (glyph n small) ∙ ap (λ ds. ds ++ acc) (sym (decimal_digit n small))
    at false e f =
        let some = eqb-false (n / 10) 0 e in
        let large : 10 ≤ n = omega arith in
        f (omega arith) (omega arith) ∙ ap (λ d. decimal (n / 10) ++ d ∷ acc) (glyph (n % 10) (omega arith))
        ∙ sym (append_assoc (decimal (n / 10)) ((48 + n % 10) ∷ []) acc) ∙ ap (λ ds. ds ++ acc) (sym (decimal_step n large w))

pub decimal-numeral : (n : ℕ) → n < 2 ^ 64 → decimal n ≡ numeral n
unfolding numeral
decimal-numeral n h = sym (digits_before (suc n) n [] (omega arith) h ∙ append-nil (decimal n))
