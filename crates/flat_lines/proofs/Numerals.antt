-- Digits, as `parse` reads them.
use Rattle.std.proofs.Common.{rules, ◌≡◌, sym, ap, ◌∙◌, ◌<◌, ◌≤◌, ◌^◌, true, false, Some, None, Err, [], ◌∷◌, length, arith}
use Rattle.std.specs.List.{list_all, take_while}
use Rattle.std.specs.Char.{is_ascii_digit}
use Rattle.std.specs.Str.{IsUtf8}
use Rattle.std.specs.Str.Parse.{digits_value, ParsesUnsigned}
use Rattle.std.proofs.lemmas.Str.{IsUtf8-from_ascii}
use Rattle.std.proofs.lemmas.Fmt.{IsAscii-from_digits}
use Rattle.std.proofs.lemmas.Str.Parse.{IsNumeralModel, numerals_by_value, parse_digits}
use Rattle.hol_terms.specs.Text.{Text}
use Rattle.hol_logs.specs.Step.{is_numeral}
use Rattle.strict_reading.specs.Steps.{when}
use Rattle.strict_lines.specs.Operands.{drop_while, reads_number}
use Rattle.strict_lines.proofs.Numerals.{all_digits}

own : IsNumeralModel (λ ds. list_all is_ascii_digit ds ≡ true) (digits_value 10)
own = numerals_by_value _ (search rules)

some_digit : (ds : Text) → is_numeral ds ≡ true → 0 < length ds
some_digit [] h = cc
some_digit (d ∷ ds) h = omega arith

-- digits that aren't parsed are too many
pub too_large : {E : Type 0} (ds : Text) (e : E) → is_numeral ds ≡ true → ParsesUnsigned 64 10 ds (Err e) → 2 ^ 64 ≤ digits_value 10 ds
too_large ds e h p = by (parse_digits own 64 ds (Err e) p (all_digits ds h)) (some_digit ds h)
  where
    by : ((0 < length ds) × (digits_value 10 ds < 2 ^ 64) → ⊥) → 0 < length ds → 2 ^ 64 ≤ digits_value 10 ds
    by f k = grind (arith, f)

pub digits_utf8 : (ds : Text) → list_all is_ascii_digit ds ≡ true → IsUtf8 ds
digits_utf8 ds h = IsUtf8-from_ascii ds (IsAscii-from_digits ds (own.to ds h))

pub no_number : (x ds : Text) → ds ≡ take_while is_ascii_digit x → is_numeral ds ≡ false → reads_number x ≡ None
unfolding reads_number when
no_number x ds e h = ap (λ b. when b (Some (digits_value 10 (take_while is_ascii_digit x), drop_while is_ascii_digit x))) (ap is_numeral (sym e) ∙ h)

pub is_number : (x ds rest : Text) → ds ≡ take_while is_ascii_digit x → rest ≡ drop_while is_ascii_digit x → is_numeral ds ≡ true → reads_number x ≡ Some (digits_value 10 ds, rest)
unfolding reads_number when
is_number x ds rest e f h = ap (λ b. when b (Some (digits_value 10 (take_while is_ascii_digit x), drop_while is_ascii_digit x))) (ap is_numeral (sym e) ∙ h) ∙ (λ i. Some (digits_value 10 (sym e i), sym f i))
