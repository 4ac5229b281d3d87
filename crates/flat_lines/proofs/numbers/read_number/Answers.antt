use Rattle.std.proofs.Common.{refl, sym, ap, ◌∙◌, subst, take, drop, arith}
use Rattle.std.specs.List.{list_all}
use Rattle.std.specs.Char.{is_ascii_digit}
use Rattle.std.specs.Str.Parse.{digits_value}
use Rattle.std.proofs.lemmas.List.Sums.{prefix_len-le-length}
use Rattle.flat_lines.specs.Numbers.{IsNumber}
use Rattle.flat_lines.proofs.Fronts.{front_passes}
use Rattle.flat_lines.proofs.Numerals.{digits_utf8, no_number, is_number}
use Rattle.flat_lines.proofs.numbers.read_number.Goals as goal

pub split_at-requires : goal.split_at-requires
split_at-requires c = omega (arith, prefix_len-le-length is_ascii_digit c.args.text.now)

pub is_numeral-requires : goal.is_numeral-requires
is_numeral-requires c = ap (list_all is_ascii_digit) (c.split_at.ensures.front ∙ ap (λ n. take n c.args.text.now) c.digits_len.ensures) ∙ front_passes is_ascii_digit c.args.text.now

pub returns-then-not-is_numeral : goal.returns-then-not-is_numeral
returns-then-not-is_numeral c =
    no_number c.args.text.now c.split_at.result.0.now (c.split_at.ensures.front ∙ ap (λ n. take n c.args.text.now) c.digits_len.ensures) (sym c.is_numeral.ensures ∙ c.if-not-is_numeral.true)

pub returns-in_default : goal.returns-in_default
returns-in_default c =
    absurd (c.in_default.ensures.cases.0 (digits_utf8 c.split_at.result.0.now
    (ap (list_all is_ascii_digit) (c.split_at.ensures.front ∙ ap (λ n. take n c.args.text.now) c.digits_len.ensures) ∙ front_passes is_ascii_digit c.args.text.now)))

pub returns : goal.returns
returns c = (
  (digits_value 10 c.split_at.result.0.now, c.split_at.result.1.now),
  is_number c.args.text.now c.split_at.result.0.now c.split_at.result.1.now (c.split_at.ensures.front ∙ ap (λ n. take n c.args.text.now) c.digits_len.ensures)
      (c.split_at.ensures.back ∙ ap (λ n. drop n c.args.text.now) c.digits_len.ensures) (sym c.is_numeral.ensures ∙ c.if-not-is_numeral.false),
  (subst (λ ds. IsNumber c.number_of-number.result (digits_value 10 ds)) c.in-Ok.ensures.cases.0 c.number_of-number.ensures, refl),
)
