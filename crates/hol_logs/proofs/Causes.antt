-- A good line has none of the causes.
use Rattle.std.proofs.Common.{◌≡◌, ℕ, Bool, true, false, cond, Option, Some, None, refl}
use Rattle.hol_logs.specs.Line.{LogLine}
use Rattle.hol_logs.specs.Position.{LogPosition, Why, by_form, by_number, by_rule, by_unfit, by_base, by_text, by_count, is_misplaced, lacks_a_step, breaks_its_rule, is_unfit, is_off_base, names_another, miscounts, first_cause}

pub record HasNoCause (n : ℕ) (p : LogPosition) (l : LogLine) : Type 0 where
  pub placed : is_misplaced p l ≡ false
  pub numbered : lacks_a_step p l ≡ false
  pub ruled : breaks_its_rule p l ≡ false
  pub fit : is_unfit p l ≡ false
  pub based : is_off_base n p l ≡ false
  pub stated : names_another p l ≡ false
  pub counted : miscounts p l ≡ false

none_first : (b : Bool) (why : Why) (o : Option Why) → cond b (Some why) o ≡ None → (b ≡ false) × (o ≡ None)
none_first true why o e = cc
none_first false why o e = (refl, e)

pub no_causes : (n : ℕ) (p : LogPosition) (l : LogLine) → first_cause n p l ≡ None → HasNoCause n p l
no_causes n p l e =
    let form = none_first (is_misplaced p l) by_form _ e in
    let number = none_first (lacks_a_step p l) by_number _ form.1 in
    let rule = none_first (breaks_its_rule p l) by_rule _ number.1 in
    let unfit = none_first (is_unfit p l) by_unfit _ rule.1 in
    let base = none_first (is_off_base n p l) by_base _ unfit.1 in
    let text = none_first (names_another p l) by_text _ base.1 in
    let count = none_first (miscounts p l) by_count _ text.1 in
    record { placed = form.0; numbered = number.0; ruled = rule.0; fit = unfit.0; based = base.0; stated = text.0; counted = count.0 }
