use Rattle.std.proofs.Common.{◌≡◌, ◌++◌, Ok, Err, Result, OnOk, cond, is_ok, ap, ◌∙◌, arith}
use Rattle.hol_terms.specs.Text.{Text}
use Rattle.proof_log.proofs.Numbers.{decimal-numeral}
use Rattle.proof_log.proofs.lines.push_number.Goals as goal

on_ok : {T E : Type 0} (r : Result T E) (old new written text : Text) → new ≡ cond (is_ok r) (old ++ written) old → written ≡ text → OnOk r (new ≡ old ++ text)
on_ok (Ok x) old new written text e w = e ∙ ap (λ t. old ++ t) w
on_ok (Err x) old new written text e w = tt

pub returns : goal.returns
returns c = on_ok c.push_str.result _ _ _ _ c.push_str.ensures.bytes (c.format.ensures.text ∙ decimal-numeral c.args.n (omega arith))
