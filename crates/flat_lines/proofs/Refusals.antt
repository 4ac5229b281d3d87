-- Lines of refusals.
use Rattle.std.proofs.Common.{◌≡◌, ap, ◌∙◌, ℕ, ◌++◌, append_assoc, Option, Some}
use Rattle.std.specs.Prelude.{codes}
use Rattle.hol_terms.specs.Text.{Text}
use Rattle.hol_logs.specs.Step.{numeral}
use Rattle.hol_logs.specs.Line.{LogLine, line_stop}
use Rattle.strict_reading.specs.Steps.{◌>>=◌}
use Rattle.strict_lines.specs.Operands.{reads_number, reads_word, parted}
use Rattle.strict_lines.specs.Lines.{number_line}
use Rattle.strict_lines.proofs.Operands.{itself, Any, IsWord, number_sound, word_sound, parted_case, ended_case, given}
use Rattle.flat_lines.specs.Lines.{refusal_of}
use Rattle.flat_lines.proofs.Readings.{ended_then, parted_then}

abbrev pub stop_of : ℕ → Text × (Text × ℕ) → LogLine
stop_of n r = line_stop n r.0 r.1.0 r.1.1

-- behind the number of lines
abbrev pub stop_tail : ℕ → Text → Option LogLine
stop_tail n y = parted (reads_word y) (codes " ") (λ test z. parted (reads_word z) (codes " ") (λ name v. number_line (line_stop n test name) v))

pub stop_made : (n : ℕ) (y : Text) → stop_tail n y ≡ (refusal_of y >>= (λ r. Some (stop_of n r)))
stop_made n y =
    parted_then (reads_word y) (codes " ") _ (λ r. Some (stop_of n r)) _ (λ test z. parted_then (reads_word z) (codes " ") _ (λ r. Some (stop_of n r)) _ (λ name v.
    ended_then (reads_number v) (λ m. (test, (name, m))) (stop_of n)))

abbrev refusal_text : Text × (Text × ℕ) → Text
refusal_text r = r.0 ++ codes " " ++ r.1.0 ++ codes " " ++ numeral r.1.1

pub refusal_is : (y : Text) (r : Text × (Text × ℕ)) → refusal_of y ≡ Some r → y ≡ refusal_text r
refusal_is y r h =
    parted_case reads_word itself IsWord word_sound y (codes " ") _ r h (λ test z d o g. parted_case reads_word itself IsWord word_sound z (codes " ") _ r g (λ name v e p k.
    ended_case reads_number numeral Any number_sound v (λ n. (test, (name, n))) r k (λ n f q j.
    given (λ x. y ≡ refusal_text x) (test, (name, n)) r (d ∙ ap (λ w. test ++ (codes " " ++ w)) (e ∙ ap (λ w. name ++ (codes " " ++ w)) f) ∙ apart test name (numeral n)) j)))
  where
    apart : (a b c : Text) → a ++ (codes " " ++ (b ++ (codes " " ++ c))) ≡ ((((a ++ codes " ") ++ b) ++ codes " ") ++ c)
    apart a b c = simp append_assoc
