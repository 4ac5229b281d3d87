-- Commas between texts.
use Rattle.std.specs.Prelude.{ℕ, zero, suc, [], codes}
use Rattle.hol_terms.specs.Text.{Text}

-- what stands before the text at a place: a comma, but nothing before the first
abbrev pub comma_before : ℕ → Text
comma_before zero = []
comma_before (suc i) = codes ","
