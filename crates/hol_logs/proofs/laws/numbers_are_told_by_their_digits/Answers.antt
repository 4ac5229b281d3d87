use Rattle.hol_logs.proofs.Numerals.{value-numeral, numeral-value}
use Rattle.hol_logs.proofs.laws.numbers_are_told_by_their_digits.Goals as goal

pub returns : goal.returns
returns c = record { value = value-numeral; digits = numeral-value }
