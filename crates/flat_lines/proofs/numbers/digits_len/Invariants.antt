use Rattle.std.proofs.Common.{length, ◌-◌}
use Rattle.std.specs.Char.{is_ascii_digit}
use Rattle.flat_lines.proofs.Fronts.{IsInFront}
use Rattle.flat_lines.proofs.numbers.digits_len.Given as goal

abbrev pub invariant-loop-len : goal.invariant-loop-len
invariant-loop-len l = IsInFront is_ascii_digit l.text l.len

abbrev pub decreases-loop-len : goal.decreases-loop-len
decreases-loop-len l = length l.text - l.len
