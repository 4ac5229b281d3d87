use Rattle.std.proofs.Common.{length, ◌-◌}
use Rattle.strict_lines.specs.Operands.{is_no_space}
use Rattle.flat_lines.proofs.Fronts.{IsInFront}
use Rattle.flat_lines.proofs.words.word_len.Given as goal

abbrev pub invariant-loop-len : goal.invariant-loop-len
invariant-loop-len l = IsInFront is_no_space l.text l.len

abbrev pub decreases-loop-len : goal.decreases-loop-len
decreases-loop-len l = length l.text - l.len
