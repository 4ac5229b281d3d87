use Rattle.std.proofs.Common.{refl, sym, ap, Some}
use Rattle.hol_logs.specs.Line.{line_first}
use Rattle.strict_reading.specs.Steps.{when}
use Rattle.flat_lines.proofs.lines.read_first.Goals as goal

pub returns-then-is_empty : goal.returns-then-is_empty
unfolding when
returns-then-is_empty c = λ t. (line_first, ap (λ b. when b (Some line_first)) (sym c.if-is_empty.ensures), refl)

pub returns-else-is_empty : goal.returns-else-is_empty
unfolding when
returns-else-is_empty c = λ t. ap (λ b. when b (Some line_first)) (sym c.if-is_empty.ensures)
