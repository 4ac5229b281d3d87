use Rattle.strict_lines.specs.Operands.{reads_number}
use Rattle.flat_lines.proofs.Readings.{ended_none, ended_before, ended_at}
use Rattle.flat_lines.proofs.ends.read_last_number.Goals as goal

pub returns-in_default : goal.returns-in_default
returns-in_default c = ended_none _ _ c.in_default.ensures

pub returns-then-is_empty : goal.returns-then-is_empty
returns-then-is_empty c =
    let k = c.in-Some.ensures in (k.0.0, ended_at (reads_number c.args.text.now) (λ n. n) k.0 c.in-Some.read.rest.now k.1 k.2.1 c.if-is_empty.ensures, k.2.0)

pub returns-else-is_empty : goal.returns-else-is_empty
returns-else-is_empty c = let k = c.in-Some.ensures in ended_before (reads_number c.args.text.now) (λ n. n) k.0 c.in-Some.read.rest.now k.1 k.2.1 c.if-is_empty.ensures
