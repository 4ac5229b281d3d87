use Rattle.std.proofs.Common.{refl, ◌∙◌}
use Rattle.hol_logs.specs.Line.{line_base}
use Rattle.strict_lines.specs.Operands.{reads_number}
use Rattle.flat_lines.proofs.Readings.{ended_made, bind_none, bind_on}
use Rattle.flat_lines.proofs.lines.read_base.Goals as goal

pub returns-in_default : goal.returns-in_default
returns-in_default c = λ t. ended_made (reads_number c.args.text.now) line_base ∙ bind_none _ _ c.in_default.ensures

pub returns : goal.returns
returns c = λ t. let k = c.in-Some.ensures in (line_base k.0, ended_made (reads_number c.args.text.now) line_base ∙ bind_on _ _ k.0 k.1, (k.0, k.2, refl))
