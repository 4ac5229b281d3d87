use Rattle.strict_lines.proofs.Forms.{line_sound}
use Rattle.strict_lines.proofs.laws.lines_read_are_lines.Goals as goal

pub returns : goal.returns
returns c = λ s x l h. let r = line_sound s x l h in (r.text, r.over)
