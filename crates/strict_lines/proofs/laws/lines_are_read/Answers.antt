use Rattle.strict_lines.proofs.Forms.{line_complete}
use Rattle.strict_lines.proofs.laws.lines_are_read.Goals as goal

pub returns : goal.returns
returns c = λ s l b o k. line_complete s b l o k
