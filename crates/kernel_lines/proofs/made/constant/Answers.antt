use Rattle.kernel_lines.proofs.Over.{connective_over}
use Rattle.kernel_lines.proofs.made.constant.Goals as goal

pub returns-clause-over : goal.returns-clause-over
returns-clause-over c = connective_over c.args.k.now.defs c.args.c.now c.in_ok-t.t c.requires.base c.in_ok-t.ensures
