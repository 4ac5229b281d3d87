use Rattle.kernel_lines.proofs.Over.{var_over}
use Rattle.kernel_lines.proofs.made.var_made.Goals as goal

pub returns-clause-over : goal.returns-clause-over
returns-clause-over c = var_over c.args.k.now.defs c.args.terms.now c.args.shape.now c.args.l.now c.in_ok-ty.ty c.in_ok-t.t c.requires.over c.in_ok-ty.ensures c.in_ok-t.ensures
