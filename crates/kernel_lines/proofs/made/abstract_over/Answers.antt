use Rattle.kernel_lines.proofs.Had.{closed}
use Rattle.kernel_lines.proofs.Over.{lambda_over}
use Rattle.kernel_lines.proofs.made.abstract_over.Goals as goal

pub mk_abs-requires : goal.mk_abs-requires
mk_abs-requires c = closed c.args.k.now.defs c.args.body.now c.requires.over

pub returns-clause-over : goal.returns-clause-over
returns-clause-over c = lambda_over c.args.k.now.defs c.args.v.now c.args.body.now c.in_ok-t.t c.requires.over_v c.requires.over c.in_ok-t.ensures
