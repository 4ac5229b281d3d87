use Rattle.std.proofs.Common.{ap, ◌∙◌}
use Rattle.kernel_lines.specs.Names.{generic_at}
use Rattle.kernel_lines.proofs.Over.{generic_over}
use Rattle.kernel_lines.proofs.made.generic.Goals as goal

pub returns-clause-over : goal.returns-clause-over
returns-clause-over c = generic_over c.args.k.now.defs c.args.g.now c.args.at.now c.in_ok-t.t c.requires.base c.requires.over (c.in_ok-t.ensures ∙ ap (generic_at c.args.g.now) c.type_of.ensures)
