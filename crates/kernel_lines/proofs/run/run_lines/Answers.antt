use Rattle.std.proofs.Common.{◌∙◌}
use Rattle.kernel_lines.proofs.Had.{run_end, had_last}
use Rattle.kernel_lines.proofs.run.run_lines.Goals as goal

pub returns-clause-exact : goal.returns-clause-exact
returns-clause-exact c = record { is = c.loop-line.invariant.rest ∙ run_end _ _ _ _ _ _ c.loop-line-test.false c.in-Some.ensures.items }

pub returns-clause-has : goal.returns-clause-has
returns-clause-has c = had_last _ _ _ _ c.loop-line.invariant.had c.in-Some.ensures.items
