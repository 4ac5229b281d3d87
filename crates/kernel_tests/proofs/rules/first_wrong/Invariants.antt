use Rattle.kernel_lines.specs.Bases.{HasBase}
use Rattle.kernel_tests.proofs.rules.first_wrong.Given as goal

abbrev pub invariant-loop-case : goal.invariant-loop-case
invariant-loop-case l = HasBase l.k.defs
