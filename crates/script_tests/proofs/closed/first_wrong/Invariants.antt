use Rattle.std.proofs.Common.{◌≡◌}
use Rattle.script_tests.proofs.closed.first_wrong.Given as goal

abbrev pub invariant-loop-table : goal.invariant-loop-table
invariant-loop-table l = l.k.defs ≡ l.fn.k.defs
