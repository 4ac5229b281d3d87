use Rattle.std.proofs.Common.{length}
use Rattle.stmt_core.proofs.connectives.+disj.Given as goal

abbrev pub decreases-disj : goal.decreases-disj
decreases-disj l = length l.ts.now
