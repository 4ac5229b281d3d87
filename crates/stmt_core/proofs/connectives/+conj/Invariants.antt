use Rattle.std.proofs.Common.{length}
use Rattle.stmt_core.proofs.connectives.+conj.Given as goal

abbrev pub decreases-conj : goal.decreases-conj
decreases-conj l = length l.ts.now
