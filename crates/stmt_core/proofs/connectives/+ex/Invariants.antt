use Rattle.std.proofs.Common.{length}
use Rattle.stmt_core.proofs.connectives.+ex.Given as goal

abbrev pub decreases-ex : goal.decreases-ex
decreases-ex l = length l.vs.now
