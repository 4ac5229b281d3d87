use Rattle.std.proofs.Common.{length}
use Rattle.stmt_core.proofs.connectives.+all.Given as goal

abbrev pub decreases-all : goal.decreases-all
decreases-all l = length l.vs.now
