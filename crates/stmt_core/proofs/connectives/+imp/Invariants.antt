use Rattle.std.proofs.Common.{length}
use Rattle.stmt_core.proofs.connectives.+imp.Given as goal

abbrev pub decreases-imp : goal.decreases-imp
decreases-imp l = length l.ps.now
