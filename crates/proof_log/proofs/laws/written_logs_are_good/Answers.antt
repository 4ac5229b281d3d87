use Rattle.proof_log.proofs.GoodLog.{good}
use Rattle.proof_log.proofs.laws.written_logs_are_good.Goals as goal

pub returns : goal.returns
returns c = good
