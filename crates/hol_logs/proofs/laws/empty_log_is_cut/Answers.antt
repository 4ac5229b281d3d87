use Rattle.hol_logs.proofs.Examples.{empty_cut}
use Rattle.hol_logs.proofs.laws.empty_log_is_cut.Goals as goal

pub returns : goal.returns
returns c = empty_cut
