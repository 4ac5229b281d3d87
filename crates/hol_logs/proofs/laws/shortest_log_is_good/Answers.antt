use Rattle.hol_logs.proofs.Examples.{shortest_good, shortest_cut}
use Rattle.hol_logs.proofs.laws.shortest_log_is_good.Goals as goal

pub returns : goal.returns
returns c = record { good = shortest_good; cut = shortest_cut }
