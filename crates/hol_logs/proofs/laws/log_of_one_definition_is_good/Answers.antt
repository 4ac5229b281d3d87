use Rattle.hol_logs.proofs.Examples.{one_definition_good}
use Rattle.hol_logs.proofs.laws.log_of_one_definition_is_good.Goals as goal

pub returns : goal.returns
returns c = one_definition_good
