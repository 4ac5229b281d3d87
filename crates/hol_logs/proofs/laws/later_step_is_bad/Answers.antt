use Rattle.hol_logs.proofs.Examples.{later_step}
use Rattle.hol_logs.proofs.laws.later_step_is_bad.Goals as goal

pub returns : goal.returns
returns c = later_step
