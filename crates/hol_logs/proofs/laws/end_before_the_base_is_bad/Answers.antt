use Rattle.hol_logs.proofs.Examples.{end_before_base}
use Rattle.hol_logs.proofs.laws.end_before_the_base_is_bad.Goals as goal

pub returns : goal.returns
returns c = end_before_base
