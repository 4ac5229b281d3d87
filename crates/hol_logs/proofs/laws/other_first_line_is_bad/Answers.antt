use Rattle.hol_logs.proofs.Examples.{other_first}
use Rattle.hol_logs.proofs.laws.other_first_line_is_bad.Goals as goal

pub returns : goal.returns
returns c = other_first
