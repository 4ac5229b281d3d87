use Rattle.hol_logs.proofs.Examples.{rule_fails}
use Rattle.hol_logs.proofs.laws.rule_that_fails_is_bad.Goals as goal

pub returns : goal.returns
returns c = rule_fails
