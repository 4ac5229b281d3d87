use Rattle.log_laws.proofs.Reports.{bad_sound}
use Rattle.log_laws.proofs.laws.reports_of_bad_logs_are_sound.Goals as goal

pub returns : goal.returns
returns c = bad_sound
