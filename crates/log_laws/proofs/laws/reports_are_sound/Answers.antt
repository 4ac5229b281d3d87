use Rattle.log_laws.proofs.Reports.{good_sound}
use Rattle.log_laws.proofs.laws.reports_are_sound.Goals as goal

pub returns : goal.returns
returns c = good_sound
