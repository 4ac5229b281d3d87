use Rattle.log_laws.proofs.Reports.{part_sound}
use Rattle.log_laws.proofs.laws.parts_of_reports_are_sound.Goals as goal

pub returns : goal.returns
returns c = part_sound
