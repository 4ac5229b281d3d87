use Rattle.log_laws.proofs.OneReading.{line_by_text}
use Rattle.log_laws.proofs.laws.lines_have_one_reading.Goals as goal

pub returns : goal.returns
returns c = line_by_text
