use Rattle.strict_reading.proofs.TypesSound.{reads_type_sound}
use Rattle.strict_reading.proofs.laws.types_read_are_well_formed.Goals as goal

pub returns : goal.returns
returns c = λ s x t rest h. let r = reads_type_sound s x t rest h in (r.text, r.over)
