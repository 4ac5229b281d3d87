use Rattle.strict_reading.proofs.TermsSound.{reads_term_sound}
use Rattle.strict_reading.proofs.laws.terms_read_are_well_typed.Goals as goal

pub returns : goal.returns
returns c = λ s bound x t rest o h. let r = reads_term_sound s bound x t rest o h in (r.text, r.over)
