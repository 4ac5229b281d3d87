use Rattle.strict_reading.proofs.TermsSound.{reads_free_sound}
use Rattle.strict_reading.proofs.TermLeaves.{reads_free_complete}
use Rattle.strict_reading.proofs.laws.free_variables_are_read.Goals as goal

pub returns-clause-read : goal.returns-clause-read
returns-clause-read c = λ s x v rest h. let r = reads_free_sound s x v rest h in (r.text, (r.named, r.over))

pub returns-clause-readable : goal.returns-clause-readable
returns-clause-readable c = λ s v rest named o. reads_free_complete s named v rest o.0 o.1
