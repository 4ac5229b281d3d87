use Rattle.strict_reading.proofs.TermsComplete.{reads_term_complete}
use Rattle.strict_reading.proofs.laws.terms_are_read.Goals as goal

pub returns : goal.returns
returns c = λ s bound t rest back over small ends. reads_term_complete s bound t rest back over small ends
