use Rattle.strict_reading.proofs.TermsComplete.{whole_sound, whole_complete}
use Rattle.strict_reading.proofs.laws.whole_texts_are_decided.Goals as goal

pub returns-clause-read : goal.returns-clause-read
returns-clause-read c = λ s x t h. whole_sound s x t h

pub returns-clause-readable : goal.returns-clause-readable
returns-clause-readable c = λ s x t back small e over. whole_complete s x t back small e over
