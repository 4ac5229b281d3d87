use Rattle.strict_reading.proofs.TermsAgree.{reads_term_steps, reads_arguments_steps}
use Rattle.strict_reading.proofs.laws.terms_are_read_by_steps.Goals as goal

pub returns-clause-whole : goal.returns-clause-whole
returns-clause-whole c = λ s bound x o. reads_term_steps s bound x o

pub returns-clause-onward : goal.returns-clause-onward
returns-clause-onward c = λ s bound t x o. reads_arguments_steps s bound t x o
