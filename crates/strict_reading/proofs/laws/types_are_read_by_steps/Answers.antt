use Rattle.strict_reading.proofs.TypesAgree.{reads_type_steps, reads_onward_steps, reads_types_steps}
use Rattle.strict_reading.proofs.laws.types_are_read_by_steps.Goals as goal

pub returns-clause-whole : goal.returns-clause-whole
returns-clause-whole c = λ s x. reads_type_steps s x

pub returns-clause-onward : goal.returns-clause-onward
returns-clause-onward c = λ s t x. reads_onward_steps s t x

pub returns-clause-more : goal.returns-clause-more
returns-clause-more c = λ s x. reads_types_steps s x
