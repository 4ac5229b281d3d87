use Rattle.strict_reading.proofs.TypesComplete.{reads_type_complete}
use Rattle.strict_reading.proofs.laws.types_are_read.Goals as goal

pub returns : goal.returns
returns c = λ s t rest named over ends. reads_type_complete s named t rest over ends
