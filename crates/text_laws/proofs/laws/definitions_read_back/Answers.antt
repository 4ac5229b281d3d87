use Rattle.text_laws.proofs.Named.{reads_back}
use Rattle.text_laws.proofs.laws.definitions_read_back.Goals as goal

pub returns : goal.returns
returns c = reads_back
