use Rattle.hol_text.proofs.Examples as Read
use Rattle.hol_text.proofs.samples.types_read_so.Goals as goal

pub returns : goal.returns
returns c = Read.types_read_so
