use Rattle.hol_text.proofs.Examples as Read
use Rattle.hol_text.proofs.samples.terms_read_so.Goals as goal

pub returns : goal.returns
returns c = Read.terms_read_so
