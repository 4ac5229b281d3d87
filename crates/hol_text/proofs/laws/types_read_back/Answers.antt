use Rattle.hol_text.proofs.ReadBack.{type_read_back}
use Rattle.hol_text.proofs.laws.types_read_back.Goals as goal

pub returns : goal.returns
returns c = type_read_back
