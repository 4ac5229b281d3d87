use Rattle.hol_text.proofs.ReadBack.{type_by_text}
use Rattle.hol_text.proofs.laws.types_are_told_by_their_text.Goals as goal

pub returns : goal.returns
returns c = type_by_text
