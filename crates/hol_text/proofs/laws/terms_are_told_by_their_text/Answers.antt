use Rattle.hol_text.proofs.ReadBack.{term_by_text}
use Rattle.hol_text.proofs.laws.terms_are_told_by_their_text.Goals as goal

pub returns : goal.returns
returns c = term_by_text
