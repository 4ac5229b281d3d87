use Rattle.hol_text.proofs.ReadBack.{term_read_back}
use Rattle.hol_text.proofs.laws.terms_read_back.Goals as goal

pub returns : goal.returns
returns c = term_read_back
