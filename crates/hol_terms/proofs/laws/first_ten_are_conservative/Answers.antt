use Rattle.hol_terms.proofs.BaseTyped.{base_conservative}
use Rattle.hol_terms.proofs.laws.first_ten_are_conservative.Goals as goal

pub returns : goal.returns
returns c = base_conservative
