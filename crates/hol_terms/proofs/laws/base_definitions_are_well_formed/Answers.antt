use Rattle.hol_terms.proofs.BaseTyped.{base_well_formed}
use Rattle.hol_terms.proofs.laws.base_definitions_are_well_formed.Goals as goal

pub returns : goal.returns
returns c = base_well_formed
