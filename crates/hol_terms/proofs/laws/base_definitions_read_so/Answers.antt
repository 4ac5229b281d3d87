use Rattle.hol_terms.proofs.BaseLinesRead.{base_lines-read}
use Rattle.hol_terms.proofs.laws.base_definitions_read_so.Goals as goal

pub returns : goal.returns
returns c = base_lines-read
