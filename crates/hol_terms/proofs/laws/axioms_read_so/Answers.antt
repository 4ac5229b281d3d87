use Rattle.hol_terms.proofs.BaseLinesRead.{axiom_lines-read}
use Rattle.hol_terms.proofs.laws.axioms_read_so.Goals as goal

pub returns : goal.returns
returns c = axiom_lines-read
