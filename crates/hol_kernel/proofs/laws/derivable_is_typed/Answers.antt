use Rattle.hol_terms.proofs.Weaken.{Proves-typed}
use Rattle.hol_kernel.proofs.laws.derivable_is_typed.Goals as goal

pub returns : goal.returns
returns c = λ ds a d. Proves-typed d.proof
