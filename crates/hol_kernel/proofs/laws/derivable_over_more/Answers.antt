use Rattle.hol_kernel.proofs.Calculus.{derivable_over}
use Rattle.hol_kernel.proofs.laws.derivable_over_more.Goals as goal

pub returns : goal.returns
returns c = derivable_over
