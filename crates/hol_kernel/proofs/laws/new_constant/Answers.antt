use Rattle.hol_terms.proofs.Defining.{const_derivable}
use Rattle.hol_kernel.proofs.laws.new_constant.Goals as goal

pub returns : goal.returns
returns c = const_derivable
