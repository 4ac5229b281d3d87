use Rattle.hol_kernel.proofs.Members.{same_list}
use Rattle.hol_kernel.proofs.laws.hypotheses_are_a_set.Goals as goal

pub returns : goal.returns
returns c = same_list
