use Rattle.hol_kernel.proofs.Ascending.{proved_ascends}
use Rattle.hol_kernel.proofs.laws.hypotheses_ascend.Goals as goal

pub returns : goal.returns
returns c = λ ds a d. proved_ascends d.proof
