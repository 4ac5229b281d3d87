use Rattle.hol_kernel.proofs.Calculus.{run_derives}
use Rattle.hol_kernel.proofs.laws.steps_are_derivable.Goals as goal

pub returns : goal.returns
returns c = run_derives
