use Rattle.std.proofs.Common.{refl}
use Rattle.hol_kernel.proofs.Calculus.{refl_derives}
use Rattle.hol_kernel.proofs.laws.refl.Goals as goal

pub returns-clause-gives : goal.returns-clause-gives
returns-clause-gives c = λ t. refl

pub returns-clause-derives : goal.returns-clause-derives
returns-clause-derives c = refl_derives
