use Rattle.std.proofs.Common.{refl}
use Rattle.hol_kernel.proofs.Calculus.{deduct_derives}
use Rattle.hol_kernel.proofs.laws.deduct_antisym.Goals as goal

pub returns-clause-gives : goal.returns-clause-gives
returns-clause-gives c = λ A B p q. refl

pub returns-clause-derives : goal.returns-clause-derives
returns-clause-derives c = deduct_derives
