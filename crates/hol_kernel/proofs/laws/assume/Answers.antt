use Rattle.hol_kernel.proofs.Textbook.{assume_gives, assume_only}
use Rattle.hol_kernel.proofs.Calculus.{assume_derives}
use Rattle.hol_kernel.proofs.laws.assume.Goals as goal

pub returns-clause-gives : goal.returns-clause-gives
returns-clause-gives c = assume_gives

pub returns-clause-only : goal.returns-clause-only
returns-clause-only c = assume_only

pub returns-clause-derives : goal.returns-clause-derives
returns-clause-derives c = assume_derives
