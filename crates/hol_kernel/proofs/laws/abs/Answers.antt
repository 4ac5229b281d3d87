use Rattle.hol_kernel.proofs.Textbook.{abs_gives, abs_only}
use Rattle.hol_kernel.proofs.Calculus.{abs_derives}
use Rattle.hol_kernel.proofs.laws.abs.Goals as goal

pub returns-clause-gives : goal.returns-clause-gives
returns-clause-gives c = abs_gives

pub returns-clause-only : goal.returns-clause-only
returns-clause-only c = abs_only

pub returns-clause-derives : goal.returns-clause-derives
returns-clause-derives c = abs_derives
