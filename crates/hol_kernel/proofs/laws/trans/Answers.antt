use Rattle.hol_kernel.proofs.Textbook.{trans_gives, trans_only}
use Rattle.hol_kernel.proofs.Calculus.{trans_derives}
use Rattle.hol_kernel.proofs.laws.trans.Goals as goal

pub returns-clause-gives : goal.returns-clause-gives
returns-clause-gives c = trans_gives

pub returns-clause-only : goal.returns-clause-only
returns-clause-only c = trans_only

pub returns-clause-derives : goal.returns-clause-derives
returns-clause-derives c = trans_derives
