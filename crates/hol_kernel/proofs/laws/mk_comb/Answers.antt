use Rattle.hol_kernel.proofs.Textbook.{comb_gives, comb_only}
use Rattle.hol_kernel.proofs.Calculus.{comb_derives}
use Rattle.hol_kernel.proofs.laws.mk_comb.Goals as goal

pub returns-clause-gives : goal.returns-clause-gives
returns-clause-gives c = comb_gives

pub returns-clause-only : goal.returns-clause-only
returns-clause-only c = comb_only

pub returns-clause-derives : goal.returns-clause-derives
returns-clause-derives c = comb_derives
