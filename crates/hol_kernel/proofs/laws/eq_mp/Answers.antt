use Rattle.hol_kernel.proofs.Textbook.{eq_mp_gives, eq_mp_only}
use Rattle.hol_kernel.proofs.Calculus.{eq_mp_derives}
use Rattle.hol_kernel.proofs.laws.eq_mp.Goals as goal

pub returns-clause-gives : goal.returns-clause-gives
returns-clause-gives c = eq_mp_gives

pub returns-clause-only : goal.returns-clause-only
returns-clause-only c = eq_mp_only

pub returns-clause-derives : goal.returns-clause-derives
returns-clause-derives c = eq_mp_derives
