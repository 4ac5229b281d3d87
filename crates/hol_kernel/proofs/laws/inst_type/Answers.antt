use Rattle.hol_kernel.proofs.Textbook.{inst_type_gives, inst_type_only}
use Rattle.hol_kernel.proofs.Calculus.{inst_type_derives}
use Rattle.hol_kernel.proofs.laws.inst_type.Goals as goal

pub returns-clause-gives : goal.returns-clause-gives
returns-clause-gives c = inst_type_gives

pub returns-clause-only : goal.returns-clause-only
returns-clause-only c = inst_type_only

pub returns-clause-derives : goal.returns-clause-derives
returns-clause-derives c = inst_type_derives
