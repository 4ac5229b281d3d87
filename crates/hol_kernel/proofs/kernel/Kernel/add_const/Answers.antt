use Rattle.hol_kernel.proofs.Steps.{made_has, made_keeps, one_more}
use Rattle.hol_kernel.proofs.kernel.Kernel.add_const.Goals as goal

pub returns-clause-has : goal.returns-clause-has
returns-clause-has c = made_has c.in_ok-th.ensures.ok

pub returns-clause-keeps : goal.returns-clause-keeps
returns-clause-keeps c = made_keeps (one_more _ _) c.in_ok-th.ensures.ok
