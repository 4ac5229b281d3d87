use Rattle.hol_kernel.proofs.Steps.{made_has, made_grows}
use Rattle.hol_kernel.proofs.kernel.Kernel.add.Goals as goal

pub returns-clause-has : goal.returns-clause-has
returns-clause-has c = made_has c.in_ok-th.ensures.ok

pub returns-clause-grows : goal.returns-clause-grows
returns-clause-grows c = made_grows c.in_ok-th.ensures.ok
