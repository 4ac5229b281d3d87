use Rattle.hol_kernel.proofs.Steps.{type_has, type_keeps}
use Rattle.hol_kernel.proofs.kernel.Kernel.add_type.Goals as goal

pub returns-clause-has : goal.returns-clause-has
returns-clause-has c = type_has c.in_ok-both.ensures.ok

pub returns-clause-keeps : goal.returns-clause-keeps
returns-clause-keeps c = type_keeps c.in_ok-both.ensures.ok
