use Rattle.hol_kernel.proofs.Members.{without_has}
use Rattle.hol_kernel.proofs.Ascending.{without_ascends}
use Rattle.hol_kernel.proofs.laws.without_is_the_others.Goals as goal

pub returns-clause-members : goal.returns-clause-members
returns-clause-members c = without_has

pub returns-clause-ascends : goal.returns-clause-ascends
returns-clause-ascends c = without_ascends
