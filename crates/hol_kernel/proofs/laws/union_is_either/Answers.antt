use Rattle.hol_kernel.proofs.Members.{union_has}
use Rattle.hol_kernel.proofs.Ascending.{union_ascends}
use Rattle.hol_kernel.proofs.laws.union_is_either.Goals as goal

pub returns-clause-members : goal.returns-clause-members
returns-clause-members c = union_has

pub returns-clause-ascends : goal.returns-clause-ascends
returns-clause-ascends c = union_ascends
