use Rattle.hol_kernel.proofs.Conditions.{free_in_none-each}
use Rattle.hol_kernel.proofs.laws.not_free_in_any.Goals as goal

pub returns : goal.returns
returns c = free_in_none-each
