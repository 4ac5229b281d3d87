use Rattle.hol_kernel.proofs.Calculus.{type_derives}
use Rattle.hol_kernel.proofs.laws.new_type.Goals as goal

pub returns : goal.returns
returns c = type_derives
