use Rattle.hol_kernel.proofs.Calculus.{axiom_derives}
use Rattle.hol_kernel.proofs.laws.axioms_are_derivable.Goals as goal

pub returns : goal.returns
returns c = axiom_derives
