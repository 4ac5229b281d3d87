use Rattle.decl_facts.proofs.Applied.{HaveNoLoose-equations_take}
use Rattle.decl_facts.proofs.terms.equations.Goals as goal

pub returns-clause-closed : goal.returns-clause-closed
returns-clause-closed c = λ h k. HaveNoLoose-equations_take _ _ _ _ c.loop-i.invariant h k
