use Rattle.flat_terms.proofs.Build.{name_built}
use Rattle.flat_terms.proofs.tables.Tables.name.Goals as goal

pub invariant_of-self-2 : goal.invariant_of-self-2
invariant_of-self-2 c = (name_built _ _ _ _ _ _ _ _ c.self.view_is c.self.invariant c.in_ok-place.ensures.ok).1

pub returns-clause-ok : goal.returns-clause-ok
returns-clause-ok c = (name_built _ _ _ _ _ _ _ _ c.self.view_is c.self.invariant c.in_ok-place.ensures.ok).0
