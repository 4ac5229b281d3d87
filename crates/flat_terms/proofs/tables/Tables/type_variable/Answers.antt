use Rattle.std.proofs.Common.{refl}
use Rattle.flat_terms.proofs.Build.{type_built, same_lists}
use Rattle.flat_terms.proofs.tables.Tables.type_variable.Goals as goal

pub invariant_of-self-2 : goal.invariant_of-self-2
invariant_of-self-2 c = (type_built _ _ _ _ _ _ _ _ _ _ c.self.view_is (same_lists _ _ _ _ c.self.invariant) c.requires refl c.in_ok-place.ensures.ok).1

pub returns-clause-ok : goal.returns-clause-ok
returns-clause-ok c = (type_built _ _ _ _ _ _ _ _ _ _ c.self.view_is (same_lists _ _ _ _ c.self.invariant) c.requires refl c.in_ok-place.ensures.ok).0
