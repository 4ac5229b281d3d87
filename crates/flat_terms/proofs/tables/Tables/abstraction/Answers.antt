use Rattle.std.proofs.Common.{refl}
use Rattle.flat_terms.proofs.Build.{term_built, same_lists}
use Rattle.flat_terms.proofs.tables.Tables.abstraction.Goals as goal

pub invariant_of-self-2 : goal.invariant_of-self-2
invariant_of-self-2 c = (term_built _ _ _ _ _ _ _ _ _ _ c.self.view_is (same_lists _ _ _ _ c.self.invariant) (record { parts = (c.requires.bound, c.requires.body); has_type = c.requires.ty; typed = c.requires.typed }) refl c.in_ok-place.ensures.ok).1

pub returns-clause-ok : goal.returns-clause-ok
returns-clause-ok c = (term_built _ _ _ _ _ _ _ _ _ _ c.self.view_is (same_lists _ _ _ _ c.self.invariant) (record { parts = (c.requires.bound, c.requires.body); has_type = c.requires.ty; typed = c.requires.typed }) refl c.in_ok-place.ensures.ok).0
