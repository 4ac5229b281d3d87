use Rattle.flat_terms.proofs.Build.{name_found, name_interned}
use Rattle.flat_terms.proofs.tables.put_name.Goals as goal

pub returns-in-Some-clause-ok : goal.returns-in-Some-clause-ok
returns-in-Some-clause-ok c = name_found _ _ _ c.in-Some.ensures.index

pub returns-clause-ok : goal.returns-clause-ok
returns-clause-ok c = name_interned _ _ _ _ _ c.in_ok-name.ensures.ok c.in_ok-place.ensures.keys c.in_ok-place.ensures.stored
