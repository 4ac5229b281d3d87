use Rattle.flat_instances.proofs.TablesGrow.{tables_grow_further}
use Rattle.flat_rules.proofs.definitions.abs_rep_equation.Goals as goal

pub returns-clause-grows : goal.returns-clause-grows
returns-clause-grows c = tables_grow_further _ _ _ c.variable.ensures.grows c.round_trip.ensures.grows
