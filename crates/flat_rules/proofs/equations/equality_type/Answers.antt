use Rattle.flat_instances.proofs.TablesGrow.{tables_grow_further}
use Rattle.flat_rules.proofs.equations.equality_type.Goals as goal

pub returns-in_err-predicates-clause-grows : goal.returns-in_err-predicates-clause-grows
returns-in_err-predicates-clause-grows c = tables_grow_further _ _ _ c.bool_type.ensures.grows c.put_function.ensures.grows

pub returns-clause-grows : goal.returns-clause-grows
returns-clause-grows c = tables_grow_further _ _ _ (tables_grow_further _ _ _ c.bool_type.ensures.grows c.put_function.ensures.grows) c.put_function-2.ensures.grows
