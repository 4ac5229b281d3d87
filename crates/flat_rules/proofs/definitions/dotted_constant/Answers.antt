use Rattle.flat_instances.proofs.TablesGrow.{tables_grow_further}
use Rattle.flat_rules.proofs.definitions.dotted_constant.Goals as goal

pub returns-in_err-constant-clause-grows : goal.returns-in_err-constant-clause-grows
returns-in_err-constant-clause-grows c = tables_grow_further _ _ _ c.put_function.ensures.grows c.put_dotted.ensures.grows

pub returns-clause-grows : goal.returns-clause-grows
returns-clause-grows c = tables_grow_further _ _ _ (tables_grow_further _ _ _ c.put_function.ensures.grows c.put_dotted.ensures.grows) c.own_constant.ensures.grows
