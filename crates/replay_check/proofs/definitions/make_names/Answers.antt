use Rattle.flat_instances.proofs.TablesGrow.{tables_grow_further}
use Rattle.replay_check.proofs.definitions.make_names.Goals as goal

pub returns-in_err-rep-clause-grows : goal.returns-in_err-rep-clause-grows
returns-in_err-rep-clause-grows c = tables_grow_further _ _ _ c.put_dotted.ensures.grows c.put_dotted-2.ensures.grows

pub returns-clause-grows : goal.returns-clause-grows
returns-clause-grows c = tables_grow_further _ _ _ c.put_dotted.ensures.grows c.put_dotted-2.ensures.grows
