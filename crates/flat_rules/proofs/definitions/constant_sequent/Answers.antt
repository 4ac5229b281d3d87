use Rattle.flat_instances.proofs.TablesGrow.{tables_grow_further}
use Rattle.flat_rules.proofs.definitions.constant_sequent.Goals as goal

pub returns-in_err-concl-clause-grows : goal.returns-in_err-concl-clause-grows
returns-in_err-concl-clause-grows c = tables_grow_further _ _ _ c.own_constant.ensures.grows c.make_equation.ensures.grows

pub returns-clause-grows : goal.returns-clause-grows
returns-clause-grows c = tables_grow_further _ _ _ c.own_constant.ensures.grows c.make_equation.ensures.grows
