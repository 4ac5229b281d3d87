use Rattle.flat_terms.specs.Plain.{term_of}
use Rattle.flat_instances.proofs.TablesGrow.{tables_grow_further}
use Rattle.flat_rules.proofs.DefinitionSteps.{bridge_made}
use Rattle.flat_rules.proofs.definitions.make_bridge.Goals as goal

pub returns-in_err-abs-clause-grows : goal.returns-in_err-abs-clause-grows
returns-in_err-abs-clause-grows c = tables_grow_further _ _ _ c.make_new_type.ensures.grows c.dotted_constant.ensures.grows

pub returns-in_err-rep-clause-grows : goal.returns-in_err-rep-clause-grows
returns-in_err-rep-clause-grows c = tables_grow_further _ _ _ (tables_grow_further _ _ _ c.make_new_type.ensures.grows c.dotted_constant.ensures.grows) c.dotted_constant-2.ensures.grows

pub returns-clause-grows : goal.returns-clause-grows
returns-clause-grows c = tables_grow_further _ _ _ (tables_grow_further _ _ _ c.make_new_type.ensures.grows c.dotted_constant.ensures.grows) c.dotted_constant-2.ensures.grows

pub returns-clause-ok : goal.returns-clause-ok
returns-clause-ok c = bridge_made c.args.tables.now c.make_new_type.new.tables c.dotted_constant.new.tables c.dotted_constant-2.new.tables c.args.name (term_of c.args.tables.now c.args.predicate) c.domain_of-old_type.result c.in_ok-new_type.new_type c.in_ok-abs.abs c.in_ok-rep.rep c.requires.name c.domain_of-old_type.ensures c.make_new_type.ensures.grows c.in_ok-new_type.ensures.ok c.dotted_constant.ensures.grows c.in_ok-abs.ensures.ok c.dotted_constant-2.ensures.grows c.in_ok-rep.ensures.ok
