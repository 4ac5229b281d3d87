use Rattle.flat_terms.specs.Plain.{name_of, term_of}
use Rattle.flat_instances.proofs.TablesGrow.{tables_grow_further}
use Rattle.replay_check.proofs.TypeNames.{bridge_types}
use Rattle.replay_check.proofs.definitions.make_types.Goals as goal

pub returns-in_err-abs-clause-grows : goal.returns-in_err-abs-clause-grows
returns-in_err-abs-clause-grows c = tables_grow_further _ _ _ c.make_new_type.ensures.grows c.put_function.ensures.grows

pub returns-in_err-rep-clause-grows : goal.returns-in_err-rep-clause-grows
returns-in_err-rep-clause-grows c = tables_grow_further _ _ _ (tables_grow_further _ _ _ c.make_new_type.ensures.grows c.put_function.ensures.grows) c.put_function-2.ensures.grows

pub returns-clause-grows : goal.returns-clause-grows
returns-clause-grows c = tables_grow_further _ _ _ (tables_grow_further _ _ _ c.make_new_type.ensures.grows c.put_function.ensures.grows) c.put_function-2.ensures.grows

pub returns-clause-ok : goal.returns-clause-ok
returns-clause-ok c =
    bridge_types c.args.tables.now c.make_new_type.new.tables c.put_function.new.tables c.put_function-2.new.tables (name_of c.args.tables.now c.args.name) (term_of c.args.tables.now c.args.predicate) c.type_of.result c.in-Some.domain c.in-Some.field-0-1 (record { new = c.in_ok-new.new; abs = c.in_ok-abs.abs; rep = c.in_ok-rep.rep })
    c.type_of.ensures.has c.type_of.ensures.ty c.in-Some.ensures.parts c.requires.typed c.make_new_type.ensures.grows c.put_function.ensures.grows c.put_function-2.ensures.grows c.in_ok-new.ensures.ok c.in_ok-abs.ensures.ok c.in_ok-rep.ensures.ok
