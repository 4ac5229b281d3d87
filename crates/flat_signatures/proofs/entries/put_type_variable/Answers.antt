use Rattle.flat_instances.proofs.TablesGrow.{tables_grow_further}
use Rattle.flat_signatures.proofs.Numbers.{grows_by_type, variable_number, IfOk-implies}
use Rattle.flat_signatures.proofs.entries.put_type_variable.Goals as goal

pub returns-clause-grows : goal.returns-clause-grows
returns-clause-grows c = tables_grow_further c.args.tables.now c.put_name.new.tables c.type_variable.new.self c.put_name.ensures.grows (grows_by_type c.put_name.new.tables c.type_variable.new.self _ c.type_variable.result c.type_variable.ensures.ok c.type_variable.ensures.err)

pub returns-clause-ok : goal.returns-clause-ok
returns-clause-ok c = IfOk-implies c.type_variable.result _ _ (λ n a. variable_number c.put_name.new.tables c.type_variable.new.self c.in_ok-name.name c.args.text.now n c.in_ok-name.ensures.ok a) c.type_variable.ensures.ok
