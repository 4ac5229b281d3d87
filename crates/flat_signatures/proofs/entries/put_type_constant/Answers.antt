use Rattle.std.proofs.Common.{[]}
use Rattle.flat_instances.proofs.TablesGrow.{tables_grow_further}
use Rattle.flat_signatures.proofs.Numbers.{grows_by_type, applied_result}
use Rattle.flat_signatures.proofs.entries.put_type_constant.Goals as goal

pub returns-clause-grows : goal.returns-clause-grows
returns-clause-grows c = tables_grow_further c.args.tables.now c.put_name.new.tables c.type_application.new.self c.put_name.ensures.grows (grows_by_type c.put_name.new.tables c.type_application.new.self _ c.type_application.result c.type_application.ensures.ok c.type_application.ensures.err)

pub returns-clause-ok : goal.returns-clause-ok
returns-clause-ok c = applied_result c.args.tables.now c.put_name.new.tables c.type_application.new.self c.in_ok-name.name _ [] c.type_application.result c.put_name.ensures.grows c.in_ok-name.ensures.ok tt c.type_application.ensures.ok
