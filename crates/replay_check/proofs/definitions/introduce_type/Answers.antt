use Rattle.std.proofs.Common.{sym, subst}
use Rattle.flat_instances.proofs.TablesGrow.{tables_grow_further}
use Rattle.flat_signatures.proofs.Signatures.{signature_there}
use Rattle.replay_check.specs.Bridges.{AreBridgeNames}
use Rattle.replay_check.proofs.TypeNames.{still_new, defined_type}
use Rattle.replay_check.proofs.definitions.introduce_type.Goals as goal

pub returns-in_err-names-clause-grows : goal.returns-in_err-names-clause-grows
returns-in_err-names-clause-grows c = tables_grow_further _ _ _ c.make_types.ensures.grows c.make_names.ensures.grows

pub add_names-requires-clause-signature : goal.add_names-requires-clause-signature
add_names-requires-clause-signature c = signature_there c.args.tables.now c.make_names.new.tables c.args.signature.now (tables_grow_further _ _ _ c.make_types.ensures.grows c.make_names.ensures.grows) c.requires.signature

pub add_names-requires-clause-names : goal.add_names-requires-clause-names
add_names-requires-clause-names c = subst (λ n. AreBridgeNames c.make_names.new.tables n c.in_ok-names.names) (sym (c.make_names.ensures.grows.same_name c.args.name (c.make_types.ensures.grows.has_name c.args.name c.requires.name))) c.in_ok-names.ensures.ok

pub add_names-requires-clause-new : goal.add_names-requires-clause-new
add_names-requires-clause-new c = still_new c.args.tables.now c.make_names.new.tables c.args.signature.now c.args.name (tables_grow_further _ _ _ c.make_types.ensures.grows c.make_names.ensures.grows) c.requires.signature c.requires.name c.requires.new

pub returns-clause-grows : goal.returns-clause-grows
returns-clause-grows c = tables_grow_further _ _ _ c.make_types.ensures.grows c.make_names.ensures.grows

pub returns-clause-ok : goal.returns-clause-ok
returns-clause-ok c =
    defined_type c.args.tables.now c.make_types.new.tables c.make_names.new.tables c.args.signature.now c.add_names.new.signature c.args.name c.args.predicate c.in_ok-types.types c.add_names.result c.make_types.ensures.grows c.make_names.ensures.grows c.requires.signature c.requires.name c.requires.predicate c.in_ok-types.ensures.ok c.add_names.ensures.ok
