use Rattle.flat_signatures.specs.FlatNames.{plain_signature}
use Rattle.flat_terms.specs.Plain.{name_of}
use Rattle.replay_check.proofs.TypeNames.{rep_behind_abs}
use Rattle.replay_check.proofs.definitions.add_names.Goals as goal

pub add_constant-requires-2-clause-new : goal.add_constant-requires-2-clause-new
add_constant-requires-2-clause-new c =
    rep_behind_abs (plain_signature c.args.tables.now c.args.signature.now) (plain_signature c.args.tables.now c.add_type.new.self) (plain_signature c.args.tables.now c.add_constant.new.self) (name_of c.args.tables.now c.args.name) (name_of c.args.tables.now c.args.names.abs) (name_of c.args.tables.now c.args.names.rep)
    _ _ c.requires.new c.in_ok-add_type.ensures.ok c.requires.names.to.text c.in_ok-add_constant.ensures.ok c.requires.names.from.text
