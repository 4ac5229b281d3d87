use Rattle.replay_check.proofs.Later.{prefix_before, definition_stays}
use Rattle.replay_check.proofs.bases.is_next_base.Goals as goal

pub put_base-requires-clause-before : goal.put_base-requires-clause-before
put_base-requires-clause-before c = prefix_before c.args.tables.now c.args.definitions.now _ c.requires.prefix c.requires.plain

pub are_same-requires-clause-a : goal.are_same-requires-clause-a
are_same-requires-clause-a c = definition_stays _ _ c.args.definition c.put_base.ensures.grows c.requires.definition
