use Rattle.replay_check.proofs.Taking.{section_utf8}
use Rattle.replay_check.proofs.position.Position.take_section.Goals as goal

pub joined-requires : goal.joined-requires
joined-requires c = section_utf8 c.args.text.now c.requires.section
