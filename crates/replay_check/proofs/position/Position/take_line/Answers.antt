use Rattle.replay_check.proofs.Taking.{section_inside, stop_utf8}
use Rattle.replay_check.proofs.position.Position.take_line.Goals as goal

pub take_section-requires-clause-inside : goal.take_section-requires-clause-inside
take_section-requires-clause-inside c = section_inside c.args.self.now c.args.line _ _ c.in-Section.is c.is_misplaced.ensures c.if-is_misplaced.false

pub take_stop-requires-clause-utf8 : goal.take_stop-requires-clause-utf8
take_stop-requires-clause-utf8 c = stop_utf8 c.args.self.now c.args.line _ _ c.in-Stop.is c.requires.line
