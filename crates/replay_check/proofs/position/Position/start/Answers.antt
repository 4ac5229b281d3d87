use Rattle.replay_check.proofs.Taking.{start_is}
use Rattle.replay_check.proofs.position.Position.start.Goals as goal

pub returns-clause-position : goal.returns-clause-position
returns-clause-position c = start_is _ _ _ _ c.new.ensures.items c.new-2.ensures.items c.in_ok-signature.ensures.has c.in_ok-signature.ensures.ok
