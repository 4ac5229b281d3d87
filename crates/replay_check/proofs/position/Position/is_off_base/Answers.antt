use Rattle.replay_check.proofs.Taking.{position_reads_back}
use Rattle.replay_check.proofs.position.Position.is_off_base.Goals as goal

pub is_next_base-requires-clause-reads_back : goal.is_next_base-requires-clause-reads_back
is_next_base-requires-clause-reads_back c = position_reads_back c.args.self.now c.requires.position
