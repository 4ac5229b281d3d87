use Rattle.std.proofs.Common.{sym}
use Rattle.hb_io.proofs.ToldLemmas.{append_told-nil}
use Rattle.log_replay.proofs.replay.write_line.Goals as goal

pub returns-then-is_err-clause-cut : goal.returns-then-is_err-clause-cut
returns-then-is_err-clause-cut g c = (0, sym (append_told-nil _))
