use Rattle.hb_top.proofs.Running.{unwritten_log, unwritten_good, unwritten_report}
use Rattle.hb_top.proofs.top.run.Goals as goal

pub returns-in-Err-clause-log_cut : goal.returns-in-Err-clause-log_cut
returns-in-Err-clause-log_cut g c = λ m. unwritten_log (g.S.Source.left c.args.src.now) (g.O.Sink.kept c.args.out.now)

pub returns-in-Err-clause-log_sound : goal.returns-in-Err-clause-log_sound
returns-in-Err-clause-log_sound g c = λ m. unwritten_good (g.O.Sink.kept c.args.out.now)

pub returns-in-Err-clause-replay_cut : goal.returns-in-Err-clause-replay_cut
returns-in-Err-clause-replay_cut g c = λ m. unwritten_report (g.S.Source.left c.args.src.now) (g.O.Sink.kept c.args.out.now)
