use Rattle.std.proofs.Common.{◌≤◌}
use Rattle.log_replay.proofs.Bytes.{Standing}
use Rattle.log_replay.proofs.replay.feed_lines.Given as goal

-- the lines among the bytes so far were fed
abbrev pub invariant-loop-at : goal.invariant-loop-at
invariant-loop-at g l = record {
  standing : Standing l.log l.at l.start l.checker (g.O.Sink.kept l.initial.out) (g.O.Sink.kept l.out);
  counted : g.O.Sink.faults l.initial.out ≤ g.O.Sink.faults l.out;
}
