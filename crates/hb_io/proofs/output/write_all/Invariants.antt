use Rattle.std.proofs.Common.{length, ◌-◌, ◌≤◌, take}
use Rattle.hb_io.specs.Told.{Appends}
use Rattle.hb_io.proofs.output.write_all.Given as goal

-- what was written is the front of the bytes, and no count fell
abbrev pub invariant-loop-written : goal.invariant-loop-written
invariant-loop-written g l = record {
  within : l.written ≤ length l.bytes;
  appended : Appends (g.O.Sink.kept l.initial.out) (g.O.Sink.kept l.out) (take l.written l.bytes);
  counted : g.O.Sink.faults l.initial.out ≤ g.O.Sink.faults l.out;
}

abbrev pub decreases-loop-written : goal.decreases-loop-written
decreases-loop-written g l = length l.bytes - l.written
