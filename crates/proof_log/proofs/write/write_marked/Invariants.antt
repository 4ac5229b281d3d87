use Rattle.std.proofs.Common.{◌+◌, ◌≤◌, length, drop}
use Rattle.proof_log.specs.Marks.{AreInOrder}
use Rattle.proof_log.specs.Gained.{marked_lines}
use Rattle.proof_log.proofs.Writing.{Progress}
use Rattle.proof_log.proofs.write.write_marked.Given as goal

-- the steps up to the last mark and the marks so far are written, and the rest is left
abbrev pub invariant-loop-mark : goal.invariant-loop-mark
invariant-loop-mark g l = record {
  progress : Progress (g.O.Sink.kept l.initial.out) (g.O.Sink.kept l.out) l.count (marked_lines l.k l.defs l.steps 0 l.marks) (marked_lines l.k l.defs l.steps l.done (drop l.mark-index l.marks));
  ordered : AreInOrder l.done (drop l.mark-index l.marks);
  placed : l.done ≤ length l.steps;
  within : l.count ≤ l.done + l.mark-index;
  counted : g.O.Sink.faults l.initial.out ≤ g.O.Sink.faults l.out;
}
