use Rattle.std.proofs.Common.{◌≤◌, drop}
use Rattle.proof_log.specs.Gained.{steps_lines}
use Rattle.proof_log.proofs.Writing.{Progress}
use Rattle.proof_log.proofs.write.write_steps.Given as goal

-- the lines of the steps so far are written, and the rest is left
abbrev pub invariant-loop-step : goal.invariant-loop-step
invariant-loop-step g l = record {
  progress : Progress (g.O.Sink.kept l.initial.out) (g.O.Sink.kept l.out) l.count (steps_lines l.defs l.steps) (steps_lines l.defs (drop l.step-index l.steps));
  within : l.count ≤ l.step-index;
  counted : g.O.Sink.faults l.initial.out ≤ g.O.Sink.faults l.out;
}
