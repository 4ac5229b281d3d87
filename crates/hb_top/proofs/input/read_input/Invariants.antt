use Rattle.std.proofs.Common.{◌≤◌, ◌-◌, length}
use Rattle.hb_io.specs.Told.{Takes}
use Rattle.hb_top.proofs.input.read_input.Given as goal

abbrev pub invariant-loop-buf : goal.invariant-loop-buf
invariant-loop-buf g l = record {
  within : length l.input.items ≤ l.most;
  taken : Takes (g.S.Source.left l.initial.src) (g.S.Source.left l.src) l.input.items;
  counted : g.S.Source.faults l.initial.src ≤ g.S.Source.faults l.src;
}

abbrev pub decreases-loop-buf : goal.decreases-loop-buf
decreases-loop-buf g l = l.most - length l.input.items
