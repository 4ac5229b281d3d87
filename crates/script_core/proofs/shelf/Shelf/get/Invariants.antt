use Rattle.std.proofs.Common.{◌≢◌, ◌≤◌, All, drop, length}
use Rattle.library_facts.specs.Facts.{statement_of}
use Rattle.script_core.proofs.shelf.Shelf.get.Given as goal

abbrev pub invariant-loop-left : goal.invariant-loop-left
invariant-loop-left l = record {
  within : l.left ≤ length l.self-inside.entries.items;
  none : All (λ e. statement_of e.0 ≢ statement_of l.fact) (drop l.left l.self-inside.entries.items);
}

abbrev pub decreases-loop-left : goal.decreases-loop-left
decreases-loop-left l = l.left
