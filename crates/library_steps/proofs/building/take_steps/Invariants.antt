use Rattle.std.proofs.Common.{◌≡◌, take}
use Rattle.script_core.specs.Shelves.{ShelfHad}
use Rattle.library_steps.specs.Building.{Keeps, Extends, facts_on, made, proved}
use Rattle.library_steps.proofs.building.take_steps.Given as goal

abbrev pub invariant-loop-i : goal.invariant-loop-i
invariant-loop-i l = record {
  defs : l.k.defs ≡ made l.fn.k.defs (take l.i l.steps);
  facts : facts_on l.s ≡ proved (facts_on l.fn.s) (take l.i l.steps);
  shelf : ShelfHad l.k l.s;
  more : Extends l.fn.s l.s;
  keeps : Keeps l.fn.k l.k;
}
