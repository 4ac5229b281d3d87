use Rattle.std.proofs.Common.{◌≡◌, [], drop}
use Rattle.hol_tables.specs.Building.{listed}
use Rattle.hol_tables.proofs.build.types_at.Given as goal

abbrev pub invariant-loop-place : goal.invariant-loop-place
invariant-loop-place l = listed l.types [] l.places ≡ listed l.types l.found.items (drop l.place-index l.places)
