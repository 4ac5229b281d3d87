use Rattle.std.proofs.Common.{◌≡◌, [], drop}
use Rattle.hol_tables.specs.Building.{types_made}
use Rattle.hol_tables.proofs.build.make_types.Given as goal

abbrev pub invariant-loop-line : goal.invariant-loop-line
invariant-loop-line l = types_made [] l.lines ≡ types_made l.types.items (drop l.line-index l.lines)
