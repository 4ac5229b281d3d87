use Rattle.std.proofs.Common.{◌≡◌, drop}
use Rattle.flat_rules.proofs.Within.{AllIn}
use Rattle.flat_rules.proofs.variables.are_among.Given as goal

abbrev pub invariant-loop-ty : goal.invariant-loop-ty
invariant-loop-ty l = AllIn l.tables l.set.keys l.types ≡ AllIn l.tables l.set.keys (drop l.ty-index l.types)
