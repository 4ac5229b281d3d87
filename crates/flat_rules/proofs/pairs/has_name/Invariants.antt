use Rattle.std.proofs.Common.{◌≡◌, drop}
use Rattle.flat_rules.proofs.PairSteps.{any_name}
use Rattle.flat_rules.proofs.pairs.has_name.Given as goal

abbrev pub invariant-loop-key : goal.invariant-loop-key
invariant-loop-key l = any_name l.tables l.name l.pairs ≡ any_name l.tables l.name (drop l.key-index l.pairs)
