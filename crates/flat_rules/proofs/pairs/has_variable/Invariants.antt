use Rattle.std.proofs.Common.{◌≡◌, drop}
use Rattle.flat_rules.proofs.PairSteps.{any_variable}
use Rattle.flat_rules.proofs.pairs.has_variable.Given as goal

abbrev pub invariant-loop-key : goal.invariant-loop-key
invariant-loop-key l = any_variable l.tables l.variable l.pairs ≡ any_variable l.tables l.variable (drop l.key-index l.pairs)
