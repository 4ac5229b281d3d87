use Rattle.flat_rules.proofs.Placing.{IsUniting}
use Rattle.flat_rules.proofs.hypotheses.union_of.Given as goal

abbrev pub invariant-loop-term : goal.invariant-loop-term
invariant-loop-term l = IsUniting l.tables l.a l.b l.hyps.items l.term-index
