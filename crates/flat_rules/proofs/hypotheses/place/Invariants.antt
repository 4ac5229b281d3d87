use Rattle.flat_rules.proofs.Placing.{IsPlacing}
use Rattle.flat_rules.proofs.hypotheses.place.Given as goal

abbrev pub invariant-loop-i : goal.invariant-loop-i
invariant-loop-i l = IsPlacing l.tables l.term l.hyps l.i
