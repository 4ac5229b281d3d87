use Rattle.flat_rules.proofs.Placing.{IsLeaving}
use Rattle.flat_rules.proofs.hypotheses.without_term.Given as goal

abbrev pub invariant-loop-hyp : goal.invariant-loop-hyp
invariant-loop-hyp l = IsLeaving l.tables l.term l.hyps l.left.items l.hyp-index
