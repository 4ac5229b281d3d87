use Rattle.flat_walks.proofs.occurs.+occurs_at.Given as goal

abbrev pub decreases-occurs_at : goal.decreases-occurs_at
decreases-occurs_at l = l.term.0
