use Rattle.flat_walks.proofs.bind.+bind_at.Given as goal

abbrev pub decreases-bind_at : goal.decreases-bind_at
decreases-bind_at l = l.term.0
