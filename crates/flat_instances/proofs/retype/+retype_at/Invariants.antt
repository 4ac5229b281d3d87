use Rattle.flat_instances.proofs.retype.+retype_at.Given as goal

abbrev pub decreases-retype_at : goal.decreases-retype_at
decreases-retype_at l = l.term.0
