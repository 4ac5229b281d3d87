use Rattle.flat_instances.proofs.instance.+instance_at.Given as goal

abbrev pub decreases-instance_at : goal.decreases-instance_at
decreases-instance_at l = l.term.0
