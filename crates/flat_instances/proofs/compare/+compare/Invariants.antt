use Rattle.flat_instances.proofs.compare.+compare.Given as goal

abbrev pub decreases-compare : goal.decreases-compare
decreases-compare l = l.a.0
