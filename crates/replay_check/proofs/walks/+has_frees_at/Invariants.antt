use Rattle.replay_check.proofs.walks.+has_frees_at.Given as goal

abbrev pub decreases-has_frees_at : goal.decreases-has_frees_at
decreases-has_frees_at l = l.term.0
