use Rattle.flat_rules.proofs.variables.+add_term_variables.Given as goal

abbrev pub decreases-add_term_variables : goal.decreases-add_term_variables
decreases-add_term_variables l = l.term.0
