use Rattle.hol_kernel.proofs.Conditions.{are_distinct_types-each, are_distinct_vars-each}
use Rattle.hol_kernel.proofs.laws.left_sides_are_distinct.Goals as goal

pub returns-clause-types : goal.returns-clause-types
returns-clause-types c = are_distinct_types-each

pub returns-clause-terms : goal.returns-clause-terms
returns-clause-terms c = are_distinct_vars-each
