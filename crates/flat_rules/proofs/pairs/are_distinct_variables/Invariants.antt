use Rattle.std.proofs.Common.{◌≡◌, drop}
use Rattle.hol_terms.specs.Rules.{are_distinct_vars}
use Rattle.flat_instances.specs.Terms.{term_pairs}
use Rattle.flat_rules.proofs.pairs.are_distinct_variables.Given as goal

abbrev pub invariant-loop-i : goal.invariant-loop-i
invariant-loop-i l = are_distinct_vars (term_pairs l.tables l.pairs) ≡ are_distinct_vars (term_pairs l.tables (drop l.i l.pairs))
