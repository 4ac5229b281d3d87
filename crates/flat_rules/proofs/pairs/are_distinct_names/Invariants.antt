use Rattle.std.proofs.Common.{◌≡◌, drop}
use Rattle.hol_terms.specs.Rules.{are_distinct_types}
use Rattle.flat_instances.specs.Types.{type_pairs}
use Rattle.flat_rules.proofs.pairs.are_distinct_names.Given as goal

abbrev pub invariant-loop-i : goal.invariant-loop-i
invariant-loop-i l = are_distinct_types (type_pairs l.tables l.pairs) ≡ are_distinct_types (type_pairs l.tables (drop l.i l.pairs))
