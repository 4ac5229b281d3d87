use Rattle.std.proofs.Common.{◌≡◌, drop}
use Rattle.hol_terms.specs.Rules.{keeps_types}
use Rattle.flat_instances.specs.Terms.{term_pairs}
use Rattle.flat_rules.proofs.pairs.have_types.Given as goal

abbrev pub invariant-loop-variable : goal.invariant-loop-variable
invariant-loop-variable l = keeps_types (term_pairs l.tables l.pairs) ≡ keeps_types (term_pairs l.tables (drop l.variable-index l.pairs))
