use Rattle.std.proofs.Common.{◌≡◌, drop}
use Rattle.hol_terms.specs.Binding.{var_lookup}
use Rattle.flat_terms.specs.Plain.{term_of}
use Rattle.flat_walks.specs.Walk.{var_of}
use Rattle.flat_instances.specs.Terms.{term_pairs}
use Rattle.flat_instances.proofs.instance.stand_in.Given as goal

abbrev pub invariant-loop-key : goal.invariant-loop-key
invariant-loop-key l = var_lookup (term_pairs l.tables l.pairs) (var_of (term_of l.tables l.variable)) ≡ var_lookup (term_pairs l.tables (drop l.key-index l.pairs)) (var_of (term_of l.tables l.variable))
