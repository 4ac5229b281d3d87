use Rattle.std.proofs.Common.{◌≡◌, drop}
use Rattle.hol_terms.specs.Subst.{ty_lookup}
use Rattle.flat_terms.specs.Plain.{name_of}
use Rattle.flat_instances.specs.Types.{type_pairs}
use Rattle.flat_instances.proofs.types.replacement.Given as goal

abbrev pub invariant-loop-key : goal.invariant-loop-key
invariant-loop-key l = ty_lookup (type_pairs l.tables l.pairs) (name_of l.tables l.name) ≡ ty_lookup (type_pairs l.tables (drop l.key-index l.pairs)) (name_of l.tables l.name)
