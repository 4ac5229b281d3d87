use Rattle.std.proofs.Common.{◌≡◌, ◌++◌, drop}
use Rattle.hol_terms.specs.TyVars.{pairs_of}
use Rattle.flat_terms.specs.Plain.{types_of}
use Rattle.flat_instances.specs.Types.{HasTypePairs, type_pairs}
use Rattle.flat_signatures.proofs.constants.pairs_of.Given as goal

abbrev pub invariant-loop-i : goal.invariant-loop-i
invariant-loop-i l = record {
  has : HasTypePairs l.tables l.pairs.items;
  done : pairs_of (types_of l.tables l.variables) (types_of l.tables l.args) ≡ type_pairs l.tables l.pairs.items ++ pairs_of (types_of l.tables (drop l.i l.variables)) (types_of l.tables (drop l.i l.args));
}
