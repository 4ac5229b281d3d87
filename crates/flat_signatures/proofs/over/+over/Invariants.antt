use Rattle.std.proofs.Common.{◌≡◌, ◌+◌, ◌*◌, drop}
use Rattle.hol_terms.specs.Ty.{tys}
use Rattle.strict_reading.specs.Terms.{are_types_over}
use Rattle.flat_terms.specs.Plain.{types_of}
use Rattle.flat_instances.proofs.TypeSteps.{most}
use Rattle.flat_signatures.specs.FlatNames.{plain_signature}
use Rattle.flat_signatures.specs.Over.{AllOver}
use Rattle.flat_signatures.proofs.over.+over.Given as goal

abbrev pub decreases-is_over : goal.decreases-is_over
decreases-is_over l = 2 * l.ty.0 + 1

abbrev pub decreases-are_over : goal.decreases-are_over
decreases-are_over l = 2 * most l.types.now

abbrev pub invariant-are_over-loop-ty : goal.invariant-are_over-loop-ty
invariant-are_over-loop-ty l = record {
  known : AllOver l.tables l.signature l.known.keys;
  left : are_types_over (plain_signature l.tables l.signature) (tys (types_of l.tables l.types)) ≡ are_types_over (plain_signature l.tables l.signature) (tys (types_of l.tables (drop l.ty-index l.types)));
}
