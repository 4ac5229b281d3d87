use Rattle.std.proofs.Common.{length}
use Rattle.strict_lines.specs.Operands.{reads_type_pair}
use Rattle.flat_instances.specs.Types.{HasTypePairs, type_pairs}
use Rattle.flat_lines.proofs.PairsSoFar.{SoFar}
use Rattle.flat_lines.proofs.pairs.read_type_pairs.Given as goal

abbrev pub invariant-loop-pairs : goal.invariant-loop-pairs
invariant-loop-pairs l = SoFar HasTypePairs type_pairs reads_type_pair l.fn.tables l.tables l.signature l.text l.pairs.items l.rest

abbrev pub decreases-loop-pairs : goal.decreases-loop-pairs
decreases-loop-pairs l = length l.rest
