use Rattle.std.proofs.Common.{length}
use Rattle.strict_lines.specs.Operands.{reads_pair}
use Rattle.flat_instances.specs.Terms.{term_pairs}
use Rattle.flat_lines.specs.Operands.{HasPairs}
use Rattle.flat_lines.proofs.PairsSoFar.{SoFar}
use Rattle.flat_lines.proofs.pairs.read_pairs.Given as goal

abbrev pub invariant-loop-pairs : goal.invariant-loop-pairs
invariant-loop-pairs l = SoFar HasPairs term_pairs reads_pair l.fn.tables l.tables l.signature l.text l.pairs.items l.rest

abbrev pub decreases-loop-pairs : goal.decreases-loop-pairs
decreases-loop-pairs l = length l.rest
