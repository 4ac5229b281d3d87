use Rattle.std.proofs.Common.{◌≡◌, ◌≤◌, ◌+◌, ◌*◌, length}
use Rattle.strict_reading.specs.Types.{reads_types}
use Rattle.flat_terms.specs.Plain.{HasTypes, types_of}
use Rattle.flat_instances.specs.TablesGrow.{TablesGrow}
use Rattle.flat_signatures.specs.FlatNames.{plain_signature}
use Rattle.flat_signatures.specs.Behind.{with_front}
use Rattle.flat_signatures.proofs.types.+types.Given as goal

abbrev pub decreases-read_type : goal.decreases-read_type
decreases-read_type l = 2 * length l.text.now

abbrev pub decreases-read_onward : goal.decreases-read_onward
decreases-read_onward l = 2 * length l.text.now

abbrev pub decreases-read_group : goal.decreases-read_group
decreases-read_group l = 2 * length l.text.now + 1

abbrev pub decreases-read_more : goal.decreases-read_more
decreases-read_more l = 2 * length l.text.now

-- what is left is read behind the types so far
abbrev pub invariant-read_more-loop-next : goal.invariant-read_more-loop-next
invariant-read_more-loop-next l = record {
  grows : TablesGrow l.fn.tables l.tables;
  has : HasTypes l.tables l.types.items;
  left : length l.rest ≤ length l.text;
  read : with_front (types_of l.fn.tables l.fn.types.items) (reads_types (plain_signature l.fn.tables l.signature) l.text) ≡ with_front (types_of l.tables l.types.items) (reads_types (plain_signature l.fn.tables l.signature) l.rest);
}

abbrev pub decreases-read_more-loop-next : goal.decreases-read_more-loop-next
decreases-read_more-loop-next l = length l.rest
