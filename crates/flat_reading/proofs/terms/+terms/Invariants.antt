use Rattle.std.proofs.Common.{◌+◌, ◌*◌, length}
use Rattle.flat_reading.proofs.terms.+terms.Given as goal

abbrev pub decreases-read_enclosed : goal.decreases-read_enclosed
decreases-read_enclosed l = 5 * length l.text.now + 4

abbrev pub decreases-read_below : goal.decreases-read_below
decreases-read_below l = 5 * length l.text.now + 3

abbrev pub decreases-read_operand : goal.decreases-read_operand
decreases-read_operand l = 5 * length l.text.now + 2

abbrev pub decreases-read_head : goal.decreases-read_head
decreases-read_head l = 5 * length l.text.now + 1

abbrev pub decreases-read_argument : goal.decreases-read_argument
decreases-read_argument l = 5 * length l.text.now + 1

abbrev pub decreases-read_scope : goal.decreases-read_scope
decreases-read_scope l = 5 * length l.text.now

abbrev pub decreases-read_arguments : goal.decreases-read_arguments
decreases-read_arguments l = 5 * length l.text.now

abbrev pub decreases-read_behind : goal.decreases-read_behind
decreases-read_behind l = 5 * length l.text.now
