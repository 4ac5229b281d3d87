use Rattle.std.proofs.Common.{◌+◌, ◌*◌, max}
use Rattle.flat_printing.proofs.terms.+terms.Given as goal

abbrev pub decreases-push_below : goal.decreases-push_below
decreases-push_below l = 3 * l.term.0

abbrev pub decreases-push_scope : goal.decreases-push_scope
decreases-push_scope l = 3 * l.body.0 + 1

abbrev pub decreases-push_application : goal.decreases-push_application
decreases-push_application l = 3 * max l.f.0 l.x.0 + 2

abbrev pub decreases-push_operand : goal.decreases-push_operand
decreases-push_operand l = 3 * l.term.0 + 1

abbrev pub decreases-push_argument : goal.decreases-push_argument
decreases-push_argument l = 3 * l.term.0 + 1
