use Rattle.std.proofs.Common.{◌+◌, ◌*◌}
use Rattle.hol_terms.specs.Tm.{tm_size}
use Rattle.hol_text.proofs.print.+terms.Given as goal

abbrev pub decreases-push_term : goal.decreases-push_term
decreases-push_term l = 2 * tm_size l.t.now

abbrev pub decreases-push_scope : goal.decreases-push_scope
decreases-push_scope l = 2 * tm_size l.b.now + 1

abbrev pub decreases-push_application : goal.decreases-push_application
decreases-push_application l = 2 * (tm_size l.f.now + tm_size l.x.now) + 1

abbrev pub decreases-push_operand : goal.decreases-push_operand
decreases-push_operand l = 2 * tm_size l.t.now + 1

abbrev pub decreases-push_argument : goal.decreases-push_argument
decreases-push_argument l = 2 * tm_size l.t.now + 1
