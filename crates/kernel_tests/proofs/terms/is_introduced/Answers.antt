use Rattle.std.proofs.Common.{refl}
use Rattle.kernel_tests.proofs.terms.is_introduced.Goals as goal

pub add_def-requires-clause-new : goal.add_def-requires-clause-new
add_def-requires-clause-new c = rw (c.in_ok-sig.ensures, c.in_ok-d.ensures) refl

pub add_def-requires-clause-predicate : goal.add_def-requires-clause-predicate
add_def-requires-clause-predicate c = rw c.in_ok-d.ensures refl
