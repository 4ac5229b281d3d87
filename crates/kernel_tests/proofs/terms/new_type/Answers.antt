use Rattle.std.proofs.Common.{refl}
use Rattle.kernel_tests.proofs.terms.new_type.Goals as goal

pub returns : goal.returns
returns c = rw (c.in_ok-name.ensures.ok, c.in_ok-pred.ensures) refl
