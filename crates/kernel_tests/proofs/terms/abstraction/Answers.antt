use Rattle.std.proofs.Common.{refl}
use Rattle.kernel_tests.proofs.terms.abstraction.Goals as goal

pub mk_abs-requires : goal.mk_abs-requires
mk_abs-requires c = rw c.in_ok-body.ensures ((tt, tt), tt)

pub returns : goal.returns
returns c = rw (c.in_ok-t.ensures, c.in_ok-a.ensures) refl
