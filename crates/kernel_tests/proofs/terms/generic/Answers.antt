use Rattle.std.proofs.Common.{refl}
use Rattle.kernel_tests.proofs.terms.generic.Goals as goal

pub mk_const_at-requires : goal.mk_const_at-requires
mk_const_at-requires c = rw c.in_ok-ty.ensures refl
