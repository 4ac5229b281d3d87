use Rattle.std.proofs.Common.{refl}
use Rattle.kernel_tests.proofs.terms.from_signature.Goals as goal

pub mk_const-requires : goal.mk_const-requires
mk_const-requires c = rw c.in_ok-sig.ensures refl
