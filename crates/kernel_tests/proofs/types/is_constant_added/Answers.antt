use Rattle.std.proofs.Common.{refl}
use Rattle.kernel_tests.proofs.types.is_constant_added.Goals as goal

pub add_const-requires : goal.add_const-requires
add_const-requires c = rw c.in_ok-sig.ensures refl
