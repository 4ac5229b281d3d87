use Rattle.std.proofs.Common.{refl}
use Rattle.kernel_tests.proofs.types.arity_of_added.Goals as goal

pub add_type-requires : goal.add_type-requires
add_type-requires c = rw c.in_ok-sig.ensures refl
