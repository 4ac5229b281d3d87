use Rattle.std.proofs.Common.{refl}
use Rattle.kernel_tests.proofs.terms.application.Goals as goal

pub mk_comb-requires : goal.mk_comb-requires
mk_comb-requires c = rw (c.in_ok-f.ensures, c.in_ok-a.ensures) refl
