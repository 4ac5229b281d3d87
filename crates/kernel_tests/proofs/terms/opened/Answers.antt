use Rattle.kernel_tests.proofs.terms.opened.Goals as goal

pub open-requires : goal.open-requires
open-requires c = rw c.in_ok-c.ensures c.in_ok-t.ensures
