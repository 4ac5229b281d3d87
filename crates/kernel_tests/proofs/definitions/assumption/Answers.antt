use Rattle.std.proofs.Common.{refl}
use Rattle.hol_kernel.proofs.Textbook.{assume_gives}
use Rattle.kernel_tests.proofs.definitions.assumption.Goals as goal

pub assume-requires-clause-over : goal.assume-requires-clause-over
assume-requires-clause-over c = c.in_ok-p.ensures.over c.args.k.now.defs

pub assume-requires-clause-fits : goal.assume-requires-clause-fits
assume-requires-clause-fits c = rw (assume_gives _ c.in_ok-p.ensures.boolean) refl
