use Rattle.std.proofs.Common.{take}
use Rattle.hol_conv.specs.Fresh.{AllNamesWithin}
use Rattle.hol_conv.proofs.fresh.longest_of.Given as goal

abbrev pub invariant-loop-t : goal.invariant-loop-t
invariant-loop-t l = AllNamesWithin l.most (take l.t-index l.terms)
