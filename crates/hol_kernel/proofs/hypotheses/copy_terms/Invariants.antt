use Rattle.std.proofs.Common.{◌≡◌, take}
use Rattle.hol_kernel.proofs.hypotheses.copy_terms.Given as goal

abbrev pub invariant-loop-v : goal.invariant-loop-v
invariant-loop-v l = l.pairs.items ≡ take l.v-index l.s
