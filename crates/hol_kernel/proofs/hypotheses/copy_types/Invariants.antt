use Rattle.std.proofs.Common.{◌≡◌, take}
use Rattle.hol_terms.specs.Subst.{ty_pairs}
use Rattle.hol_kernel.proofs.hypotheses.copy_types.Given as goal

abbrev pub invariant-loop-name : goal.invariant-loop-name
invariant-loop-name l = ty_pairs l.pairs.items ≡ ty_pairs (take l.name-index l.s)
