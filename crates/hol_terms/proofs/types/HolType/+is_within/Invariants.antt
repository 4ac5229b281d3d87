use Rattle.std.proofs.Common.{◌≡◌, drop}
use Rattle.hol_terms.specs.Ty.{ty_size, tys}
use Rattle.hol_terms.specs.TyVars.{ty_within, tys_within}
use Rattle.hol_terms.proofs.types.HolType.+is_within.Given as goal

abbrev pub decreases-is_within : goal.decreases-is_within
decreases-is_within l = ty_size l.self.now

abbrev pub invariant-loop-arg : goal.invariant-loop-arg
invariant-loop-arg l = ty_within l.self l.other ≡ tys_within (tys (drop l.arg-index l.args)) l.other
