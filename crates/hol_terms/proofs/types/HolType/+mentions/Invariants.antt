use Rattle.std.proofs.Common.{◌≡◌, drop}
use Rattle.hol_terms.specs.Ty.{ty_size, tys}
use Rattle.hol_terms.specs.TyVars.{occurs, occurs_in}
use Rattle.hol_terms.proofs.types.HolType.+mentions.Given as goal

abbrev pub decreases-mentions : goal.decreases-mentions
decreases-mentions l = ty_size l.self.now

abbrev pub invariant-loop-arg : goal.invariant-loop-arg
invariant-loop-arg l = occurs l.name l.self ≡ occurs_in l.name (tys (drop l.arg-index l.args))
