use Rattle.std.proofs.Common.{◌≡◌, drop}
use Rattle.hol_terms.specs.Ty.{ty_size, tys}
use Rattle.hol_terms.specs.TyVars.{ty_vars, tys_vars}
use Rattle.hol_terms.proofs.types.HolType.+add_vars.Given as goal

abbrev pub decreases-add_vars : goal.decreases-add_vars
decreases-add_vars l = ty_size l.self.now

abbrev pub invariant-loop-arg : goal.invariant-loop-arg
invariant-loop-arg l = ty_vars l.self l.initial.seen.items ≡ tys_vars (tys (drop l.arg-index l.args)) l.seen.items
