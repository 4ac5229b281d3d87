use Rattle.std.proofs.Common.{◌≡◌, drop}
use Rattle.hol_terms.specs.Ty.{tys}
use Rattle.hol_terms.specs.TyVars.{tys_vars}
use Rattle.hol_terms.proofs.types.add_vars_of.Given as goal

abbrev pub invariant-loop-ty : goal.invariant-loop-ty
invariant-loop-ty l = tys_vars (tys l.types) l.initial.seen.items ≡ tys_vars (tys (drop l.ty-index l.types)) l.seen.items
