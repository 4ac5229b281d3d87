use Rattle.std.proofs.Common.{◌≡◌, drop}
use Rattle.hol_terms.specs.Ty.{tys}
use Rattle.hol_terms.specs.TyVars.{tys_within}
use Rattle.hol_terms.proofs.types.are_within.Given as goal

abbrev pub invariant-loop-ty : goal.invariant-loop-ty
invariant-loop-ty l = tys_within (tys l.types) l.other ≡ tys_within (tys (drop l.ty-index l.types)) l.other
