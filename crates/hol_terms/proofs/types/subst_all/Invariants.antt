use Rattle.std.proofs.Common.{◌≡◌, take, map}
use Rattle.hol_terms.specs.Subst.{ty_subst, ty_pairs}
use Rattle.hol_terms.proofs.types.subst_all.Given as goal

abbrev pub invariant-loop-ty : goal.invariant-loop-ty
invariant-loop-ty l = l.new.items ≡ map (ty_subst (ty_pairs l.s)) (take l.ty-index l.types)
