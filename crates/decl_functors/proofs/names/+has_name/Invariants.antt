use Rattle.std.proofs.Common.{◌≡◌, drop}
use Rattle.hol_terms.specs.Ty.{tys, ty_size}
use Rattle.decl_core.specs.Functors.{any_has_name}
use Rattle.decl_functors.proofs.names.+has_name.Given as goal

abbrev pub decreases-has_name : goal.decreases-has_name
decreases-has_name l = ty_size l.ty.now

abbrev pub invariant-loop-arg : goal.invariant-loop-arg
invariant-loop-arg l = any_has_name l.name (tys l.args) ≡ any_has_name l.name (tys (drop l.arg-index l.args))
