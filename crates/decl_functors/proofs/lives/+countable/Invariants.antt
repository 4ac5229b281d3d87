use Rattle.std.proofs.Common.{◌≡◌, ◌+◌, ◌*◌, drop}
use Rattle.hol_terms.specs.Ty.{tys, ty_size, tys_size}
use Rattle.decl_core.specs.Liveness.{are_countable}
use Rattle.decl_functors.proofs.lives.+countable.Given as goal

abbrev pub decreases-is_countable : goal.decreases-is_countable
decreases-is_countable l = 2 * ty_size l.ty.now

abbrev pub decreases-are_countable : goal.decreases-are_countable
decreases-are_countable l = 2 * tys_size (tys l.types.now) + 1

abbrev pub invariant-are_countable-loop-ty : goal.invariant-are_countable-loop-ty
invariant-are_countable-loop-ty l = are_countable (tys l.types) ≡ are_countable (tys (drop l.ty-index l.types))
