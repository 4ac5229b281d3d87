use Rattle.std.proofs.Common.{◌≡◌, ◌+◌, ◌*◌, drop, map}
use Rattle.hol_terms.specs.Ty.{tys, ty_size, tys_size}
use Rattle.decl_core.specs.Declaration.{type_of}
use Rattle.decl_core.specs.Liveness.{dead_in_any}
use Rattle.decl_functors.proofs.liveness.+dead.Given as goal

abbrev pub decreases-is_dead_in : goal.decreases-is_dead_in
decreases-is_dead_in l = 3 * ty_size l.ty.now

abbrev pub decreases-is_dead_in_any : goal.decreases-is_dead_in_any
decreases-is_dead_in_any l = 3 * tys_size (tys l.args.now) + 2

abbrev pub decreases-is_dead_at : goal.decreases-is_dead_at
decreases-is_dead_at l = 3 * ty_size l.arg.now + 1

abbrev pub invariant-is_dead_in_any-loop-i : goal.invariant-is_dead_in_any-loop-i
invariant-is_dead_in_any-loop-i l =
    dead_in_any l.lives (map type_of l.group) l.param l.here (tys l.args) ≡ dead_in_any l.lives (map type_of l.group) l.param (drop l.i l.here) (tys (drop l.i l.args))
