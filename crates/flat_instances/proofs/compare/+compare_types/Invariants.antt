use Rattle.std.proofs.Common.{◌≡◌, ◌+◌, ◌*◌, drop}
use Rattle.std.specs.Cmp.Lexicographic.{slice_cmp}
use Rattle.flat_instances.specs.Orders.{type_order}
use Rattle.flat_instances.proofs.TypeSteps.{most}
use Rattle.flat_instances.proofs.compare.+compare_types.Given as goal

abbrev pub decreases-compare_types : goal.decreases-compare_types
decreases-compare_types l = 2 * l.a.0 + 1

abbrev pub decreases-compare_lists : goal.decreases-compare_lists
decreases-compare_lists l = 2 * most l.xs.now

abbrev pub invariant-compare_lists-loop-i : goal.invariant-compare_lists-loop-i
invariant-compare_lists-loop-i l = slice_cmp (type_order l.tables) l.xs l.ys ≡ slice_cmp (type_order l.tables) (drop l.i l.xs) (drop l.i l.ys)
