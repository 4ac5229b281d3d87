-- The older forest holds fewer definitions.
use Rattle.std.specs.Prelude.{◌≤◌, length}
use Rattle.std.proofs.Common.{arith, length-append}
use Rattle.hol_kernel.specs.Shape.{defs_of_forest, IsForest}
use Rattle.hol_kernel.specs.declared.history.Forest.{Forest}
use Rattle.hol_kernel.specs.declared.history.Forest.TheVariants.{Start, More}
use Rattle.hol_kernel.specs.declared.history.History.TheDeep.{deep-Forest}

pub forest_falls : (n : Forest) → IsForest n → deep-Forest n ≤ length (defs_of_forest n)
forest_falls Start h = omega arith
forest_falls (More older newest rank) h = omega (arith, length-append older newest, h)
