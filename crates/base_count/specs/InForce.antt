-- How many base definitions are in force.
use Rattle.std.specs.Prelude.{ℕ}
use Rattle.base_count.specs.declared.TheConstants.{BASE_DEFINITIONS}

abbrev pub in_force : ℕ
in_force = BASE_DEFINITIONS
