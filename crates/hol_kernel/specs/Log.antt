-- What a list of steps says of a state.
use Rattle.std.specs.Prelude.{◌≡◌, List, map}
use Rattle.hol_terms.specs.DefShape.{definition_of}
use Rattle.hol_terms.specs.declared.defs.Def.{Def}
use Rattle.hol_kernel.specs.State.{State}
use Rattle.hol_kernel.specs.Run.{IsRun}
use Rattle.hol_kernel.specs.declared.step.Step.{Step}

-- with the state's definitions, the steps give the state
pub record IsLogOf (k : State) (steps : List Step) : Type 0 where
  pub defs : List Def
  pub listed : map definition_of defs ≡ k.defs
  pub run : IsRun defs steps k
