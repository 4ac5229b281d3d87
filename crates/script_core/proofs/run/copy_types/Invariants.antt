use Rattle.std.proofs.Common.{◌≡◌, take}
use Rattle.script_core.proofs.run.copy_types.Given as goal

abbrev pub invariant-loop-ty : goal.invariant-loop-ty
invariant-loop-ty l = l.types.items ≡ take l.ty-index l.given
