use Rattle.std.proofs.Common.{◌≡◌, map, take}
use Rattle.decl_core.proofs.declarations.Constructor.arg_types.Given as goal

abbrev pub invariant-loop-arg : goal.invariant-loop-arg
invariant-loop-arg l = l.types.items ≡ map (λ a. a.ty) (take l.arg-index l.self.args)
