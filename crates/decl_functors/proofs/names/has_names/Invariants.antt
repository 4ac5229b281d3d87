use Rattle.std.proofs.Common.{◌≡◌, drop}
use Rattle.decl_core.specs.Functors.{has_names}
use Rattle.decl_functors.proofs.names.has_names.Given as goal

abbrev pub invariant-loop-name : goal.invariant-loop-name
invariant-loop-name l = has_names l.names l.ty ≡ has_names (drop l.name-index l.names) l.ty
