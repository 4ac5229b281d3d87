use Rattle.std.proofs.Common.{◌≡◌, drop, map}
use Rattle.std.specs.List.{list_any}
use Rattle.decl_core.specs.Declaration.{type_of}
use Rattle.decl_core.specs.Functors.{same_type}
use Rattle.decl_functors.proofs.liveness.is_of_group.Given as goal

abbrev pub invariant-loop-decl : goal.invariant-loop-decl
invariant-loop-decl l = list_any (same_type l.ty) (map type_of l.group) ≡ list_any (same_type l.ty) (map type_of (drop l.decl-index l.group))
