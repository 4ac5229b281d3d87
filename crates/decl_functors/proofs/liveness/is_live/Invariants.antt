use Rattle.std.proofs.Common.{◌≡◌, drop, map}
use Rattle.std.specs.List.{list_any}
use Rattle.decl_core.specs.Declaration.{type_of}
use Rattle.decl_core.specs.Liveness.{dead_in_decl}
use Rattle.decl_functors.proofs.liveness.is_live.Given as goal

abbrev pub invariant-loop-decl : goal.invariant-loop-decl
invariant-loop-decl l = list_any (dead_in_decl l.lives (map type_of l.group) l.param) l.group ≡ list_any (dead_in_decl l.lives (map type_of l.group) l.param) (drop l.decl-index l.group)
