use Rattle.std.proofs.Common.{◌≡◌, drop, map}
use Rattle.std.specs.List.{list_any}
use Rattle.decl_core.specs.Declaration.{type_of}
use Rattle.decl_core.specs.Liveness.{dead_in_ctor}
use Rattle.decl_functors.proofs.liveness.is_dead_in_decl.Given as goal

abbrev pub invariant-loop-ctor : goal.invariant-loop-ctor
invariant-loop-ctor l = list_any (dead_in_ctor l.lives (map type_of l.group) l.param) l.decl.ctors ≡ list_any (dead_in_ctor l.lives (map type_of l.group) l.param) (drop l.ctor-index l.decl.ctors)
