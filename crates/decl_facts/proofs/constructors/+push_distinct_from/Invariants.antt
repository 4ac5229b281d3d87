use Rattle.std.proofs.Common.{◌≡◌, ◌++◌, map, take, length}
use Rattle.decl_core.specs.FreeConstructors.{distinct_fact}
use Rattle.decl_facts.proofs.constructors.+push_distinct_from.Given as goal

abbrev pub decreases-push_distinct_from : goal.decreases-push_distinct_from
decreases-push_distinct_from l = length l.ctors.now

abbrev pub invariant-loop-other : goal.invariant-loop-other
invariant-loop-other l = l.facts.items ≡ l.initial.facts.items ++ map (distinct_fact l.decl l.ctor) (take l.other-index l.rest)
