use Rattle.std.proofs.Common.{◌≡◌, ◌++◌, map, take}
use Rattle.decl_core.specs.FreeConstructors.{disc_fact}
use Rattle.decl_facts.proofs.selectors.push_disc_facts_of.Given as goal

abbrev pub invariant-loop-other : goal.invariant-loop-other
invariant-loop-other l = l.facts.items ≡ l.initial.facts.items ++ map (disc_fact l.decl l.ctor) (take l.other-index l.decl.ctors)
