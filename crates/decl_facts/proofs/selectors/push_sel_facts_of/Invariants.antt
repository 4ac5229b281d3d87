use Rattle.std.proofs.Common.{◌≡◌, ◌++◌, take}
use Rattle.decl_core.specs.Statements.{flat_map_from}
use Rattle.decl_core.specs.FreeConstructors.{sel_facts_of}
use Rattle.decl_facts.proofs.selectors.push_sel_facts_of.Given as goal

abbrev pub invariant-loop-i : goal.invariant-loop-i
invariant-loop-i l = l.facts.items ≡ l.initial.facts.items ++ flat_map_from (sel_facts_of l.decl l.ctor) 1 (take l.i l.ctor.args)
