use Rattle.std.proofs.Common.{◌≡◌, ◌++◌, take}
use Rattle.std.specs.List.{flat_map}
use Rattle.decl_core.specs.Statements.{flat_map_from}
use Rattle.decl_core.specs.FreeConstructors.{sel_facts_of}
use Rattle.decl_facts.proofs.selectors.push_sel_facts.Given as goal

abbrev pub invariant-loop-ctor : goal.invariant-loop-ctor
invariant-loop-ctor l = l.facts.items ≡ l.initial.facts.items ++ flat_map (λ c. flat_map_from (sel_facts_of l.decl c) 1 c.args) (take l.ctor-index l.decl.ctors)
