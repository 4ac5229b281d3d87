use Rattle.std.proofs.Common.{◌≡◌, ◌++◌, map, take}
use Rattle.std.specs.List.{flat_map}
use Rattle.decl_core.specs.FreeConstructors.{disc_fact}
use Rattle.decl_facts.proofs.selectors.push_disc_facts.Given as goal

abbrev pub invariant-loop-ctor : goal.invariant-loop-ctor
invariant-loop-ctor l = l.facts.items ≡ l.initial.facts.items ++ flat_map (λ c. map (disc_fact l.decl c) l.decl.ctors) (take l.ctor-index l.decl.ctors)
