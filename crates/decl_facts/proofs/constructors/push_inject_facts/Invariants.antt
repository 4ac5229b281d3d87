use Rattle.std.proofs.Common.{◌≡◌, ◌++◌, take}
use Rattle.std.specs.List.{flat_map}
use Rattle.decl_core.specs.Statements.{when}
use Rattle.decl_core.specs.FreeConstructors.{has_args, inject_fact}
use Rattle.decl_facts.proofs.constructors.push_inject_facts.Given as goal

abbrev pub invariant-loop-ctor : goal.invariant-loop-ctor
invariant-loop-ctor l = l.facts.items ≡ l.initial.facts.items ++ flat_map (λ c. when (has_args c) (inject_fact l.decl c)) (take l.ctor-index l.decl.ctors)
