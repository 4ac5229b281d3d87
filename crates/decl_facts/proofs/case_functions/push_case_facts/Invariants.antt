use Rattle.std.proofs.Common.{◌≡◌, ◌++◌, take}
use Rattle.decl_core.specs.Statements.{each_from}
use Rattle.decl_core.specs.FreeConstructors.{case_fact}
use Rattle.decl_facts.proofs.case_functions.push_case_facts.Given as goal

abbrev pub invariant-loop-i : goal.invariant-loop-i
invariant-loop-i l = l.facts.items ≡ l.initial.facts.items ++ each_from (case_fact l.decl) 1 (take l.i l.decl.ctors)
