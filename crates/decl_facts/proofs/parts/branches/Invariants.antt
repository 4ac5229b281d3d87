use Rattle.std.proofs.Common.{◌≡◌, take}
use Rattle.decl_core.specs.Statements.{each_from}
use Rattle.decl_core.specs.FreeConstructors.{branch}
use Rattle.decl_facts.proofs.parts.branches.Given as goal

abbrev pub invariant-loop-i : goal.invariant-loop-i
invariant-loop-i l = l.vars.items ≡ each_from branch 1 (take l.i l.decl.ctors)
