use Rattle.std.proofs.Common.{◌≡◌, take}
use Rattle.decl_core.specs.Statements.{each_from, numbered}
use Rattle.decl_facts.proofs.terms.variables.Given as goal

abbrev pub invariant-loop-i : goal.invariant-loop-i
invariant-loop-i l = l.vars.items ≡ each_from (numbered l.letter) 1 (take l.i l.types)
