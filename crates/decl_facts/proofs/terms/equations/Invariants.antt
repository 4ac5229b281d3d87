use Rattle.std.proofs.Common.{◌≡◌, take}
use Rattle.decl_core.specs.Statements.{equations}
use Rattle.decl_facts.proofs.terms.equations.Given as goal

abbrev pub invariant-loop-i : goal.invariant-loop-i
invariant-loop-i l = l.same.items ≡ equations (take l.i l.left) l.right
