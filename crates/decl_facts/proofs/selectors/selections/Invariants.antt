use Rattle.std.proofs.Common.{◌≡◌, map, take}
use Rattle.stmt_core.specs.Formulas.{HaveNoLoose}
use Rattle.decl_core.specs.FreeConstructors.{selection}
use Rattle.decl_facts.proofs.selectors.selections.Given as goal

abbrev pub invariant-loop-arg : goal.invariant-loop-arg
invariant-loop-arg l = (l.parts.items ≡ map (selection l.decl) (take l.arg-index l.ctor.args)) × HaveNoLoose l.parts.items
