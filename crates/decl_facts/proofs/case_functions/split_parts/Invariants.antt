use Rattle.std.proofs.Common.{◌≡◌, take}
use Rattle.stmt_core.specs.Formulas.{AreBoolean, HaveNoLoose}
use Rattle.decl_core.specs.Statements.{each_from}
use Rattle.decl_core.specs.FreeConstructors.{split_part}
use Rattle.decl_facts.proofs.case_functions.split_parts.Given as goal

abbrev pub invariant-loop-i : goal.invariant-loop-i
invariant-loop-i l = record {
  exact : l.parts.items ≡ each_from (split_part l.decl) 1 (take l.i l.decl.ctors);
  boolean : AreBoolean l.parts.items;
  closed : HaveNoLoose l.parts.items;
}
