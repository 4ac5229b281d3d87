use Rattle.std.proofs.Common.{◌≡◌, map, take}
use Rattle.stmt_core.specs.Formulas.{AreBoolean, HaveNoLoose}
use Rattle.decl_core.specs.FreeConstructors.{case_premise}
use Rattle.decl_facts.proofs.constructors.case_premises.Given as goal

abbrev pub invariant-loop-ctor : goal.invariant-loop-ctor
invariant-loop-ctor l = record {
  exact : l.premises.items ≡ map (case_premise l.decl) (take l.ctor-index l.decl.ctors);
  boolean : AreBoolean l.premises.items;
  closed : HaveNoLoose l.premises.items;
}
