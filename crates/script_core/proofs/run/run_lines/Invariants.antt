use Rattle.std.proofs.Common.{◌≡◌, drop}
use Rattle.hol_terms.specs.Definition.{signature_of}
use Rattle.hol_text.specs.Over.{GivesTypes}
use Rattle.hol_kernel.specs.State.{Grows}
use Rattle.nd_rules.specs.Kept.{HasRules}
use Rattle.kernel_lines.specs.Ready.{behind}
use Rattle.script_core.specs.Tables.{run}
use Rattle.script_core.specs.Ready.{values, IsReady}
use Rattle.script_core.proofs.run.run_lines.Given as goal

abbrev pub invariant-loop-line : goal.invariant-loop-line
invariant-loop-line l = record {
  grows : Grows l.fn.k l.k;
  rules : HasRules l.k l.rules;
  typed : GivesTypes (signature_of l.k.defs);
  ready : IsReady l.k l.r;
  rest : run l.fn.k.defs (values l.fn.r) (behind l.lines) ≡ run l.k.defs (values l.r) (behind (drop l.line-index l.lines));
}
