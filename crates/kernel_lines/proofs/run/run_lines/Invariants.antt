use Rattle.std.proofs.Common.{◌≡◌, drop}
use Rattle.hol_kernel.specs.State.{Grows}
use Rattle.kernel_lines.specs.Lines.{run}
use Rattle.kernel_lines.specs.Ready.{behind, sequents, AllOver, AllHad}
use Rattle.kernel_lines.proofs.run.run_lines.Given as goal

abbrev pub invariant-loop-line : goal.invariant-loop-line
invariant-loop-line l = record {
  grows : Grows l.fn.k l.k;
  had : AllHad l.k l.thms.items;
  over : AllOver l.k.defs l.terms.items;
  rest : run (behind l.fn.terms) (sequents (behind l.fn.thms)) l.lines ≡ run l.terms.items (sequents l.thms.items) (drop l.line-index l.lines);
}
