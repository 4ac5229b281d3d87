use Rattle.std.proofs.Common.{◌≡◌, [], drop}
use Rattle.hol_kernel.specs.State.{Grows}
use Rattle.kernel_lines.specs.Ready.{sequents, AllHad}
use Rattle.nd_rules.specs.Kept.{derived}
use Rattle.nd_rules.proofs.rules.derive_all.Given as goal

abbrev pub invariant-loop-table : goal.invariant-loop-table
invariant-loop-table l = record {
  grows : Grows l.fn.k l.k;
  had : AllHad l.k l.kept.items;
  rest : derived [] l.tables ≡ derived (sequents l.kept.items) (drop l.table-index l.tables);
}
