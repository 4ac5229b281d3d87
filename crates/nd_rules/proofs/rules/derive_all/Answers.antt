use Rattle.kernel_lines.proofs.Given.{grows_on}
use Rattle.std.proofs.Common.{◌∙◌}
use Rattle.nd_rules.proofs.Keeping.{had_pushed, derived_next}
use Rattle.nd_rules.proofs.rules.derive_all.Goals as goal

pub returns-in_err-push-clause-grows : goal.returns-in_err-push-clause-grows
returns-in_err-push-clause-grows c = grows_on c.loop-table.invariant.grows c.derive.ensures.grows

pub loop-table-preserved : goal.loop-table-preserved
loop-table-preserved c = record {
  grows = grows_on c.loop-table.invariant.grows c.derive.ensures.grows;
  had = had_pushed _ _ _ _ _ c.loop-table.invariant.had c.derive.ensures.grows c.in_ok-th.ensures.has c.in_ok-push.ensures.items;
  rest = c.loop-table.invariant.rest ∙ derived_next c.args.tables.now c.loop-table.table-index _ c.loop-table.kept.items _ _ c.in_ok-th.th c.loop-table-test.true c.deref.ensures.value c.in_ok-th.ensures.exact c.in_ok-push.ensures.items;
}
