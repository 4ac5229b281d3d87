use Rattle.std.proofs.Common.{sym, ◌∙◌}
use Rattle.flat_instances.proofs.TypeSteps.{has_at}
use Rattle.flat_reading.proofs.BinderSteps.{shifted_none, binder_here, binder_further, binder_over}
use Rattle.flat_reading.proofs.signs.find_binder.Goals as goal

pub returns-then-is_bound_text : goal.returns-then-is_bound_text
returns-then-is_bound_text c = (has_at c.args.tables.now c.args.bound.now c.loop-index.index (record { 0 = 0 }) c.requires c.loop-index-test.true, c.loop-index.invariant ∙ binder_here c.args.tables.now c.args.bound.now c.args.word.now c.loop-index.index (record { 0 = 0 }) c.loop-index-test.true (sym c.is_bound_text.ensures ∙ c.if-is_bound_text.true))

pub loop-index-preserved : goal.loop-index-preserved
loop-index-preserved c = c.loop-index.invariant ∙ binder_further c.args.tables.now c.args.bound.now c.args.word.now c.loop-index.index (record { 0 = 0 }) c.loop-index-test.true (sym c.is_bound_text.ensures ∙ c.if-is_bound_text.false)

pub loop-index-init : goal.loop-index-init
loop-index-init c = sym (shifted_none _)

pub returns : goal.returns
returns c = c.loop-index.invariant ∙ binder_over c.args.tables.now c.args.bound.now c.args.word.now c.loop-index.index c.loop-index-test.false
