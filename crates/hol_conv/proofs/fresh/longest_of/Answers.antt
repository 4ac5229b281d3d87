use Rattle.std.proofs.Common.{rules}
use Rattle.hol_conv.proofs.FreshLemmas.{within_next}
use Rattle.hol_conv.proofs.fresh.longest_of.Goals as goal

pub loop-t-preserved : goal.loop-t-preserved
loop-t-preserved c = within_next c.loop-t.most c.longest-most.result c.loop-t.t-index c.args.terms.now c.t-item.result c.longest-most.ensures.more c.loop-t-test.true c.loop-t.invariant (search rules)
