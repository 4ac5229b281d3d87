use Rattle.flat_rules.proofs.Numbers.{has_at}
use Rattle.flat_rules.proofs.hypotheses.is_free_in_none.Goals as goal

pub occurs-requires-clause-term : goal.occurs-requires-clause-term
occurs-requires-clause-term c = has_at c.args.tables.now c.args.hyps.now c.loop-hyp.hyp-index _ c.requires.hyps c.loop-hyp-test.true
