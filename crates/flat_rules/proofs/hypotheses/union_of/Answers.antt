use Rattle.flat_rules.proofs.Numbers.{has_at}
use Rattle.flat_rules.proofs.hypotheses.union_of.Goals as goal

pub insert_term-requires-clause-term : goal.insert_term-requires-clause-term
insert_term-requires-clause-term c = has_at c.args.tables.now c.args.a.now c.loop-term.term-index _ c.requires.a c.loop-term-test.true
