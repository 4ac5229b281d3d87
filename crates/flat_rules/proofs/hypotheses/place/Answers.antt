use Rattle.std.proofs.Common.{sym}
use Rattle.flat_rules.proofs.Numbers.{has_at}
use Rattle.flat_rules.proofs.Placing.{place_less, place_equal}
use Rattle.flat_rules.proofs.hypotheses.place.Goals as goal

pub compare-requires-clause-b : goal.compare-requires-clause-b
compare-requires-clause-b c = has_at c.args.tables.now c.args.hyps.now c.loop-i.i _ c.requires.hyps c.loop-i-test.true

pub returns-in-Less : goal.returns-in-Less
returns-in-Less c = place_less c.args.tables.now c.args.term c.args.hyps.now c.loop-i.i _ c.loop-i-test.true c.loop-i.invariant (sym c.in-Less.ensures)

pub returns-in-Equal : goal.returns-in-Equal
returns-in-Equal c = place_equal c.args.tables.now c.args.term c.args.hyps.now c.loop-i.i _ c.loop-i-test.true c.loop-i.invariant (sym c.in-Equal.ensures)
