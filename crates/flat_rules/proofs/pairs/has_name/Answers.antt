use Rattle.std.proofs.Common.{sym, ◌∙◌}
use Rattle.flat_rules.proofs.PairSteps.{name_found, name_more, type_pair_has, any_name_over}
use Rattle.flat_rules.proofs.pairs.has_name.Goals as goal

pub returns-then-eq : goal.returns-then-eq
returns-then-eq c = sym (c.loop-key.invariant ∙ name_found c.args.tables.now c.args.name c.args.pairs.now c.loop-key.key-index _ c.loop-key-test.true (sym c.eq.ensures ∙ c.if-eq.true))

pub loop-key-preserved : goal.loop-key-preserved
loop-key-preserved c =
    c.loop-key.invariant ∙ name_more c.args.tables.now c.args.name c.args.pairs.now c.loop-key.key-index _ c.loop-key-test.true c.entries_once.ensures.names (type_pair_has c.args.tables.now c.args.pairs.now c.loop-key.key-index _ c.requires.pairs c.loop-key-test.true) c.requires.name (sym c.eq.ensures ∙ c.if-eq.false)

pub returns : goal.returns
returns c = sym (c.loop-key.invariant ∙ any_name_over c.args.tables.now c.args.name c.args.pairs.now c.loop-key.key-index c.loop-key-test.false)
