use Rattle.std.proofs.Common.{sym, ◌∙◌, true≢false}
use Rattle.flat_rules.proofs.PairSteps.{variable_pair_has, any_variable_found, any_variable_more, any_variable_over}
use Rattle.flat_rules.proofs.pairs.has_variable.Goals as goal

pub same_term-requires-clause-a : goal.same_term-requires-clause-a
same_term-requires-clause-a c = (variable_pair_has c.args.tables.now c.args.pairs.now c.loop-key.key-index _ c.requires.pairs c.loop-key-test.true).0.0

pub returns-then-same_term : goal.returns-then-same_term
returns-then-same_term c = sym (c.loop-key.invariant ∙ any_variable_found c.args.tables.now c.args.variable c.args.pairs.now c.loop-key.key-index _ c.loop-key-test.true (c.same_term.ensures.0 c.if-same_term.true))

pub loop-key-preserved : goal.loop-key-preserved
loop-key-preserved c =
    c.loop-key.invariant ∙ any_variable_more c.args.tables.now c.args.variable c.args.pairs.now c.loop-key.key-index _ c.loop-key-test.true
    (variable_pair_has c.args.tables.now c.args.pairs.now c.loop-key.key-index _ c.requires.pairs c.loop-key-test.true).0 c.requires.variable (λ e. true≢false (sym (c.same_term.ensures.1 e) ∙ c.if-same_term.false))

pub returns : goal.returns
returns c = sym (c.loop-key.invariant ∙ any_variable_over c.args.tables.now c.args.variable c.args.pairs.now c.loop-key.key-index c.loop-key-test.false)
