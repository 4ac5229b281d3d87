use Rattle.std.proofs.Common.{List, ◌+◌, sym, subst, ◌∙◌}
use Rattle.flat_terms.specs.declared.nodes.TermId.{TermId}
use Rattle.flat_rules.specs.Sequents.{HasVariablePairs}
use Rattle.flat_rules.proofs.PairSteps.{variable_pair_has, variable_pairs_from, rest_of, distinct_variables_not, distinct_variables_more, distinct_variables_over}
use Rattle.flat_rules.proofs.pairs.are_distinct_variables.Goals as goal

pub has_variable-requires-clause-variable : goal.has_variable-requires-clause-variable
has_variable-requires-clause-variable c = (variable_pair_has c.args.tables.now c.args.pairs.now c.loop-i.i _ c.requires c.loop-i-test.true).0

pub has_variable-requires-clause-pairs : goal.has_variable-requires-clause-pairs
has_variable-requires-clause-pairs c = subst (λ (l : List (TermId × TermId)). HasVariablePairs c.args.tables.now l) (sym (rest_of c.args.pairs.now (c.loop-i.i + 1))) (variable_pairs_from c.args.tables.now c.args.pairs.now (c.loop-i.i + 1) c.requires)

pub returns-then-has_variable : goal.returns-then-has_variable
returns-then-has_variable c = sym (c.loop-i.invariant ∙ distinct_variables_not c.args.tables.now c.args.pairs.now c.loop-i.i _ c.loop-i-test.true (sym c.if-has_variable.true ∙ c.has_variable.ensures))

pub loop-i-preserved : goal.loop-i-preserved
loop-i-preserved c = c.loop-i.invariant ∙ distinct_variables_more c.args.tables.now c.args.pairs.now c.loop-i.i _ c.loop-i-test.true (sym c.if-has_variable.false ∙ c.has_variable.ensures)

pub returns : goal.returns
returns c = sym (c.loop-i.invariant ∙ distinct_variables_over c.args.tables.now c.args.pairs.now c.loop-i.i c.loop-i-test.false)
