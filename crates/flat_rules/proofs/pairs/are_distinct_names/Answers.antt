use Rattle.std.proofs.Common.{List, ◌+◌, sym, subst, ◌∙◌}
use Rattle.flat_terms.specs.declared.nodes.NameId.{NameId}
use Rattle.flat_terms.specs.declared.nodes.TypeId.{TypeId}
use Rattle.flat_instances.specs.Types.{HasTypePairs}
use Rattle.flat_rules.proofs.PairSteps.{type_pair_has, type_pairs_from, rest_of, distinct_names_not, distinct_names_more, distinct_names_over}
use Rattle.flat_rules.proofs.pairs.are_distinct_names.Goals as goal

pub has_name-requires-clause-name : goal.has_name-requires-clause-name
has_name-requires-clause-name c = (type_pair_has c.args.tables.now c.args.pairs.now c.loop-i.i _ c.requires c.loop-i-test.true)

pub has_name-requires-clause-pairs : goal.has_name-requires-clause-pairs
has_name-requires-clause-pairs c = subst (λ (l : List (NameId × TypeId)). HasTypePairs c.args.tables.now l) (sym (rest_of c.args.pairs.now (c.loop-i.i + 1))) (type_pairs_from c.args.tables.now c.args.pairs.now (c.loop-i.i + 1) c.requires)

pub returns-then-has_name : goal.returns-then-has_name
returns-then-has_name c = sym (c.loop-i.invariant ∙ distinct_names_not c.args.tables.now c.args.pairs.now c.loop-i.i _ c.loop-i-test.true (sym c.if-has_name.true ∙ c.has_name.ensures))

pub loop-i-preserved : goal.loop-i-preserved
loop-i-preserved c = c.loop-i.invariant ∙ distinct_names_more c.args.tables.now c.args.pairs.now c.loop-i.i _ c.loop-i-test.true (sym c.if-has_name.false ∙ c.has_name.ensures)

pub returns : goal.returns
returns c = sym (c.loop-i.invariant ∙ distinct_names_over c.args.tables.now c.args.pairs.now c.loop-i.i c.loop-i-test.false)
