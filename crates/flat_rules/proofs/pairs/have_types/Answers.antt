use Rattle.std.proofs.Common.{◌+◌, drop, sym, ap, ◌∙◌}
use Rattle.hol_terms.specs.Rules.{both, keeps_types}
use Rattle.flat_instances.specs.Terms.{term_pairs}
use Rattle.flat_rules.proofs.PairSteps.{variable_pair_has, types_step, types_over}
use Rattle.flat_rules.proofs.pairs.have_types.Goals as goal

pub type_of-requires : goal.type_of-requires
type_of-requires c = (variable_pair_has c.args.tables.now c.args.pairs.now c.loop-variable.variable-index _ c.requires c.loop-variable-test.true).1

pub type_of-requires-in-loop-variable : goal.type_of-requires-in-loop-variable
type_of-requires-in-loop-variable c = (variable_pair_has c.args.tables.now c.args.pairs.now c.loop-variable.variable-index _ c.requires c.loop-variable-test.true).0.0

pub returns-then-not-same_type : goal.returns-then-not-same_type
returns-then-not-same_type c = sym (c.loop-variable.invariant ∙ types_step c.args.tables.now c.args.pairs.now c.loop-variable.variable-index _ c.type_of.result c.type_of-in-loop-variable.result c.same_type.result c.loop-variable-test.true c.requires c.type_of.ensures.ty c.type_of-in-loop-variable.ensures.ty c.same_type.ensures ∙ ap (λ b. both b (keeps_types (term_pairs c.args.tables.now (drop (c.loop-variable.variable-index + 1) c.args.pairs.now)))) c.if-not-same_type.true)

pub loop-variable-preserved : goal.loop-variable-preserved
loop-variable-preserved c = c.loop-variable.invariant ∙ types_step c.args.tables.now c.args.pairs.now c.loop-variable.variable-index _ c.type_of.result c.type_of-in-loop-variable.result c.same_type.result c.loop-variable-test.true c.requires c.type_of.ensures.ty c.type_of-in-loop-variable.ensures.ty c.same_type.ensures ∙ ap (λ b. both b (keeps_types (term_pairs c.args.tables.now (drop (c.loop-variable.variable-index + 1) c.args.pairs.now)))) c.if-not-same_type.false

pub returns : goal.returns
returns c = sym (c.loop-variable.invariant ∙ types_over c.args.tables.now c.args.pairs.now c.loop-variable.variable-index c.loop-variable-test.false)
