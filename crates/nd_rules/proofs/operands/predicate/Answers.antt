use Rattle.nd_rules.proofs.Shapes.{predicate_is}
use Rattle.nd_rules.proofs.operands.predicate.Goals as goal

pub argument_of-requires : goal.argument_of-requires
argument_of-requires c = c.requires.quantified.applied

pub returns-clause-predicate : goal.returns-clause-predicate
returns-clause-predicate c = predicate_is c.args.e.now c.argument_of.result.now c.requires.over c.requires.quantified c.argument_of.ensures
