use Rattle.std.proofs.Common.{ap, sym, ◌∙◌, subst}
use Rattle.hol_terms.specs.Sequent.{argument}
use Rattle.nd_rules.specs.Shapes.{IsUnary}
use Rattle.nd_rules.proofs.Shapes.{operand_is}
use Rattle.nd_rules.proofs.operands.operand.Goals as goal

pub argument_of-requires : goal.argument_of-requires
argument_of-requires c = (subst IsUnary (sym c.concl-concl.ensures.value) c.requires.unary).applied

pub returns : goal.returns
returns c =
    operand_is c.args.k.now c.args.a.now c.argument_of.result.now c.requires.has c.concl-concl.ensures.derivable c.requires.unary
    (c.argument_of.ensures ∙ ap argument c.concl-concl.ensures.value)
