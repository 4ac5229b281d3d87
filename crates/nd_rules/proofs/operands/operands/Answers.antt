use Rattle.std.proofs.Common.{ap, sym, ◌∙◌, subst}
use Rattle.hol_terms.specs.Sequent.{left_of, argument}
use Rattle.nd_rules.specs.Shapes.{IsBinary}
use Rattle.nd_rules.proofs.Shapes.{binary_applied, operands_are}
use Rattle.nd_rules.proofs.operands.operands.Goals as goal

pub first_of-requires : goal.first_of-requires
first_of-requires c = subst IsBinary (sym c.concl-concl.ensures.value) c.requires.binary

pub argument_of-requires : goal.argument_of-requires
argument_of-requires c = binary_applied c.concl-concl.result.now (subst IsBinary (sym c.concl-concl.ensures.value) c.requires.binary)

pub returns-clause-operands : goal.returns-clause-operands
returns-clause-operands c =
    operands_are c.args.k.now c.args.a.now c.first_of.result.now c.argument_of.result.now c.requires.has c.concl-concl.ensures.derivable c.requires.binary
    (c.first_of.ensures ∙ ap left_of c.concl-concl.ensures.value) (c.argument_of.ensures ∙ ap argument c.concl-concl.ensures.value)
