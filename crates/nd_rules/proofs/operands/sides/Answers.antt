use Rattle.std.proofs.Common.{ap, ◌∙◌}
use Rattle.hol_terms.specs.Sequent.{left_of, argument}
use Rattle.nd_rules.proofs.Shapes.{sides_are}
use Rattle.nd_rules.proofs.operands.sides.Goals as goal

pub returns : goal.returns
returns c =
    sides_are c.args.k.now c.args.a.now c.left.result.now c.right.result.now c.requires.has c.concl-concl.ensures.derivable c.requires.equation
    (c.left.ensures ∙ ap left_of c.concl-concl.ensures.value) (c.right.ensures ∙ ap argument c.concl-concl.ensures.value)
