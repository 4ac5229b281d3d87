use Rattle.std.proofs.Common.{[], ap, sym, ◌∙◌, subst}
use Rattle.hol_terms.specs.Signature.{IsOver}
use Rattle.hol_terms.specs.Definition.{signature_of}
use Rattle.hol_terms.specs.Sequent.{argument}
use Rattle.kernel_lines.proofs.Had.{sides_is}
use Rattle.kernel_lines.proofs.Over.{sides_over}
use Rattle.kernel_lines.proofs.made.right.Goals as goal

pub returns-clause-over : goal.returns-clause-over
returns-clause-over c =
    let e = c.in_ok-t.ensures ∙ (c.right.ensures ∙ ap argument c.concl.ensures.value) in
    subst (IsOver (signature_of c.args.k.now.defs) []) (sym e)
    (sides_over c.args.k.now c.args.th.now c.requires.has c.concl.ensures.derivable (sides_is c.args.th.now.sequent (argument c.args.th.now.sequent.concl) c.requires.fits)).1
