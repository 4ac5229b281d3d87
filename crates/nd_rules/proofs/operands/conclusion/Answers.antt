use Rattle.std.proofs.Common.{[], ap, sym, ◌∙◌, subst}
use Rattle.hol_terms.specs.Typing.{tm_type}
use Rattle.hol_terms.specs.Signature.{IsOver}
use Rattle.hol_terms.specs.Definition.{signature_of}
use Rattle.kernel_lines.proofs.Given.{concl_bool}
use Rattle.kernel_lines.proofs.Over.{concl_over}
use Rattle.nd_rules.proofs.operands.conclusion.Goals as goal

pub returns-clause-over : goal.returns-clause-over
returns-clause-over c = subst (IsOver (signature_of c.args.k.now.defs) []) (sym c.concl-concl.ensures.value) (concl_over c.args.k.now c.args.a.now c.requires c.concl-concl.ensures.derivable)

pub returns-clause-boolean : goal.returns-clause-boolean
returns-clause-boolean c = ap tm_type c.concl-concl.ensures.value ∙ concl_bool c.concl-concl.ensures.derivable
