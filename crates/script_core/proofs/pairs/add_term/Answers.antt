use Rattle.std.proofs.Common.{[], sym, subst}
use Rattle.hol_terms.specs.Tm.{tm_free}
use Rattle.hol_terms.specs.Signature.{IsOver}
use Rattle.hol_terms.specs.Definition.{signature_of}
use Rattle.hol_terms.specs.Proves.{AreOver}
use Rattle.kernel_lines.proofs.Over.{terms_push}
use Rattle.script_core.proofs.pairs.add_term.Goals as goal

pub returns-clause-put : goal.returns-clause-put
returns-clause-put c =
    let s = signature_of c.args.k.now.defs in
    subst (AreOver s) (sym c.in_ok-push.ensures.items)
    (terms_push s c.args.found.now.items c.in_ok-v.v c.in_ok-t.t c.requires.put
    (subst (λ v. IsOver s [] (tm_free v)) (sym c.in_ok-v.ensures) c.variable_of.ensures.over) (subst (IsOver s []) (sym c.in_ok-t.ensures) c.term_at.ensures.over))
