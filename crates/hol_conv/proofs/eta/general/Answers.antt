use Rattle.std.proofs.Common.{◌≡◌, sym, ◌∙◌, ap, subst, [], rules}
use Rattle.hol_terms.specs.Tm.{Tm, tm_free}
use Rattle.hol_terms.specs.Signature.{IsOver}
use Rattle.hol_terms.specs.Definition.{signature_of, alpha}
use Rattle.hol_terms.specs.Notation.{beta}
use Rattle.hol_conv.specs.Eta.{function_between}
use Rattle.hol_conv.proofs.EtaLemmas.{function_over, alpha_over, beta_over}
use Rattle.hol_conv.proofs.eta.general.Goals as goal

pub from_axiom-requires-clause-over : goal.from_axiom-requires-clause-over
from_axiom-requires-clause-over c =
    let ds = c.axiom.new.self.defs in
    let e : c.in_ok-f.f ≡ tm_free (function_between alpha beta) = search rules in
    subst (λ (t : Tm). IsOver (signature_of ds) [] t) (sym e) (function_over ds alpha beta (alpha_over ds) (beta_over ds))
