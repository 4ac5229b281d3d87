use Rattle.std.proofs.Common.{◌∙◌, ap}
use Rattle.hol_terms.specs.Signature.{generic_of}
use Rattle.hol_terms.proofs.Tables.{lookup-named}
use Rattle.hol_terms.proofs.sig.Sig.generic.Goals as goal

pub returns : goal.returns
returns c = c.get.ensures.value ∙ lookup-named c.self.inside.consts.entries c.args.c.now ∙ ap (λ s. generic_of s c.args.c.now) c.self.view_is
