use Rattle.std.proofs.Common.{◌∙◌, ap}
use Rattle.hol_terms.specs.Signature.{arity_of}
use Rattle.hol_terms.proofs.Tables.{lookup-named}
use Rattle.hol_terms.proofs.sig.Sig.arity.Goals as goal

pub returns : goal.returns
returns c = c.copied.ensures ∙ c.get.ensures.value ∙ lookup-named c.self.inside.types.entries c.args.ty.now ∙ ap (λ s. arity_of s c.args.ty.now) c.self.view_is
