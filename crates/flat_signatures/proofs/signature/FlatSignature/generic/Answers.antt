use Rattle.std.proofs.Common.{sym, ap, ◌∙◌, subst, Option}
use Rattle.hol_terms.specs.Signature.{generic_of}
use Rattle.flat_terms.specs.declared.nodes.TypeId.{TypeId}
use Rattle.flat_terms.specs.Plain.{name_of}
use Rattle.flat_signatures.specs.FlatNames.{FlatNames, plain_signature}
use Rattle.flat_signatures.specs.Starting.{IsGenericOf}
use Rattle.flat_signatures.proofs.Signatures.{constant_at, generic_found}
use Rattle.flat_signatures.proofs.signature.FlatSignature.generic.Goals as goal

pub returns : goal.returns
returns c =
    subst (λ (o : Option TypeId). IsGenericOf c.args.tables.now o (generic_of (plain_signature c.args.tables.now c.args.self.now) (name_of c.args.tables.now c.args.name)))
    (sym (c.copied.ensures ∙ c.get.ensures.value ∙ ap (λ (s : FlatNames). constant_at s.constants c.args.name) c.self.view_is))
    (generic_found c.args.tables.now c.args.self.now.constants c.args.name c.entries_once.ensures.names c.requires.signature.constants c.requires.signature.generics c.requires.name)
