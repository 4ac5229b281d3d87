use Rattle.std.proofs.Common.{◌∙◌, ap, nat_eq}
use Rattle.std.specs.Map.{lookup}
use Rattle.flat_signatures.specs.FlatNames.{FlatNames}
use Rattle.flat_signatures.proofs.Signatures.{arity_found}
use Rattle.flat_signatures.proofs.signature.FlatSignature.arity.Goals as goal

pub returns : goal.returns
returns c =
    c.copied.ensures ∙ c.get.ensures.value ∙ ap (λ (s : FlatNames). lookup (λ k. nat_eq c.args.name.0 k.0) s.types) c.self.view_is
    ∙ arity_found c.args.tables.now c.args.self.now.types c.args.name c.entries_once.ensures.names c.requires.signature.types c.requires.name
