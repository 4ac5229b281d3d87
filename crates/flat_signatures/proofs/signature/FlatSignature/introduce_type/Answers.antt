use Rattle.std.proofs.Common.{◌≡◌, ◌∙◌}
use Rattle.hol_terms.specs.Signature.{arity_of}
use Rattle.hol_terms.specs.Table.{with_type}
use Rattle.flat_terms.specs.Plain.{name_of}
use Rattle.flat_signatures.specs.FlatNames.{plain_signature}
use Rattle.flat_signatures.proofs.Signatures.{signature_there, signature_same}
use Rattle.flat_signatures.proofs.Numbers.{OnOk-implies}
use Rattle.flat_signatures.proofs.signature.FlatSignature.introduce_type.Goals as goal

pub returns-in_err-name-clause-has : goal.returns-in_err-name-clause-has
returns-in_err-name-clause-has c = signature_there c.args.tables.now c.put_name.new.tables c.args.self.now c.put_name.ensures.grows c.requires.signature

pub add_type-requires-clause-signature : goal.add_type-requires-clause-signature
add_type-requires-clause-signature c = signature_there c.args.tables.now c.put_name.new.tables c.args.self.now c.put_name.ensures.grows c.requires.signature

pub add_type-requires-clause-new : goal.add_type-requires-clause-new
add_type-requires-clause-new c =
    let same : plain_signature c.put_name.new.tables c.args.self.now ≡ plain_signature c.args.tables.now c.args.self.now = signature_same c.args.tables.now c.put_name.new.tables c.args.self.now c.put_name.ensures.grows c.requires.signature in
    let text : name_of c.put_name.new.tables c.in_ok-name.name ≡ c.args.text.now = c.in_ok-name.ensures.ok.text in
    (λ j. arity_of (same j) (text j)) ∙ c.requires.new

pub returns-clause-ok : goal.returns-clause-ok
returns-clause-ok c =
    let same : plain_signature c.put_name.new.tables c.args.self.now ≡ plain_signature c.args.tables.now c.args.self.now = signature_same c.args.tables.now c.put_name.new.tables c.args.self.now c.put_name.ensures.grows c.requires.signature in
    let text : name_of c.put_name.new.tables c.in_ok-name.name ≡ c.args.text.now = c.in_ok-name.ensures.ok.text in
    OnOk-implies c.add_type.result _ _ (λ e. e ∙ (λ j. with_type (same j) (text j) c.args.arity)) c.add_type.ensures.ok
