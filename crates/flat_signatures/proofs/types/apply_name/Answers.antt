use Rattle.std.proofs.Common.{◌≡◌, length, sym, ◌∙◌}
use Rattle.strict_reading.specs.Types.{has_arity}
use Rattle.flat_terms.specs.Plain.{name_of}
use Rattle.flat_instances.proofs.TablesGrow.{tables_grow_further, tables_grow_by_type}
use Rattle.flat_signatures.specs.FlatNames.{plain_signature}
use Rattle.flat_signatures.proofs.Signatures.{signature_there, signature_same, no_arity}
use Rattle.flat_signatures.proofs.Numbers.{no_utf8, types_there, applied_number}
use Rattle.flat_signatures.proofs.types.apply_name.Goals as goal

pub returns-in_default-clause-ok : goal.returns-in_default-clause-ok
returns-in_default-clause-ok c = no_arity c.args.tables.now c.args.signature.now c.args.word.now (length c.args.args.now) c.requires.signature (no_utf8 c.args.word.now c.in_default.ensures.cases.0)

pub has_arity-requires-clause-signature : goal.has_arity-requires-clause-signature
has_arity-requires-clause-signature c = signature_there c.args.tables.now c.put_name.new.tables c.args.signature.now c.put_name.ensures.grows c.requires.signature

pub returns-then-not-has_arity-clause-ok : goal.returns-then-not-has_arity-clause-ok
returns-then-not-has_arity-clause-ok c =
    let same : plain_signature c.put_name.new.tables c.args.signature.now ≡ plain_signature c.args.tables.now c.args.signature.now = signature_same c.args.tables.now c.put_name.new.tables c.args.signature.now c.put_name.ensures.grows c.requires.signature in
    let text : name_of c.put_name.new.tables c.in_ok-name.name ≡ c.args.word.now = (c.in_ok-name.ensures.ok.text ∙ c.in-Ok.ensures.cases.0) in
    sym (λ j. has_arity (same j) (text j) (length c.args.args.now)) ∙ sym c.has_arity.ensures ∙ c.if-not-has_arity.true

pub type_application-requires-clause-args : goal.type_application-requires-clause-args
type_application-requires-clause-args c = (types_there c.args.tables.now c.put_name.new.tables c.args.args.now c.put_name.ensures.grows c.requires.args).has

pub returns-clause-grows : goal.returns-clause-grows
returns-clause-grows c = tables_grow_further c.args.tables.now c.put_name.new.tables c.type_application.new.self c.put_name.ensures.grows (tables_grow_by_type c.put_name.new.tables c.type_application.new.self c.in_ok-applied.applied _ c.in_ok-applied.ensures.ok)

pub returns-clause-ok : goal.returns-clause-ok
returns-clause-ok c =
    let same : plain_signature c.put_name.new.tables c.args.signature.now ≡ plain_signature c.args.tables.now c.args.signature.now = signature_same c.args.tables.now c.put_name.new.tables c.args.signature.now c.put_name.ensures.grows c.requires.signature in
    let text : name_of c.put_name.new.tables c.in_ok-name.name ≡ c.args.word.now = (c.in_ok-name.ensures.ok.text ∙ c.in-Ok.ensures.cases.0) in
    (sym (λ j. has_arity (same j) (text j) (length c.args.args.now)) ∙ sym c.has_arity.ensures ∙ c.if-not-has_arity.false, applied_number c.args.tables.now c.put_name.new.tables c.type_application.new.self c.in_ok-name.name c.args.word.now c.args.args.now c.in_ok-applied.applied c.put_name.ensures.grows (record { has = c.in_ok-name.ensures.ok.has; text = text }) c.requires.args c.in_ok-applied.ensures.ok)
