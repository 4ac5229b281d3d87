use Rattle.std.proofs.Common.{◌≡◌, ◌==◌, true, false, [], length, Some, ap, sym, ◌∙◌}
use Rattle.hol_terms.specs.TyVars.{ty_vars, instance_at}
use Rattle.strict_reading.specs.Terms.{is_type_over}
use Rattle.flat_terms.specs.Plain.{name_of, type_of, types_of}
use Rattle.flat_walks.proofs.Steps.{added_has}
use Rattle.flat_instances.proofs.TablesGrow.{tables_grow_same, tables_grow_further, tables_grow_types, tables_grow_by_term}
use Rattle.flat_signatures.specs.FlatNames.{plain_signature}
use Rattle.flat_signatures.proofs.Signatures.{signature_there, signature_same}
use Rattle.flat_signatures.proofs.Numbers.{types_there}
use Rattle.flat_signatures.proofs.ConstantSteps.{unknown_constant, not_as_many, arguments_not_over, instance_not_over, constant_passes, count_of, where_none, where_some, constant_made}
use Rattle.flat_signatures.proofs.constants.constant.Goals as goal

pub returns-in_default-clause-ok : goal.returns-in_default-clause-ok
returns-in_default-clause-ok c = unknown_constant (plain_signature c.args.tables.now c.args.signature.now) (name_of c.args.tables.now c.args.name) (types_of c.args.tables.now c.args.args.now) c.in_default.ensures

pub returns-then-not-branch-clause-ok : goal.returns-then-not-branch-clause-ok
returns-then-not-branch-clause-ok c = arguments_not_over (plain_signature c.args.tables.now c.args.signature.now) (name_of c.args.tables.now c.args.name) (types_of c.args.tables.now c.args.args.now) (type_of c.args.tables.now c.in-Some.generic) c.in-Some.ensures.1 (sym c.in_ok-are_types_over.ensures ∙ c.if-not-branch.true)

pub returns-in_default-2-clause-ok : goal.returns-in_default-2-clause-ok
returns-in_default-2-clause-ok c = not_as_many (plain_signature c.args.tables.now c.args.signature.now) (name_of c.args.tables.now c.args.name) (types_of c.args.tables.now c.args.args.now) (type_of c.args.tables.now c.in-Some.generic) c.in-Some.ensures.1 (ap (λ k. k == length (ty_vars (type_of c.args.tables.now c.in-Some.generic) [])) (count_of c.args.tables.now c.args.args.now) ∙ where_none c.instance_at.new.tables c.in_ok-ty.field-0 _ _ c.in_ok-ty.ensures.ok c.in_default-2.is)

pub is_type_over-requires-clause-signature : goal.is_type_over-requires-clause-signature
is_type_over-requires-clause-signature c = signature_there c.args.tables.now c.instance_at.new.tables c.args.signature.now (tables_grow_types c.args.tables.now c.instance_at.new.tables c.instance_at.ensures.grows) c.requires.signature

pub returns-then-not-branch-2-clause-ok : goal.returns-then-not-branch-2-clause-ok
returns-then-not-branch-2-clause-ok c =
    let found = where_some c.instance_at.new.tables c.in_ok-ty.field-0 c.in-Some-2.ty (length c.args.args.now == length (ty_vars (type_of c.args.tables.now c.in-Some.generic) [])) (instance_at (type_of c.args.tables.now c.in-Some.generic) (types_of c.args.tables.now c.args.args.now)) c.in_ok-ty.ensures.ok c.in-Some-2.is in
    let same : plain_signature c.instance_at.new.tables c.args.signature.now ≡ plain_signature c.args.tables.now c.args.signature.now = signature_same c.args.tables.now c.instance_at.new.tables c.args.signature.now (tables_grow_types c.args.tables.now c.instance_at.new.tables c.instance_at.ensures.grows) c.requires.signature in
    let over : is_type_over (plain_signature c.args.tables.now c.args.signature.now) (instance_at (type_of c.args.tables.now c.in-Some.generic) (types_of c.args.tables.now c.args.args.now)) ≡ false = (sym (λ j. is_type_over (same j) (found.1.tree j)) ∙ sym c.in_ok-is_type_over.ensures ∙ c.if-not-branch-2.true) in
    instance_not_over (plain_signature c.args.tables.now c.args.signature.now) (name_of c.args.tables.now c.args.name) (types_of c.args.tables.now c.args.args.now) (type_of c.args.tables.now c.in-Some.generic) c.in-Some.ensures.1 over

pub constant-requires-clause-args : goal.constant-requires-clause-args
constant-requires-clause-args c = (types_there c.args.tables.now c.instance_at.new.tables c.args.args.now (tables_grow_types c.args.tables.now c.instance_at.new.tables c.instance_at.ensures.grows) c.requires.args).has

pub returns-in_err-made-clause-grows : goal.returns-in_err-made-clause-grows
returns-in_err-made-clause-grows c = tables_grow_further c.args.tables.now c.instance_at.new.tables c.constant.new.self (tables_grow_types c.args.tables.now c.instance_at.new.tables c.instance_at.ensures.grows) (tables_grow_same c.instance_at.new.tables c.constant.new.self c.in_err-made.ensures.err)

pub returns-clause-grows : goal.returns-clause-grows
returns-clause-grows c = tables_grow_further c.args.tables.now c.instance_at.new.tables c.constant.new.self (tables_grow_types c.args.tables.now c.instance_at.new.tables c.instance_at.ensures.grows) (tables_grow_by_term c.instance_at.new.tables c.constant.new.self c.in_ok-made.made _ c.in_ok-made.ensures.ok)

pub returns-clause-ok : goal.returns-clause-ok
returns-clause-ok c =
    let found = where_some c.instance_at.new.tables c.in_ok-ty.field-0 c.in-Some-2.ty (length c.args.args.now == length (ty_vars (type_of c.args.tables.now c.in-Some.generic) [])) (instance_at (type_of c.args.tables.now c.in-Some.generic) (types_of c.args.tables.now c.args.args.now)) c.in_ok-ty.ensures.ok c.in-Some-2.is in
    let same : plain_signature c.instance_at.new.tables c.args.signature.now ≡ plain_signature c.args.tables.now c.args.signature.now = signature_same c.args.tables.now c.instance_at.new.tables c.args.signature.now (tables_grow_types c.args.tables.now c.instance_at.new.tables c.instance_at.ensures.grows) c.requires.signature in
    let over : is_type_over (plain_signature c.args.tables.now c.args.signature.now) (instance_at (type_of c.args.tables.now c.in-Some.generic) (types_of c.args.tables.now c.args.args.now)) ≡ true = (sym (λ j. is_type_over (same j) (found.1.tree j)) ∙ sym c.in_ok-is_type_over.ensures ∙ c.if-not-branch-2.false) in (
      added_has c.instance_at.new.tables c.constant.new.self c.in_ok-made.made _ c.in_ok-made.ensures.ok,
      constant_passes (plain_signature c.args.tables.now c.args.signature.now) (name_of c.args.tables.now c.args.name) (types_of c.args.tables.now c.args.args.now) (type_of c.args.tables.now c.in-Some.generic) c.in-Some.ensures.1 (ap (λ k. k == length (ty_vars (type_of c.args.tables.now c.in-Some.generic) [])) (count_of c.args.tables.now c.args.args.now) ∙ found.0) (sym c.in_ok-are_types_over.ensures ∙ c.if-not-branch.false) over ∙ ap Some (sym (constant_made c.args.tables.now c.instance_at.new.tables c.constant.new.self c.args.name c.args.args.now c.in-Some-2.ty (type_of c.args.tables.now c.in-Some.generic) c.in_ok-made.made (tables_grow_types c.args.tables.now c.instance_at.new.tables c.instance_at.ensures.grows) c.requires.name c.requires.args found.1 c.in_ok-made.ensures.ok)),
    )
