use Rattle.std.proofs.Common.{◌≡◌, [], ap, ◌∙◌, codes}
use Rattle.hol_terms.specs.Signature.{Signature}
use Rattle.hol_terms.specs.Definition.{alpha, eq_ty, some_ty}
use Rattle.hol_terms.specs.Table.{with_type, with_const}
use Rattle.flat_terms.specs.Plain.{type_of}
use Rattle.flat_instances.proofs.TablesGrow.{tables_grow_further}
use Rattle.flat_signatures.specs.FlatNames.{plain_types, plain_constants, plain_signature}
use Rattle.flat_signatures.proofs.signature.FlatSignature.start.Goals as goal

pub returns-in_err-introduce_type-clause-grows : goal.returns-in_err-introduce_type-clause-grows
returns-in_err-introduce_type-clause-grows c = (tables_grow_further c.args.tables.now c.base_types.new.tables c.introduce_type.new.tables c.base_types.ensures.grows c.introduce_type.ensures.grows)

pub returns-in_err-introduce_type-2-clause-grows : goal.returns-in_err-introduce_type-2-clause-grows
returns-in_err-introduce_type-2-clause-grows c = (tables_grow_further c.args.tables.now c.introduce_type.new.tables c.introduce_type-2.new.tables (tables_grow_further c.args.tables.now c.base_types.new.tables c.introduce_type.new.tables c.base_types.ensures.grows c.introduce_type.ensures.grows) c.introduce_type-2.ensures.grows)

pub returns-in_err-introduce_type-3-clause-grows : goal.returns-in_err-introduce_type-3-clause-grows
returns-in_err-introduce_type-3-clause-grows c = (tables_grow_further c.args.tables.now c.introduce_type-2.new.tables c.introduce_type-3.new.tables (tables_grow_further c.args.tables.now c.introduce_type.new.tables c.introduce_type-2.new.tables (tables_grow_further c.args.tables.now c.base_types.new.tables c.introduce_type.new.tables c.base_types.ensures.grows c.introduce_type.ensures.grows) c.introduce_type-2.ensures.grows) c.introduce_type-3.ensures.grows)

pub returns-in_err-introduce_constant-clause-grows : goal.returns-in_err-introduce_constant-clause-grows
returns-in_err-introduce_constant-clause-grows c = (tables_grow_further c.args.tables.now c.introduce_type-3.new.tables c.introduce_constant.new.tables (tables_grow_further c.args.tables.now c.introduce_type-2.new.tables c.introduce_type-3.new.tables (tables_grow_further c.args.tables.now c.introduce_type.new.tables c.introduce_type-2.new.tables (tables_grow_further c.args.tables.now c.base_types.new.tables c.introduce_type.new.tables c.base_types.ensures.grows c.introduce_type.ensures.grows) c.introduce_type-2.ensures.grows) c.introduce_type-3.ensures.grows) c.introduce_constant.ensures.grows)

pub returns-in_err-introduce_constant-2-clause-grows : goal.returns-in_err-introduce_constant-2-clause-grows
returns-in_err-introduce_constant-2-clause-grows c = (tables_grow_further c.args.tables.now c.introduce_constant.new.tables c.introduce_constant-2.new.tables (tables_grow_further c.args.tables.now c.introduce_type-3.new.tables c.introduce_constant.new.tables (tables_grow_further c.args.tables.now c.introduce_type-2.new.tables c.introduce_type-3.new.tables (tables_grow_further c.args.tables.now c.introduce_type.new.tables c.introduce_type-2.new.tables (tables_grow_further c.args.tables.now c.base_types.new.tables c.introduce_type.new.tables c.base_types.ensures.grows c.introduce_type.ensures.grows) c.introduce_type-2.ensures.grows) c.introduce_type-3.ensures.grows) c.introduce_constant.ensures.grows) c.introduce_constant-2.ensures.grows)

pub returns-clause-grows : goal.returns-clause-grows
returns-clause-grows c = (tables_grow_further c.args.tables.now c.introduce_constant.new.tables c.introduce_constant-2.new.tables (tables_grow_further c.args.tables.now c.introduce_type-3.new.tables c.introduce_constant.new.tables (tables_grow_further c.args.tables.now c.introduce_type-2.new.tables c.introduce_type-3.new.tables (tables_grow_further c.args.tables.now c.introduce_type.new.tables c.introduce_type-2.new.tables (tables_grow_further c.args.tables.now c.base_types.new.tables c.introduce_type.new.tables c.base_types.ensures.grows c.introduce_type.ensures.grows) c.introduce_type-2.ensures.grows) c.introduce_type-3.ensures.grows) c.introduce_constant.ensures.grows) c.introduce_constant-2.ensures.grows)

pub introduce_constant-requires-clause-generic : goal.introduce_constant-requires-clause-generic
introduce_constant-requires-clause-generic c = (tables_grow_further c.base_types.new.tables c.introduce_type-2.new.tables c.introduce_type-3.new.tables (tables_grow_further c.base_types.new.tables c.introduce_type.new.tables c.introduce_type-2.new.tables c.introduce_type.ensures.grows c.introduce_type-2.ensures.grows) c.introduce_type-3.ensures.grows).has_type c.in_ok-base.base.equality c.in_ok-base.ensures.ok.equality.has

pub introduce_constant-requires-2-clause-generic : goal.introduce_constant-requires-2-clause-generic
introduce_constant-requires-2-clause-generic c = (tables_grow_further c.base_types.new.tables c.introduce_type-3.new.tables c.introduce_constant.new.tables (tables_grow_further c.base_types.new.tables c.introduce_type-2.new.tables c.introduce_type-3.new.tables (tables_grow_further c.base_types.new.tables c.introduce_type.new.tables c.introduce_type-2.new.tables c.introduce_type.ensures.grows c.introduce_type-2.ensures.grows) c.introduce_type-3.ensures.grows) c.introduce_constant.ensures.grows).has_type c.in_ok-base.base.choice c.in_ok-base.ensures.ok.choice.has

pub returns-clause-ok : goal.returns-clause-ok
returns-clause-ok c =
    let none : Signature = record { types = []; consts = [] } in
    let first : plain_signature c.base_types.new.tables (record { types = c.new.result.entries; constants = c.new-2.result.entries }) ≡ none = (λ j. record { types = plain_types c.base_types.new.tables (c.new.ensures.empty j); consts = plain_constants c.base_types.new.tables (c.new-2.ensures.empty j) }) in
    let one = c.in_ok-introduce_type.ensures.ok ∙ ap (λ s. with_type s (codes "bool") 0) first in
    let two = c.in_ok-introduce_type-2.ensures.ok ∙ ap (λ s. with_type s (codes "fun") 2) one in
    let three = c.in_ok-introduce_type-3.ensures.ok ∙ ap (λ s. with_type s (codes "ind") 0) two in
    let equality : type_of c.introduce_type-3.new.tables c.in_ok-base.base.equality ≡ eq_ty alpha = ((tables_grow_further c.base_types.new.tables c.introduce_type-2.new.tables c.introduce_type-3.new.tables (tables_grow_further c.base_types.new.tables c.introduce_type.new.tables c.introduce_type-2.new.tables c.introduce_type.ensures.grows c.introduce_type-2.ensures.grows) c.introduce_type-3.ensures.grows).same_type c.in_ok-base.base.equality c.in_ok-base.ensures.ok.equality.has ∙ c.in_ok-base.ensures.ok.equality.tree) in
    let choice : type_of c.introduce_constant.new.tables c.in_ok-base.base.choice ≡ some_ty alpha = ((tables_grow_further c.base_types.new.tables c.introduce_type-3.new.tables c.introduce_constant.new.tables (tables_grow_further c.base_types.new.tables c.introduce_type-2.new.tables c.introduce_type-3.new.tables (tables_grow_further c.base_types.new.tables c.introduce_type.new.tables c.introduce_type-2.new.tables c.introduce_type.ensures.grows c.introduce_type-2.ensures.grows) c.introduce_type-3.ensures.grows) c.introduce_constant.ensures.grows).same_type c.in_ok-base.base.choice c.in_ok-base.ensures.ok.choice.has ∙ c.in_ok-base.ensures.ok.choice.tree) in
    let four = c.in_ok-introduce_constant.ensures.ok ∙ (λ j. with_const (three j) (codes "eq") (equality j)) in
    c.in_ok-introduce_constant-2.ensures.ok ∙ (λ j. with_const (four j) (codes "some") (choice j))
