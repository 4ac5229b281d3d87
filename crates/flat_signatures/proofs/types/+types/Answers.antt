use Rattle.std.proofs.Common.{◌<◌, ◌≤◌, ◌++◌, List, [], ◌∷◌, length, Some, ap, sym, subst, ◌∙◌, arith}
use Rattle.std.specs.Prelude.{codes}
use Rattle.hol_terms.specs.Ty.{ty_app, tys}
use Rattle.hol_terms.specs.Typing.{fun_name, fun_ty}
use Rattle.strict_reading.specs.Types.{has_arity, reads_type, reads_onward, group_step, type_readings}
use Rattle.strict_reading.proofs.Words.{behind_long}
use Rattle.flat_terms.specs.declared.nodes.TypeId.{TypeId}
use Rattle.flat_terms.specs.Plain.{HasTypes, type_of, types_of}
use Rattle.flat_instances.proofs.TablesGrow.{tables_grow_further}
use Rattle.flat_signatures.specs.FlatNames.{plain_signature}
use Rattle.flat_signatures.specs.Behind.{stands_behind, with_front}
use Rattle.flat_signatures.proofs.Signatures.{signature_there, signature_same}
use Rattle.flat_signatures.proofs.ConstantSteps.{where_none, where_some}
use Rattle.flat_signatures.proofs.OverSteps.{count_types}
use Rattle.flat_signatures.proofs.TypeSteps.{variable_read, variable_wrong, group_read, group_wrong, no_type, name_read, name_wrong, onward_stops, argument_taken, argument_wrong, no_arrow, range_read, range_wrong, no_functions, one_enclosed, one_wrong, no_more, not_closed, tuple_read, tuple_wrong, more_wrong, type_left, types_left}
use Rattle.flat_signatures.proofs.TypeReads.{type_none, type_some, type_read_is, type_result_is, rest_long, rest_shorter, no_types, has_types, some_types_read, types_kept, front_kept, front_done}
use Rattle.flat_signatures.proofs.types.+types.Goals as goal

pub read_onward-returns-in_default-clause-ok : goal.read_onward-returns-in_default-clause-ok
read_onward-returns-in_default-clause-ok t c = type_read_is c.args.tables.now c.stop_type.result _ _ (sym (onward_stops (plain_signature c.args.tables.now c.args.signature.now) (type_of c.args.tables.now c.args.ty) c.args.text.now c.in_default.ensures.none)) c.stop_type.ensures

pub read_onward-returns-in_default-2-clause-ok : goal.read_onward-returns-in_default-2-clause-ok
read_onward-returns-in_default-2-clause-ok t c = argument_wrong (plain_signature c.args.tables.now c.args.signature.now) (type_of c.args.tables.now c.args.ty) c.args.text.now c.in-Some.space.now c.split_word.result.0.now c.in-Some.ensures.some (sym c.begins_word.ensures ∙ c.if-begins_word.true) c.split_word.ensures.word (where_none c.apply_name.new.tables c.in_ok-applied.field-0 _ _ c.in_ok-applied.ensures.ok c.in_default-2.is)

pub read_onward-read_onward-requires : goal.read_onward-read_onward-requires
read_onward-read_onward-requires t c =
    let m = behind_long (codes " ") c.args.text.now c.in-Some.space.now c.in-Some.ensures.some in
    let l : length c.split_word.result.1.now < length c.in-Some.space.now = rest_shorter c.in-Some.space.now c.split_word.result.1.now (sym c.begins_word.ensures ∙ c.if-begins_word.true) c.split_word.ensures.rest in
    (omega (arith, c.decreases, m, l), (signature_there c.args.tables.now c.apply_name.new.tables c.args.signature.now c.apply_name.ensures.grows c.requires.signature, (where_some c.apply_name.new.tables c.in_ok-applied.field-0 c.in-Some-2.applied _ _ c.in_ok-applied.ensures.ok c.in-Some-2.is).1.has))

pub read_onward-returns-then-begins_word-clause-grows : goal.read_onward-returns-then-begins_word-clause-grows
read_onward-returns-then-begins_word-clause-grows t c = tables_grow_further c.args.tables.now c.apply_name.new.tables c.read_onward.new.tables c.apply_name.ensures.grows c.read_onward.ensures.grows

pub read_onward-returns-then-begins_word-clause-ok : goal.read_onward-returns-then-begins_word-clause-ok
read_onward-returns-then-begins_word-clause-ok t c =
    let found = where_some c.apply_name.new.tables c.in_ok-applied.field-0 c.in-Some-2.applied _ _ c.in_ok-applied.ensures.ok c.in-Some-2.is in
    let same = signature_same c.args.tables.now c.apply_name.new.tables c.args.signature.now c.apply_name.ensures.grows c.requires.signature in
    type_result_is c.read_onward.new.tables c.read_onward.result _ _ ((λ j. reads_onward (same j) (found.1.tree j) c.split_word.result.1.now) ∙ sym (argument_taken (plain_signature c.args.tables.now c.args.signature.now) (type_of c.args.tables.now c.args.ty) c.args.text.now c.in-Some.space.now c.split_word.result.0.now c.split_word.result.1.now c.in-Some.ensures.some (sym c.begins_word.ensures ∙ c.if-begins_word.true) c.split_word.ensures.word c.split_word.ensures.rest found.0)) c.read_onward.ensures.ok

pub read_onward-returns-in_default-behind-clause-ok : goal.read_onward-returns-in_default-behind-clause-ok
read_onward-returns-in_default-behind-clause-ok t c = type_read_is c.args.tables.now c.stop_type-in_default-behind.result _ _ (sym (no_arrow (plain_signature c.args.tables.now c.args.signature.now) (type_of c.args.tables.now c.args.ty) c.args.text.now c.in-Some.space.now c.in-Some.ensures.some (sym c.begins_word.ensures ∙ c.if-begins_word.false) c.in_default-behind.ensures.none)) c.stop_type-in_default-behind.ensures

pub read_onward-read_type-requires : goal.read_onward-read_type-requires
read_onward-read_type-requires t c =
    let m = behind_long (codes " ") c.args.text.now c.in-Some.space.now c.in-Some.ensures.some in
    let n = behind_long (codes "-> ") c.in-Some.space.now c.in-Some-behind.range.now c.in-Some-behind.ensures.some in
    (omega (arith, c.decreases, m, n), c.requires.signature)

pub read_onward-returns-in_default-3-clause-ok : goal.read_onward-returns-in_default-3-clause-ok
read_onward-returns-in_default-3-clause-ok t c = range_wrong (plain_signature c.args.tables.now c.args.signature.now) (type_of c.args.tables.now c.args.ty) c.args.text.now c.in-Some.space.now c.in-Some-behind.range.now c.in-Some.ensures.some (sym c.begins_word.ensures ∙ c.if-begins_word.false) c.in-Some-behind.ensures.some (type_none c.read_type.new.tables c.in_ok-read.field-0 _ c.in_ok-read.ensures.ok c.in_default-3.is)

pub read_onward-apply_name-requires-2-clause-signature : goal.read_onward-apply_name-requires-2-clause-signature
read_onward-apply_name-requires-2-clause-signature t c = signature_there c.args.tables.now c.read_type.new.tables c.args.signature.now c.read_type.ensures.grows c.requires.signature

pub read_onward-returns-in_err-made-clause-grows : goal.read_onward-returns-in_err-made-clause-grows
read_onward-returns-in_err-made-clause-grows t c = tables_grow_further c.args.tables.now c.read_type.new.tables c.apply_name-2.new.tables c.read_type.ensures.grows c.apply_name-2.ensures.grows

pub read_onward-returns-in_default-4-clause-grows : goal.read_onward-returns-in_default-4-clause-grows
read_onward-returns-in_default-4-clause-grows t c = tables_grow_further c.args.tables.now c.read_type.new.tables c.apply_name-2.new.tables c.read_type.ensures.grows c.apply_name-2.ensures.grows

pub read_onward-returns-clause-grows : goal.read_onward-returns-clause-grows
read_onward-returns-clause-grows t c = tables_grow_further c.args.tables.now c.read_type.new.tables c.apply_name-2.new.tables c.read_type.ensures.grows c.apply_name-2.ensures.grows

pub read_onward-returns-in_default-4-clause-ok : goal.read_onward-returns-in_default-4-clause-ok
read_onward-returns-in_default-4-clause-ok t c = no_functions (plain_signature c.args.tables.now c.args.signature.now) (type_of c.args.tables.now c.args.ty) c.args.text.now c.in-Some.space.now c.in-Some-behind.range.now c.in-Some.ensures.some (sym c.begins_word.ensures ∙ c.if-begins_word.false) c.in-Some-behind.ensures.some (ap (λ s. has_arity s fun_name 2) (sym (signature_same c.args.tables.now c.read_type.new.tables c.args.signature.now c.read_type.ensures.grows c.requires.signature)) ∙ where_none c.apply_name-2.new.tables c.in_ok-made.field-0 _ _ c.in_ok-made.ensures.ok c.in_default-4.is)

pub read_onward-returns-clause-ok : goal.read_onward-returns-clause-ok
read_onward-returns-clause-ok t c =
    let range = type_some c.read_type.new.tables c.in_ok-read.field-0 c.in-Some-3.read _ c.in_ok-read.ensures.ok c.in-Some-3.is in
    let made = where_some c.apply_name-2.new.tables c.in_ok-made.field-0 c.in-Some-4.made _ _ c.in_ok-made.ensures.ok c.in-Some-4.is in (
      made.1.has,
      range_read (plain_signature c.args.tables.now c.args.signature.now) (type_of c.args.tables.now c.args.ty) c.args.text.now c.in-Some.space.now c.in-Some-behind.range.now _ c.in-Some.ensures.some (sym c.begins_word.ensures ∙ c.if-begins_word.false) c.in-Some-behind.ensures.some range.1 (ap (λ s. has_arity s fun_name 2) (sym (signature_same c.args.tables.now c.read_type.new.tables c.args.signature.now c.read_type.ensures.grows c.requires.signature)) ∙ made.0) ∙ ap (λ u. Some (u, c.in-Some-3.read.rest.now)) ((λ j. fun_ty (sym (c.read_type.ensures.grows.same_type c.args.ty c.requires.ty) j) (type_of c.read_type.new.tables c.in-Some-3.read.ty)) ∙ sym made.1.tree),
    )

pub read_type-returns-in_default-2-clause-ok : goal.read_type-returns-in_default-2-clause-ok
read_type-returns-in_default-2-clause-ok t c = variable_wrong (plain_signature c.args.tables.now c.args.signature.now) c.args.text.now c.in-Some.quoted.now c.split_word.result.0.now c.in-Some.ensures.some c.split_word.ensures.word (where_none c.put_variable.new.tables c.in_ok-variable.field-0 _ _ c.in_ok-variable.ensures.ok c.in_default-2.is)

pub read_type-read_onward-requires : goal.read_type-read_onward-requires
read_type-read_onward-requires t c =
    let m = behind_long (codes "'") c.args.text.now c.in-Some.quoted.now c.in-Some.ensures.some in
    let l : length c.split_word.result.1.now ≤ length c.in-Some.quoted.now = rest_long c.in-Some.quoted.now c.split_word.result.1.now c.split_word.ensures.rest in
    (omega (arith, c.decreases, m, l), (signature_there c.args.tables.now c.put_variable.new.tables c.args.signature.now c.put_variable.ensures.grows c.requires, (where_some c.put_variable.new.tables c.in_ok-variable.field-0 c.in-Some-2.variable _ _ c.in_ok-variable.ensures.ok c.in-Some-2.is).1.has))

pub read_type-returns-in-Some-clause-grows : goal.read_type-returns-in-Some-clause-grows
read_type-returns-in-Some-clause-grows t c = tables_grow_further c.args.tables.now c.put_variable.new.tables c.read_onward.new.tables c.put_variable.ensures.grows c.read_onward.ensures.grows

pub read_type-returns-in-Some-clause-ok : goal.read_type-returns-in-Some-clause-ok
read_type-returns-in-Some-clause-ok t c =
    let found = where_some c.put_variable.new.tables c.in_ok-variable.field-0 c.in-Some-2.variable _ _ c.in_ok-variable.ensures.ok c.in-Some-2.is in
    let same = signature_same c.args.tables.now c.put_variable.new.tables c.args.signature.now c.put_variable.ensures.grows c.requires in
    type_result_is c.read_onward.new.tables c.read_onward.result _ _ ((λ j. reads_onward (same j) (found.1.tree j) c.split_word.result.1.now) ∙ sym (variable_read (plain_signature c.args.tables.now c.args.signature.now) c.args.text.now c.in-Some.quoted.now c.split_word.result.0.now c.split_word.result.1.now c.in-Some.ensures.some c.split_word.ensures.word c.split_word.ensures.rest found.0)) c.read_onward.ensures.ok

pub read_type-read_type-requires : goal.read_type-read_type-requires
read_type-read_type-requires t c =
    let m = behind_long (codes "(") c.args.text.now c.in-Some-behind.inner.now c.in-Some-behind.ensures.some in
    (omega (arith, c.decreases, m), c.requires)

pub read_type-returns-in_default-3-clause-ok : goal.read_type-returns-in_default-3-clause-ok
read_type-returns-in_default-3-clause-ok t c = group_wrong (plain_signature c.args.tables.now c.args.signature.now) c.args.text.now c.in-Some-behind.inner.now c.in_default.ensures.none c.in-Some-behind.ensures.some (type_none c.read_type.new.tables c.in_ok-first.field-0 _ c.in_ok-first.ensures.ok c.in_default-3.is)

pub read_type-read_group-requires : goal.read_type-read_group-requires
read_type-read_group-requires t c =
    let first = type_some c.read_type.new.tables c.in_ok-first.field-0 c.in-Some-3.first _ c.in_ok-first.ensures.ok c.in-Some-3.is in
    let m = behind_long (codes "(") c.args.text.now c.in-Some-behind.inner.now c.in-Some-behind.ensures.some in
    let l = type_left (plain_signature c.args.tables.now c.args.signature.now) c.in-Some-behind.inner.now _ _ first.1 in
    (omega (arith, c.decreases, m, l), (signature_there c.args.tables.now c.read_type.new.tables c.args.signature.now c.read_type.ensures.grows c.requires, first.0))

pub read_type-returns-in-Some-behind-clause-grows : goal.read_type-returns-in-Some-behind-clause-grows
read_type-returns-in-Some-behind-clause-grows t c = tables_grow_further c.args.tables.now c.read_type.new.tables c.read_group.new.tables c.read_type.ensures.grows c.read_group.ensures.grows

pub read_type-returns-in-Some-behind-clause-ok : goal.read_type-returns-in-Some-behind-clause-ok
read_type-returns-in-Some-behind-clause-ok t c =
    let first = type_some c.read_type.new.tables c.in_ok-first.field-0 c.in-Some-3.first _ c.in_ok-first.ensures.ok c.in-Some-3.is in
    let same = signature_same c.args.tables.now c.read_type.new.tables c.args.signature.now c.read_type.ensures.grows c.requires in
    type_result_is c.read_group.new.tables c.read_group.result _ _ ((λ j. group_step (same j) (type_readings (same j)) (type_of c.read_type.new.tables c.in-Some-3.first.ty) c.in-Some-3.first.rest.now) ∙ sym (group_read (plain_signature c.args.tables.now c.args.signature.now) c.args.text.now c.in-Some-behind.inner.now _ c.in_default.ensures.none c.in-Some-behind.ensures.some first.1)) c.read_group.ensures.ok

pub read_type-returns-then-not-begins_word-clause-ok : goal.read_type-returns-then-not-begins_word-clause-ok
read_type-returns-then-not-begins_word-clause-ok t c = no_type (plain_signature c.args.tables.now c.args.signature.now) c.args.text.now c.in_default.ensures.none c.in_default-behind.ensures.none (sym c.begins_word.ensures ∙ c.if-not-begins_word.true)

pub read_type-returns-in_default-4-clause-ok : goal.read_type-returns-in_default-4-clause-ok
read_type-returns-in_default-4-clause-ok t c = name_wrong (plain_signature c.args.tables.now c.args.signature.now) c.args.text.now c.split_word-2.result.0.now c.in_default.ensures.none c.in_default-behind.ensures.none (sym c.begins_word.ensures ∙ c.if-not-begins_word.false) c.split_word-2.ensures.word (where_none c.apply_name.new.tables c.in_ok-named.field-0 _ _ c.in_ok-named.ensures.ok c.in_default-4.is)

pub read_type-read_onward-requires-2 : goal.read_type-read_onward-requires-2
read_type-read_onward-requires-2 t c =
    let l : length c.split_word-2.result.1.now < length c.args.text.now = rest_shorter c.args.text.now c.split_word-2.result.1.now (sym c.begins_word.ensures ∙ c.if-not-begins_word.false) c.split_word-2.ensures.rest in
    (omega (arith, c.decreases, l), (signature_there c.args.tables.now c.apply_name.new.tables c.args.signature.now c.apply_name.ensures.grows c.requires, (where_some c.apply_name.new.tables c.in_ok-named.field-0 c.in-Some-4.named _ _ c.in_ok-named.ensures.ok c.in-Some-4.is).1.has))

pub read_type-returns-clause-grows : goal.read_type-returns-clause-grows
read_type-returns-clause-grows t c = tables_grow_further c.args.tables.now c.apply_name.new.tables c.read_onward-2.new.tables c.apply_name.ensures.grows c.read_onward-2.ensures.grows

pub read_type-returns-clause-ok : goal.read_type-returns-clause-ok
read_type-returns-clause-ok t c =
    let found = where_some c.apply_name.new.tables c.in_ok-named.field-0 c.in-Some-4.named _ _ c.in_ok-named.ensures.ok c.in-Some-4.is in
    let same = signature_same c.args.tables.now c.apply_name.new.tables c.args.signature.now c.apply_name.ensures.grows c.requires in
    type_result_is c.read_onward-2.new.tables c.read_onward-2.result _ _ ((λ j. reads_onward (same j) (found.1.tree j) c.split_word-2.result.1.now) ∙ sym (name_read (plain_signature c.args.tables.now c.args.signature.now) c.args.text.now c.split_word-2.result.0.now c.split_word-2.result.1.now c.in_default.ensures.none c.in_default-behind.ensures.none (sym c.begins_word.ensures ∙ c.if-not-begins_word.false) c.split_word-2.ensures.word c.split_word-2.ensures.rest found.0)) c.read_onward-2.ensures.ok

pub read_group-returns-then-not-is_function-clause-ok : goal.read_group-returns-then-not-is_function-clause-ok
read_group-returns-then-not-is_function-clause-ok t c = one_wrong (plain_signature c.args.tables.now c.args.signature.now) (type_of c.args.tables.now c.args.ty) c.args.text.now c.in-Some.rest.now c.in-Some.ensures.some (sym c.is_function.ensures ∙ c.if-not-is_function.true)

pub read_group-read_onward-requires : goal.read_group-read_onward-requires
read_group-read_onward-requires t c =
    let m = behind_long (codes ")") c.args.text.now c.in-Some.rest.now c.in-Some.ensures.some in
    (omega (arith, c.decreases, m), (c.requires.signature, c.requires.ty))

pub read_group-returns-in-Some-clause-ok : goal.read_group-returns-in-Some-clause-ok
read_group-returns-in-Some-clause-ok t c = type_result_is c.read_onward.new.tables c.read_onward.result _ _ (sym (one_enclosed (plain_signature c.args.tables.now c.args.signature.now) (type_of c.args.tables.now c.args.ty) c.args.text.now c.in-Some.rest.now c.in-Some.ensures.some (sym c.is_function.ensures ∙ c.if-not-is_function.false))) c.read_onward.ensures.ok

pub read_group-returns-in_default-2-clause-ok : goal.read_group-returns-in_default-2-clause-ok
read_group-returns-in_default-2-clause-ok t c = no_more (plain_signature c.args.tables.now c.args.signature.now) (type_of c.args.tables.now c.args.ty) c.args.text.now c.in_default.ensures.none (no_types c.args.tables.now c.read_more.new.tables c.args.ty c.push.new.self.items c.in_ok-read.field-0 _ (c.in_ok-push.ensures.items ∙ ap (λ l. l ++ c.args.ty ∷ []) c.new-types.ensures.items) c.in_ok-read.ensures.ok c.in_default-2.is)

pub read_group-returns-in_default-behind-clause-ok : goal.read_group-returns-in_default-behind-clause-ok
read_group-returns-in_default-behind-clause-ok t c =
    let read = some_types_read c.args.tables.now c.read_more.new.tables c.args.ty c.push.new.self.items c.in_ok-read.field-0 c.in-Some-2.read _ (c.in_ok-push.ensures.items ∙ ap (λ l. l ++ c.args.ty ∷ []) c.new-types.ensures.items) c.in_ok-read.ensures.ok c.in-Some-2.is in
    not_closed (plain_signature c.args.tables.now c.args.signature.now) (type_of c.args.tables.now c.args.ty) c.args.text.now _ c.in_default.ensures.none read.read c.in_default-behind.ensures.none

pub read_group-apply_behind-requires-clause-signature : goal.read_group-apply_behind-requires-clause-signature
read_group-apply_behind-requires-clause-signature t c = signature_there c.args.tables.now c.read_more.new.tables c.args.signature.now c.read_more.ensures.grows c.requires.signature

pub read_group-apply_behind-requires-clause-args : goal.read_group-apply_behind-requires-clause-args
read_group-apply_behind-requires-clause-args t c = subst (λ (l : List TypeId). HasTypes c.read_more.new.tables l) (sym c.as_slice.ensures.value) (has_types c.args.tables.now c.read_more.new.tables c.push.new.self.items c.in_ok-read.field-0 c.in-Some-2.read _ c.in_ok-read.ensures.ok c.in-Some-2.is)

pub read_group-returns-in_err-made-clause-grows : goal.read_group-returns-in_err-made-clause-grows
read_group-returns-in_err-made-clause-grows t c = tables_grow_further c.args.tables.now c.read_more.new.tables c.apply_behind.new.tables c.read_more.ensures.grows c.apply_behind.ensures.grows

pub read_group-returns-in_default-3-clause-grows : goal.read_group-returns-in_default-3-clause-grows
read_group-returns-in_default-3-clause-grows t c = tables_grow_further c.args.tables.now c.read_more.new.tables c.apply_behind.new.tables c.read_more.ensures.grows c.apply_behind.ensures.grows

pub read_group-returns-in_default-3-clause-ok : goal.read_group-returns-in_default-3-clause-ok
read_group-returns-in_default-3-clause-ok t c =
    let read = some_types_read c.args.tables.now c.read_more.new.tables c.args.ty c.push.new.self.items c.in_ok-read.field-0 c.in-Some-2.read _ (c.in_ok-push.ensures.items ∙ ap (λ l. l ++ c.args.ty ∷ []) c.new-types.ensures.items) c.in_ok-read.ensures.ok c.in-Some-2.is in
    tuple_wrong (plain_signature c.args.tables.now c.args.signature.now) (type_of c.args.tables.now c.args.ty) c.args.text.now c.in-Some-behind.space.now c.split_word.result.0.now _ _ _ c.in_default.ensures.none read.read c.in-Some-behind.ensures.some c.split_word.ensures.word read.all (count_types c.read_more.new.tables c.in-Some-2.read.types.items ∙ ap length (sym c.as_slice.ensures.value)) (ap (λ s. stands_behind s c.split_word.result.0.now (length c.as_slice.result.now)) (sym (signature_same c.args.tables.now c.read_more.new.tables c.args.signature.now c.read_more.ensures.grows c.requires.signature)) ∙ where_none c.apply_behind.new.tables c.in_ok-made.field-0 _ _ c.in_ok-made.ensures.ok c.in_default-3.is)

pub read_group-read_onward-requires-2 : goal.read_group-read_onward-requires-2
read_group-read_onward-requires-2 t c =
    let read = some_types_read c.args.tables.now c.read_more.new.tables c.args.ty c.push.new.self.items c.in_ok-read.field-0 c.in-Some-2.read _ (c.in_ok-push.ensures.items ∙ ap (λ l. l ++ c.args.ty ∷ []) c.new-types.ensures.items) c.in_ok-read.ensures.ok c.in-Some-2.is in
    let k = types_left (plain_signature c.args.tables.now c.args.signature.now) c.args.text.now _ _ read.read in
    let m = behind_long (codes ") ") _ c.in-Some-behind.space.now c.in-Some-behind.ensures.some in
    let l : length c.split_word.result.1.now ≤ length c.in-Some-behind.space.now = rest_long c.in-Some-behind.space.now c.split_word.result.1.now c.split_word.ensures.rest in
    (omega (arith, c.decreases, k, m, l), (signature_there c.args.tables.now c.apply_behind.new.tables c.args.signature.now (tables_grow_further c.args.tables.now c.read_more.new.tables c.apply_behind.new.tables c.read_more.ensures.grows c.apply_behind.ensures.grows) c.requires.signature, (where_some c.apply_behind.new.tables c.in_ok-made.field-0 c.in-Some-3.made _ _ c.in_ok-made.ensures.ok c.in-Some-3.is).1.has))

pub read_group-returns-clause-grows : goal.read_group-returns-clause-grows
read_group-returns-clause-grows t c = tables_grow_further c.args.tables.now c.apply_behind.new.tables c.read_onward-2.new.tables (tables_grow_further c.args.tables.now c.read_more.new.tables c.apply_behind.new.tables c.read_more.ensures.grows c.apply_behind.ensures.grows) c.read_onward-2.ensures.grows

pub read_group-returns-clause-ok : goal.read_group-returns-clause-ok
read_group-returns-clause-ok t c =
    let read = some_types_read c.args.tables.now c.read_more.new.tables c.args.ty c.push.new.self.items c.in_ok-read.field-0 c.in-Some-2.read _ (c.in_ok-push.ensures.items ∙ ap (λ l. l ++ c.args.ty ∷ []) c.new-types.ensures.items) c.in_ok-read.ensures.ok c.in-Some-2.is in
    let found = where_some c.apply_behind.new.tables c.in_ok-made.field-0 c.in-Some-3.made _ _ c.in_ok-made.ensures.ok c.in-Some-3.is in
    let same = signature_same c.args.tables.now c.apply_behind.new.tables c.args.signature.now (tables_grow_further c.args.tables.now c.read_more.new.tables c.apply_behind.new.tables c.read_more.ensures.grows c.apply_behind.ensures.grows) c.requires.signature in
    let whole = tuple_read (plain_signature c.args.tables.now c.args.signature.now) (type_of c.args.tables.now c.args.ty) c.args.text.now c.in-Some-behind.space.now c.split_word.result.0.now c.split_word.result.1.now _ _ _ c.in_default.ensures.none read.read c.in-Some-behind.ensures.some c.split_word.ensures.word c.split_word.ensures.rest read.all (count_types c.read_more.new.tables c.in-Some-2.read.types.items ∙ ap length (sym c.as_slice.ensures.value)) (ap (λ s. stands_behind s c.split_word.result.0.now (length c.as_slice.result.now)) (sym (signature_same c.args.tables.now c.read_more.new.tables c.args.signature.now c.read_more.ensures.grows c.requires.signature)) ∙ found.0) in
    type_result_is c.read_onward-2.new.tables c.read_onward-2.result _ _ ((λ j. reads_onward (same j) ((found.1.tree ∙ ap (λ l. ty_app c.split_word.result.0.now (tys (types_of c.read_more.new.tables l))) c.as_slice.ensures.value) j) c.split_word.result.1.now) ∙ sym whole) c.read_onward-2.ensures.ok

pub read_more-read_type-requires : goal.read_more-read_type-requires
read_more-read_type-requires t c =
    let m = behind_long (codes ",") c.loop-next.rest.now c.in-Some.next.now c.in-Some.ensures.some in
    let l = c.loop-next.invariant.left in
    (omega (arith, c.decreases, m, l), signature_there c.args.tables.now c.loop-next.tables c.args.signature.now c.loop-next.invariant.grows c.requires.signature)

pub read_more-returns-in_default-2-clause-ok : goal.read_more-returns-in_default-2-clause-ok
read_more-returns-in_default-2-clause-ok t c = c.loop-next.invariant.read ∙ ap (with_front (types_of c.loop-next.tables c.loop-next.types.items)) (more_wrong (plain_signature c.args.tables.now c.args.signature.now) c.loop-next.rest.now c.in-Some.next.now c.in-Some.ensures.some (sym (ap (λ s. reads_type s c.in-Some.next.now) (signature_same c.args.tables.now c.loop-next.tables c.args.signature.now c.loop-next.invariant.grows c.requires.signature)) ∙ type_none c.read_type.new.tables c.in_ok-read.field-0 _ c.in_ok-read.ensures.ok c.in_default-2.is))

pub read_more-returns-in_err-push-clause-grows : goal.read_more-returns-in_err-push-clause-grows
read_more-returns-in_err-push-clause-grows t c = tables_grow_further c.args.tables.now c.loop-next.tables c.read_type.new.tables c.loop-next.invariant.grows c.read_type.ensures.grows

pub read_more-loop-next-smaller : goal.read_more-loop-next-smaller
read_more-loop-next-smaller t c =
    let read = type_some c.read_type.new.tables c.in_ok-read.field-0 c.in-Some-2.read _ c.in_ok-read.ensures.ok c.in-Some-2.is in
    let m = behind_long (codes ",") c.loop-next.rest.now c.in-Some.next.now c.in-Some.ensures.some in
    let l = type_left _ c.in-Some.next.now _ _ read.1 in
    omega (arith, m, l)

pub read_more-loop-next-preserved : goal.read_more-loop-next-preserved
read_more-loop-next-preserved t c =
    let read = type_some c.read_type.new.tables c.in_ok-read.field-0 c.in-Some-2.read _ c.in_ok-read.ensures.ok c.in-Some-2.is in
    let m = behind_long (codes ",") c.loop-next.rest.now c.in-Some.next.now c.in-Some.ensures.some in
    let l = type_left _ c.in-Some.next.now _ _ read.1 in
    let k = c.loop-next.invariant.left in
    record {
      grows = tables_grow_further c.args.tables.now c.loop-next.tables c.read_type.new.tables c.loop-next.invariant.grows c.read_type.ensures.grows;
      has = types_kept c.loop-next.tables c.read_type.new.tables _ _ c.in-Some-2.read.ty c.read_type.ensures.grows c.loop-next.invariant.has read.0 c.in_ok-push.ensures.items;
      left = omega (arith, m, l, k);
      read = c.loop-next.invariant.read ∙ front_kept c.loop-next.tables c.read_type.new.tables (plain_signature c.args.tables.now c.args.signature.now) c.loop-next.types.items _ c.in-Some-2.read.ty c.loop-next.rest.now c.in-Some.next.now _ c.read_type.ensures.grows c.loop-next.invariant.has c.in_ok-push.ensures.items c.in-Some.ensures.some (sym (ap (λ s. reads_type s c.in-Some.next.now) (signature_same c.args.tables.now c.loop-next.tables c.args.signature.now c.loop-next.invariant.grows c.requires.signature)) ∙ read.1);
    }

pub read_more-returns-clause-ok : goal.read_more-returns-clause-ok
read_more-returns-clause-ok t c = (c.loop-next.invariant.has, c.loop-next.invariant.read ∙ front_done c.loop-next.tables (plain_signature c.args.tables.now c.args.signature.now) c.loop-next.types.items c.loop-next.rest.now c.in_default.ensures.none)
