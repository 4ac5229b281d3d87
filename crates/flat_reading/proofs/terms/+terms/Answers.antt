use Rattle.std.proofs.Common.{◌≡◌, ◌++◌, [], ◌∷◌, length, Some, ap, sym, ◌∙◌, arith}
use Rattle.std.specs.Prelude.{codes}
use Rattle.hol_terms.specs.Text.{bound_text, sugar, is_sugar}
use Rattle.strict_reading.specs.Words.{behind}
use Rattle.strict_reading.specs.Terms.{reads_term, reads_arguments, term_readings, sign_step, negated}
use Rattle.strict_reading.proofs.Words.{behind_long}
use Rattle.strict_reading.proofs.TypesSound.{reads_type_sound}
use Rattle.flat_terms.specs.Plain.{type_of, types_of, term_of}
use Rattle.flat_instances.proofs.TablesGrow.{tables_grow_further}
use Rattle.flat_signatures.specs.FlatNames.{plain_signature}
use Rattle.flat_signatures.proofs.ConstantSteps.{count_of}
use Rattle.flat_signatures.proofs.TypeSteps.{type_left}
use Rattle.flat_signatures.proofs.TypeReads.{type_none, type_some}
use Rattle.flat_reading.specs.Signs.{bound_by, connected_by}
use Rattle.flat_reading.proofs.ApplySteps.{applied}
use Rattle.flat_reading.proofs.Growing.{made_none, made_some, term_none, term_some, term_result_is, scope_none, scope_some, binders_there, binders_more, bound_same, names_same}
use Rattle.flat_reading.proofs.TermSteps.{no_variable, no_colon, no_type, no_dot, no_body, scope_read, not_enclosed, unclosed, closed, head_atom, head_none, head_plain, head_some, argument_atom, argument_none, argument_simple, argument_some, no_operand, operand_read, no_arguments, no_argument, argument_wrong, argument_sugar, argument_unfit, argument_read, no_scope, unbound, binder_read, negation_wrong, unnegated_read, negation_read, first_wrong, first_read, operand_rest, head_rest, argument_rest, sign_end, sign_wrong, second_wrong, unconnected_read, connected_read, binder_shorter, connective_shorter}
use Rattle.flat_reading.proofs.terms.+terms.Goals as goal

pub read_head-returns-in_default-clause-ok : goal.read_head-returns-in_default-clause-ok
read_head-returns-in_default-clause-ok t c = term_result_is c.read_atom.new.tables c.read_atom.result _ _ (sym (head_atom (plain_signature c.args.tables.now c.args.signature.now) (types_of c.args.tables.now c.args.bound.now) c.args.text.now c.in_default.ensures.none)) c.read_atom.ensures.ok

pub read_head-read_enclosed-requires : goal.read_head-read_enclosed-requires
read_head-read_enclosed-requires t c = let m = behind_long (codes "(") c.args.text.now c.in-Some.inner.now c.in-Some.ensures.some in (omega (arith, c.decreases, m), c.requires)

pub read_head-returns-in_default-2-clause-ok : goal.read_head-returns-in_default-2-clause-ok
read_head-returns-in_default-2-clause-ok t c = head_none (plain_signature c.args.tables.now c.args.signature.now) (types_of c.args.tables.now c.args.bound.now) c.args.text.now c.in-Some.inner.now c.in-Some.ensures.some (term_none c.read_enclosed.new.tables c.in_ok-read.field-0 _ c.in_ok-read.ensures.ok c.in_default-2.is)

pub read_head-returns-then-is_plain-clause-ok : goal.read_head-returns-then-is_plain-clause-ok
read_head-returns-then-is_plain-clause-ok t c = head_plain (plain_signature c.args.tables.now c.args.signature.now) (types_of c.args.tables.now c.args.bound.now) c.args.text.now c.in-Some.inner.now _ c.in-Some.ensures.some (term_some c.read_enclosed.new.tables c.in_ok-read.field-0 c.in-Some-2.read _ c.in_ok-read.ensures.ok c.in-Some-2.is).1 (sym c.is_plain.ensures ∙ c.if-is_plain.true)

pub read_head-returns-clause-ok : goal.read_head-returns-clause-ok
read_head-returns-clause-ok t c = let read = (term_some c.read_enclosed.new.tables c.in_ok-read.field-0 c.in-Some-2.read _ c.in_ok-read.ensures.ok c.in-Some-2.is) in (read.0, head_some (plain_signature c.args.tables.now c.args.signature.now) (types_of c.args.tables.now c.args.bound.now) c.args.text.now c.in-Some.inner.now _ c.in-Some.ensures.some read.1 (sym c.is_plain.ensures ∙ c.if-is_plain.false))

pub read_argument-returns-in_default-clause-ok : goal.read_argument-returns-in_default-clause-ok
read_argument-returns-in_default-clause-ok t c = term_result_is c.read_atom.new.tables c.read_atom.result _ _ (sym (argument_atom (plain_signature c.args.tables.now c.args.signature.now) (types_of c.args.tables.now c.args.bound.now) c.args.text.now c.in_default.ensures.none)) c.read_atom.ensures.ok

pub read_argument-read_enclosed-requires : goal.read_argument-read_enclosed-requires
read_argument-read_enclosed-requires t c = let m = behind_long (codes "(") c.args.text.now c.in-Some.inner.now c.in-Some.ensures.some in (omega (arith, c.decreases, m), c.requires)

pub read_argument-returns-in_default-2-clause-ok : goal.read_argument-returns-in_default-2-clause-ok
read_argument-returns-in_default-2-clause-ok t c = argument_none (plain_signature c.args.tables.now c.args.signature.now) (types_of c.args.tables.now c.args.bound.now) c.args.text.now c.in-Some.inner.now c.in-Some.ensures.some (term_none c.read_enclosed.new.tables c.in_ok-read.field-0 _ c.in_ok-read.ensures.ok c.in_default-2.is)

pub read_argument-returns-then-is_atom-clause-ok : goal.read_argument-returns-then-is_atom-clause-ok
read_argument-returns-then-is_atom-clause-ok t c = argument_simple (plain_signature c.args.tables.now c.args.signature.now) (types_of c.args.tables.now c.args.bound.now) c.args.text.now c.in-Some.inner.now _ c.in-Some.ensures.some (term_some c.read_enclosed.new.tables c.in_ok-read.field-0 c.in-Some-2.read _ c.in_ok-read.ensures.ok c.in-Some-2.is).1 (sym c.is_atom.ensures ∙ c.if-is_atom.true)

pub read_argument-returns-clause-ok : goal.read_argument-returns-clause-ok
read_argument-returns-clause-ok t c = let read = (term_some c.read_enclosed.new.tables c.in_ok-read.field-0 c.in-Some-2.read _ c.in_ok-read.ensures.ok c.in-Some-2.is) in (read.0, argument_some (plain_signature c.args.tables.now c.args.signature.now) (types_of c.args.tables.now c.args.bound.now) c.args.text.now c.in-Some.inner.now _ c.in-Some.ensures.some read.1 (sym c.is_atom.ensures ∙ c.if-is_atom.false))

pub read_enclosed-returns-in_default-clause-ok : goal.read_enclosed-returns-in_default-clause-ok
read_enclosed-returns-in_default-clause-ok t c = not_enclosed (plain_signature c.args.tables.now c.args.signature.now) (types_of c.args.tables.now c.args.bound.now) c.args.text.now (term_none c.read_below.new.tables c.in_ok-read.field-0 _ c.in_ok-read.ensures.ok c.in_default.is)

pub read_enclosed-returns-in_default-behind-clause-ok : goal.read_enclosed-returns-in_default-behind-clause-ok
read_enclosed-returns-in_default-behind-clause-ok t c = unclosed (plain_signature c.args.tables.now c.args.signature.now) (types_of c.args.tables.now c.args.bound.now) c.args.text.now _ (term_some c.read_below.new.tables c.in_ok-read.field-0 c.in-Some.read _ c.in_ok-read.ensures.ok c.in-Some.is).1 c.in_default-behind.ensures.none

pub read_enclosed-returns-clause-ok : goal.read_enclosed-returns-clause-ok
read_enclosed-returns-clause-ok t c = let read = (term_some c.read_below.new.tables c.in_ok-read.field-0 c.in-Some.read _ c.in_ok-read.ensures.ok c.in-Some.is) in (read.0, closed (plain_signature c.args.tables.now c.args.signature.now) (types_of c.args.tables.now c.args.bound.now) c.args.text.now _ _ read.1 c.in-Some-behind.ensures.some)

pub read_operand-returns-in_default-clause-ok : goal.read_operand-returns-in_default-clause-ok
read_operand-returns-in_default-clause-ok t c = no_operand (plain_signature c.args.tables.now c.args.signature.now) (types_of c.args.tables.now c.args.bound.now) c.args.text.now (term_none c.read_head.new.tables c.in_ok-head.field-0 _ c.in_ok-head.ensures.ok c.in_default.is)

pub read_operand-read_arguments-requires : goal.read_operand-read_arguments-requires
read_operand-read_arguments-requires t c =
    let head = (term_some c.read_head.new.tables c.in_ok-head.field-0 c.in-Some.head _ c.in_ok-head.ensures.ok c.in-Some.is) in
    let l = head_rest (plain_signature c.args.tables.now c.args.signature.now) (types_of c.args.tables.now c.args.bound.now) c.requires.over c.args.text.now _ _ head.1 in
    (omega (arith, c.decreases, l), ((binders_there c.args.tables.now c.read_head.new.tables c.args.signature.now c.args.bound.now c.read_head.ensures.grows c.requires), head.0))

pub read_operand-returns-clause-grows : goal.read_operand-returns-clause-grows
read_operand-returns-clause-grows t c = tables_grow_further c.args.tables.now c.read_head.new.tables c.read_arguments.new.tables c.read_head.ensures.grows c.read_arguments.ensures.grows

pub read_operand-returns-clause-ok : goal.read_operand-returns-clause-ok
read_operand-returns-clause-ok t c =
    let head = (term_some c.read_head.new.tables c.in_ok-head.field-0 c.in-Some.head _ c.in_ok-head.ensures.ok c.in-Some.is) in
    let same : plain_signature c.read_head.new.tables c.args.signature.now ≡ (plain_signature c.args.tables.now c.args.signature.now) = names_same c.args.tables.now c.read_head.new.tables c.args.signature.now c.args.bound.now c.read_head.ensures.grows c.requires in
    let kept : types_of c.read_head.new.tables c.args.bound.now ≡ (types_of c.args.tables.now c.args.bound.now) = bound_same c.args.tables.now c.read_head.new.tables c.args.signature.now c.args.bound.now c.read_head.ensures.grows c.requires in
    term_result_is c.read_arguments.new.tables c.read_arguments.result _ _ ((λ j. reads_arguments (same j) (kept j) (term_of c.read_head.new.tables c.in-Some.head.term) c.in-Some.head.rest.now) ∙ sym (operand_read (plain_signature c.args.tables.now c.args.signature.now) (types_of c.args.tables.now c.args.bound.now) c.args.text.now _ head.1)) c.read_arguments.ensures.ok

pub read_scope-returns-in_default-clause-ok : goal.read_scope-returns-in_default-clause-ok
read_scope-returns-in_default-clause-ok t c = no_variable (plain_signature c.args.tables.now c.args.signature.now) (types_of c.args.tables.now c.args.bound.now) c.args.text.now (ap (λ n. behind (bound_text n) c.args.text.now) (count_of c.args.tables.now c.args.bound.now) ∙ c.in_default.ensures.none)

pub read_scope-returns-in_default-behind-clause-ok : goal.read_scope-returns-in_default-behind-clause-ok
read_scope-returns-in_default-behind-clause-ok t c = no_colon (plain_signature c.args.tables.now c.args.signature.now) (types_of c.args.tables.now c.args.bound.now) c.args.text.now c.in-Some.colon.now (ap (λ n. behind (bound_text n) c.args.text.now) (count_of c.args.tables.now c.args.bound.now) ∙ c.in-Some.ensures.some) c.in_default-behind.ensures.none

pub read_scope-returns-in_default-2-clause-ok : goal.read_scope-returns-in_default-2-clause-ok
read_scope-returns-in_default-2-clause-ok t c = no_type (plain_signature c.args.tables.now c.args.signature.now) (types_of c.args.tables.now c.args.bound.now) c.args.text.now c.in-Some.colon.now c.in-Some-behind.ty_text.now (ap (λ n. behind (bound_text n) c.args.text.now) (count_of c.args.tables.now c.args.bound.now) ∙ c.in-Some.ensures.some) c.in-Some-behind.ensures.some (type_none c.read_type.new.tables c.in_ok-read.field-0 _ c.in_ok-read.ensures.ok c.in_default-2.is)

pub read_scope-returns-in_default-behind-2-clause-ok : goal.read_scope-returns-in_default-behind-2-clause-ok
read_scope-returns-in_default-behind-2-clause-ok t c = no_dot (plain_signature c.args.tables.now c.args.signature.now) (types_of c.args.tables.now c.args.bound.now) c.args.text.now c.in-Some.colon.now c.in-Some-behind.ty_text.now _ (ap (λ n. behind (bound_text n) c.args.text.now) (count_of c.args.tables.now c.args.bound.now) ∙ c.in-Some.ensures.some) c.in-Some-behind.ensures.some (type_some c.read_type.new.tables c.in_ok-read.field-0 c.in-Some-2.read _ c.in_ok-read.ensures.ok c.in-Some-2.is).1 c.in_default-behind-2.ensures.none

pub read_scope-read_below-requires : goal.read_scope-read_below-requires
read_scope-read_below-requires t c =
    let inner : c.as_slice.result.now ≡ c.in-Some-2.read.ty ∷ c.args.bound.now = (c.as_slice.ensures.value ∙ c.in_ok-extend_from_slice.ensures.items ∙ ap (λ l. l ++ c.args.bound.now) (c.in_ok-push.ensures.items ∙ ap (λ l. l ++ c.in-Some-2.read.ty ∷ []) c.new-inner.ensures.items)) in
    let read = (type_some c.read_type.new.tables c.in_ok-read.field-0 c.in-Some-2.read _ c.in_ok-read.ensures.ok c.in-Some-2.is) in
    let l1 = behind_long (bound_text (length (types_of c.args.tables.now c.args.bound.now))) c.args.text.now c.in-Some.colon.now (ap (λ n. behind (bound_text n) c.args.text.now) (count_of c.args.tables.now c.args.bound.now) ∙ c.in-Some.ensures.some) in
    let l2 = behind_long (codes ":") c.in-Some.colon.now c.in-Some-behind.ty_text.now c.in-Some-behind.ensures.some in
    let l3 = type_left (plain_signature c.args.tables.now c.args.signature.now) c.in-Some-behind.ty_text.now _ _ read.1 in
    let l4 = behind_long (codes ". ") _ c.in-Some-behind-2.body_text.now c.in-Some-behind-2.ensures.some in
    let over = (reads_type_sound (plain_signature c.args.tables.now c.args.signature.now) c.in-Some-behind.ty_text.now _ _ read.1).over in
    (omega (arith, c.decreases, l1, l2, l3, l4), binders_more c.args.tables.now c.read_type.new.tables c.args.signature.now c.args.bound.now c.as_slice.result.now c.in-Some-2.read.ty c.read_type.ensures.grows c.requires read.0 over inner)

pub read_scope-returns-in_err-body-clause-grows : goal.read_scope-returns-in_err-body-clause-grows
read_scope-returns-in_err-body-clause-grows t c = tables_grow_further c.args.tables.now c.read_type.new.tables c.read_below.new.tables c.read_type.ensures.grows c.read_below.ensures.grows

pub read_scope-returns-in_default-3-clause-grows : goal.read_scope-returns-in_default-3-clause-grows
read_scope-returns-in_default-3-clause-grows t c = tables_grow_further c.args.tables.now c.read_type.new.tables c.read_below.new.tables c.read_type.ensures.grows c.read_below.ensures.grows

pub read_scope-returns-clause-grows : goal.read_scope-returns-clause-grows
read_scope-returns-clause-grows t c = tables_grow_further c.args.tables.now c.read_type.new.tables c.read_below.new.tables c.read_type.ensures.grows c.read_below.ensures.grows

pub read_scope-returns-in_default-3-clause-ok : goal.read_scope-returns-in_default-3-clause-ok
read_scope-returns-in_default-3-clause-ok t c =
    let inner : c.as_slice.result.now ≡ c.in-Some-2.read.ty ∷ c.args.bound.now = (c.as_slice.ensures.value ∙ c.in_ok-extend_from_slice.ensures.items ∙ ap (λ l. l ++ c.args.bound.now) (c.in_ok-push.ensures.items ∙ ap (λ l. l ++ c.in-Some-2.read.ty ∷ []) c.new-inner.ensures.items)) in
    let read = (type_some c.read_type.new.tables c.in_ok-read.field-0 c.in-Some-2.read _ c.in_ok-read.ensures.ok c.in-Some-2.is) in
    let same : plain_signature c.read_type.new.tables c.args.signature.now ≡ (plain_signature c.args.tables.now c.args.signature.now) = names_same c.args.tables.now c.read_type.new.tables c.args.signature.now c.args.bound.now c.read_type.ensures.grows c.requires in
    let kept : types_of c.read_type.new.tables c.args.bound.now ≡ (types_of c.args.tables.now c.args.bound.now) = bound_same c.args.tables.now c.read_type.new.tables c.args.signature.now c.args.bound.now c.read_type.ensures.grows c.requires in
    no_body (plain_signature c.args.tables.now c.args.signature.now) (types_of c.args.tables.now c.args.bound.now) c.args.text.now c.in-Some.colon.now c.in-Some-behind.ty_text.now c.in-Some-behind-2.body_text.now _ _ (ap (λ n. behind (bound_text n) c.args.text.now) (count_of c.args.tables.now c.args.bound.now) ∙ c.in-Some.ensures.some) c.in-Some-behind.ensures.some read.1 c.in-Some-behind-2.ensures.some (ap (types_of c.read_type.new.tables) inner ∙ (λ j. type_of c.read_type.new.tables c.in-Some-2.read.ty ∷ kept j)) (ap (λ s. reads_term s (types_of c.read_type.new.tables c.as_slice.result.now) c.in-Some-behind-2.body_text.now) (sym same) ∙ (term_none c.read_below.new.tables c.in_ok-body.field-0 _ c.in_ok-body.ensures.ok c.in_default-3.is))

pub read_scope-returns-clause-ok : goal.read_scope-returns-clause-ok
read_scope-returns-clause-ok t c =
    let inner : c.as_slice.result.now ≡ c.in-Some-2.read.ty ∷ c.args.bound.now = (c.as_slice.ensures.value ∙ c.in_ok-extend_from_slice.ensures.items ∙ ap (λ l. l ++ c.args.bound.now) (c.in_ok-push.ensures.items ∙ ap (λ l. l ++ c.in-Some-2.read.ty ∷ []) c.new-inner.ensures.items)) in
    let read = (type_some c.read_type.new.tables c.in_ok-read.field-0 c.in-Some-2.read _ c.in_ok-read.ensures.ok c.in-Some-2.is) in
    let same : plain_signature c.read_type.new.tables c.args.signature.now ≡ (plain_signature c.args.tables.now c.args.signature.now) = names_same c.args.tables.now c.read_type.new.tables c.args.signature.now c.args.bound.now c.read_type.ensures.grows c.requires in
    let kept : types_of c.read_type.new.tables c.args.bound.now ≡ (types_of c.args.tables.now c.args.bound.now) = bound_same c.args.tables.now c.read_type.new.tables c.args.signature.now c.args.bound.now c.read_type.ensures.grows c.requires in
    let body = (term_some c.read_below.new.tables c.in_ok-body.field-0 c.in-Some-3.body _ c.in_ok-body.ensures.ok c.in-Some-3.is) in (
      c.read_below.ensures.grows.has_type c.in-Some-2.read.ty read.0,
      body.0,
      scope_read (plain_signature c.args.tables.now c.args.signature.now) (types_of c.args.tables.now c.args.bound.now) c.args.text.now c.in-Some.colon.now c.in-Some-behind.ty_text.now c.in-Some-behind-2.body_text.now _ _ _ (ap (λ n. behind (bound_text n) c.args.text.now) (count_of c.args.tables.now c.args.bound.now) ∙ c.in-Some.ensures.some) c.in-Some-behind.ensures.some read.1 c.in-Some-behind-2.ensures.some (ap (types_of c.read_type.new.tables) inner ∙ (λ j. type_of c.read_type.new.tables c.in-Some-2.read.ty ∷ kept j)) (ap (λ s. reads_term s (types_of c.read_type.new.tables c.as_slice.result.now) c.in-Some-behind-2.body_text.now) (sym same) ∙ body.1) ∙ ap (λ u. Some (record { ty = u; body = term_of c.read_below.new.tables c.in-Some-3.body.term }, c.in-Some-3.body.rest.now)) (sym (c.read_below.ensures.grows.same_type c.in-Some-2.read.ty read.0)),
    )

pub read_below-read_scope-requires : goal.read_below-read_scope-requires
read_below-read_scope-requires t c = let l = binder_shorter c.args.text.now c.in-Some.behind_sign.now c.in-Some.sign c.in-Some.ensures.some in (omega (arith, c.decreases, l), c.requires)

pub read_below-returns-in_default-2-clause-ok : goal.read_below-returns-in_default-2-clause-ok
read_below-returns-in_default-2-clause-ok t c = no_scope (plain_signature c.args.tables.now c.args.signature.now) (types_of c.args.tables.now c.args.bound.now) c.requires.over c.args.text.now c.in-Some.behind_sign.now c.in-Some.sign c.in-Some.ensures.some (scope_none c.read_scope.new.tables c.in_ok-scope.field-0 _ c.in_ok-scope.ensures.ok c.in_default-2.is)

pub read_below-bind_by-requires-clause-signature : goal.read_below-bind_by-requires-clause-signature
read_below-bind_by-requires-clause-signature t c = (binders_there c.args.tables.now c.read_scope.new.tables c.args.signature.now c.args.bound.now c.read_scope.ensures.grows c.requires).signature

pub read_below-returns-in_err-term-clause-grows : goal.read_below-returns-in_err-term-clause-grows
read_below-returns-in_err-term-clause-grows t c = tables_grow_further c.args.tables.now c.read_scope.new.tables c.bind_by.new.tables c.read_scope.ensures.grows c.bind_by.ensures.grows

pub read_below-returns-in_default-3-clause-grows : goal.read_below-returns-in_default-3-clause-grows
read_below-returns-in_default-3-clause-grows t c = tables_grow_further c.args.tables.now c.read_scope.new.tables c.bind_by.new.tables c.read_scope.ensures.grows c.bind_by.ensures.grows

pub read_below-returns-in-Some-clause-grows : goal.read_below-returns-in-Some-clause-grows
read_below-returns-in-Some-clause-grows t c = tables_grow_further c.args.tables.now c.read_scope.new.tables c.bind_by.new.tables c.read_scope.ensures.grows c.bind_by.ensures.grows

pub read_below-returns-in_default-3-clause-ok : goal.read_below-returns-in_default-3-clause-ok
read_below-returns-in_default-3-clause-ok t c =
    let scope = scope_some c.read_scope.new.tables c.in_ok-scope.field-0 c.in-Some-2.scope _ c.in_ok-scope.ensures.ok c.in-Some-2.is in
    let same : plain_signature c.read_scope.new.tables c.args.signature.now ≡ (plain_signature c.args.tables.now c.args.signature.now) = names_same c.args.tables.now c.read_scope.new.tables c.args.signature.now c.args.bound.now c.read_scope.ensures.grows c.requires in
    let kept : types_of c.read_scope.new.tables c.args.bound.now ≡ (types_of c.args.tables.now c.args.bound.now) = bound_same c.args.tables.now c.read_scope.new.tables c.args.signature.now c.args.bound.now c.read_scope.ensures.grows c.requires in
    unbound (plain_signature c.args.tables.now c.args.signature.now) (types_of c.args.tables.now c.args.bound.now) c.requires.over c.args.text.now c.in-Some.behind_sign.now c.in-Some.sign _ c.in-Some.ensures.some scope.2 (ap (λ s. bound_by s c.in-Some.sign (type_of c.read_scope.new.tables c.in-Some-2.scope.ty) (term_of c.read_scope.new.tables c.in-Some-2.scope.body)) (sym same) ∙ made_none c.bind_by.new.tables c.in_ok-term.field-0 _ c.in_ok-term.ensures.ok c.in_default-3.is)

pub read_below-returns-in-Some-clause-ok : goal.read_below-returns-in-Some-clause-ok
read_below-returns-in-Some-clause-ok t c =
    let scope = scope_some c.read_scope.new.tables c.in_ok-scope.field-0 c.in-Some-2.scope _ c.in_ok-scope.ensures.ok c.in-Some-2.is in
    let same : plain_signature c.read_scope.new.tables c.args.signature.now ≡ (plain_signature c.args.tables.now c.args.signature.now) = names_same c.args.tables.now c.read_scope.new.tables c.args.signature.now c.args.bound.now c.read_scope.ensures.grows c.requires in
    let kept : types_of c.read_scope.new.tables c.args.bound.now ≡ (types_of c.args.tables.now c.args.bound.now) = bound_same c.args.tables.now c.read_scope.new.tables c.args.signature.now c.args.bound.now c.read_scope.ensures.grows c.requires in
    let made = (made_some c.bind_by.new.tables c.in_ok-term.field-0 c.in-Some-3.term _ c.in_ok-term.ensures.ok c.in-Some-3.is) in
    (made.0, binder_read (plain_signature c.args.tables.now c.args.signature.now) (types_of c.args.tables.now c.args.bound.now) c.requires.over c.args.text.now c.in-Some.behind_sign.now c.in-Some.sign _ _ c.in-Some.ensures.some scope.2 (ap (λ s. bound_by s c.in-Some.sign (type_of c.read_scope.new.tables c.in-Some-2.scope.ty) (term_of c.read_scope.new.tables c.in-Some-2.scope.body)) (sym same) ∙ made.1))

pub read_below-read_operand-requires : goal.read_below-read_operand-requires
read_below-read_operand-requires t c = let m = behind_long (codes "~ ") c.args.text.now c.in-Some-behind.behind_sign.now c.in-Some-behind.ensures.some in (omega (arith, c.decreases, m), c.requires)

pub read_below-returns-in_default-4-clause-ok : goal.read_below-returns-in_default-4-clause-ok
read_below-returns-in_default-4-clause-ok t c = negation_wrong (plain_signature c.args.tables.now c.args.signature.now) (types_of c.args.tables.now c.args.bound.now) c.requires.over c.args.text.now c.in-Some-behind.behind_sign.now c.in_default.ensures.none c.in-Some-behind.ensures.some (term_none c.read_operand.new.tables c.in_ok-read.field-0 _ c.in_ok-read.ensures.ok c.in_default-4.is)

pub read_below-negate-requires-clause-signature : goal.read_below-negate-requires-clause-signature
read_below-negate-requires-clause-signature t c = (binders_there c.args.tables.now c.read_operand.new.tables c.args.signature.now c.args.bound.now c.read_operand.ensures.grows c.requires).signature

pub read_below-returns-in_err-term-2-clause-grows : goal.read_below-returns-in_err-term-2-clause-grows
read_below-returns-in_err-term-2-clause-grows t c = tables_grow_further c.args.tables.now c.read_operand.new.tables c.negate.new.tables c.read_operand.ensures.grows c.negate.ensures.grows

pub read_below-returns-in_default-5-clause-grows : goal.read_below-returns-in_default-5-clause-grows
read_below-returns-in_default-5-clause-grows t c = tables_grow_further c.args.tables.now c.read_operand.new.tables c.negate.new.tables c.read_operand.ensures.grows c.negate.ensures.grows

pub read_below-returns-in-Some-behind-clause-grows : goal.read_below-returns-in-Some-behind-clause-grows
read_below-returns-in-Some-behind-clause-grows t c = tables_grow_further c.args.tables.now c.read_operand.new.tables c.negate.new.tables c.read_operand.ensures.grows c.negate.ensures.grows

pub read_below-returns-in_default-5-clause-ok : goal.read_below-returns-in_default-5-clause-ok
read_below-returns-in_default-5-clause-ok t c =
    let read = (term_some c.read_operand.new.tables c.in_ok-read.field-0 c.in-Some-4.read _ c.in_ok-read.ensures.ok c.in-Some-4.is) in
    let same : plain_signature c.read_operand.new.tables c.args.signature.now ≡ (plain_signature c.args.tables.now c.args.signature.now) = names_same c.args.tables.now c.read_operand.new.tables c.args.signature.now c.args.bound.now c.read_operand.ensures.grows c.requires in
    let kept : types_of c.read_operand.new.tables c.args.bound.now ≡ (types_of c.args.tables.now c.args.bound.now) = bound_same c.args.tables.now c.read_operand.new.tables c.args.signature.now c.args.bound.now c.read_operand.ensures.grows c.requires in
    unnegated_read (plain_signature c.args.tables.now c.args.signature.now) (types_of c.args.tables.now c.args.bound.now) c.requires.over c.args.text.now c.in-Some-behind.behind_sign.now _ c.in_default.ensures.none c.in-Some-behind.ensures.some read.1 (ap (λ s. negated s (term_of c.read_operand.new.tables c.in-Some-4.read.term)) (sym same) ∙ made_none c.negate.new.tables c.in_ok-term-2.field-0 _ c.in_ok-term-2.ensures.ok c.in_default-5.is)

pub read_below-returns-in-Some-behind-clause-ok : goal.read_below-returns-in-Some-behind-clause-ok
read_below-returns-in-Some-behind-clause-ok t c =
    let read = (term_some c.read_operand.new.tables c.in_ok-read.field-0 c.in-Some-4.read _ c.in_ok-read.ensures.ok c.in-Some-4.is) in
    let same : plain_signature c.read_operand.new.tables c.args.signature.now ≡ (plain_signature c.args.tables.now c.args.signature.now) = names_same c.args.tables.now c.read_operand.new.tables c.args.signature.now c.args.bound.now c.read_operand.ensures.grows c.requires in
    let kept : types_of c.read_operand.new.tables c.args.bound.now ≡ (types_of c.args.tables.now c.args.bound.now) = bound_same c.args.tables.now c.read_operand.new.tables c.args.signature.now c.args.bound.now c.read_operand.ensures.grows c.requires in
    let made = (made_some c.negate.new.tables c.in_ok-term-2.field-0 c.in-Some-5.term _ c.in_ok-term-2.ensures.ok c.in-Some-5.is) in
    (made.0, negation_read (plain_signature c.args.tables.now c.args.signature.now) (types_of c.args.tables.now c.args.bound.now) c.requires.over c.args.text.now c.in-Some-behind.behind_sign.now _ _ c.in_default.ensures.none c.in-Some-behind.ensures.some read.1 (ap (λ s. negated s (term_of c.read_operand.new.tables c.in-Some-4.read.term)) (sym same) ∙ made.1))

pub read_below-returns-in_default-6-clause-ok : goal.read_below-returns-in_default-6-clause-ok
read_below-returns-in_default-6-clause-ok t c = first_wrong (plain_signature c.args.tables.now c.args.signature.now) (types_of c.args.tables.now c.args.bound.now) c.requires.over c.args.text.now c.in_default.ensures.none c.in_default-behind.ensures.none (term_none c.read_operand-2.new.tables c.in_ok-first.field-0 _ c.in_ok-first.ensures.ok c.in_default-6.is)

pub read_below-read_behind-requires : goal.read_below-read_behind-requires
read_below-read_behind-requires t c =
    let first = (term_some c.read_operand-2.new.tables c.in_ok-first.field-0 c.in-Some-6.first _ c.in_ok-first.ensures.ok c.in-Some-6.is) in
    let l = operand_rest (plain_signature c.args.tables.now c.args.signature.now) (types_of c.args.tables.now c.args.bound.now) c.requires.over c.args.text.now _ _ first.1 in
    (omega (arith, c.decreases, l), ((binders_there c.args.tables.now c.read_operand-2.new.tables c.args.signature.now c.args.bound.now c.read_operand-2.ensures.grows c.requires), first.0))

pub read_below-returns-clause-grows : goal.read_below-returns-clause-grows
read_below-returns-clause-grows t c = tables_grow_further c.args.tables.now c.read_operand-2.new.tables c.read_behind.new.tables c.read_operand-2.ensures.grows c.read_behind.ensures.grows

pub read_below-returns-clause-ok : goal.read_below-returns-clause-ok
read_below-returns-clause-ok t c =
    let first = (term_some c.read_operand-2.new.tables c.in_ok-first.field-0 c.in-Some-6.first _ c.in_ok-first.ensures.ok c.in-Some-6.is) in
    let same : plain_signature c.read_operand-2.new.tables c.args.signature.now ≡ (plain_signature c.args.tables.now c.args.signature.now) = names_same c.args.tables.now c.read_operand-2.new.tables c.args.signature.now c.args.bound.now c.read_operand-2.ensures.grows c.requires in
    let kept : types_of c.read_operand-2.new.tables c.args.bound.now ≡ (types_of c.args.tables.now c.args.bound.now) = bound_same c.args.tables.now c.read_operand-2.new.tables c.args.signature.now c.args.bound.now c.read_operand-2.ensures.grows c.requires in
    term_result_is c.read_behind.new.tables c.read_behind.result _ _ ((λ j. sign_step (same j) (term_readings (same j)) (kept j) (term_of c.read_operand-2.new.tables c.in-Some-6.first.term) c.in-Some-6.first.rest.now) ∙ sym (first_read (plain_signature c.args.tables.now c.args.signature.now) (types_of c.args.tables.now c.args.bound.now) c.requires.over c.args.text.now _ c.in_default.ensures.none c.in_default-behind.ensures.none first.1)) c.read_behind.ensures.ok

pub read_arguments-returns-in_default-clause-ok : goal.read_arguments-returns-in_default-clause-ok
read_arguments-returns-in_default-clause-ok t c = (c.requires.term, no_arguments (plain_signature c.args.tables.now c.args.signature.now) (types_of c.args.tables.now c.args.bound.now) c.requires.binders.over (term_of c.args.tables.now c.args.term) c.args.text.now c.in_default.ensures.none)

pub read_arguments-returns-then-not-begins_argument-clause-ok : goal.read_arguments-returns-then-not-begins_argument-clause-ok
read_arguments-returns-then-not-begins_argument-clause-ok t c = (c.requires.term, no_argument (plain_signature c.args.tables.now c.args.signature.now) (types_of c.args.tables.now c.args.bound.now) c.requires.binders.over (term_of c.args.tables.now c.args.term) c.args.text.now c.in-Some.space.now c.in-Some.ensures.some (sym c.begins_argument.ensures ∙ c.if-not-begins_argument.true))

pub read_arguments-read_argument-requires : goal.read_arguments-read_argument-requires
read_arguments-read_argument-requires t c = let m = behind_long (codes " ") c.args.text.now c.in-Some.space.now c.in-Some.ensures.some in (omega (arith, c.decreases, m), c.requires.binders)

pub read_arguments-returns-in_default-2-clause-ok : goal.read_arguments-returns-in_default-2-clause-ok
read_arguments-returns-in_default-2-clause-ok t c = argument_wrong (plain_signature c.args.tables.now c.args.signature.now) (types_of c.args.tables.now c.args.bound.now) c.requires.binders.over (term_of c.args.tables.now c.args.term) c.args.text.now c.in-Some.space.now c.in-Some.ensures.some (sym c.begins_argument.ensures ∙ c.if-not-begins_argument.false) (term_none c.read_argument.new.tables c.in_ok-argument.field-0 _ c.in_ok-argument.ensures.ok c.in_default-2.is)

pub read_arguments-returns-then-is_sugar-clause-ok : goal.read_arguments-returns-then-is_sugar-clause-ok
read_arguments-returns-then-is_sugar-clause-ok t c =
    let argument = (term_some c.read_argument.new.tables c.in_ok-argument.field-0 c.in-Some-2.argument _ c.in_ok-argument.ensures.ok c.in-Some-2.is) in
    argument_sugar (plain_signature c.args.tables.now c.args.signature.now) (types_of c.args.tables.now c.args.bound.now) c.requires.binders.over (term_of c.args.tables.now c.args.term) c.args.text.now c.in-Some.space.now _ c.in-Some.ensures.some (sym c.begins_argument.ensures ∙ c.if-not-begins_argument.false) argument.1 (ap (λ m. is_sugar (sugar m (term_of c.read_argument.new.tables c.in-Some-2.argument.term))) (sym (c.read_argument.ensures.grows.same_term c.args.term c.requires.term)) ∙ sym c.is_sugar.ensures ∙ c.if-is_sugar.true)

pub read_arguments-returns-in_err-applied-clause-grows : goal.read_arguments-returns-in_err-applied-clause-grows
read_arguments-returns-in_err-applied-clause-grows t c = tables_grow_further c.args.tables.now c.read_argument.new.tables c.apply.new.tables c.read_argument.ensures.grows c.apply.ensures.grows

pub read_arguments-returns-in_default-3-clause-grows : goal.read_arguments-returns-in_default-3-clause-grows
read_arguments-returns-in_default-3-clause-grows t c = tables_grow_further c.args.tables.now c.read_argument.new.tables c.apply.new.tables c.read_argument.ensures.grows c.apply.ensures.grows

pub read_arguments-returns-in_default-3-clause-ok : goal.read_arguments-returns-in_default-3-clause-ok
read_arguments-returns-in_default-3-clause-ok t c =
    let argument = (term_some c.read_argument.new.tables c.in_ok-argument.field-0 c.in-Some-2.argument _ c.in_ok-argument.ensures.ok c.in-Some-2.is) in
    argument_unfit (plain_signature c.args.tables.now c.args.signature.now) (types_of c.args.tables.now c.args.bound.now) c.requires.binders.over (term_of c.args.tables.now c.args.term) c.args.text.now c.in-Some.space.now _ c.in-Some.ensures.some (sym c.begins_argument.ensures ∙ c.if-not-begins_argument.false) argument.1 (ap (λ m. applied m (term_of c.read_argument.new.tables c.in-Some-2.argument.term)) (sym (c.read_argument.ensures.grows.same_term c.args.term c.requires.term)) ∙ made_none c.apply.new.tables c.in_ok-applied.field-0 _ c.in_ok-applied.ensures.ok c.in_default-3.is)

pub read_arguments-read_arguments-requires : goal.read_arguments-read_arguments-requires
read_arguments-read_arguments-requires t c =
    let argument = (term_some c.read_argument.new.tables c.in_ok-argument.field-0 c.in-Some-2.argument _ c.in_ok-argument.ensures.ok c.in-Some-2.is) in
    let m = behind_long (codes " ") c.args.text.now c.in-Some.space.now c.in-Some.ensures.some in
    let l = argument_rest (plain_signature c.args.tables.now c.args.signature.now) (types_of c.args.tables.now c.args.bound.now) c.requires.binders.over c.in-Some.space.now _ _ argument.1 in
    (omega (arith, c.decreases, m, l), ((binders_there c.args.tables.now c.apply.new.tables c.args.signature.now c.args.bound.now (tables_grow_further c.args.tables.now c.read_argument.new.tables c.apply.new.tables c.read_argument.ensures.grows c.apply.ensures.grows) c.requires.binders), (made_some c.apply.new.tables c.in_ok-applied.field-0 c.in-Some-3.applied _ c.in_ok-applied.ensures.ok c.in-Some-3.is).0))

pub read_arguments-returns-clause-grows : goal.read_arguments-returns-clause-grows
read_arguments-returns-clause-grows t c = tables_grow_further c.args.tables.now c.apply.new.tables c.read_arguments.new.tables (tables_grow_further c.args.tables.now c.read_argument.new.tables c.apply.new.tables c.read_argument.ensures.grows c.apply.ensures.grows) c.read_arguments.ensures.grows

pub read_arguments-returns-clause-ok : goal.read_arguments-returns-clause-ok
read_arguments-returns-clause-ok t c =
    let argument = (term_some c.read_argument.new.tables c.in_ok-argument.field-0 c.in-Some-2.argument _ c.in_ok-argument.ensures.ok c.in-Some-2.is) in
    let same : plain_signature c.apply.new.tables c.args.signature.now ≡ (plain_signature c.args.tables.now c.args.signature.now) = names_same c.args.tables.now c.apply.new.tables c.args.signature.now c.args.bound.now (tables_grow_further c.args.tables.now c.read_argument.new.tables c.apply.new.tables c.read_argument.ensures.grows c.apply.ensures.grows) c.requires.binders in
    let kept : types_of c.apply.new.tables c.args.bound.now ≡ (types_of c.args.tables.now c.args.bound.now) = bound_same c.args.tables.now c.apply.new.tables c.args.signature.now c.args.bound.now (tables_grow_further c.args.tables.now c.read_argument.new.tables c.apply.new.tables c.read_argument.ensures.grows c.apply.ensures.grows) c.requires.binders in
    let made = (made_some c.apply.new.tables c.in_ok-applied.field-0 c.in-Some-3.applied _ c.in_ok-applied.ensures.ok c.in-Some-3.is) in
    let whole = argument_read (plain_signature c.args.tables.now c.args.signature.now) (types_of c.args.tables.now c.args.bound.now) c.requires.binders.over (term_of c.args.tables.now c.args.term) _ c.args.text.now c.in-Some.space.now _ c.in-Some.ensures.some (sym c.begins_argument.ensures ∙ c.if-not-begins_argument.false) argument.1 (ap (λ m. is_sugar (sugar m (term_of c.read_argument.new.tables c.in-Some-2.argument.term))) (sym (c.read_argument.ensures.grows.same_term c.args.term c.requires.term)) ∙ sym c.is_sugar.ensures ∙ c.if-is_sugar.false) (ap (λ m. applied m (term_of c.read_argument.new.tables c.in-Some-2.argument.term)) (sym (c.read_argument.ensures.grows.same_term c.args.term c.requires.term)) ∙ made.1) in
    term_result_is c.read_arguments.new.tables c.read_arguments.result _ _ ((λ j. reads_arguments (same j) (kept j) (term_of c.apply.new.tables c.in-Some-3.applied) c.in-Some-2.argument.rest.now) ∙ sym whole) c.read_arguments.ensures.ok

pub read_behind-returns-then-is_plain-clause-ok : goal.read_behind-returns-then-is_plain-clause-ok
read_behind-returns-then-is_plain-clause-ok t c = (c.requires.term, sign_end (plain_signature c.args.tables.now c.args.signature.now) (types_of c.args.tables.now c.args.bound.now) (term_of c.args.tables.now c.args.term) c.args.text.now c.in_default.ensures.none (sym c.is_plain.ensures ∙ c.if-is_plain.true))

pub read_behind-returns-in_default-clause-ok : goal.read_behind-returns-in_default-clause-ok
read_behind-returns-in_default-clause-ok t c = sign_wrong (plain_signature c.args.tables.now c.args.signature.now) (types_of c.args.tables.now c.args.bound.now) (term_of c.args.tables.now c.args.term) c.args.text.now c.in_default.ensures.none (sym c.is_plain.ensures ∙ c.if-is_plain.false)

pub read_behind-read_operand-requires : goal.read_behind-read_operand-requires
read_behind-read_operand-requires t c = let l = connective_shorter c.args.text.now c.in-Some.behind_sign.now c.in-Some.sign c.in-Some.ensures.some in (omega (arith, c.decreases, l), c.requires.binders)

pub read_behind-returns-in_default-2-clause-ok : goal.read_behind-returns-in_default-2-clause-ok
read_behind-returns-in_default-2-clause-ok t c = second_wrong (plain_signature c.args.tables.now c.args.signature.now) (types_of c.args.tables.now c.args.bound.now) (term_of c.args.tables.now c.args.term) c.args.text.now c.in-Some.behind_sign.now c.in-Some.sign c.in-Some.ensures.some (term_none c.read_operand.new.tables c.in_ok-second.field-0 _ c.in_ok-second.ensures.ok c.in_default-2.is)

pub read_behind-connect-requires-clause-signature : goal.read_behind-connect-requires-clause-signature
read_behind-connect-requires-clause-signature t c = (binders_there c.args.tables.now c.read_operand.new.tables c.args.signature.now c.args.bound.now c.read_operand.ensures.grows c.requires.binders).signature

pub read_behind-returns-in_err-made-clause-grows : goal.read_behind-returns-in_err-made-clause-grows
read_behind-returns-in_err-made-clause-grows t c = tables_grow_further c.args.tables.now c.read_operand.new.tables c.connect.new.tables c.read_operand.ensures.grows c.connect.ensures.grows

pub read_behind-returns-in_default-3-clause-grows : goal.read_behind-returns-in_default-3-clause-grows
read_behind-returns-in_default-3-clause-grows t c = tables_grow_further c.args.tables.now c.read_operand.new.tables c.connect.new.tables c.read_operand.ensures.grows c.connect.ensures.grows

pub read_behind-returns-clause-grows : goal.read_behind-returns-clause-grows
read_behind-returns-clause-grows t c = tables_grow_further c.args.tables.now c.read_operand.new.tables c.connect.new.tables c.read_operand.ensures.grows c.connect.ensures.grows

pub read_behind-returns-in_default-3-clause-ok : goal.read_behind-returns-in_default-3-clause-ok
read_behind-returns-in_default-3-clause-ok t c =
    let second = (term_some c.read_operand.new.tables c.in_ok-second.field-0 c.in-Some-2.second _ c.in_ok-second.ensures.ok c.in-Some-2.is) in
    let same : plain_signature c.read_operand.new.tables c.args.signature.now ≡ (plain_signature c.args.tables.now c.args.signature.now) = names_same c.args.tables.now c.read_operand.new.tables c.args.signature.now c.args.bound.now c.read_operand.ensures.grows c.requires.binders in
    let kept : types_of c.read_operand.new.tables c.args.bound.now ≡ (types_of c.args.tables.now c.args.bound.now) = bound_same c.args.tables.now c.read_operand.new.tables c.args.signature.now c.args.bound.now c.read_operand.ensures.grows c.requires.binders in
    unconnected_read (plain_signature c.args.tables.now c.args.signature.now) (types_of c.args.tables.now c.args.bound.now) (term_of c.args.tables.now c.args.term) c.args.text.now c.in-Some.behind_sign.now c.in-Some.sign _ c.in-Some.ensures.some second.1 ((λ j. connected_by (sym same j) c.in-Some.sign (sym (c.read_operand.ensures.grows.same_term c.args.term c.requires.term) j) (term_of c.read_operand.new.tables c.in-Some-2.second.term)) ∙ made_none c.connect.new.tables c.in_ok-made.field-0 _ c.in_ok-made.ensures.ok c.in_default-3.is)

pub read_behind-returns-clause-ok : goal.read_behind-returns-clause-ok
read_behind-returns-clause-ok t c =
    let second = (term_some c.read_operand.new.tables c.in_ok-second.field-0 c.in-Some-2.second _ c.in_ok-second.ensures.ok c.in-Some-2.is) in
    let same : plain_signature c.read_operand.new.tables c.args.signature.now ≡ (plain_signature c.args.tables.now c.args.signature.now) = names_same c.args.tables.now c.read_operand.new.tables c.args.signature.now c.args.bound.now c.read_operand.ensures.grows c.requires.binders in
    let kept : types_of c.read_operand.new.tables c.args.bound.now ≡ (types_of c.args.tables.now c.args.bound.now) = bound_same c.args.tables.now c.read_operand.new.tables c.args.signature.now c.args.bound.now c.read_operand.ensures.grows c.requires.binders in
    let made = (made_some c.connect.new.tables c.in_ok-made.field-0 c.in-Some-3.made _ c.in_ok-made.ensures.ok c.in-Some-3.is) in
    (made.0, connected_read (plain_signature c.args.tables.now c.args.signature.now) (types_of c.args.tables.now c.args.bound.now) (term_of c.args.tables.now c.args.term) c.args.text.now c.in-Some.behind_sign.now c.in-Some.sign _ _ c.in-Some.ensures.some second.1 ((λ j. connected_by (sym same j) c.in-Some.sign (sym (c.read_operand.ensures.grows.same_term c.args.term c.requires.term) j) (term_of c.read_operand.new.tables c.in-Some-2.second.term)) ∙ made.1))
