use Rattle.std.proofs.Common.{◌≤◌, ◌<◌, false, true, get_or, refl, sym, ◌∙◌, arith}
use Rattle.flat_instances.proofs.TypeSteps.{most, most_below, most_above, has_at, below_types}
use Rattle.flat_signatures.proofs.OverSteps.{listed_over, added_over, app_over}
use Rattle.flat_signatures.proofs.Numbers.{IfOk-implies}
use Rattle.flat_signatures.proofs.over.+over.Goals as goal

pub is_over-returns-then-contains-clause-ok : goal.is_over-returns-then-contains-clause-ok
is_over-returns-then-contains-clause-ok t c = sym (listed_over c.args.tables.now c.args.signature.now c.args.known.now.keys c.args.ty c.requires.known (sym c.contains.ensures ∙ c.if-contains.true))

pub are_over-is_over-requires : goal.are_over-is_over-requires
are_over-is_over-requires t c =
    let low : (get_or c.args.types.now c.loop-ty.ty-index (record { 0 = 0 })).0 < most c.args.types.now = most_above c.args.types.now c.loop-ty.ty-index (record { 0 = 0 }) c.loop-ty-test.true in
    (omega (arith, c.decreases, low), (c.requires.signature, (has_at c.args.tables.now c.args.types.now c.loop-ty.ty-index (record { 0 = 0 }) c.requires.types c.loop-ty-test.true, c.loop-ty.invariant.known)))

pub is_over-returns-then-not-has_arity-clause-ok : goal.is_over-returns-then-not-has_arity-clause-ok
is_over-returns-then-not-has_arity-clause-ok t c =
    sym (app_over c.args.tables.now c.args.signature.now c.args.ty c.in-App.name c.in-App.args.now _ false _ c.in-App.ensures.2 refl (sym c.has_arity.ensures ∙ c.if-not-has_arity.true) refl)

pub is_over-are_over-requires : goal.is_over-are_over-requires
is_over-are_over-requires t c =
    let few : most c.in-App.args.now ≤ c.args.ty.0 = most_below c.args.ty.0 c.in-App.args.now c.in-App.ensures.1 in
    (omega (arith, c.decreases, few), (c.requires.signature, (below_types c.args.tables.now c.args.ty.0 c.in-App.args.now c.requires.ty c.in-App.ensures.1, c.requires.known)))

pub is_over-returns-else-not-branch-clause-known : goal.is_over-returns-else-not-branch-clause-known
is_over-returns-else-not-branch-clause-known t c =
    added_over c.args.tables.now c.args.signature.now _ _ c.args.ty c.in_ok-are_over-in-App.ensures.known
    (app_over c.args.tables.now c.args.signature.now c.args.ty c.in-App.name c.in-App.args.now _ true true c.in-App.ensures.2 refl (sym c.has_arity.ensures ∙ c.if-not-has_arity.false) (sym c.in_ok-are_over-in-App.ensures.ok ∙ c.if-not-branch.false))
    c.note_over.ensures.added

pub is_over-returns-else-not-branch-clause-ok : goal.is_over-returns-else-not-branch-clause-ok
is_over-returns-else-not-branch-clause-ok t c =
    let over = app_over c.args.tables.now c.args.signature.now c.args.ty c.in-App.name c.in-App.args.now _ true true c.in-App.ensures.2 refl (sym c.has_arity.ensures ∙ c.if-not-has_arity.false) (sym c.in_ok-are_over-in-App.ensures.ok ∙ c.if-not-branch.false) in
    IfOk-implies c.note_over.result _ _ (λ b e. e ∙ sym over) c.note_over.ensures.answer
