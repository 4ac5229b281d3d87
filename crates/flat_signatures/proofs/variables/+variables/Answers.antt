use Rattle.std.proofs.Common.{◌≤◌, ◌<◌, get_or, sym, ◌∙◌, arith}
use Rattle.std.proofs.lemmas.Result.{on_ok_weaker}
use Rattle.hol_terms.specs.Ty.{tys}
use Rattle.flat_terms.specs.Plain.{name_of, type_of, types_of}
use Rattle.flat_instances.proofs.TypeSteps.{most, most_below, most_above, has_at, below_types}
use Rattle.flat_signatures.proofs.Walks.{listed_seen, seen_stay, walked_var, added_walked, app_seen, on_ok_always}
use Rattle.flat_signatures.proofs.variables.+variables.Goals as goal

pub add_variables-returns-then-contains-clause-ok : goal.add_variables-returns-then-contains-clause-ok
add_variables-returns-then-contains-clause-ok t c =
    sym (seen_stay (type_of c.args.tables.now c.args.ty) _ (listed_seen c.args.tables.now _ c.args.walked.now.keys c.args.ty c.requires.walked (sym c.contains.ensures ∙ c.if-contains.true)))

pub add_variables-add_variables_of-requires : goal.add_variables-add_variables_of-requires
add_variables-add_variables_of-requires t c =
    let few : most c.in-App.args.now ≤ c.args.ty.0 = most_below c.args.ty.0 c.in-App.args.now c.in-App.ensures.1 in
    (omega (arith, c.decreases, few), (below_types c.args.tables.now c.args.ty.0 c.in-App.args.now c.requires.ty c.in-App.ensures.1, (c.requires.seen, c.requires.walked)))

pub add_variables_of-add_variables-requires : goal.add_variables_of-add_variables-requires
add_variables_of-add_variables-requires t c =
    let low : (get_or c.args.types.now c.loop-ty.ty-index (record { 0 = 0 })).0 < most c.args.types.now = most_above c.args.types.now c.loop-ty.ty-index (record { 0 = 0 }) c.loop-ty-test.true in
    (omega (arith, c.decreases, low), (has_at c.args.tables.now c.args.types.now c.loop-ty.ty-index (record { 0 = 0 }) c.requires.types c.loop-ty-test.true, (c.loop-ty.invariant.has, c.loop-ty.invariant.walked)))

pub add_variables-returns-in-Var-clause-walked : goal.add_variables-returns-in-Var-clause-walked
add_variables-returns-in-Var-clause-walked t c =
    on_ok_weaker c.add_variable.result (λ e. walked_var c.args.tables.now _ _ (type_of c.args.tables.now c.args.ty) c.args.walked.now.keys e c.requires.walked) c.add_variable.ensures.ok

pub add_variables-returns-in_ok-add_variables_of-in-App-clause-walked : goal.add_variables-returns-in_ok-add_variables_of-in-App-clause-walked
add_variables-returns-in_ok-add_variables_of-in-App-clause-walked t c =
    let all = c.in_ok-add_variables_of-in-App.ensures in
    on_ok_always c.note_walked.result _ (added_walked c.args.tables.now _ _ _ c.args.ty all.walked
    (app_seen _ _ (type_of c.args.tables.now c.args.ty) (name_of c.args.tables.now c.in-App.field-0) (tys (types_of c.args.tables.now c.in-App.args.now)) c.in-App.ensures.2 all.ok)
    c.note_walked.ensures)
