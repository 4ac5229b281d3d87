use Rattle.std.proofs.Common.{◌≤◌, ◌<◌, get_or, refl, sym, ◌∙◌, arith}
use Rattle.std.specs.declared.cmp.Ordering.TheVariants.{Less, Greater}
use Rattle.hol_terms.specs.Ty.{tys}
use Rattle.hol_terms.specs.Subst.{name_cmp, tys_cmp}
use Rattle.hol_terms.proofs.Lists.{slice_cmp-at, slice_cmp-left_more, slice_cmp-right_more, slice_cmp-no_more, slice_cmp-decided}
use Rattle.flat_terms.specs.Plain.{name_of, type_of, types_of}
use Rattle.flat_instances.specs.Orders.{type_order}
use Rattle.flat_instances.proofs.TypeSteps.{most, most_below, most_above, has_at, below_types}
use Rattle.flat_instances.proofs.OrderSteps.{types_tie, decided, undecided, by_types, args_order}
use Rattle.flat_instances.proofs.compare.+compare_types.Goals as goal

pub compare_lists-returns-then-i-ys : goal.compare_lists-returns-then-i-ys
compare_lists-returns-then-i-ys t c = sym (c.loop-i.invariant ∙ slice_cmp-left_more (type_order c.args.tables.now) c.args.xs.now c.args.ys.now c.loop-i.i (record { 0 = 0 }) c.loop-i-test.true c.if-i-ys.true)

pub compare_lists-compare_types-requires : goal.compare_lists-compare_types-requires
compare_lists-compare_types-requires t c =
    let low : (get_or c.args.xs.now c.loop-i.i (record { 0 = 0 })).0 < most c.args.xs.now = most_above c.args.xs.now c.loop-i.i (record { 0 = 0 }) c.loop-i-test.true in
    (omega (arith, c.decreases, low), (has_at c.args.tables.now c.args.xs.now c.loop-i.i (record { 0 = 0 }) c.requires.xs c.loop-i-test.true, has_at c.args.tables.now c.args.ys.now c.loop-i.i (record { 0 = 0 }) c.requires.ys c.if-i-ys.false))

pub compare_lists-returns-in_default : goal.compare_lists-returns-in_default
compare_lists-returns-in_default t c = sym (c.loop-i.invariant ∙ slice_cmp-decided (type_order c.args.tables.now) c.args.xs.now c.args.ys.now c.loop-i.i (record { 0 = 0 }) (record { 0 = 0 }) c.compare_types.result c.loop-i-test.true c.if-i-ys.false (sym c.compare_types.ensures) c.in_default.not-Equal)

pub compare_lists-loop-i-preserved : goal.compare_lists-loop-i-preserved
compare_lists-loop-i-preserved t c = c.loop-i.invariant ∙ slice_cmp-at (type_order c.args.tables.now) c.args.xs.now c.args.ys.now c.loop-i.i (record { 0 = 0 }) (record { 0 = 0 }) c.loop-i-test.true c.if-i-ys.false ∙ sym (undecided _ _ c.in-Equal.ensures)

pub compare_lists-returns-then-xs-ys : goal.compare_lists-returns-then-xs-ys
compare_lists-returns-then-xs-ys t c = sym (c.loop-i.invariant ∙ slice_cmp-right_more (type_order c.args.tables.now) c.args.xs.now c.args.ys.now c.loop-i.i (record { 0 = 0 }) c.loop-i-test.false (omega arith))

pub compare_lists-returns-else-xs-ys : goal.compare_lists-returns-else-xs-ys
compare_lists-returns-else-xs-ys t c = sym (c.loop-i.invariant ∙ slice_cmp-no_more (type_order c.args.tables.now) c.args.xs.now c.args.ys.now c.loop-i.i c.loop-i-test.false (omega arith))

pub compare_types-returns-then-same_type : goal.compare_types-returns-then-same_type
compare_types-returns-then-same_type t c = types_tie (type_of c.args.tables.now c.args.a) (type_of c.args.tables.now c.args.b) (c.same_type.ensures.0 c.if-same_type.true)

pub compare_types-compare_lists-requires : goal.compare_types-compare_lists-requires
compare_types-compare_lists-requires t c =
    let few : most c.in-App-App.xs.now ≤ c.args.a.0 = most_below c.args.a.0 c.in-App-App.xs.now c.in-App-App.ensures.1 in
    (omega (arith, c.decreases, few), (below_types c.args.tables.now c.args.a.0 c.in-App-App.xs.now c.requires.a c.in-App-App.ensures.1, below_types c.args.tables.now c.args.b.0 c.in-App-App.ys.now c.requires.b c.in-App-App.ensures'.1))

pub compare_types-returns-in-Var-Var : goal.compare_types-returns-in-Var-Var
compare_types-returns-in-Var-Var t c = by_types _ _ _ _ _ c.in-Var-Var.ensures.1 c.in-Var-Var.ensures'.1 c.compare_names.ensures

pub compare_types-returns-in-Var-App : goal.compare_types-returns-in-Var-App
compare_types-returns-in-Var-App t c = by_types _ _ _ _ Less c.in-Var-App.ensures.1 c.in-Var-App.ensures'.2 refl

pub compare_types-returns-in-App-Var : goal.compare_types-returns-in-App-Var
compare_types-returns-in-App-Var t c = by_types _ _ _ _ Greater c.in-App-Var.ensures.2 c.in-App-Var.ensures'.1 refl

pub compare_types-returns-in-Equal : goal.compare_types-returns-in-Equal
compare_types-returns-in-Equal t c =
    by_types _ _ _ _ c.compare_lists.result c.in-App-App.ensures.2 c.in-App-App.ensures'.2 (args_order c.args.tables.now c.in-App-App.xs.now c.in-App-App.ys.now c.compare_lists.result c.compare_lists.ensures ∙ undecided (name_cmp (name_of c.args.tables.now c.in-App-App.m) (name_of c.args.tables.now c.in-App-App.n)) (tys_cmp (tys (types_of c.args.tables.now c.in-App-App.xs.now)) (tys (types_of c.args.tables.now c.in-App-App.ys.now))) c.in-Equal.ensures)

pub compare_types-returns-in_default : goal.compare_types-returns-in_default
compare_types-returns-in_default t c =
    by_types _ _ _ _ c.compare_names-in-App-App.result c.in-App-App.ensures.2 c.in-App-App.ensures'.2 (decided c.compare_names-in-App-App.result (name_cmp (name_of c.args.tables.now c.in-App-App.m) (name_of c.args.tables.now c.in-App-App.n)) (tys_cmp (tys (types_of c.args.tables.now c.in-App-App.xs.now)) (tys (types_of c.args.tables.now c.in-App-App.ys.now))) c.compare_names-in-App-App.ensures c.in_default.not-Equal)
