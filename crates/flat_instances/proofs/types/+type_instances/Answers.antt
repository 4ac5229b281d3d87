use Rattle.std.proofs.Common.{◌≡◌, ◌+◌, ◌<◌, ◌≤◌, List, take, take_all, get_or, arith, sym, ap, subst, ◌∙◌}
use Rattle.std.proofs.lemmas.Result.{IfOk-weaker}
use Rattle.hol_terms.specs.Subst.{ty_subst}
use Rattle.flat_terms.specs.declared.nodes.TypeId.{TypeId}
use Rattle.flat_terms.specs.Views.{AreBelow}
use Rattle.flat_instances.specs.Types.{type_pairs, type_instance_of, IsTypeNumber, AreTypeInstances}
use Rattle.flat_instances.proofs.Growth.{type_number_is}
use Rattle.flat_instances.proofs.TypeSteps.{found_instance, takes_itself, takes_further, takes_same, takes_noted, app_instance, pairs_there, name_there, below_types, has_at, most, most_below, most_above, none_yet, instances_more}
use Rattle.flat_instances.proofs.types.+type_instances.Goals as goal

pub type_instance_at-returns-in-Some-clause-takes : goal.type_instance_at-returns-in-Some-clause-takes
type_instance_at-returns-in-Some-clause-takes t c = takes_itself c.args.tables.now c.args.pairs.now c.args.memo.now.entries c.requires.memo

pub type_instance_at-returns-in-Some-clause-ok : goal.type_instance_at-returns-in-Some-clause-ok
type_instance_at-returns-in-Some-clause-ok t c = found_instance c.args.tables.now c.args.pairs.now c.args.memo.now.entries c.args.ty c.in-Some.made c.requires.memo c.in-Some.ensures

pub type_instance_at-replacement-requires-clause-variable : goal.type_instance_at-replacement-requires-clause-variable
type_instance_at-replacement-requires-clause-variable t c = record { has = c.requires.ty; tree = c.in-Var.ensures.1 }

pub type_instance_at-returns-in-Var-clause-takes : goal.type_instance_at-returns-in-Var-clause-takes
type_instance_at-returns-in-Var-clause-takes t c = takes_itself c.args.tables.now c.args.pairs.now c.args.memo.now.entries c.requires.memo

pub type_instance_at-returns-in-Var-clause-ok : goal.type_instance_at-returns-in-Var-clause-ok
type_instance_at-returns-in-Var-clause-ok t c = type_number_is c.args.tables.now c.replacement.result _ (type_instance_of c.args.tables.now c.args.pairs.now c.args.ty) c.replacement.ensures (sym (ap (ty_subst (type_pairs c.args.tables.now c.args.pairs.now)) c.in-Var.ensures.1))

pub type_instance_at-returns-in_err-args-in-App-clause-takes : goal.type_instance_at-returns-in_err-args-in-App-clause-takes
type_instance_at-returns-in_err-args-in-App-clause-takes t c = takes_itself c.args.tables.now c.args.pairs.now c.args.memo.now.entries c.requires.memo

pub type_instance_at-type_instances_at-requires : goal.type_instance_at-type_instances_at-requires
type_instance_at-type_instances_at-requires t c =
    let below : AreBelow c.args.ty.0 c.as_slice.result.now = subst (λ (l : List TypeId). AreBelow c.args.ty.0 l) (sym (c.as_slice.ensures.value ∙ c.in_ok-args-in-App.ensures)) c.in-App.ensures.1 in
    let few : most c.as_slice.result.now ≤ c.args.ty.0 = most_below c.args.ty.0 c.as_slice.result.now below in
    (omega (arith, c.decreases, few), (c.requires.pairs, (below_types c.args.tables.now c.args.ty.0 c.as_slice.result.now c.requires.ty below, c.requires.memo)))

pub type_instance_at-returns-in_err-args-in-App-2-clause-takes : goal.type_instance_at-returns-in_err-args-in-App-2-clause-takes
type_instance_at-returns-in_err-args-in-App-2-clause-takes t c = c.type_instances_at.ensures.takes

pub type_instance_at-type_application-requires-clause-name : goal.type_instance_at-type_application-requires-clause-name
type_instance_at-type_application-requires-clause-name t c = name_there c.args.tables.now c.type_instances_at.new.tables c.in-App.name c.type_instances_at.ensures.takes.grows c.in-App.ensures.0

pub type_instance_at-type_application-requires-clause-args : goal.type_instance_at-type_application-requires-clause-args
type_instance_at-type_application-requires-clause-args t c = (subst (λ (rs : List TypeId). AreTypeInstances c.args.tables.now c.type_instances_at.new.tables c.args.pairs.now c.as_slice.result.now rs) (sym c.as_slice-in-App.ensures.value) c.in_ok-args-in-App-2.ensures.ok).has

pub type_instance_at-returns-in_err-made-in-App-clause-takes : goal.type_instance_at-returns-in_err-made-in-App-clause-takes
type_instance_at-returns-in_err-made-in-App-clause-takes t c = takes_same c.args.tables.now c.type_instances_at.new.tables c.type_application.new.self c.args.pairs.now _ c.type_instances_at.ensures.takes c.in_err-made-in-App.ensures.err

pub type_instance_at-returns-in_ok-made-in-App-clause-takes : goal.type_instance_at-returns-in_ok-made-in-App-clause-takes
type_instance_at-returns-in_ok-made-in-App-clause-takes t c = (takes_noted c.args.tables.now c.type_instances_at.new.tables c.type_application.new.self c.args.pairs.now c.args.ty c.in_ok-made-in-App.made _ _ _ c.requires.pairs c.requires.ty c.type_instances_at.ensures.takes c.in_ok-made-in-App.ensures.ok (app_instance c.args.tables.now c.type_instances_at.new.tables c.args.pairs.now c.args.ty c.in-App.name c.in-App.args.now c.as_slice.result.now c.as_slice-in-App.result.now c.type_instances_at.ensures.takes.grows c.in-App.ensures.2 (c.as_slice.ensures.value ∙ c.in_ok-args-in-App.ensures) (subst (λ (rs : List TypeId). AreTypeInstances c.args.tables.now c.type_instances_at.new.tables c.args.pairs.now c.as_slice.result.now rs) (sym c.as_slice-in-App.ensures.value) c.in_ok-args-in-App-2.ensures.ok)) c.note_type.ensures.noted).0

pub type_instance_at-returns-in_ok-made-in-App-clause-ok : goal.type_instance_at-returns-in_ok-made-in-App-clause-ok
type_instance_at-returns-in_ok-made-in-App-clause-ok t c =
    let both = takes_noted c.args.tables.now c.type_instances_at.new.tables c.type_application.new.self c.args.pairs.now c.args.ty c.in_ok-made-in-App.made _ _ _ c.requires.pairs c.requires.ty c.type_instances_at.ensures.takes c.in_ok-made-in-App.ensures.ok (app_instance c.args.tables.now c.type_instances_at.new.tables c.args.pairs.now c.args.ty c.in-App.name c.in-App.args.now c.as_slice.result.now c.as_slice-in-App.result.now c.type_instances_at.ensures.takes.grows c.in-App.ensures.2 (c.as_slice.ensures.value ∙ c.in_ok-args-in-App.ensures) (subst (λ (rs : List TypeId). AreTypeInstances c.args.tables.now c.type_instances_at.new.tables c.args.pairs.now c.as_slice.result.now rs) (sym c.as_slice-in-App.ensures.value) c.in_ok-args-in-App-2.ensures.ok)) c.note_type.ensures.noted in
    IfOk-weaker c.note_type.result (λ y. y ≡ c.in_ok-made-in-App.made) (λ y. IsTypeNumber c.type_application.new.self y (type_instance_of c.args.tables.now c.args.pairs.now c.args.ty))
    (λ y e. subst (λ (z : TypeId). IsTypeNumber c.type_application.new.self z (type_instance_of c.args.tables.now c.args.pairs.now c.args.ty)) (sym e) both.1) c.note_type.ensures.same

pub type_instances_at-loop-ty-init : goal.type_instances_at-loop-ty-init
type_instances_at-loop-ty-init t c = record { takes = takes_itself c.args.tables.now c.args.pairs.now c.args.memo.now.entries c.requires.memo; made = none_yet c.args.tables.now c.args.pairs.now c.args.types.now _ c.new-instances.ensures.items }

pub type_instances_at-type_instance_at-requires : goal.type_instances_at-type_instance_at-requires
type_instances_at-type_instance_at-requires t c =
    let low : (get_or c.args.types.now c.loop-ty.ty-index (record { 0 = 0 })).0 < most c.args.types.now = most_above c.args.types.now c.loop-ty.ty-index (record { 0 = 0 }) c.loop-ty-test.true in
    (omega (arith, c.decreases, low), (pairs_there c.args.tables.now c.loop-ty.tables c.args.pairs.now c.loop-ty.invariant.takes.grows c.requires.pairs, (c.loop-ty.invariant.takes.grows.has _ (has_at c.args.tables.now c.args.types.now c.loop-ty.ty-index (record { 0 = 0 }) c.requires.types c.loop-ty-test.true), c.loop-ty.invariant.takes.memo)))

pub type_instances_at-returns-in_err-instance-clause-takes : goal.type_instances_at-returns-in_err-instance-clause-takes
type_instances_at-returns-in_err-instance-clause-takes t c = takes_further c.args.tables.now c.loop-ty.tables c.type_instance_at.new.tables c.args.pairs.now _ _ c.loop-ty.invariant.takes c.type_instance_at.ensures.takes

pub type_instances_at-returns-in_err-push-clause-takes : goal.type_instances_at-returns-in_err-push-clause-takes
type_instances_at-returns-in_err-push-clause-takes t c = takes_further c.args.tables.now c.loop-ty.tables c.type_instance_at.new.tables c.args.pairs.now _ _ c.loop-ty.invariant.takes c.type_instance_at.ensures.takes

pub type_instances_at-loop-ty-preserved : goal.type_instances_at-loop-ty-preserved
type_instances_at-loop-ty-preserved t c = record {
  takes = takes_further c.args.tables.now c.loop-ty.tables c.type_instance_at.new.tables c.args.pairs.now _ _ c.loop-ty.invariant.takes c.type_instance_at.ensures.takes;
  made =
      subst (λ (rs : List TypeId). AreTypeInstances c.args.tables.now c.type_instance_at.new.tables c.args.pairs.now (take (c.loop-ty.ty-index + 1) c.args.types.now) rs) (sym c.in_ok-push.ensures.items)
      (instances_more c.args.tables.now c.loop-ty.tables c.type_instance_at.new.tables c.args.pairs.now c.args.types.now _ c.loop-ty.ty-index (record { 0 = 0 }) c.in_ok-instance.instance c.loop-ty.invariant.takes.grows c.requires.pairs c.type_instance_at.ensures.takes.grows c.loop-ty-test.true c.requires.types c.loop-ty.invariant.made c.in_ok-instance.ensures.ok);
}

pub type_instances_at-returns-clause-takes : goal.type_instances_at-returns-clause-takes
type_instances_at-returns-clause-takes t c = c.loop-ty.invariant.takes

pub type_instances_at-returns-clause-ok : goal.type_instances_at-returns-clause-ok
type_instances_at-returns-clause-ok t c = subst (λ (ns : List TypeId). AreTypeInstances c.args.tables.now c.loop-ty.tables c.args.pairs.now ns c.loop-ty.instances.items) (take_all c.loop-ty.ty-index c.args.types.now c.loop-ty-test.false) c.loop-ty.invariant.made
