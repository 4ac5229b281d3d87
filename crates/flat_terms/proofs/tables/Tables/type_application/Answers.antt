use Rattle.std.proofs.Common.{ap, refl}
use Rattle.hol_terms.specs.Ty.{ty_app, tys}
use Rattle.flat_terms.specs.Plain.{name_of}
use Rattle.flat_terms.proofs.Build.{type_built, list_more, relisted, on_err, list_within, list_below, list_types}
use Rattle.flat_terms.proofs.tables.Tables.type_application.Goals as goal

pub invariant_of-self-in_err-place : goal.invariant_of-self-in_err-place
invariant_of-self-in_err-place c = (relisted _ _ _ _ _ _ _ _ c.self.view_is (list_more _ _ _ _ _ _ _ c.self.invariant c.in_ok-list.ensures.ok) c.in_err-place.ensures.err refl).1

pub returns-in_err-place-clause-err : goal.returns-in_err-place-clause-err
returns-in_err-place-clause-err c = on_err c.from_residual-in_err-place.result (relisted _ _ _ _ _ _ _ _ c.self.view_is (list_more _ _ _ _ _ _ _ c.self.invariant c.in_ok-list.ensures.ok) c.in_err-place.ensures.err refl).0

pub invariant_of-self-2 : goal.invariant_of-self-2
invariant_of-self-2 c =
    let put = c.in_ok-list.ensures.ok in
    let n = list_within c.args.self.now _ c.in_ok-list.list c.args.args.now put.at c.requires.args in
    let b = list_below c.args.self.now _ c.in_ok-list.list c.args.args.now put.at c.requires.args in
    let t = list_types c.args.self.now _ c.in_ok-list.list c.args.args.now put.at c.requires.args in
    (type_built _ _ _ _ _ _ _ _ _ _ c.self.view_is (list_more _ _ _ _ _ _ _ c.self.invariant put) (c.requires.name, n, b) (ap (λ ts. ty_app (name_of c.args.self.now c.args.name) (tys ts)) t) c.in_ok-place.ensures.ok).1

pub returns-clause-ok : goal.returns-clause-ok
returns-clause-ok c =
    let put = c.in_ok-list.ensures.ok in
    let n = list_within c.args.self.now _ c.in_ok-list.list c.args.args.now put.at c.requires.args in
    let b = list_below c.args.self.now _ c.in_ok-list.list c.args.args.now put.at c.requires.args in
    let t = list_types c.args.self.now _ c.in_ok-list.list c.args.args.now put.at c.requires.args in
    (type_built _ _ _ _ _ _ _ _ _ _ c.self.view_is (list_more _ _ _ _ _ _ _ c.self.invariant put) (c.requires.name, n, b) (ap (λ ts. ty_app (name_of c.args.self.now c.args.name) (tys ts)) t) c.in_ok-place.ensures.ok).0
