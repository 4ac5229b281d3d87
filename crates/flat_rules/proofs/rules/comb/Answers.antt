use Rattle.std.proofs.Common.{sym, ap, ◌∙◌}
use Rattle.hol_terms.specs.Tm.{tm_comb}
use Rattle.hol_terms.specs.Typing.{tm_type, range_ty}
use Rattle.hol_terms.specs.Sequent.{union, eq_tm}
use Rattle.flat_terms.specs.Plain.{term_of}
use Rattle.flat_instances.proofs.TablesGrow.{tables_grow_further, tables_grow_by_term}
use Rattle.flat_rules.specs.Sequents.{terms_of}
use Rattle.flat_rules.proofs.Numbers.{number_moved}
use Rattle.flat_rules.proofs.Sides.{grows_adding}
use Rattle.flat_rules.proofs.RuleSteps.{answered, united, comb_gives, comb_refuses, fits_not, fits_so, takes_so, others_take, applied}
use Rattle.flat_rules.proofs.rules.comb.Goals as goal

pub returns-then-is_none-clause-ok : goal.returns-then-is_none-clause-ok
returns-then-is_none-clause-ok c =
    comb_refuses (terms_of c.args.tables.now c.args.a.now.hyps.items) (terms_of c.args.tables.now c.args.b.now.hyps.items) (term_of c.args.tables.now c.args.a.now.concl) (term_of c.args.tables.now c.args.b.now.concl) (term_of c.args.tables.now c.in-Some.f) (term_of c.args.tables.now c.in-Some.g) (term_of c.args.tables.now c.in-Some-equation.x) (term_of c.args.tables.now c.in-Some-equation.y) c.in-Some.ensures.tree c.in-Some-equation.ensures.tree
    (fits_not c.args.tables.now (term_of c.args.tables.now c.in-Some.f) (term_of c.args.tables.now c.in-Some-equation.x) c.type_of.result c.type_of-2.result c.range_over.result c.is_none.result c.range_over.ensures c.type_of.ensures.ty c.type_of-2.ensures.ty c.is_none.ensures c.if-is_none.true)

pub application-requires-2-clause-takes : goal.application-requires-2-clause-takes
application-requires-2-clause-takes c =
    others_take c.args.tables.now c.application.new.self c.in-Some.f c.in-Some.g c.in-Some-equation.x c.in-Some-equation.y c.in-Some.ensures.has_right c.in-Some-equation.ensures.has_right (tables_grow_by_term _ _ _ _ c.in_ok-left.ensures.ok)
    (takes_so c.args.tables.now (term_of c.args.tables.now c.in-Some.f) (term_of c.args.tables.now c.in-Some-equation.x) c.type_of.result c.type_of-2.result c.range_over.result c.is_none.result c.range_over.ensures c.type_of.ensures.ty c.type_of-2.ensures.ty c.is_none.ensures c.if-is_none.false) c.in-Some.ensures.typed c.in-Some-equation.ensures.typed

pub returns-in_err-right-clause-grows : goal.returns-in_err-right-clause-grows
returns-in_err-right-clause-grows c = tables_grow_further _ _ _ (tables_grow_by_term _ _ _ _ c.in_ok-left.ensures.ok) (grows_adding _ _ _ _ c.application-2.ensures.ok c.application-2.ensures.err)

pub make_equation-requires-clause-left : goal.make_equation-requires-clause-left
make_equation-requires-clause-left c = (applied c.args.tables.now c.application.new.self c.application-2.new.self c.in-Some.f c.in-Some.g c.in-Some-equation.x c.in-Some-equation.y c.in_ok-left.left c.in_ok-right.right c.in-Some.ensures.has_right c.in-Some-equation.ensures.has_right c.in_ok-left.ensures.ok c.in_ok-right.ensures.ok).0.has

pub make_equation-requires-clause-right : goal.make_equation-requires-clause-right
make_equation-requires-clause-right c = (applied c.args.tables.now c.application.new.self c.application-2.new.self c.in-Some.f c.in-Some.g c.in-Some-equation.x c.in-Some-equation.y c.in_ok-left.left c.in_ok-right.right c.in-Some.ensures.has_right c.in-Some-equation.ensures.has_right c.in_ok-left.ensures.ok c.in_ok-right.ensures.ok).1.has

pub make_equation-requires-clause-typed : goal.make_equation-requires-clause-typed
make_equation-requires-clause-typed c =
    let made = applied c.args.tables.now c.application.new.self c.application-2.new.self c.in-Some.f c.in-Some.g c.in-Some-equation.x c.in-Some-equation.y c.in_ok-left.left c.in_ok-right.right c.in-Some.ensures.has_right c.in-Some-equation.ensures.has_right c.in_ok-left.ensures.ok c.in_ok-right.ensures.ok in
    ap tm_type made.1.tree ∙ ap range_ty c.in-Some.ensures.typed ∙ sym (ap tm_type made.0.tree)

pub returns-in_err-concl-clause-grows : goal.returns-in_err-concl-clause-grows
returns-in_err-concl-clause-grows c = tables_grow_further _ _ _ (tables_grow_further _ _ _ (tables_grow_by_term _ _ _ _ c.in_ok-left.ensures.ok) (tables_grow_by_term _ _ _ _ c.in_ok-right.ensures.ok)) c.make_equation.ensures.grows

pub returns-clause-grows : goal.returns-clause-grows
returns-clause-grows c = tables_grow_further _ _ _ (tables_grow_further _ _ _ (tables_grow_by_term _ _ _ _ c.in_ok-left.ensures.ok) (tables_grow_by_term _ _ _ _ c.in_ok-right.ensures.ok)) c.make_equation.ensures.grows

pub returns-clause-ok : goal.returns-clause-ok
returns-clause-ok c =
    let made = applied c.args.tables.now c.application.new.self c.application-2.new.self c.in-Some.f c.in-Some.g c.in-Some-equation.x c.in-Some-equation.y c.in_ok-left.left c.in_ok-right.right c.in-Some.ensures.has_right c.in-Some-equation.ensures.has_right c.in_ok-left.ensures.ok c.in_ok-right.ensures.ok in
    answered c.args.tables.now c.make_equation.new.tables (record { hyps = c.in_ok-hyps.hyps; concl = c.in_ok-concl.concl }) _ (union (terms_of c.args.tables.now c.args.a.now.hyps.items) (terms_of c.args.tables.now c.args.b.now.hyps.items)) (eq_tm (tm_comb (term_of c.args.tables.now c.in-Some.f) (term_of c.args.tables.now c.in-Some-equation.x)) (tm_comb (term_of c.args.tables.now c.in-Some.g) (term_of c.args.tables.now c.in-Some-equation.y)))
    (tables_grow_further _ _ _ (tables_grow_further _ _ _ (tables_grow_by_term _ _ _ _ c.in_ok-left.ensures.ok) (tables_grow_by_term _ _ _ _ c.in_ok-right.ensures.ok)) c.make_equation.ensures.grows)
    (united c.args.tables.now _ _ _ _ _ c.deref.ensures.value c.deref-2.ensures.value c.in_ok-hyps.ensures)
    (number_moved c.make_equation.new.tables c.in_ok-concl.concl _ _ c.in_ok-concl.ensures.ok (λ j. eq_tm (made.0.tree j) (made.1.tree j)))
    (comb_gives (terms_of c.args.tables.now c.args.a.now.hyps.items) (terms_of c.args.tables.now c.args.b.now.hyps.items) (term_of c.args.tables.now c.args.a.now.concl) (term_of c.args.tables.now c.args.b.now.concl) (term_of c.args.tables.now c.in-Some.f) (term_of c.args.tables.now c.in-Some.g) (term_of c.args.tables.now c.in-Some-equation.x) (term_of c.args.tables.now c.in-Some-equation.y) c.in-Some.ensures.tree c.in-Some-equation.ensures.tree (fits_so (term_of c.args.tables.now c.in-Some.f) (term_of c.args.tables.now c.in-Some-equation.x) (takes_so c.args.tables.now (term_of c.args.tables.now c.in-Some.f) (term_of c.args.tables.now c.in-Some-equation.x) c.type_of.result c.type_of-2.result c.range_over.result c.is_none.result c.range_over.ensures c.type_of.ensures.ty c.type_of-2.ensures.ty c.is_none.ensures c.if-is_none.false)))
