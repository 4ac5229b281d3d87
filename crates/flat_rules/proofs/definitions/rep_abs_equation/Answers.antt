use Rattle.std.proofs.lemmas.Result.{IfOk-weaker}
use Rattle.hol_terms.specs.Tm.{tm_comb}
use Rattle.hol_terms.specs.Sequent.{eq_tm}
use Rattle.flat_terms.specs.declared.nodes.TermId.{TermId}
use Rattle.flat_terms.specs.Plain.{type_of, term_of}
use Rattle.flat_walks.specs.Number.{IsNumber}
use Rattle.flat_walks.proofs.Steps.{added_has}
use Rattle.flat_instances.proofs.TablesGrow.{tables_grow_further, tables_grow_by_term}
use Rattle.flat_rules.specs.Bridges.{there_and_back, old_variable}
use Rattle.flat_rules.proofs.Numbers.{number_moved}
use Rattle.flat_rules.proofs.Sides.{grows_adding}
use Rattle.flat_rules.proofs.DefinitionSteps.{last_sides, last_typed}
use Rattle.flat_rules.proofs.definitions.rep_abs_equation.Goals as goal

pub returns-in_err-back-clause-grows : goal.returns-in_err-back-clause-grows
returns-in_err-back-clause-grows c = tables_grow_further _ _ _ c.variable.ensures.grows c.round_trip.ensures.grows

pub returns-in_err-holds-clause-grows : goal.returns-in_err-holds-clause-grows
returns-in_err-holds-clause-grows c = tables_grow_further _ _ _ (tables_grow_further _ _ _ c.variable.ensures.grows c.round_trip.ensures.grows) (grows_adding _ _ _ _ c.application.ensures.ok c.application.ensures.err)

pub make_equation-requires-clause-left : goal.make_equation-requires-clause-left
make_equation-requires-clause-left c = added_has c.round_trip.new.tables c.application.new.self c.in_ok-holds.holds _ c.in_ok-holds.ensures.ok

pub make_equation-requires-clause-typed : goal.make_equation-requires-clause-typed
make_equation-requires-clause-typed c = last_typed c.args.tables.now c.application.new.self c.args.between c.args.predicate c.in_ok-holds.holds c.in_ok-back.back (last_sides c.args.tables.now c.variable.new.tables c.round_trip.new.tables c.application.new.self c.args.between c.args.predicate c.in_ok-r.r c.in_ok-back.back c.in_ok-holds.holds c.requires.joined c.requires.predicate c.variable.ensures.grows c.in_ok-r.ensures.ok c.round_trip.ensures.grows c.in_ok-back.ensures.ok c.in_ok-holds.ensures.ok) c.requires.typed

pub returns-clause-grows : goal.returns-clause-grows
returns-clause-grows c = tables_grow_further _ _ _ (tables_grow_further _ _ _ (tables_grow_further _ _ _ c.variable.ensures.grows c.round_trip.ensures.grows) (tables_grow_by_term _ _ _ _ c.in_ok-holds.ensures.ok)) c.make_equation.ensures.grows

pub returns-clause-ok : goal.returns-clause-ok
returns-clause-ok c =
    let r = old_variable (type_of c.args.tables.now c.args.between.old_type) in
    let sides = (last_sides c.args.tables.now c.variable.new.tables c.round_trip.new.tables c.application.new.self c.args.between c.args.predicate c.in_ok-r.r c.in_ok-back.back c.in_ok-holds.holds c.requires.joined c.requires.predicate c.variable.ensures.grows c.in_ok-r.ensures.ok c.round_trip.ensures.grows c.in_ok-back.ensures.ok c.in_ok-holds.ensures.ok) in
    IfOk-weaker c.make_equation.result _ (λ (q : TermId). IsNumber c.make_equation.new.tables q (eq_tm (tm_comb (term_of c.args.tables.now c.args.predicate) r) (there_and_back (term_of c.args.tables.now c.args.between.rep) (term_of c.args.tables.now c.args.between.abs) r)))
    (λ q n. number_moved c.make_equation.new.tables q _ _ n (λ j. eq_tm (sides.left j) (sides.right j))) c.make_equation.ensures.ok
