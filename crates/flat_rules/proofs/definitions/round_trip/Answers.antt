use Rattle.std.proofs.lemmas.Result.{IfOk-weaker}
use Rattle.flat_terms.specs.declared.nodes.TermId.{TermId}
use Rattle.flat_terms.specs.Plain.{term_of}
use Rattle.flat_walks.specs.Number.{IsNumber}
use Rattle.flat_instances.proofs.TablesGrow.{tables_grow_further, tables_grow_by_term}
use Rattle.flat_rules.specs.Bridges.{there_and_back}
use Rattle.flat_rules.proofs.Numbers.{number_moved}
use Rattle.flat_rules.proofs.DefinitionSteps.{round_sides}
use Rattle.flat_rules.proofs.definitions.round_trip.Goals as goal

pub returns-clause-grows : goal.returns-clause-grows
returns-clause-grows c = tables_grow_further _ _ _ (tables_grow_further _ _ _ (tables_grow_by_term _ _ _ _ c.in_ok-there.ensures.ok) (tables_grow_by_term _ _ _ _ c.in_ok-back.ensures.ok)) c.make_equation.ensures.grows

pub returns-clause-ok : goal.returns-clause-ok
returns-clause-ok c =
    IfOk-weaker c.make_equation.result _ (λ (r : TermId). IsNumber c.make_equation.new.tables r (there_and_back (term_of c.args.tables.now c.args.g) (term_of c.args.tables.now c.args.f) (term_of c.args.tables.now c.args.x)))
    (λ r n. number_moved c.make_equation.new.tables r _ _ n (round_sides c.args.tables.now c.application.new.self c.application-2.new.self c.args.g c.args.f c.args.x c.in_ok-there.there c.in_ok-back.back c.requires.g c.requires.x c.in_ok-there.ensures.ok c.in_ok-back.ensures.ok)) c.make_equation.ensures.ok
