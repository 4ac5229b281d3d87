use Rattle.std.proofs.lemmas.Result.{IfOk-weaker}
use Rattle.hol_terms.specs.Sequent.{eq_tm}
use Rattle.flat_terms.specs.Plain.{term_of}
use Rattle.flat_terms.specs.declared.nodes.TermId.{TermId}
use Rattle.flat_walks.specs.Number.{IsNumber}
use Rattle.flat_instances.proofs.TablesGrow.{tables_grow_further, tables_grow_by_term}
use Rattle.flat_rules.proofs.Sides.{grows_adding, half_made, half_takes, equation_made}
use Rattle.flat_rules.proofs.equations.make_equation.Goals as goal

pub application-requires-2-clause-takes : goal.application-requires-2-clause-takes
application-requires-2-clause-takes c =
    half_takes c.args.tables.now c.equality.new.tables c.application.new.self c.args.left c.args.right c.in_ok-f.f c.requires.right (tables_grow_further _ _ _ c.equality.ensures.grows (tables_grow_by_term _ _ _ _ c.in_ok-f.ensures.ok))
    (half_made c.args.tables.now c.equality.new.tables c.application.new.self c.type_of.result c.args.left c.in_ok-equality.equality c.in_ok-f.f c.requires.left c.type_of.ensures.ty c.equality.ensures.grows c.in_ok-equality.ensures.ok c.in_ok-f.ensures.ok) c.requires.typed

pub returns-clause-grows : goal.returns-clause-grows
returns-clause-grows c = tables_grow_further _ _ _ (tables_grow_further _ _ _ c.equality.ensures.grows (tables_grow_by_term _ _ _ _ c.in_ok-f.ensures.ok)) (grows_adding _ _ _ _ c.application-2.ensures.ok c.application-2.ensures.err)

pub returns-clause-ok : goal.returns-clause-ok
returns-clause-ok c =
    IfOk-weaker c.application-2.result _ (λ (r : TermId). IsNumber c.application-2.new.self r (eq_tm (term_of c.args.tables.now c.args.left) (term_of c.args.tables.now c.args.right)))
    (λ r a. equation_made c.args.tables.now c.application.new.self c.application-2.new.self c.args.left c.args.right c.in_ok-f.f r c.requires.right (tables_grow_further _ _ _ c.equality.ensures.grows (tables_grow_by_term _ _ _ _ c.in_ok-f.ensures.ok))
    (half_made c.args.tables.now c.equality.new.tables c.application.new.self c.type_of.result c.args.left c.in_ok-equality.equality c.in_ok-f.f c.requires.left c.type_of.ensures.ty c.equality.ensures.grows c.in_ok-equality.ensures.ok c.in_ok-f.ensures.ok) a) c.application-2.ensures.ok
