use Rattle.std.proofs.lemmas.Result.{IfOk-weaker}
use Rattle.hol_terms.specs.Rules.{lambda}
use Rattle.flat_terms.specs.Plain.{term_of}
use Rattle.flat_terms.specs.declared.nodes.TermId.{TermId}
use Rattle.flat_walks.specs.Walk.{var_of}
use Rattle.flat_walks.specs.Number.{IsNumber}
use Rattle.flat_instances.proofs.TablesGrow.{tables_grow_further, tables_grow_terms}
use Rattle.flat_rules.proofs.Sides.{grows_adding}
use Rattle.flat_rules.proofs.Abstracting.{abstracting, abstraction_made}
use Rattle.flat_rules.proofs.rules.abstracted.Goals as goal

pub returns-in_err-body-clause-grows : goal.returns-in_err-body-clause-grows
returns-in_err-body-clause-grows c = tables_grow_further _ _ _ c.put_function.ensures.grows (tables_grow_terms _ _ c.bind.ensures.grows)

pub abstraction-requires-clause-typed : goal.abstraction-requires-clause-typed
abstraction-requires-clause-typed c = (abstracting c.args.tables.now c.put_function.new.tables c.bind.new.tables c.args.variable c.args.term c.in_ok-body.body c.type_of-bound.result c.type_of-range.result c.in_ok-ty.ty c.requires.variable c.requires.term c.type_of-bound.ensures.has c.type_of-bound.ensures.ty c.type_of-range.ensures.has c.type_of-range.ensures.ty c.put_function.ensures.grows c.in_ok-ty.ensures.ok c.bind.ensures.grows c.in_ok-body.ensures.ok).typed

pub returns-clause-grows : goal.returns-clause-grows
returns-clause-grows c = tables_grow_further _ _ _ (tables_grow_further _ _ _ c.put_function.ensures.grows (tables_grow_terms _ _ c.bind.ensures.grows)) (grows_adding _ _ _ _ c.abstraction.ensures.ok c.abstraction.ensures.err)

pub returns-clause-ok : goal.returns-clause-ok
returns-clause-ok c =
    IfOk-weaker c.abstraction.result _ (λ (r : TermId). IsNumber c.abstraction.new.self r (lambda (var_of (term_of c.args.tables.now c.args.variable)) (term_of c.args.tables.now c.args.term)))
    (λ r a. abstraction_made c.args.tables.now c.bind.new.tables c.abstraction.new.self c.args.variable c.args.term c.in_ok-body.body r c.type_of-bound.result c.in_ok-ty.ty (abstracting c.args.tables.now c.put_function.new.tables c.bind.new.tables c.args.variable c.args.term c.in_ok-body.body c.type_of-bound.result c.type_of-range.result c.in_ok-ty.ty c.requires.variable c.requires.term c.type_of-bound.ensures.has c.type_of-bound.ensures.ty c.type_of-range.ensures.has c.type_of-range.ensures.ty c.put_function.ensures.grows c.in_ok-ty.ensures.ok c.bind.ensures.grows c.in_ok-body.ensures.ok) a) c.abstraction.ensures.ok
