use Rattle.std.proofs.Common.{sym, ap, ◌∙◌}
use Rattle.hol_terms.specs.Typing.{tm_type}
use Rattle.flat_terms.specs.Plain.{term_of}
use Rattle.flat_walks.specs.Walk.{var_of}
use Rattle.flat_walks.proofs.Opening.{tm_type-open}
use Rattle.flat_instances.proofs.TablesGrow.{tables_grow_further, tables_grow_terms}
use Rattle.flat_rules.proofs.RuleSteps.{redex_openable, redex_typed}
use Rattle.flat_rules.proofs.rules.beta.Goals as goal

pub open-requires-clause-openable : goal.open-requires-clause-openable
open-requires-clause-openable c = redex_openable c.args.tables.now (term_of c.args.tables.now c.args.term) c.in-Some.parts c.in-Some.ensures c.requires.typed

pub make_equation-requires-clause-typed : goal.make_equation-requires-clause-typed
make_equation-requires-clause-typed c =
    ap tm_type c.in_ok-right.ensures.ok.tree ∙ tm_type-open 0 (var_of (term_of c.args.tables.now c.in-Some.parts.variable)) (term_of c.args.tables.now c.in-Some.parts.body) (redex_openable c.args.tables.now (term_of c.args.tables.now c.args.term) c.in-Some.parts c.in-Some.ensures c.requires.typed)
    ∙ sym (redex_typed c.args.tables.now (term_of c.args.tables.now c.args.term) c.in-Some.parts c.in-Some.ensures) ∙ sym (ap tm_type (c.open.ensures.grows.same c.args.term c.requires.term))

pub returns-in_err-concl-clause-grows : goal.returns-in_err-concl-clause-grows
returns-in_err-concl-clause-grows c = tables_grow_further _ _ _ (tables_grow_terms _ _ c.open.ensures.grows) c.make_equation.ensures.grows

pub returns-clause-grows : goal.returns-clause-grows
returns-clause-grows c = tables_grow_further _ _ _ (tables_grow_terms _ _ c.open.ensures.grows) c.make_equation.ensures.grows
