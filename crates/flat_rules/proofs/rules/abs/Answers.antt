use Rattle.std.proofs.Common.{sym, ap, ◌∙◌}
use Rattle.hol_terms.specs.Tm.{FreeVar}
use Rattle.hol_terms.specs.Typing.{tm_type}
use Rattle.hol_terms.specs.Sequent.{eq_tm}
use Rattle.hol_terms.specs.Rules.{lambda, free_in_none}
use Rattle.flat_terms.specs.Plain.{term_of}
use Rattle.flat_walks.specs.Walk.{var_of}
use Rattle.flat_instances.proofs.TablesGrow.{tables_grow_further}
use Rattle.flat_rules.specs.Sequents.{terms_of}
use Rattle.flat_rules.proofs.Abstracting.{both_abstracted, abstracted_typed}
use Rattle.flat_rules.proofs.Numbers.{number_moved}
use Rattle.flat_rules.proofs.RuleSteps.{answered, copied_numbers, abs_gives}
use Rattle.flat_rules.proofs.rules.abs.Goals as goal

pub returns-in_err-right-clause-grows : goal.returns-in_err-right-clause-grows
returns-in_err-right-clause-grows c = tables_grow_further _ _ _ c.abstracted.ensures.grows c.abstracted-2.ensures.grows

pub make_equation-requires-clause-typed : goal.make_equation-requires-clause-typed
make_equation-requires-clause-typed c =
    let sides = both_abstracted c.args.tables.now c.abstracted.new.tables c.abstracted-2.new.tables c.args.variable c.in-Some.left c.in-Some.right c.in_ok-left.left c.in_ok-right.right c.requires.variable.0 c.in-Some.ensures.has_right c.abstracted.ensures.grows c.in_ok-left.ensures.ok c.abstracted-2.ensures.grows c.in_ok-right.ensures.ok in
    ap tm_type sides.1.tree ∙ abstracted_typed (var_of (term_of c.args.tables.now c.args.variable)) (term_of c.args.tables.now c.in-Some.left) (term_of c.args.tables.now c.in-Some.right) c.in-Some.ensures.typed ∙ sym (ap tm_type sides.0.tree)

pub returns-in_err-concl-clause-grows : goal.returns-in_err-concl-clause-grows
returns-in_err-concl-clause-grows c = tables_grow_further _ _ _ (tables_grow_further _ _ _ c.abstracted.ensures.grows c.abstracted-2.ensures.grows) c.make_equation.ensures.grows

pub returns-clause-grows : goal.returns-clause-grows
returns-clause-grows c = tables_grow_further _ _ _ (tables_grow_further _ _ _ c.abstracted.ensures.grows c.abstracted-2.ensures.grows) c.make_equation.ensures.grows

pub returns-clause-ok : goal.returns-clause-ok
returns-clause-ok c =
    let v : FreeVar = var_of (term_of c.args.tables.now c.args.variable) in
    let sides = both_abstracted c.args.tables.now c.abstracted.new.tables c.abstracted-2.new.tables c.args.variable c.in-Some.left c.in-Some.right c.in_ok-left.left c.in_ok-right.right c.requires.variable.0 c.in-Some.ensures.has_right c.abstracted.ensures.grows c.in_ok-left.ensures.ok c.abstracted-2.ensures.grows c.in_ok-right.ensures.ok in
    answered c.args.tables.now c.make_equation.new.tables (record { hyps = c.in_ok-hyps.hyps; concl = c.in_ok-concl.concl }) _ (terms_of c.args.tables.now c.args.a.now.hyps.items) (eq_tm (lambda v (term_of c.args.tables.now c.in-Some.left)) (lambda v (term_of c.args.tables.now c.in-Some.right)))
    (tables_grow_further _ _ _ (tables_grow_further _ _ _ c.abstracted.ensures.grows c.abstracted-2.ensures.grows) c.make_equation.ensures.grows)
    (copied_numbers c.args.tables.now c.in_ok-hyps.hyps.items c.args.a.now.hyps.items c.requires.a.hyps (c.in_ok-hyps.ensures ∙ c.deref-2.ensures.value))
    (number_moved c.make_equation.new.tables c.in_ok-concl.concl _ _ c.in_ok-concl.ensures.ok (λ j. eq_tm (sides.0.tree j) (sides.1.tree j)))
    (abs_gives v (terms_of c.args.tables.now c.args.a.now.hyps.items) (term_of c.args.tables.now c.args.a.now.concl) (term_of c.args.tables.now c.in-Some.left) (term_of c.args.tables.now c.in-Some.right) c.in-Some.ensures.tree (ap (λ l. free_in_none v (terms_of c.args.tables.now l)) (sym c.deref.ensures.value) ∙ sym c.in_ok-is_free_in_none.ensures ∙ c.if-not-branch.false))
