use Rattle.std.proofs.Common.{sym, ◌∙◌, true≢false}
use Rattle.hol_terms.specs.Sequent.{union, eq_tm}
use Rattle.flat_terms.specs.Plain.{term_of}
use Rattle.flat_rules.specs.Sequents.{terms_of}
use Rattle.flat_rules.proofs.RuleSteps.{answered, united, trans_gives, trans_refuses}
use Rattle.flat_rules.proofs.rules.trans.Goals as goal

pub returns-then-not-same_term-clause-ok : goal.returns-then-not-same_term-clause-ok
returns-then-not-same_term-clause-ok c =
    trans_refuses (terms_of c.args.tables.now c.args.a.now.hyps.items) (terms_of c.args.tables.now c.args.b.now.hyps.items) (term_of c.args.tables.now c.args.a.now.concl) (term_of c.args.tables.now c.args.b.now.concl) (term_of c.args.tables.now c.in-Some.left) (term_of c.args.tables.now c.in-Some.middle) (term_of c.args.tables.now c.in-Some-equation.same) (term_of c.args.tables.now c.in-Some-equation.right) c.in-Some.ensures.tree c.in-Some-equation.ensures.tree (λ e. true≢false (sym (c.same_term.ensures.1 e) ∙ c.if-not-same_term.true))

pub returns-clause-ok : goal.returns-clause-ok
returns-clause-ok c =
    answered c.args.tables.now c.make_equation.new.tables (record { hyps = c.in_ok-hyps.hyps; concl = c.in_ok-concl.concl }) _ (union (terms_of c.args.tables.now c.args.a.now.hyps.items) (terms_of c.args.tables.now c.args.b.now.hyps.items)) (eq_tm (term_of c.args.tables.now c.in-Some.left) (term_of c.args.tables.now c.in-Some-equation.right)) c.make_equation.ensures.grows
    (united c.args.tables.now _ _ _ _ _ c.deref.ensures.value c.deref-2.ensures.value c.in_ok-hyps.ensures) c.in_ok-concl.ensures.ok
    (trans_gives (terms_of c.args.tables.now c.args.a.now.hyps.items) (terms_of c.args.tables.now c.args.b.now.hyps.items) (term_of c.args.tables.now c.args.a.now.concl) (term_of c.args.tables.now c.args.b.now.concl) (term_of c.args.tables.now c.in-Some.left) (term_of c.args.tables.now c.in-Some.middle) (term_of c.args.tables.now c.in-Some-equation.same) (term_of c.args.tables.now c.in-Some-equation.right) c.in-Some.ensures.tree c.in-Some-equation.ensures.tree (c.same_term.ensures.0 c.if-not-same_term.false))
