use Rattle.std.proofs.Common.{sym, ◌∙◌, true≢false}
use Rattle.hol_terms.specs.Sequent.{union}
use Rattle.flat_terms.specs.Plain.{term_of}
use Rattle.flat_instances.proofs.TablesGrow.{tables_grow_itself}
use Rattle.flat_rules.specs.Sequents.{terms_of}
use Rattle.flat_rules.proofs.RuleSteps.{answered, united, numbered, eq_mp_gives, eq_mp_refuses}
use Rattle.flat_rules.proofs.rules.eq_mp.Goals as goal

pub returns-then-not-same_term : goal.returns-then-not-same_term
returns-then-not-same_term c =
    eq_mp_refuses (terms_of c.args.tables.now c.args.a.now.hyps.items) (terms_of c.args.tables.now c.args.b.now.hyps.items) (term_of c.args.tables.now c.args.a.now.concl) (term_of c.args.tables.now c.args.b.now.concl) (term_of c.args.tables.now c.in-Some.left) (term_of c.args.tables.now c.in-Some.right) c.in-Some.ensures.tree (λ e. true≢false (sym (c.same_term.ensures.1 e) ∙ c.if-not-same_term.true))

pub returns : goal.returns
returns c =
    answered c.args.tables.now c.args.tables.now (record { hyps = c.in_ok-hyps.hyps; concl = c.in-Some.right }) _ (union (terms_of c.args.tables.now c.args.a.now.hyps.items) (terms_of c.args.tables.now c.args.b.now.hyps.items)) (term_of c.args.tables.now c.in-Some.right) (tables_grow_itself c.args.tables.now)
    (united c.args.tables.now _ _ _ _ _ c.deref.ensures.value c.deref-2.ensures.value c.in_ok-hyps.ensures) (numbered c.args.tables.now c.in-Some.right c.in-Some.ensures.has_right)
    (eq_mp_gives (terms_of c.args.tables.now c.args.a.now.hyps.items) (terms_of c.args.tables.now c.args.b.now.hyps.items) (term_of c.args.tables.now c.args.a.now.concl) (term_of c.args.tables.now c.args.b.now.concl) (term_of c.args.tables.now c.in-Some.left) (term_of c.args.tables.now c.in-Some.right) c.in-Some.ensures.tree (c.same_term.ensures.0 c.if-not-same_term.false))
