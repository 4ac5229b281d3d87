use Rattle.std.proofs.Common.{refl, ap, ◌∙◌}
use Rattle.hol_terms.specs.Sequent.{union, eq_tm}
use Rattle.hol_terms.specs.Rules.{without}
use Rattle.flat_terms.specs.Plain.{term_of}
use Rattle.flat_rules.specs.Sequents.{terms_of}
use Rattle.flat_rules.proofs.Numbers.{numbers_are}
use Rattle.flat_rules.proofs.RuleSteps.{answered}
use Rattle.flat_rules.proofs.rules.deduct.Goals as goal

pub returns-clause-ok : goal.returns-clause-ok
returns-clause-ok c =
    let p = term_of c.args.tables.now c.args.a.now.concl in
    let q = term_of c.args.tables.now c.args.b.now.concl in
    answered c.args.tables.now c.make_equation.new.tables (record { hyps = c.in_ok-hyps.hyps; concl = c.in_ok-concl.concl }) _ (union (without q (terms_of c.args.tables.now c.args.a.now.hyps.items)) (without p (terms_of c.args.tables.now c.args.b.now.hyps.items))) (eq_tm p q) c.make_equation.ensures.grows
    (numbers_are c.args.tables.now c.in_ok-hyps.hyps.items _ _ c.in_ok-hyps.ensures
    (λ j. union ((ap (terms_of c.args.tables.now) c.deref-3.ensures.value ∙ c.in_ok-left.ensures.trees ∙ ap (λ l. without q (terms_of c.args.tables.now l)) c.deref.ensures.value) j)
    ((ap (terms_of c.args.tables.now) c.deref-4.ensures.value ∙ c.in_ok-right.ensures.trees ∙ ap (λ l. without p (terms_of c.args.tables.now l)) c.deref-2.ensures.value) j)))
    c.in_ok-concl.ensures.ok refl
