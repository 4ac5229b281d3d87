use Rattle.std.proofs.Common.{◌⊎◌, refl, sym, ◌∙◌, subst, arith, add-one}
use Rattle.hol_terms.specs.Base.{base}
use Rattle.hol_terms.specs.Proves.{IsPrefix}
use Rattle.replay_check.specs.Definitions.{definitions_of, IsBooleanAnswer}
use Rattle.replay_check.proofs.Taking.{position_reads_back}
use Rattle.replay_check.proofs.StepLines.{ten_at, lacks_at, step_refused, step_taken, answer_at}
use Rattle.replay_check.proofs.position.Position.take_step.Goals as goal

pub give-requires-clause-reads_back : goal.give-requires-clause-reads_back
give-requires-clause-reads_back c = position_reads_back c.args.self.now c.requires.position

pub give-requires-clause-stands : goal.give-requires-clause-stands
give-requires-clause-stands c =
    subst (λ ds. IsPrefix (base 10) (definitions_of c.args.self.now.tables ds) ⊎ IsPrefix (definitions_of c.args.self.now.tables ds) (base 10)) (sym c.deref.ensures.value) (ten_at c.args.self.now c.requires.position)

pub returns-in_default : goal.returns-in_default
returns-in_default c = λ l h.
    step_refused c.args.self.now l c.give.new.tables c.requires.inside (lacks_at c.args.self.now c.args.step.now l c.lacks_a_premise.result c.len.result (c.len.ensures ∙ c.args.self.now.sequents.ok.0) (omega (arith, c.args.self.now.sequents.small, c.args.self.now.sequents.ok.0)) h c.lacks_a_premise.ensures ∙ c.if-lacks_a_premise.false)
    (answer_at c.args.self.now.tables c.give.new.tables _ c.args.self.now.definitions.items _ c.args.self.now.sequents.items l _ _ c.deref.ensures.value c.deref-2.ensures.value c.in_default.is (c.in_ok-given.ensures.ok l h))

pub returns : goal.returns
returns c = λ l h.
    step_taken c.args.self.now _ l c.in-Some.sequent c.requires.position c.requires.inside c.give.ensures.grows refl refl c.in_ok-push.ensures.items (add-one _) refl refl
    (lacks_at c.args.self.now c.args.step.now l c.lacks_a_premise.result c.len.result (c.len.ensures ∙ c.args.self.now.sequents.ok.0) (omega (arith, c.args.self.now.sequents.small, c.args.self.now.sequents.ok.0)) h c.lacks_a_premise.ensures ∙ c.if-lacks_a_premise.false)
    (answer_at c.args.self.now.tables c.give.new.tables _ c.args.self.now.definitions.items _ c.args.self.now.sequents.items l _ _ c.deref.ensures.value c.deref-2.ensures.value c.in-Some.is (c.in_ok-given.ensures.ok l h))
    (subst (λ g. IsBooleanAnswer c.give.new.tables g) c.in-Some.is c.in_ok-given.ensures.boolean)
