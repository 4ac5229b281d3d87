use Rattle.std.proofs.Common.{subst}
use Rattle.flat_terms.specs.Plain.{name_of}
use Rattle.flat_rules.specs.Sequents.{sequent_of}
use Rattle.flat_signatures.specs.FlatNames.{plain_signature}
use Rattle.replay_check.specs.Definitions.{IsPredicate}
use Rattle.replay_check.specs.Steps.{IsAt}
use Rattle.replay_check.proofs.Taking.{position_stays}
use Rattle.replay_check.proofs.Giving.{at_has, stands_at, if_ok_of}
use Rattle.replay_check.proofs.NamedLines.{counted, step_there}
use Rattle.replay_check.proofs.Defining.{gains_itself, gains_tables}
use Rattle.replay_check.proofs.TypeLines.{may_define_type, type_refused, type_verdict}
use Rattle.replay_check.proofs.position.Position.take_type.Goals as goal

pub fit_predicate-requires-clause-theorem : goal.fit_predicate-requires-clause-theorem
fit_predicate-requires-clause-theorem c =
    (at_has c.args.self.now.tables c.args.self.now.sequents.items c.args.step c.sequent-theorem.result.now c.requires.position.sequents
    (subst (λ qs. IsAt qs c.args.step c.sequent-theorem.result.now) c.deref.ensures.value c.sequent-theorem.ensures)).0

pub fit_predicate-requires-clause-boolean : goal.fit_predicate-requires-clause-boolean
fit_predicate-requires-clause-boolean c =
    (at_has c.args.self.now.tables c.args.self.now.sequents.items c.args.step c.sequent-theorem.result.now c.requires.position.sequents
    (subst (λ qs. IsAt qs c.args.step c.sequent-theorem.result.now) c.deref.ensures.value c.sequent-theorem.ensures)).1

pub returns-in_default : goal.returns-in_default
returns-in_default c =
    let at = subst (λ qs. IsAt qs c.args.step c.sequent-theorem.result.now) c.deref.ensures.value c.sequent-theorem.ensures in
    let there = counted c.args.self.now.sequents c.args.step _ _ c.len.ensures c.is_beyond.ensures c.if-is_beyond.false in
    let unfit = subst (λ o. IsPredicate c.fit_predicate.new.tables (plain_signature c.args.self.now.tables c.args.self.now.signature) (name_of c.args.self.now.tables c.args.name) (sequent_of c.args.self.now.tables c.sequent-theorem.result.now) o) c.in_default.is c.in_ok-predicate.ensures.ok in
    λ i k. type_refused c.args.self.now (name_of c.args.self.now.tables c.args.name) i (sequent_of c.args.self.now.tables c.sequent-theorem.result.now) c.requires.position c.requires.inside
    (step_there c.args.self.now.tables c.args.self.now.sequents.items c.args.step i k there) (stands_at c.args.self.now.tables c.args.self.now.sequents.items c.args.step c.sequent-theorem.result.now i at k) unfit

pub take_definition-requires-clause-position : goal.take_definition-requires-clause-position
take_definition-requires-clause-position c = position_stays _ _ (gains_tables c.args.self.now c.args.self.now c.fit_predicate.new.tables (gains_itself c.args.self.now) c.fit_predicate.ensures.grows) c.requires.position

pub take_definition-requires-clause-definition : goal.take_definition-requires-clause-definition
take_definition-requires-clause-definition c =
    let fit = subst (λ o. IsPredicate c.fit_predicate.new.tables (plain_signature c.args.self.now.tables c.args.self.now.signature) (name_of c.args.self.now.tables c.args.name) (sequent_of c.args.self.now.tables c.sequent-theorem.result.now) o) c.in-Some.is c.in_ok-predicate.ensures.ok in
    (c.fit_predicate.ensures.grows.has_name c.args.name c.requires.name, fit.0)

pub take_definition-requires-clause-new : goal.take_definition-requires-clause-new
take_definition-requires-clause-new c =
    let fit = subst (λ o. IsPredicate c.fit_predicate.new.tables (plain_signature c.args.self.now.tables c.args.self.now.signature) (name_of c.args.self.now.tables c.args.name) (sequent_of c.args.self.now.tables c.sequent-theorem.result.now) o) c.in-Some.is c.in_ok-predicate.ensures.ok in
    may_define_type c.args.self.now.tables c.fit_predicate.new.tables c.args.self.now.signature c.args.name c.in-Some.predicate (sequent_of c.args.self.now.tables c.sequent-theorem.result.now) c.fit_predicate.ensures.grows c.requires.position.signature c.requires.name fit

pub returns : goal.returns
returns c =
    let at = subst (λ qs. IsAt qs c.args.step c.sequent-theorem.result.now) c.deref.ensures.value c.sequent-theorem.ensures in
    let there = counted c.args.self.now.sequents c.args.step _ _ c.len.ensures c.is_beyond.ensures c.if-is_beyond.false in
    let fit = subst (λ o. IsPredicate c.fit_predicate.new.tables (plain_signature c.args.self.now.tables c.args.self.now.signature) (name_of c.args.self.now.tables c.args.name) (sequent_of c.args.self.now.tables c.sequent-theorem.result.now) o) c.in-Some.is c.in_ok-predicate.ensures.ok in
    if_ok_of c.take_definition.result c.take_definition.ensures (λ v w i k.
    type_verdict c.args.self.now (record { tables = c.fit_predicate.new.tables; signature = c.args.self.now.signature; definitions = c.args.self.now.definitions; sequents = c.args.self.now.sequents; lines = c.args.self.now.lines; is_based = c.args.self.now.is_based; is_over = c.args.self.now.is_over })
    c.take_definition.new.self c.args.name c.in-Some.predicate i (sequent_of c.args.self.now.tables c.sequent-theorem.result.now) v c.requires.position c.requires.inside (gains_tables c.args.self.now c.args.self.now c.fit_predicate.new.tables (gains_itself c.args.self.now) c.fit_predicate.ensures.grows) c.requires.name
    (step_there c.args.self.now.tables c.args.self.now.sequents.items c.args.step i k there) (stands_at c.args.self.now.tables c.args.self.now.sequents.items c.args.step c.sequent-theorem.result.now i at k) fit.1 fit.2 w)
