use Rattle.std.proofs.Common.{subst}
use Rattle.replay_check.specs.Steps.{IsAt}
use Rattle.replay_check.proofs.Giving.{at_has}
use Rattle.replay_check.proofs.NamedLines.{Names, counted, emptiness, named_with_hypotheses, named_another, name_taken}
use Rattle.replay_check.proofs.position.Position.take_name.Goals as goal
use Rattle.replay_check.proofs.position.Position.take_name.Goals.{then-not-is_empty-via-then-not-is_empty, then-not-is_empty-via-else-not-is_empty+then-not-same_term}

pub same_term-requires-clause-a : goal.same_term-requires-clause-a
same_term-requires-clause-a c =
    (at_has c.args.self.now.tables c.args.self.now.sequents.items c.args.step c.sequent-theorem.result.now c.requires.position.sequents
    (subst (λ qs. IsAt qs c.args.step c.sequent-theorem.result.now) c.deref.ensures.value c.sequent-theorem.ensures)).0.concl

pub returns-then-not-is_empty : goal.returns-then-not-is_empty
returns-then-not-is_empty c =
    let at = subst (λ qs. IsAt qs c.args.step c.sequent-theorem.result.now) c.deref.ensures.value c.sequent-theorem.ensures in
    let there = counted c.args.self.now.sequents c.args.step _ _ c.len.ensures c.is_beyond.ensures c.if-is_beyond.false in
    let names : Names c.args.self.now c.args.step c.sequent-theorem.result.now = record { inside = c.requires.inside; there = there; at = at; based = c.if-not-self.false } in
    λ i k. elim c.then-not-is_empty.branch [
      | then-not-is_empty-via-then-not-is_empty w ↦
          named_with_hypotheses c.args.self.now c.args.name c.args.step c.args.statement c.sequent-theorem.result.now i names k
          (emptiness c.sequent-theorem.result.now.hyps _ _ c.is_empty.ensures w.if-not-is_empty.true)
      | then-not-is_empty-via-else-not-is_empty+then-not-same_term w ↦
          named_another c.args.self.now c.args.name c.args.step c.args.statement c.sequent-theorem.result.now i _ names k w.if-not-same_term.true w.same_term.ensures.0 w.same_term.ensures.1
    ]

pub returns : goal.returns
returns c =
    let at = subst (λ qs. IsAt qs c.args.step c.sequent-theorem.result.now) c.deref.ensures.value c.sequent-theorem.ensures in
    let there = counted c.args.self.now.sequents c.args.step _ _ c.len.ensures c.is_beyond.ensures c.if-is_beyond.false in
    let names : Names c.args.self.now c.args.step c.sequent-theorem.result.now = record { inside = c.requires.inside; there = there; at = at; based = c.if-not-self.false } in
    λ i k.
    name_taken c.args.self.now c.args.name c.args.step c.args.statement c.sequent-theorem.result.now i _ c.in_ok-line.line c.requires.position names k
    (emptiness c.sequent-theorem.result.now.hyps _ _ c.is_empty.ensures c.if-not-is_empty.false) c.if-not-same_term.false c.same_term.ensures.0 c.same_term.ensures.1 c.in_ok-line.ensures
