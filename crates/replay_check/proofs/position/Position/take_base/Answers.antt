use Rattle.std.proofs.Common.{sym, ◌∙◌}
use Rattle.std.proofs.lemmas.Bool.{eqb-true}
use Rattle.replay_check.proofs.NamedLines.{base_again, base_miscounted, base_missing, base_taken}
use Rattle.replay_check.proofs.position.Position.take_base.Goals as goal
use Rattle.replay_check.proofs.position.Position.take_base.Goals.{then-self-via-then-self, then-self-via-else-self+then-not-is_base_count, then-self-via-else-self+else-not-is_base_count+then-len-ne-BASE_DEFINITIONS}

pub returns-then-self : goal.returns-then-self
returns-then-self c = λ m i. elim c.then-self.branch [
  | then-self-via-then-self w ↦ base_again c.args.self.now m c.requires.inside w.if-self.true
  | then-self-via-else-self+then-not-is_base_count w ↦ base_miscounted c.args.self.now m c.requires.inside (sym (w.is_base_count.ensures m i) ∙ w.if-not-is_base_count.true)
  | then-self-via-else-self+else-not-is_base_count+then-len-ne-BASE_DEFINITIONS w ↦
      base_missing c.args.self.now m c.requires.inside (λ e. w.if-len-ne-BASE_DEFINITIONS.true (w.len.ensures ∙ c.args.self.now.definitions.ok.0 ∙ e))
]

pub returns : goal.returns
returns c = λ m i.
    base_taken c.args.self.now m c.in_ok-line.line c.requires.position c.requires.inside c.if-self.false (eqb-true m 33 (sym (c.is_base_count.ensures m i) ∙ c.if-not-is_base_count.false))
    (sym c.args.self.now.definitions.ok.0 ∙ sym c.len.ensures ∙ c.if-len-ne-BASE_DEFINITIONS.false) c.in_ok-line.ensures
