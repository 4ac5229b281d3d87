use Rattle.std.proofs.Common.{◌≤◌, ◌∙◌, ap, take, drop, length, subst, sym, ℕ}
use Rattle.flat_signatures.proofs.Fronts.{word_taken, word_dropped, word_within}
use Rattle.flat_signatures.proofs.words.split_word.Goals as goal

pub split_at-requires : goal.split_at-requires
split_at-requires c = subst (λ (k : ℕ). k ≤ length c.args.text.now) (sym c.word_len.ensures) (word_within c.args.text.now)

pub returns-clause-word : goal.returns-clause-word
returns-clause-word c = c.split_at.ensures.front ∙ ap (λ k. take k c.args.text.now) c.word_len.ensures ∙ word_taken c.args.text.now

pub returns-clause-rest : goal.returns-clause-rest
returns-clause-rest c = c.split_at.ensures.back ∙ ap (λ k. drop k c.args.text.now) c.word_len.ensures ∙ word_dropped c.args.text.now
