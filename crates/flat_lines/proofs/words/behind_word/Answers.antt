use Rattle.std.proofs.Common.{◌≡◌, sym, ap, ◌∙◌, true, false, Some, None, take, drop, arith}
use Rattle.std.specs.List.{take_while}
use Rattle.std.proofs.lemmas.List.Sums.{prefix_len-le-length}
use Rattle.hol_terms.specs.Text.{Text}
use Rattle.hol_logs.specs.Line.{is_word}
use Rattle.strict_reading.specs.Steps.{when}
use Rattle.strict_lines.specs.Operands.{is_no_space, drop_while, reads_word}
use Rattle.flat_lines.proofs.words.behind_word.Goals as goal

no_word : (x w : Text) → w ≡ take_while is_no_space x → is_word w ≡ false → reads_word x ≡ None
unfolding reads_word when
no_word x w e h = ap (λ b. when b (Some (take_while is_no_space x, drop_while is_no_space x))) (ap is_word (sym e) ∙ h)

a_word : (x w : Text) → w ≡ take_while is_no_space x → is_word w ≡ true → reads_word x ≡ Some (take_while is_no_space x, drop_while is_no_space x)
unfolding reads_word when
a_word x w e h = ap (λ b. when b (Some (take_while is_no_space x, drop_while is_no_space x))) (ap is_word (sym e) ∙ h)

pub split_at-requires : goal.split_at-requires
split_at-requires c = omega (arith, prefix_len-le-length is_no_space c.args.text.now)

pub returns-then-is_word : goal.returns-then-is_word
returns-then-is_word c =
    let x = c.args.text.now in (
      (take_while is_no_space x, drop_while is_no_space x),
      a_word x c.split_at.result.0.now (c.split_at.ensures.front ∙ ap (λ n. take n x) c.word_len.ensures) (sym c.is_word.ensures ∙ c.if-is_word.true),
      c.split_at.ensures.back ∙ ap (λ n. drop n x) c.word_len.ensures,
    )

pub returns-else-is_word : goal.returns-else-is_word
returns-else-is_word c =
    let x = c.args.text.now in no_word x c.split_at.result.0.now (c.split_at.ensures.front ∙ ap (λ n. take n x) c.word_len.ensures) (sym c.is_word.ensures ∙ c.if-is_word.false)
