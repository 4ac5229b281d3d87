use Rattle.std.proofs.Common.{[], ◌∷◌, ◌++◌, ap, sym, ◌∙◌, append-nil}
use Rattle.std.specs.Fmt.{decimal}
use Rattle.theory_answers.specs.Answer.{base_line}
use Rattle.theory_answers.proofs.output.begin.Goals as goal

pub returns : goal.returns
returns c = c.in_ok-push_str.ensures.bytes ∙ ap (λ t. t ++ 10 ∷ []) (c.in_ok-push_number.ensures ∙ ap (λ t. t ++ decimal 33) c.in_ok-text.ensures.ok) ∙ sym (append-nil (base_line ++ 10 ∷ []))
