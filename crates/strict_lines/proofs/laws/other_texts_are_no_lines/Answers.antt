use Rattle.std.proofs.Common.{◌≡◌, ◌∙◌, sym, ap, subst, ◌<◌, ◌^◌, length, Some, None}
use Rattle.hol_logs.specs.Line.{LogLine}
use Rattle.strict_lines.specs.Lines.{reads_line}
use Rattle.strict_lines.proofs.Forms.{line_complete}
use Rattle.strict_lines.proofs.laws.other_texts_are_no_lines.Goals as goal

unlike : (l : LogLine) → Some l ≡ None → ⊥
unlike l e = cc

pub returns : goal.returns
returns c = λ s x l b k h e o. unlike l (sym (line_complete s b l o (subst (λ y. length y < 2 ^ 64) e k)) ∙ ap (reads_line s) (sym e) ∙ h)
