use Rattle.std.proofs.Common.{refl, sym, ap, ◌∙◌, Some}
use Rattle.hol_logs.specs.Line.{line_section}
use Rattle.strict_reading.specs.Steps.{when}
use Rattle.flat_lines.proofs.lines.read_section.Goals as goal

pub returns-then-is_section : goal.returns-then-is_section
unfolding when
returns-then-is_section c = λ t. let x = c.args.text.now in (line_section x, ap (λ b. when b (Some (line_section x))) (sym c.is_section.ensures ∙ c.if-is_section.true), refl)

pub returns-else-is_section : goal.returns-else-is_section
unfolding when
returns-else-is_section c = λ t. let x = c.args.text.now in ap (λ b. when b (Some (line_section x))) (sym c.is_section.ensures ∙ c.if-is_section.false)
