-- The log of a kernel's steps with marks and an end: its lines, its text and its report.
use Rattle.std.specs.Prelude.{ℕ, suc, ◌==◌, List, [], ◌∷◌, ◌++◌, length, map, filter}
use Rattle.hol_terms.specs.Text.{Text}
use Rattle.hol_terms.specs.declared.defs.Def.{Def}
use Rattle.hol_kernel.specs.State.{State}
use Rattle.hol_kernel.specs.declared.step.Step.{Step}
use Rattle.hol_logs.specs.Line.{LogLine, line_first, line_text}
use Rattle.hol_logs.specs.Position.{LogPosition, start_position, after, report_of}
use Rattle.hol_logs.specs.Log.{unlines}
use Rattle.proof_log.specs.declared.marks.Mark.{Mark}
use Rattle.proof_log.specs.declared.marks.End.{End}
use Rattle.proof_log.specs.Lines.{step_lines, mark_line, end_line}

-- ---- lines

-- the lines of the marks whose place is the number
abbrev pub marks_at : State → List Mark → ℕ → List LogLine
marks_at k marks i = map (λ m. mark_line k m.kind) (filter (λ m. m.at == i) marks)

-- the lines of the steps from the i-th on; the marks of a place stand before the step of its number
abbrev pub steps_from : State → List Def → List Mark → ℕ → List Step → List LogLine
steps_from k ds marks i [] = marks_at k marks i
steps_from k ds marks i (s ∷ ss) = marks_at k marks i ++ step_lines ds s ++ steps_from k ds marks (suc i) ss

abbrev pub body : State → List Def → List Step → List Mark → List LogLine
body k ds ss marks = line_first ∷ steps_from k ds marks 0 ss

-- the last line counts those before it
abbrev pub log_of : State → List Def → List Step → List Mark → End → List LogLine
log_of k ds ss marks end = body k ds ss marks ++ end_line (length (body k ds ss marks)) end ∷ []

-- ---- text and report

abbrev pub text_of : List LogLine → Text
text_of lines = unlines (map line_text lines)

-- what lines print from a position on
abbrev pub said_by : LogPosition → List LogLine → List Text
said_by p [] = []
said_by p (l ∷ ls) = report_of p l ++ said_by (after p l) ls

abbrev pub report_text : List LogLine → Text
report_text lines = unlines (said_by start_position lines)
