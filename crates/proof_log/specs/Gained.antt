-- What a sink gained of a log, and why a writer gave up.
use Rattle.std.specs.Prelude.{ℕ, ◌-◌, List, [], ◌∷◌, ◌++◌, Option, Result, Ok, Err, take, drop}
use Rattle.std.specs.List.{flat_map}
use Rattle.hb_io.specs.Told.{Appends}
use Rattle.hol_terms.specs.Text.{Text}
use Rattle.hol_terms.specs.declared.defs.Def.{Def}
use Rattle.hol_kernel.specs.State.{State}
use Rattle.hol_kernel.specs.Run.{IsRun}
use Rattle.hol_kernel.specs.declared.step.Step.{Step}
use Rattle.hol_logs.specs.Line.{LogLine}
use Rattle.hol_logs.specs.Log.{IsGoodLog}
use Rattle.proof_log.specs.declared.marks.Mark.{Mark}
use Rattle.proof_log.specs.declared.marks.End.{End}
use Rattle.proof_log.specs.declared.write.LogError.{LogError}
use Rattle.proof_log.specs.declared.write.LogError.TheVariants.{WriteFault, Memory}
use Rattle.proof_log.specs.Lines.{step_lines, mark_line}
use Rattle.proof_log.specs.Written.{log_of, text_of, report_text}

-- the bytes kept grew by a part of the text from its front, or by all of it, or by nothing
abbrev pub AppendsFront : Option Text → Option Text → Text → Type 0
AppendsFront old new text = (n : ℕ) × Appends old new (take n text)

-- a fact for the error that a sink's fault makes
abbrev pub IfFault : {A : Type 0} → Result A LogError → Type 0 → Type 0
IfFault (Ok x) P = Unit {0}
IfFault (Err WriteFault) P = P
IfFault (Err Memory) P = Unit {0}

-- ---- the whole log

-- The sink gained the log of steps that give the kernel's state. It is a good log, and its report is what its lines print.
pub record GainsLog (n : ℕ) (k : State) (marks : List Mark) (end : End) (old new : Option Text) : Type 0 where
  pub defs : List Def
  pub steps : List Step
  pub run : IsRun defs steps k
  pub gained : Appends old new (text_of (log_of k defs steps marks end))
  pub good : IsGoodLog n (text_of (log_of k defs steps marks end)) (report_text (log_of k defs steps marks end))

-- the sink gained a front of such a log
pub record GainsFront (k : State) (marks : List Mark) (end : End) (old new : Option Text) : Type 0 where
  pub defs : List Def
  pub steps : List Step
  pub run : IsRun defs steps k
  pub gained : AppendsFront old new (text_of (log_of k defs steps marks end))

-- ---- parts of a log

abbrev pub steps_lines : List Def → List Step → List LogLine
steps_lines ds ss = flat_map (step_lines ds) ss

-- the lines of the steps from the one of the number `done` on, with the marks: before each mark the steps up to its place
abbrev pub marked_lines : State → List Def → List Step → ℕ → List Mark → List LogLine
marked_lines k ds ss done [] = steps_lines ds (drop done ss)
marked_lines k ds ss done (m ∷ ms) = steps_lines ds (take (m.at - done) (drop done ss)) ++ (mark_line k m.kind ∷ marked_lines k ds ss m.at ms)
