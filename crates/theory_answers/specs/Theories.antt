-- Theories as proof logs tell them.
use Rattle.std.specs.declared.alloc.Global.{Global}
use Rattle.std.specs.Prelude.{◌≡◌, Bool, true, false, [], ◌∷◌, ◌++◌, Option, String, string_bytes, codes, List}
use Rattle.hb_io.specs.Told.{Appends}
use Rattle.hol_terms.specs.Text.{Text}
use Rattle.hol_terms.specs.declared.defs.Def.{Def}
use Rattle.hol_kernel.specs.State.{State}
use Rattle.hol_kernel.specs.Run.{IsRun}
use Rattle.hol_kernel.specs.declared.step.Step.{Step}
use Rattle.proof_log.specs.declared.marks.End.{End}
use Rattle.proof_log.specs.declared.marks.End.TheVariants.{Done, Stop}
use Rattle.proof_log.specs.Marks.{AreFit}
use Rattle.proof_log.specs.Written.{log_of, text_of}
use Rattle.proof_log.specs.Gained.{AppendsFront}
use Rattle.proof_log.specs.Theories.{base_mark, IsDefinedNext, define_marks}
use Rattle.theory_text.specs.Command.{Define}
use Rattle.base_count.specs.InForce.{in_force}
use Rattle.theory_answers.specs.Answer.{section_line}
use Rattle.theory_answers.specs.Answered.{IsLog}
use Rattle.theory_answers.specs.declared.theory.Theory.{Theory}

abbrev pub is_stop : End → Bool
is_stop Done = false
is_stop (Stop test name place) = true

-- the base definitions alone
pub record IsBaseTheory (k : State) (end : End) (t : Theory) : Type 0 where
  pub kernel : t.kernel ≡ k
  pub marks : t.marks.items ≡ base_mark in_force k ∷ []
  pub end_is : t.end ≡ end

-- one definition behind them, with its section and its theorem
pub record IsDefinedTheory (old : State) (d : Define) (t : Theory) : Type 0 where
  pub section : String Global
  pub fact : String Global
  pub section_is : string_bytes section ≡ section_line d
  pub fact_is : string_bytes fact ≡ d.name ++ codes ".def"
  pub defined : IsDefinedNext in_force old t.kernel d.name d.body
  pub marks : t.marks.items ≡ define_marks in_force old section fact
  pub end_is : t.end ≡ Done

-- its marks and its end are fit for its kernel, and the log of any steps that give the kernel's state answers the text
pub record IsTheory (b : Text) (t : Theory) : Type 0 where
  pub fit : AreFit in_force t.kernel t.marks.items t.end
  pub logs : (ds : List Def) (ss : List Step) → IsRun ds ss t.kernel → IsLog b (text_of (log_of t.kernel ds ss t.marks.items t.end)) (is_stop t.end)

-- ---- what a sink gained

-- a log that answers the text
pub record GainsLogOf (b : Text) (refused : Bool) (old new : Option Text) : Type 0 where
  pub log : Text
  pub answers : IsLog b log refused
  pub gained : Appends old new log

-- a front of such a log
pub record GainsPartOf (b : Text) (old new : Option Text) : Type 0 where
  pub log : Text
  pub refused : Bool
  pub answers : IsLog b log refused
  pub gained : AppendsFront old new log
