-- The marks of a theory without a command, and of a theory of one definition; and what the logs of these report.
use Rattle.std.specs.declared.alloc.Global.{Global}
use Rattle.std.specs.Prelude.{◌≡◌, ℕ, ◌+◌, true, List, [], ◌∷◌, ◌++◌, length, String, string_bytes, codes}
use Rattle.hol_terms.specs.Name.{Name}
use Rattle.hol_terms.specs.Tm.{Tm}
use Rattle.hol_terms.specs.Typing.{tm_type}
use Rattle.hol_terms.specs.TyVars.{own_const}
use Rattle.hol_terms.specs.Signature.{may_introduce}
use Rattle.hol_terms.specs.Definition.{const_def, signature_of}
use Rattle.hol_terms.specs.Sequent.{Sequent, seq, eq_tm}
use Rattle.hol_terms.specs.Base.{base}
use Rattle.hol_terms.specs.Text.{Text, definition_line, theorem_line}
use Rattle.hol_terms.specs.declared.defs.Def.{Def}
use Rattle.hol_kernel.specs.State.{State}
use Rattle.hol_kernel.specs.Run.{IsRun}
use Rattle.hol_kernel.specs.declared.step.Step.{Step}
use Rattle.hol_logs.specs.Step.{numeral}
use Rattle.hol_logs.specs.Line.{line_base, line_text}
use Rattle.proof_log.specs.declared.marks.Mark.{Mark}
use Rattle.proof_log.specs.declared.marks.MarkKind.TheVariants.{Base, Section, Name as Named}
use Rattle.proof_log.specs.declared.marks.End.{End}
use Rattle.proof_log.specs.declared.marks.End.TheVariants.{Done, Stop}

-- what the last line prints
abbrev pub said_last : End → List Text
said_last Done = []
said_last (Stop test name place) = (codes "refused " ++ string_bytes test ++ codes " " ++ string_bytes name ++ codes " " ++ numeral place) ∷ []

-- ---- no command

-- behind all steps
abbrev pub base_mark : ℕ → State → Mark
base_mark n k = record { at = length k.steps; kind = Base n }

abbrev pub base_report : ℕ → End → List Text
base_report n end = line_text (line_base n) ∷ said_last end

-- ---- one definition

abbrev pub says : Name → Tm → Sequent
says c t = seq [] (eq_tm (own_const c (tm_type t)) t)

-- the kernel had exactly the n base definitions, and made the definition of a constant of a new name
pub record IsDefinedNext (n : ℕ) (old new : State) (c : Name) (t : Tm) : Type 0 where
  pub defs : List Def
  pub steps : List Step
  pub run : IsRun defs steps old
  pub before : old.defs ≡ base n
  pub named : may_introduce (signature_of old.defs) c ≡ true
  pub after : new ≡ record { defs = old.defs ++ const_def c t ∷ []; steps = old.steps ++ says c t ∷ [] }

-- the section's line stands above the definition's step, and the theorem that the step gives is named behind it
abbrev pub define_marks : ℕ → State → String Global → String Global → List Mark
define_marks n old text name =
    base_mark n old ∷ record { at = length old.steps; kind = Section text } ∷ record { at = length old.steps + 1; kind = Named name (length old.steps) } ∷ []

abbrev pub define_report : ℕ → Text → Name → Tm → Name → End → List Text
define_report n text c t name end = line_text (line_base n) ∷ text ∷ definition_line (const_def c t) ∷ theorem_line name (eq_tm (own_const c (tm_type t)) t) ∷ said_last end
