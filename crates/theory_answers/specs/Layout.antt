-- How an output is laid out: whole lines, and each definition in the section of the command that makes it.
use Rattle.std.specs.Prelude.{◌≡◌, ℕ, true, List, [], ◌∷◌, ◌++◌, All, codes}
use Rattle.std.specs.List.{flat_map}
use Rattle.std.specs.Fmt.{decimal}
use Rattle.hol_terms.specs.Name.{Name}
use Rattle.hol_terms.specs.Tm.{Tm}
use Rattle.hol_terms.specs.Definition.{const_def}
use Rattle.hol_terms.specs.Text.{Text, definition_line}
use Rattle.hol_terms.specs.Sound.{complete_lines, begins_with}
use Rattle.theory_answers.specs.Answer.{base_line}

-- each line with its newline
abbrev pub unlines : List Text → Text
unlines lines = flat_map (λ line. line ++ 10 ∷ []) lines

-- the section of a `define`: its number, the name that it introduces, the term that the name is defined as, and theorem lines
pub record Section : Type 0 where
  pub number : ℕ
  pub name : Name
  pub body : Tm
  pub theorems : List Text

-- a section has exactly one definition line, of the name that the command introduces, before its theorem lines
abbrev pub section_lines : Section → List Text
section_lines s = (codes "command " ++ decimal s.number ++ codes " define " ++ s.name) ∷ definition_line (const_def s.name s.body) ∷ s.theorems

abbrev pub IsTheoremLine : Text → Type 0
IsTheoremLine line = begins_with (codes "thm ") line ≡ true

-- nothing, or one refusal
pub data IsEnding : List Text → Type 0 where
  accepted : IsEnding []
  refused : (line : Text) → begins_with (codes "refused ") line ≡ true → IsEnding (line ∷ [])

-- the output is whole lines: the base line, sections, and at most one refusal
pub record IsOwned (out : Text) : Type 0 where
  pub sections : List Section
  pub ending : List Text
  pub complete : out ≡ unlines (complete_lines out)
  pub laid_out : complete_lines out ≡ base_line ∷ flat_map section_lines sections ++ ending
  pub theorems_are : All (λ s. All IsTheoremLine s.theorems) sections
  pub ending_is : IsEnding ending
