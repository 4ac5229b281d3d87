-- What `check` answers to a text, and which lines of an output are its answer.
use Rattle.std.specs.Prelude.{ℕ, Bool, ◌||◌, nat_lt, List, [], ◌∷◌, ◌++◌, if◌then◌else◌, Option, Some, None, length, filter, codes}
use Rattle.std.specs.Fmt.{decimal}
use Rattle.hol_terms.specs.Typing.{tm_type}
use Rattle.hol_terms.specs.TyVars.{own_const, tm_within}
use Rattle.hol_terms.specs.Definition.{signature_of}
use Rattle.hol_terms.specs.Sequent.{eq_tm}
use Rattle.hol_terms.specs.Base.{base}
use Rattle.hol_terms.specs.Text.{Text, theorem_line}
use Rattle.hol_terms.specs.Sound.{complete_lines, begins_with}
use Rattle.theory_text.specs.Command.{Define, define_of}
use Rattle.base_count.specs.InForce.{in_force}

-- a longer input is refused
abbrev pub limit : ℕ
limit = 1048576

abbrev pub base_line : Text
base_line = codes "base " ++ decimal in_force

abbrev pub section_line : Define → Text
section_line d = codes "command 1 define " ++ d.name

-- the theorem of a `define`: the constant equals its term
abbrev pub define_fact : Define → Text
define_fact d = theorem_line (d.name ++ codes ".def") (eq_tm (own_const d.name (tm_type d.body)) d.body)

-- the first type variable of the term that its type has not
abbrev pub stray_line : Define → Text
stray_line d = codes "refused conservativity '" ++ d.stray ++ codes " " ++ decimal d.stray_place

abbrev pub limit_line : Text
limit_line = codes "refused limit input 1048576"

abbrev pub unbuilt_line : Text
unbuilt_line = codes "refused unbuilt - 0"

-- a definition is conservative where its term has no type variable that its type has not
abbrev pub define_lines : Define → List Text
define_lines d = if tm_within d.body (tm_type d.body) then section_line d ∷ define_fact d ∷ [] else stray_line d ∷ []

abbrev pub command_lines : Option Define → List Text
command_lines (Some d) = define_lines d
command_lines None = unbuilt_line ∷ []

abbrev pub text_lines : Text → List Text
text_lines [] = []
text_lines (c ∷ b) = command_lines (define_of (signature_of (base in_force)) (c ∷ b))

-- the answer lines to a text
abbrev pub answer : Text → List Text
answer b = base_line ∷ (if nat_lt limit (length b) then limit_line ∷ [] else text_lines b)

abbrev pub is_refusal : Text → Bool
is_refusal line = begins_with (codes "refused ") line

-- the lines that begin with `base`, `command`, `thm` or `refused`
abbrev pub is_answer_line : Text → Bool
is_answer_line line = begins_with (codes "base ") line || begins_with (codes "command ") line || begins_with (codes "thm ") line || is_refusal line

abbrev pub answers : Text → List Text
answers out = filter is_answer_line (complete_lines out)
