-- The lines of a proof log, and their one text. Words are separated by one space.
use Rattle.std.specs.Prelude.{◌≡◌, ℕ, Bool, true, not, ◌&&◌, ◌||◌, ◌==◌, [], ◌++◌, length, codes}
use Rattle.std.specs.List.{list_all}
use Rattle.std.specs.Str.{is_utf8}
use Rattle.hol_terms.specs.Name.{Name, is_name}
use Rattle.hol_terms.specs.Tm.{Tm}
use Rattle.hol_terms.specs.Signature.{Signature, IsOver}
use Rattle.hol_terms.specs.Text.{Text, tm_text}
use Rattle.hol_terms.specs.Sound.{begins_with}
use Rattle.hol_logs.specs.Step.{LogStep, numeral, step_text, IsStepOver}

pub data LogLine : Type 0 where
  -- the first line, which has the format's name and version
  line_first : LogLine
  line_step : LogStep → LogLine
  -- the definition of a constant by a term, and of a type by the step of that number
  line_const : Name → Tm → LogLine
  line_type : Name → ℕ → LogLine
  -- the base definitions of that number stand above
  line_base : ℕ → LogLine
  -- the line of the report that opens a command's or a plugin's section
  line_section : Text → LogLine
  -- the step of that number shows the term, which is named
  line_name : Name → ℕ → Tm → LogLine
  -- the last line, with the number of lines before it: of a theory that was done, or that was refused by a test at a name and a place
  line_end : ℕ → LogLine
  line_stop : ℕ → Text → Text → ℕ → LogLine

abbrev pub line_text : LogLine → Text
line_text line_first = codes "hbnf-log 1"
line_text (line_step s) = step_text s
line_text (line_const c t) = codes "const " ++ c ++ codes " := " ++ tm_text t
line_text (line_type c i) = codes "type " ++ c ++ codes " " ++ numeral i
line_text (line_base m) = codes "base " ++ numeral m
line_text (line_section t) = codes "section " ++ t
line_text (line_name c i t) = codes "name " ++ c ++ codes " " ++ numeral i ++ codes " " ++ tm_text t
line_text (line_end k) = codes "end " ++ numeral k
line_text (line_stop k test name place) = codes "stop " ++ numeral k ++ codes " " ++ test ++ codes " " ++ name ++ codes " " ++ numeral place

-- what opens a section: UTF-8 without a newline, which begins with one of two words
abbrev pub is_section : Text → Bool
is_section t = is_utf8 t && list_all (λ b. not (b == 10)) t && (begins_with (codes "command ") t || begins_with (codes "plugin ") t)

-- a word of a refusal: UTF-8, not empty, without space and newline
abbrev pub is_word : Text → Bool
is_word w = is_utf8 w && not (length w == 0) && list_all (λ b. not (b == 32) && not (b == 10)) w

-- names are names, terms are well typed and types well formed over the signature, sections and words are such
abbrev pub IsLineOver : Signature → LogLine → Type 0
IsLineOver s line_first = Unit {0}
IsLineOver s (line_step l) = IsStepOver s l
IsLineOver s (line_const c t) = (is_name c ≡ true) × IsOver s [] t
IsLineOver s (line_type c i) = is_name c ≡ true
IsLineOver s (line_base m) = Unit {0}
IsLineOver s (line_section t) = is_section t ≡ true
IsLineOver s (line_name c i t) = (is_name c ≡ true) × IsOver s [] t
IsLineOver s (line_end k) = Unit {0}
IsLineOver s (line_stop k test name place) = (is_word test ≡ true) × (is_word name ≡ true)
