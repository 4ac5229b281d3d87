-- Good and bad logs, and what they report. A log is a list of bytes; n is the number of base definitions in force.
use Rattle.std.specs.Prelude.{◌≡◌, ℕ, suc, Bool, true, not, ◌&&◌, ◌==◌, List, [], ◌∷◌, ◌++◌, Some, None, length, if◌then◌else◌}
use Rattle.std.specs.List.{flat_map}
use Rattle.hol_terms.specs.Definition.{signature_of}
use Rattle.hol_terms.specs.Text.{Text}
use Rattle.hol_terms.specs.Sound.{complete_lines}
use Rattle.hol_logs.specs.Line.{LogLine, line_text, IsLineOver}
use Rattle.hol_logs.specs.Position.{LogPosition, start_position, after, report_of, Why, by_form, by_cut, first_cause}

-- ---- lines of bytes

-- the bytes behind the last newline
abbrev pub unended_after : Text → Text → Text
unended_after line [] = line
unended_after line (b ∷ bs) = if b == 10 then unended_after [] bs else unended_after (line ++ b ∷ []) bs

abbrev pub unended : Text → Text
unended bs = unended_after [] bs

abbrev pub line_unless_empty : Text → List Text
line_unless_empty [] = []
line_unless_empty (b ∷ bs) = (b ∷ bs) ∷ []

-- the lines that a newline ends, without it, and the bytes behind the last newline, where there are any
abbrev pub log_lines : Text → List Text
log_lines bs = complete_lines bs ++ line_unless_empty (unended bs)

-- lines, each ended by a newline
abbrev pub unlines : List Text → Text
unlines lines = flat_map (λ line. line ++ 10 ∷ []) lines

-- ---- good lines and bad ones

-- the text is that of a line whose operands are well formed over the definitions so far; so it is canonical, and UTF-8
pub record HasForm (p : LogPosition) (text : Text) (l : LogLine) : Type 0 where
  pub reads : text ≡ line_text l
  pub over : IsLineOver (signature_of p.defs) l

-- a good line: it has a form, and no cause to be bad
pub record IsGood (n : ℕ) (p : LogPosition) (text : Text) (l : LogLine) : Type 0 where
  pub form : HasForm p text l
  pub no_cause : first_cause n p l ≡ None

-- a bad line, and the first of the causes: it has no form, or it has one and another cause
pub data IsBad (n : ℕ) (p : LogPosition) (text : Text) : Why → Type 0 where
  no_form : ((l : LogLine) → ¬ HasForm p text l) → IsBad n p text by_form
  a_cause : (l : LogLine) (why : Why) → HasForm p text l → first_cause n p l ≡ Some why → IsBad n p text why

-- good lines from the start on, the position behind them, and what they print
pub data Reads (n : ℕ) : List Text → LogPosition → List Text → Type 0 where
  no_line : Reads n [] start_position []
  one_more : (texts said : List Text) (p : LogPosition) (text : Text) (l : LogLine) → Reads n texts p said → IsGood n p text l
      → Reads n (texts ++ text ∷ []) (after p l) (said ++ report_of p l)

-- ---- logs

-- a last line was read, and a newline ends it
abbrev pub is_ended : Text → LogPosition → Bool
is_ended b p = p.is_over && (length (unended b) == 0)

-- a good log and its report: every line is good at the position before it, the last is a last line, and a newline ends it
pub data IsGoodLog (n : ℕ) (b : Text) : Text → Type 0 where
  good_log : (p : LogPosition) (said : List Text) → Reads n (log_lines b) p said → is_ended b p ≡ true → IsGoodLog n b (unlines said)

-- a log that isn't good: the report of the lines before the first bad one, the number of that line, counted from 1, and its first
-- cause. Where every line is good, it is cut before the line that would be next.
pub data IsBadLog (n : ℕ) (b : Text) : Text → ℕ → Why → Type 0 where
  bad_line : (texts rest said : List Text) (p : LogPosition) (text : Text) (why : Why) → log_lines b ≡ texts ++ text ∷ rest → Reads n texts p said → IsBad n p text why
      → IsBadLog n b (unlines said) (suc (length texts)) why
  cut_off : (p : LogPosition) (said : List Text) → Reads n (log_lines b) p said → not (is_ended b p) ≡ true
      → IsBadLog n b (unlines said) (suc (length (log_lines b))) by_cut

-- bytes that begin what good lines at the front of a log print
pub record IsPartOfReport (n : ℕ) (b out : Text) : Type 0 where
  pub texts : List Text
  pub rest : List Text
  pub position : LogPosition
  pub said : List Text
  pub more : Text
  pub lines : log_lines b ≡ texts ++ rest
  pub read : Reads n texts position said
  pub begins : out ++ more ≡ unlines said
