-- Reading a line of a proof log strictly, from front to back.
use Rattle.std.specs.Prelude.{ℕ, List, [], ◌∷◌, Option, Some, None, length, ◌==◌, codes}
use Rattle.hol_terms.specs.Tm.{Tm}
use Rattle.hol_terms.specs.Signature.{Signature}
use Rattle.hol_terms.specs.Text.{Text}
use Rattle.hol_logs.specs.Step.{LogStep, step_refl, step_trans, step_comb, step_abs, step_beta, step_assume, step_mp, step_deduct, step_inst_type, step_inst, step_axiom}
use Rattle.hol_logs.specs.Line.{LogLine, line_first, line_step, line_const, line_type, line_base, line_section, line_name, line_end, line_stop, is_section}
use Rattle.strict_reading.specs.Steps.{◌>>=◌, when, either}
use Rattle.strict_reading.specs.Words.{behind}
use Rattle.strict_reading.specs.Terms.{reads_term, reads_free}
use Rattle.strict_lines.specs.Operands.{reads_number, reads_name, reads_word, parted, ended, reads_type_pairs, reads_pairs}

-- ---- operands up to the end

abbrev pub number_line : {A : Type 0} → (ℕ → A) → Text → Option A
number_line f x = ended (reads_number x) f

abbrev pub numbers_line : {A : Type 0} → (ℕ → ℕ → A) → Text → Option A
numbers_line f x = parted (reads_number x) (codes " ") (λ i y. number_line (f i) y)

abbrev pub term_line : {A : Type 0} → Signature → (Tm → A) → Text → Option A
term_line s f x = ended (reads_term s [] x) f

-- ---- forms

-- what a form begins with, and the reading of what follows
abbrev pub Form : Type 0 → Type 0
Form A = Text × (Text → Option A)

-- by the first form whose beginning stands there, and by another reading where none does
unfoldable pub by_form_of : {A : Type 0} → List (Form A) → Option A → Text → Option A
by_form_of [] o x = o
by_form_of (f ∷ fs) o x = either (behind f.0 x) f.1 (by_form_of fs o x)

abbrev pub abs_step : Signature → Text → Option LogStep
abs_step s x = parted (reads_free s x) (codes " ") (λ v y. number_line (step_abs v) y)

abbrev pub inst_type_step : Signature → Text → Option LogStep
inst_type_step s x = parted (reads_number x) (codes " ") (λ i y. reads_type_pairs s y >>= (λ ps. Some (step_inst_type i ps)))

abbrev pub inst_step : Signature → Text → Option LogStep
inst_step s x = parted (reads_number x) (codes " ") (λ i y. reads_pairs s y >>= (λ ps. Some (step_inst i ps)))

abbrev pub step_forms : Signature → List (Form LogStep)
step_forms s =
    (codes "refl ", term_line s step_refl) ∷ (codes "trans ", numbers_line step_trans) ∷ (codes "comb ", numbers_line step_comb) ∷ (codes "abs ", abs_step s) ∷ (codes "beta ", term_line s step_beta)
    ∷ (codes "assume ", term_line s step_assume) ∷ (codes "mp ", numbers_line step_mp) ∷ (codes "deduct ", numbers_line step_deduct) ∷ (codes "insttype ", inst_type_step s) ∷ (codes "inst ", inst_step s)
    ∷ (codes "axiom ", number_line step_axiom) ∷ []

unfoldable pub reads_step : Signature → Text → Option LogStep
reads_step s x = by_form_of (step_forms s) None x

abbrev pub const_line : Signature → Text → Option LogLine
const_line s x = parted (reads_name x) (codes " := ") (λ c y. term_line s (line_const c) y)

abbrev pub type_line : Text → Option LogLine
type_line x = parted (reads_name x) (codes " ") (λ c y. number_line (line_type c) y)

abbrev pub section_line : Text → Option LogLine
section_line x = when (is_section x) (Some (line_section x))

abbrev pub name_line : Signature → Text → Option LogLine
name_line s x = parted (reads_name x) (codes " ") (λ c y. parted (reads_number y) (codes " ") (λ i z. term_line s (line_name c i) z))

abbrev pub stop_line : Text → Option LogLine
stop_line x =
    parted (reads_number x) (codes " ") (λ k y. parted (reads_word y) (codes " ") (λ test z. parted (reads_word z) (codes " ") (λ name v. number_line (line_stop k test name) v)))

abbrev pub first_line : Text → Option LogLine
first_line x = when (length x == 0) (Some line_first)

abbrev pub line_forms : Signature → List (Form LogLine)
line_forms s =
    (codes "hbnf-log 1", first_line) ∷ (codes "const ", const_line s) ∷ (codes "type ", type_line) ∷ (codes "base ", number_line line_base) ∷ (codes "section ", section_line)
    ∷ (codes "name ", name_line s) ∷ (codes "end ", number_line line_end) ∷ (codes "stop ", stop_line) ∷ []

-- the line over the signature whose text it is
unfoldable pub reads_line : Signature → Text → Option LogLine
reads_line s x = by_form_of (line_forms s) (reads_step s x >>= (λ l. Some (line_step l))) x
