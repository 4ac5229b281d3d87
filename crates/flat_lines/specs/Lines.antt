-- Steps and lines by numbers of the tables.
use Rattle.std.specs.Prelude.{◌≡◌, ℕ, ◌++◌, Option, codes}
use Rattle.hol_terms.specs.Text.{Text}
use Rattle.hol_logs.specs.Step.{LogStep, step_refl, step_trans, step_comb, step_abs, step_beta, step_assume, step_mp, step_deduct, step_inst_type, step_inst, step_axiom, numeral}
use Rattle.hol_logs.specs.Line.{LogLine, line_first, line_step, line_const, line_type, line_base, line_section, line_name, line_end, line_stop}
use Rattle.strict_lines.specs.Operands.{reads_word, parted}
use Rattle.strict_lines.specs.Lines.{number_line}
use Rattle.flat_terms.specs.Plain.{PlainTables, HasName, HasTerm, name_of, term_of}
use Rattle.flat_walks.specs.Walk.{var_of, IsVariable}
use Rattle.flat_instances.specs.Types.{HasTypePairs, type_pairs}
use Rattle.flat_instances.specs.Terms.{term_pairs}
use Rattle.flat_lines.specs.declared.numbers.Number.{Number}
use Rattle.flat_lines.specs.declared.steps.FlatStep.{FlatStep}
use Rattle.flat_lines.specs.declared.steps.FlatStep.TheVariants.{Refl, Trans, Comb, Abs, Beta, Assume, Mp, Deduct, InstType, Inst, Axiom}
use Rattle.flat_lines.specs.declared.lines.FlatLine.{FlatLine}
use Rattle.flat_lines.specs.declared.lines.FlatLine.TheVariants.{First, Step, Constant, NewType, Base, Section, Name, End, Stop}
use Rattle.flat_lines.specs.Numbers.{IsNumber}
use Rattle.flat_lines.specs.Operands.{HasPairs}

-- what is made of a number
abbrev pub IsOf : {A : Type 0} → Number → (ℕ → A) → A → Type 0
IsOf i f a = (n : ℕ) × IsNumber i n × (a ≡ f n)

abbrev pub IsOfTwo : {A : Type 0} → Number → Number → (ℕ → ℕ → A) → A → Type 0
IsOfTwo i j f a = (m : ℕ) × (n : ℕ) × IsNumber i m × IsNumber j n × (a ≡ f m n)

-- the step of the numbers
abbrev pub IsFlatStep : PlainTables → FlatStep → LogStep → Type 0
IsFlatStep t (Refl n) l = HasTerm t n × (l ≡ step_refl (term_of t n))
IsFlatStep t (Trans i j) l = IsOfTwo i j step_trans l
IsFlatStep t (Comb i j) l = IsOfTwo i j step_comb l
IsFlatStep t (Abs v i) l = IsVariable t v × IsOf i (step_abs (var_of (term_of t v))) l
IsFlatStep t (Beta n) l = HasTerm t n × (l ≡ step_beta (term_of t n))
IsFlatStep t (Assume n) l = HasTerm t n × (l ≡ step_assume (term_of t n))
IsFlatStep t (Mp i j) l = IsOfTwo i j step_mp l
IsFlatStep t (Deduct i j) l = IsOfTwo i j step_deduct l
IsFlatStep t (InstType i ps) l = HasTypePairs t ps.items × IsOf i (λ n. step_inst_type n (type_pairs t ps.items)) l
IsFlatStep t (Inst i ps) l = HasPairs t ps.items × IsOf i (λ n. step_inst n (term_pairs t ps.items)) l
IsFlatStep t (Axiom i) l = IsOf i step_axiom l

-- two words and a number, with a space between them
abbrev pub refusal_of : Text → Option (Text × (Text × ℕ))
refusal_of x = parted (reads_word x) (codes " ") (λ test y. parted (reads_word y) (codes " ") (λ name z. number_line (λ n. (test, (name, n))) z))

-- a refusal's line, of which what is behind the number of lines is kept as it is
abbrev pub IsStop : Number → Text → LogLine → Type 0
IsStop i refusal l = (n : ℕ) × (test : Text) × (name : Text) × (place : ℕ) × IsNumber i n × (refusal ≡ test ++ codes " " ++ name ++ codes " " ++ numeral place) × (l ≡ line_stop n test name place)

-- the line of the numbers
abbrev pub IsFlatLine : PlainTables → FlatLine → LogLine → Type 0
IsFlatLine t First l = l ≡ line_first
IsFlatLine t (Step x) l = (s : LogStep) × IsFlatStep t x s × (l ≡ line_step s)
IsFlatLine t (Constant c n) l = HasName t c × HasTerm t n × (l ≡ line_const (name_of t c) (term_of t n))
IsFlatLine t (NewType c i) l = HasName t c × IsOf i (line_type (name_of t c)) l
IsFlatLine t (Base i) l = IsOf i line_base l
IsFlatLine t (Section x) l = l ≡ line_section x.now
IsFlatLine t (Name c i n) l = HasName t c × HasTerm t n × IsOf i (λ k. line_name (name_of t c) k (term_of t n)) l
IsFlatLine t (End i) l = IsOf i line_end l
IsFlatLine t (Stop i refusal) l = IsStop i refusal.now l
