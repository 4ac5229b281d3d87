-- What the lines so far gave, what a further line adds and prints, and why it may be bad.
use Rattle.std.specs.Prelude.{ℕ, suc, Bool, true, false, not, ◌&&◌, ◌||◌, ◌==◌, List, [], ◌∷◌, ◌++◌, Option, Some, None, length, map, if◌then◌else◌, codes, slice_get, is_none, nat_lt, option_to_list, refl}
use Rattle.std.specs.List.{list_any, flat_map}
use Rattle.std.specs.Coded.{Coded, code_by, coded×, coded_list, coded_ℕ, coded_bool}
use Rattle.hol_terms.specs.Name.{Name}
use Rattle.hol_terms.specs.Tm.{Tm, tm_comb}
use Rattle.hol_terms.specs.Typing.{tm_type}
use Rattle.hol_terms.specs.TyVars.{tm_within}
use Rattle.hol_terms.specs.Signature.{may_introduce}
use Rattle.hol_terms.specs.TypeNames.{may_introduce_type}
use Rattle.hol_terms.specs.Definition.{Definition, const_def, type_def, def_code, signature_of, has_frees}
use Rattle.hol_terms.specs.Sequent.{Sequent, sequent_code}
use Rattle.hol_terms.specs.Rules.{same, function}
use Rattle.hol_terms.specs.Base.{base}
use Rattle.hol_terms.specs.Proves.{sequents_of}
use Rattle.hol_terms.specs.Text.{Text, definition_line, theorem_line}
use Rattle.hol_logs.specs.Step.{numeral, premises, sequent_at, same_definition, are_base, step_gives}
use Rattle.hol_logs.specs.Line.{LogLine, line_first, line_step, line_const, line_type, line_base, line_section, line_name, line_end, line_stop, line_text}

-- the definitions, the sequents of the steps by their numbers, how many lines were read, and whether the base line and the last
-- line were
pub record LogPosition : Type 0 where
  pub defs : List Definition
  pub steps : List Sequent
  pub lines : ℕ
  pub is_based : Bool
  pub is_over : Bool

abbrev pub position_code : Coded LogPosition
position_code = code_by (List Definition × (List Sequent × (ℕ × (Bool × Bool)))) (coded× (coded_list def_code) (coded× (coded_list sequent_code) (coded× coded_ℕ (coded× coded_bool coded_bool))))
    (λ p. (p.defs, (p.steps, (p.lines, (p.is_based, p.is_over))))) (λ t. record { defs = t.0; steps = t.1.0; lines = t.1.1.0; is_based = t.1.1.1.0; is_over = t.1.1.1.1 }) (λ _. refl)

abbrev pub start_position : LogPosition
start_position = record { defs = []; steps = []; lines = 0; is_based = false; is_over = false }

-- ---- what a line adds

-- a theorem `|- P t` defines a type by the predicate P
abbrev pub predicate_of : Sequent → Tm
predicate_of a = function a.concl

abbrev pub definitions_by : LogPosition → LogLine → List Definition
definitions_by p (line_const c t) = const_def c t ∷ []
definitions_by p (line_type c i) = type_def c (predicate_of (sequent_at p.steps i)) ∷ []
definitions_by p l = []

-- one step by a rule, one that says a constant's definition, two that say a type's
abbrev pub sequents_by : LogPosition → LogLine → List Sequent
sequents_by p (line_step s) = option_to_list (step_gives p.defs p.steps s)
sequents_by p l = flat_map sequents_of (definitions_by p l)

abbrev pub is_first : LogLine → Bool
is_first line_first = true
is_first l = false

abbrev pub is_base_line : LogLine → Bool
is_base_line (line_base m) = true
is_base_line l = false

abbrev pub is_last : LogLine → Bool
is_last (line_end k) = true
is_last (line_stop k test name place) = true
is_last l = false

-- the position behind a line
abbrev pub after : LogPosition → LogLine → LogPosition
after p l = record {
  defs = p.defs ++ definitions_by p l;
  steps = p.steps ++ sequents_by p l;
  lines = suc p.lines;
  is_based = p.is_based || is_base_line l;
  is_over = p.is_over || is_last l;
}

-- what a line prints: a definition behind the base line, the base line itself, a section's text, a theorem, a refusal
abbrev pub report_of : LogPosition → LogLine → List Text
report_of p (line_base m) = line_text (line_base m) ∷ []
report_of p (line_section t) = t ∷ []
report_of p (line_name c i t) = theorem_line c t ∷ []
report_of p (line_stop k test name place) = (codes "refused " ++ test ++ codes " " ++ name ++ codes " " ++ numeral place) ∷ []
report_of p l = if p.is_based then map definition_line (definitions_by p l) else []

-- ---- why a line is bad

-- Why a line is bad, in the order in which causes are looked for; `by_cut` is told of a log that ends before a last line.
pub data Why : Type 0 where
  by_form : Why
  by_number : Why
  by_rule : Why
  by_unfit : Why
  by_base : Why
  by_text : Why
  by_count : Why
  by_cut : Why

-- form: another line than the first line at the start, or that line elsewhere, or a line behind the last
abbrev pub is_misplaced : LogPosition → LogLine → Bool
is_misplaced p l = p.is_over || (if p.lines == 0 then not (is_first l) else is_first l)

-- number: it names a step that isn't there
abbrev pub steps_named : LogLine → List ℕ
steps_named (line_step s) = premises s
steps_named (line_type c i) = i ∷ []
steps_named (line_name c i t) = i ∷ []
steps_named l = []

abbrev pub lacks_a_step : LogPosition → LogLine → Bool
lacks_a_step p l = list_any (λ i. not (nat_lt i (length p.steps))) (steps_named l)

-- rule: a condition of the rule fails
abbrev pub breaks_its_rule : LogPosition → LogLine → Bool
breaks_its_rule p (line_step s) = is_none (step_gives p.defs p.steps s)
breaks_its_rule p l = false

-- unfit, of a constant: its name may not be introduced, the term has a free variable, or a type variable that its type lacks
abbrev pub is_unfit_const : List Definition → Name → Tm → Bool
is_unfit_const ds c t = not (may_introduce (signature_of ds) c) || has_frees t || not (tm_within t (tm_type t))

abbrev pub is_application : Tm → Bool
is_application (tm_comb f x) = true
is_application t = false

-- unfit, of a type: its names may not be introduced, the theorem has hypotheses or is no application `P t`, or P has a free variable
abbrev pub is_unfit_type : List Definition → Name → Sequent → Bool
is_unfit_type ds c a = not (may_introduce_type (signature_of ds) c) || not (length a.hyps == 0) || not (is_application a.concl) || has_frees (predicate_of a)

abbrev pub is_unfit : LogPosition → LogLine → Bool
is_unfit p (line_const c t) = is_unfit_const p.defs c t
is_unfit p (line_type c i) = is_unfit_type p.defs c (sequent_at p.steps i)
is_unfit p l = false

-- base, with n base definitions in force: before the base line only these are defined, in order, and nothing is printed; the base
-- line has their number, and comes once, right behind them
abbrev pub is_next_base : ℕ → List Definition → Definition → Bool
is_next_base n ds d = list_any (same_definition d) (option_to_list (slice_get (base n) (length ds)))

abbrev pub is_too_early : ℕ → LogPosition → LogLine → Bool
is_too_early n p line_first = false
is_too_early n p (line_step s) = false
is_too_early n p (line_base m) = not ((m == n) && are_base n p.defs)
is_too_early n p (line_const c t) = not (is_next_base n p.defs (const_def c t))
is_too_early n p (line_type c i) = not (is_next_base n p.defs (type_def c (predicate_of (sequent_at p.steps i))))
is_too_early n p l = true

abbrev pub is_off_base : ℕ → LogPosition → LogLine → Bool
is_off_base n p l = if p.is_based then is_base_line l else is_too_early n p l

-- text: the named step has hypotheses, or another conclusion
abbrev pub states : Sequent → Tm → Bool
states a t = (length a.hyps == 0) && same a.concl t

abbrev pub names_another : LogPosition → LogLine → Bool
names_another p (line_name c i t) = not (states (sequent_at p.steps i) t)
names_another p l = false

-- count: the last line has another number than that of the lines before it
abbrev pub miscounts : LogPosition → LogLine → Bool
miscounts p (line_end k) = not (k == p.lines)
miscounts p (line_stop k test name place) = not (k == p.lines)
miscounts p l = false

-- the first of the causes whose test holds
abbrev pub first_of : List (Bool × Why) → Option Why
first_of [] = None
first_of (c ∷ cs) = if c.0 then Some c.1 else first_of cs

-- why a line that has a form is bad, with n base definitions in force; None where it is good
abbrev pub first_cause : ℕ → LogPosition → LogLine → Option Why
first_cause n p l = first_of (
    (is_misplaced p l, by_form) ∷ (lacks_a_step p l, by_number) ∷ (breaks_its_rule p l, by_rule) ∷ (is_unfit p l, by_unfit)
    ∷ (is_off_base n p l, by_base) ∷ (names_another p l, by_text) ∷ (miscounts p l, by_count) ∷ [])
