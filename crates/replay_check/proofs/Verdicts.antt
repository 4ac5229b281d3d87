-- The first cause of a line of each kind, and the position behind a good one.
use Rattle.std.proofs.Common.{◌≡◌, ℕ, suc, Bool, true, false, cond, not, ◌||◌, ◌==◌, List, [], ◌∷◌, ◌++◌, Some, None, refl, sym, ap, append-nil}
use Rattle.std.specs.Prelude.{is_none}
use Rattle.hol_terms.specs.Name.{Name}
use Rattle.hol_terms.specs.Tm.{Tm}
use Rattle.hol_terms.specs.Definition.{Definition}
use Rattle.hol_terms.specs.Sequent.{Sequent}
use Rattle.hol_terms.specs.Text.{Text}
use Rattle.hol_logs.specs.Step.{LogStep, step_gives, sequent_at}
use Rattle.hol_logs.specs.Line.{LogLine, line_first, line_step, line_const, line_type, line_base, line_section, line_name, line_end, line_stop}
use Rattle.hol_logs.specs.Position.{LogPosition, after, definitions_by, sequents_by, is_base_line, is_last, by_form, by_number, by_rule, by_unfit, by_base, by_text, by_count, is_misplaced, lacks_a_step, breaks_its_rule, is_unfit, is_unfit_const, is_off_base, states, names_another, miscounts, first_of, first_cause}

-- the tests of all causes decide
pub record HasTests (n : ℕ) (p : LogPosition) (l : LogLine) (a b c d e f g : Bool) : Type 0 where
  pub form : is_misplaced p l ≡ a
  pub number : lacks_a_step p l ≡ b
  pub rule : breaks_its_rule p l ≡ c
  pub unfit : is_unfit p l ≡ d
  pub base : is_off_base n p l ≡ e
  pub text : names_another p l ≡ f
  pub count : miscounts p l ≡ g

pub by_tests : (n : ℕ) (p : LogPosition) (l : LogLine) {a b c d e f g : Bool} → HasTests n p l a b c d e f g
    → first_cause n p l ≡ first_of ((a, by_form) ∷ (b, by_number) ∷ (c, by_rule) ∷ (d, by_unfit) ∷ (e, by_base) ∷ (f, by_text) ∷ (g, by_count) ∷ [])
by_tests n p l h = λ i. first_of ((h.form i, by_form) ∷ (h.number i, by_number) ∷ (h.rule i, by_rule) ∷ (h.unfit i, by_unfit) ∷ (h.base i, by_base) ∷ (h.text i, by_text) ∷ (h.count i, by_count) ∷ [])

pub misplaced : (n : ℕ) (p : LogPosition) (l : LogLine) → is_misplaced p l ≡ true → first_cause n p l ≡ Some by_form
misplaced n p l e = by_tests n p l (record { form = e; number = refl; rule = refl; unfit = refl; base = refl; text = refl; count = refl })

-- the base line's side is of no matter
either_side : (b : Bool) → cond b false false ≡ false
either_side true = refl
either_side false = refl

-- ---- the first line, and steps

pub first_good : (n : ℕ) (p : LogPosition) → is_misplaced p line_first ≡ false → first_cause n p line_first ≡ None
first_good n p e = by_tests n p line_first (record { form = e; number = refl; rule = refl; unfit = refl; base = either_side p.is_based; text = refl; count = refl })

pub step_lacks : (n : ℕ) (p : LogPosition) (s : LogStep) → is_misplaced p (line_step s) ≡ false → lacks_a_step p (line_step s) ≡ true → first_cause n p (line_step s) ≡ Some by_number
step_lacks n p s e l = by_tests n p (line_step s) (record { form = e; number = l; rule = refl; unfit = refl; base = refl; text = refl; count = refl })

pub step_fails : (n : ℕ) (p : LogPosition) (s : LogStep) → is_misplaced p (line_step s) ≡ false → lacks_a_step p (line_step s) ≡ false → step_gives p.defs p.steps s ≡ None
    → first_cause n p (line_step s) ≡ Some by_rule
step_fails n p s e l r = by_tests n p (line_step s) (record { form = e; number = l; rule = ap is_none r; unfit = refl; base = refl; text = refl; count = refl })

pub step_good : (n : ℕ) (p : LogPosition) (s : LogStep) (a : Sequent) → is_misplaced p (line_step s) ≡ false → lacks_a_step p (line_step s) ≡ false → step_gives p.defs p.steps s ≡ Some a
    → first_cause n p (line_step s) ≡ None
step_good n p s a e l r = by_tests n p (line_step s) (record { form = e; number = l; rule = ap is_none r; unfit = refl; base = either_side p.is_based; text = refl; count = refl })

-- ---- definitions

pub constant_unfit : (n : ℕ) (p : LogPosition) (c : Name) (t : Tm) → is_misplaced p (line_const c t) ≡ false → is_unfit_const p.defs c t ≡ true → first_cause n p (line_const c t) ≡ Some by_unfit
constant_unfit n p c t e u = by_tests n p (line_const c t) (record { form = e; number = refl; rule = refl; unfit = u; base = refl; text = refl; count = refl })

pub constant_early : (n : ℕ) (p : LogPosition) (c : Name) (t : Tm) → is_misplaced p (line_const c t) ≡ false → is_unfit_const p.defs c t ≡ false → is_off_base n p (line_const c t) ≡ true
    → first_cause n p (line_const c t) ≡ Some by_base
constant_early n p c t e u b = by_tests n p (line_const c t) (record { form = e; number = refl; rule = refl; unfit = u; base = b; text = refl; count = refl })

pub constant_good : (n : ℕ) (p : LogPosition) (c : Name) (t : Tm) → is_misplaced p (line_const c t) ≡ false → is_unfit_const p.defs c t ≡ false → is_off_base n p (line_const c t) ≡ false
    → first_cause n p (line_const c t) ≡ None
constant_good n p c t e u b = by_tests n p (line_const c t) (record { form = e; number = refl; rule = refl; unfit = u; base = b; text = refl; count = refl })

pub type_lacks : (n : ℕ) (p : LogPosition) (c : Name) (i : ℕ) → is_misplaced p (line_type c i) ≡ false → lacks_a_step p (line_type c i) ≡ true → first_cause n p (line_type c i) ≡ Some by_number
type_lacks n p c i e l = by_tests n p (line_type c i) (record { form = e; number = l; rule = refl; unfit = refl; base = refl; text = refl; count = refl })

pub type_unfit : (n : ℕ) (p : LogPosition) (c : Name) (i : ℕ) → is_misplaced p (line_type c i) ≡ false → lacks_a_step p (line_type c i) ≡ false → is_unfit p (line_type c i) ≡ true
    → first_cause n p (line_type c i) ≡ Some by_unfit
type_unfit n p c i e l u = by_tests n p (line_type c i) (record { form = e; number = l; rule = refl; unfit = u; base = refl; text = refl; count = refl })

pub type_early : (n : ℕ) (p : LogPosition) (c : Name) (i : ℕ) → is_misplaced p (line_type c i) ≡ false → lacks_a_step p (line_type c i) ≡ false → is_unfit p (line_type c i) ≡ false → is_off_base n p (line_type c i) ≡ true
    → first_cause n p (line_type c i) ≡ Some by_base
type_early n p c i e l u b = by_tests n p (line_type c i) (record { form = e; number = l; rule = refl; unfit = u; base = b; text = refl; count = refl })

pub type_good : (n : ℕ) (p : LogPosition) (c : Name) (i : ℕ) → is_misplaced p (line_type c i) ≡ false → lacks_a_step p (line_type c i) ≡ false → is_unfit p (line_type c i) ≡ false → is_off_base n p (line_type c i) ≡ false
    → first_cause n p (line_type c i) ≡ None
type_good n p c i e l u b = by_tests n p (line_type c i) (record { form = e; number = l; rule = refl; unfit = u; base = b; text = refl; count = refl })

-- ---- the base line, and what stands behind it

pub base_bad : (n m : ℕ) (p : LogPosition) → is_misplaced p (line_base m) ≡ false → is_off_base n p (line_base m) ≡ true → first_cause n p (line_base m) ≡ Some by_base
base_bad n m p e b = by_tests n p (line_base m) (record { form = e; number = refl; rule = refl; unfit = refl; base = b; text = refl; count = refl })

pub base_good : (n m : ℕ) (p : LogPosition) → is_misplaced p (line_base m) ≡ false → is_off_base n p (line_base m) ≡ false → first_cause n p (line_base m) ≡ None
base_good n m p e b = by_tests n p (line_base m) (record { form = e; number = refl; rule = refl; unfit = refl; base = b; text = refl; count = refl })

before : (b : Bool) → b ≡ false → cond b false true ≡ true
before true e = cc
before false e = refl

behind : (b : Bool) → b ≡ true → cond b false true ≡ false
behind true e = refl
behind false e = cc

pub section_early : (n : ℕ) (p : LogPosition) (t : Text) → is_misplaced p (line_section t) ≡ false → p.is_based ≡ false → first_cause n p (line_section t) ≡ Some by_base
section_early n p t e b = by_tests n p (line_section t) (record { form = e; number = refl; rule = refl; unfit = refl; base = before p.is_based b; text = refl; count = refl })

pub section_good : (n : ℕ) (p : LogPosition) (t : Text) → is_misplaced p (line_section t) ≡ false → p.is_based ≡ true → first_cause n p (line_section t) ≡ None
section_good n p t e b = by_tests n p (line_section t) (record { form = e; number = refl; rule = refl; unfit = refl; base = behind p.is_based b; text = refl; count = refl })

pub name_lacks : (n : ℕ) (p : LogPosition) (c : Name) (i : ℕ) (t : Tm) → is_misplaced p (line_name c i t) ≡ false → lacks_a_step p (line_name c i t) ≡ true → first_cause n p (line_name c i t) ≡ Some by_number
name_lacks n p c i t e l = by_tests n p (line_name c i t) (record { form = e; number = l; rule = refl; unfit = refl; base = refl; text = refl; count = refl })

pub name_early : (n : ℕ) (p : LogPosition) (c : Name) (i : ℕ) (t : Tm) → is_misplaced p (line_name c i t) ≡ false → lacks_a_step p (line_name c i t) ≡ false → p.is_based ≡ false → first_cause n p (line_name c i t) ≡ Some by_base
name_early n p c i t e l b = by_tests n p (line_name c i t) (record { form = e; number = l; rule = refl; unfit = refl; base = before p.is_based b; text = refl; count = refl })

pub name_other : (n : ℕ) (p : LogPosition) (c : Name) (i : ℕ) (t : Tm) → is_misplaced p (line_name c i t) ≡ false → lacks_a_step p (line_name c i t) ≡ false → p.is_based ≡ true → states (sequent_at p.steps i) t ≡ false
    → first_cause n p (line_name c i t) ≡ Some by_text
name_other n p c i t e l b s = by_tests n p (line_name c i t) (record { form = e; number = l; rule = refl; unfit = refl; base = behind p.is_based b; text = ap not s; count = refl })

pub name_good : (n : ℕ) (p : LogPosition) (c : Name) (i : ℕ) (t : Tm) → is_misplaced p (line_name c i t) ≡ false → lacks_a_step p (line_name c i t) ≡ false → p.is_based ≡ true → states (sequent_at p.steps i) t ≡ true
    → first_cause n p (line_name c i t) ≡ None
name_good n p c i t e l b s = by_tests n p (line_name c i t) (record { form = e; number = l; rule = refl; unfit = refl; base = behind p.is_based b; text = ap not s; count = refl })

pub end_early : (n : ℕ) (p : LogPosition) (k : ℕ) → is_misplaced p (line_end k) ≡ false → p.is_based ≡ false → first_cause n p (line_end k) ≡ Some by_base
end_early n p k e b = by_tests n p (line_end k) (record { form = e; number = refl; rule = refl; unfit = refl; base = before p.is_based b; text = refl; count = refl })

pub end_miscounts : (n : ℕ) (p : LogPosition) (k : ℕ) → is_misplaced p (line_end k) ≡ false → p.is_based ≡ true → (k == p.lines) ≡ false → first_cause n p (line_end k) ≡ Some by_count
end_miscounts n p k e b c = by_tests n p (line_end k) (record { form = e; number = refl; rule = refl; unfit = refl; base = behind p.is_based b; text = refl; count = ap not c })

pub end_good : (n : ℕ) (p : LogPosition) (k : ℕ) → is_misplaced p (line_end k) ≡ false → p.is_based ≡ true → (k == p.lines) ≡ true → first_cause n p (line_end k) ≡ None
end_good n p k e b c = by_tests n p (line_end k) (record { form = e; number = refl; rule = refl; unfit = refl; base = behind p.is_based b; text = refl; count = ap not c })

pub stop_early : (n : ℕ) (p : LogPosition) (k : ℕ) (test name : Text) (place : ℕ) → is_misplaced p (line_stop k test name place) ≡ false → p.is_based ≡ false → first_cause n p (line_stop k test name place) ≡ Some by_base
stop_early n p k test name place e b = by_tests n p (line_stop k test name place) (record { form = e; number = refl; rule = refl; unfit = refl; base = before p.is_based b; text = refl; count = refl })

pub stop_miscounts : (n : ℕ) (p : LogPosition) (k : ℕ) (test name : Text) (place : ℕ) → is_misplaced p (line_stop k test name place) ≡ false → p.is_based ≡ true → (k == p.lines) ≡ false
    → first_cause n p (line_stop k test name place) ≡ Some by_count
stop_miscounts n p k test name place e b c = by_tests n p (line_stop k test name place) (record { form = e; number = refl; rule = refl; unfit = refl; base = behind p.is_based b; text = refl; count = ap not c })

pub stop_good : (n : ℕ) (p : LogPosition) (k : ℕ) (test name : Text) (place : ℕ) → is_misplaced p (line_stop k test name place) ≡ false → p.is_based ≡ true → (k == p.lines) ≡ true
    → first_cause n p (line_stop k test name place) ≡ None
stop_good n p k test name place e b c = by_tests n p (line_stop k test name place) (record { form = e; number = refl; rule = refl; unfit = refl; base = behind p.is_based b; text = refl; count = ap not c })

-- ---- the position behind a line

pub position_is : (p : LogPosition) (l : LogLine) {ds : List Definition} {qs : List Sequent} {k : ℕ} {b o : Bool} → ds ≡ p.defs ++ definitions_by p l → qs ≡ p.steps ++ sequents_by p l → k ≡ suc p.lines
    → b ≡ (p.is_based || is_base_line l) → o ≡ (p.is_over || is_last l) → record { defs = ds; steps = qs; lines = k; is_based = b; is_over = o } ≡ after p l
position_is p l d q k b o = λ i. record { defs = d i; steps = q i; lines = k i; is_based = b i; is_over = o i }

pub adds_nothing : {A : Type 0} (xs : List A) → xs ≡ xs ++ []
adds_nothing xs = sym (append-nil xs)

pub or_false : (b : Bool) → b ≡ (b || false)
or_false true = refl
or_false false = refl
