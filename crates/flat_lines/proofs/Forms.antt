-- The form of a line, by what the text begins with.
use Rattle.std.proofs.Common.{◌≡◌, refl, ap, ◌∙◌, ℕ, zero, suc, List, [], ◌∷◌, Option, Some, None}
use Rattle.std.specs.Prelude.{slice_get}
use Rattle.hol_terms.specs.Text.{Text}
use Rattle.strict_reading.specs.Words.{behind}
use Rattle.strict_reading.proofs.Steps.{either_none, either_some}
use Rattle.std.specs.Prelude.{codes}
use Rattle.strict_reading.specs.Steps.{◌>>=◌}
use Rattle.strict_lines.specs.Operands.{reads_number}
use Rattle.strict_lines.specs.Lines.{number_line, numbers_line, Form, by_form_of}
use Rattle.flat_lines.proofs.Readings.{ended_then, parted_then}

-- the text begins with none of the first n forms' beginnings
abbrev pub LacksFirst : {A : Type 0} → ℕ → List (Form A) → Text → Type 0
LacksFirst zero fs x = Unit {0}
LacksFirst (suc n) [] x = Unit {0}
LacksFirst (suc n) (f ∷ fs) x = (behind f.0 x ≡ None) × LacksFirst n fs x

-- ... nor with any
abbrev pub LacksAll : {A : Type 0} → List (Form A) → Text → Type 0
LacksAll [] x = Unit {0}
LacksAll (f ∷ fs) x = (behind f.0 x ≡ None) × LacksAll fs x

pub form_at : {A : Type 0} (fs : List (Form A)) (n : ℕ) (f : Form A) (o : Option A) (x y : Text) → slice_get fs n ≡ Some f → LacksFirst n fs x → behind f.0 x ≡ Some y → by_form_of fs o x ≡ f.1 y
unfolding by_form_of
form_at [] n f o x y e h b = cc
form_at (g ∷ fs) zero f o x y e h b = either_some _ _ _ y (ap (λ v. behind v.0 x) (given e) ∙ b) ∙ ap (λ v. v.1 y) (given e)
  where
    given : Some g ≡ Some f → g ≡ f
    given e = cc
form_at (g ∷ fs) (suc n) f o x y e h b = either_none _ _ _ h.0 ∙ form_at fs n f o x y e h.1 b

pub no_form : {A : Type 0} (fs : List (Form A)) (o : Option A) (x : Text) → LacksAll fs x → by_form_of fs o x ≡ o
unfolding by_form_of
no_form [] o x h = refl
no_form (f ∷ fs) o x h = either_none _ _ _ h.0 ∙ no_form fs o x h.1

abbrev pub pair : ℕ → ℕ → ℕ × ℕ
pair m n = (m, n)

-- two numbers, and what is made of them
pub numbers_made : {A : Type 0} (f : ℕ → ℕ → A) (x : Text) → numbers_line f x ≡ (numbers_line pair x >>= (λ p. Some (f p.0 p.1)))
numbers_made f x = parted_then (reads_number x) (codes " ") (λ m y. number_line (pair m) y) (λ p. Some (f p.0 p.1)) _ (λ m y. ended_then (reads_number y) (pair m) (λ p. f p.0 p.1))
