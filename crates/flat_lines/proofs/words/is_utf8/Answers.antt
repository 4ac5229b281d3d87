use Rattle.std.proofs.Common.{◌≡◌, refl, ℕ, List, sym, ◌∙◌, Bool, true, false, Result, Ok, Err, Bor}
use Rattle.std.specs.Prelude.{MatchResult, is_ok}
use Rattle.std.specs.Str.{is_utf8, IsUtf8, IsValidUpTo, valid_up_to}
use Rattle.std.specs.declared.str.Utf8Error.{Utf8Error}
use Rattle.std.proofs.lemmas.Str.{IsUtf8-from_is_utf8, is_utf8-from_IsUtf8}
use Rattle.hol_terms.specs.Text.{Text}
use Rattle.flat_lines.proofs.words.is_utf8.Goals as goal

told : {A E : Type 0} (P : A → Type 0) (Q : E → Type 0) (r : Result A E) (x : Text) → MatchResult r (λ s. P s × IsUtf8 x) (λ e. (¬ IsUtf8 x) × Q e) → is_ok r ≡ is_utf8 x
told P Q (Ok a) x h = sym (is_utf8-from_IsUtf8 x h.1)
told P Q (Err e) x h = at (is_utf8 x) (λ k. h.0 (IsUtf8-from_is_utf8 x k))
  where
    at : (b : Bool) → (b ≡ true → ⊥) → false ≡ b
    at true f = absurd (f refl)
    at false f = refl

pub returns : goal.returns
returns c = c.is_ok.ensures.value ∙ told (λ (s : Bor (List ℕ)). s.now ≡ c.args.text.now) (λ (e : Utf8Error). IsValidUpTo c.args.text.now (valid_up_to e)) c.from_utf8.result c.args.text.now c.from_utf8.ensures.cases
