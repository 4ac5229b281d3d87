-- Reading what the lines of a proof log are made of, from front to back. Each reading gives what is left.
use Rattle.std.specs.Prelude.{ℕ, zero, suc, Bool, not, ◌==◌, List, [], ◌∷◌, Option, Some, None, length, drop, codes}
use Rattle.std.specs.List.{prefix_len, take_while}
use Rattle.std.specs.Char.{is_ascii_digit}
use Rattle.std.specs.Str.Parse.{digits_value}
use Rattle.hol_terms.specs.Name.{Name, is_segment, is_name}
use Rattle.hol_terms.specs.Ty.{Ty}
use Rattle.hol_terms.specs.Tm.{Tm, FreeVar}
use Rattle.hol_terms.specs.Subst.{TySubst}
use Rattle.hol_terms.specs.Binding.{VarSubst}
use Rattle.hol_terms.specs.Signature.{Signature}
use Rattle.hol_terms.specs.Text.{Text}
use Rattle.hol_logs.specs.Step.{is_numeral}
use Rattle.hol_logs.specs.Line.{is_word}
use Rattle.strict_reading.specs.Steps.{◌>>=◌, when, either}
use Rattle.strict_reading.specs.Words.{word_of, behind_word, behind}
use Rattle.strict_reading.specs.Types.{reads_type}
use Rattle.strict_reading.specs.Terms.{reads_term, reads_free}

-- what is left behind the bytes in front that pass
abbrev pub drop_while : (ℕ → Bool) → Text → Text
drop_while p x = drop (prefix_len p x) x

-- a number, of all the digits in front
unfoldable pub reads_number : Text → Option (ℕ × Text)
reads_number x = when (is_numeral (take_while is_ascii_digit x)) (Some (digits_value 10 (take_while is_ascii_digit x), drop_while is_ascii_digit x))

unfoldable pub reads_name : Text → Option (Name × Text)
reads_name x = when (is_name (word_of x)) (Some (word_of x, behind_word x))

-- what a type variable is called
unfoldable pub reads_segment : Text → Option (Name × Text)
reads_segment x = when (is_segment (word_of x)) (Some (word_of x, behind_word x))

abbrev pub is_no_space : ℕ → Bool
is_no_space b = not (b == 32)

-- a word of a refusal, which ends before the next space
unfoldable pub reads_word : Text → Option (Text × Text)
reads_word x = when (is_word (take_while is_no_space x)) (Some (take_while is_no_space x, drop_while is_no_space x))

-- what comes of a value and the text behind the sign that follows it
unfoldable pub parted : {A B : Type 0} → Option (A × Text) → Text → (A → Text → Option B) → Option B
parted o sign f = o >>= (λ p. behind sign p.1 >>= (λ y. f p.0 y))

-- what comes of a value with nothing left behind it
unfoldable pub ended : {A B : Type 0} → Option (A × Text) → (A → B) → Option B
ended o f = o >>= (λ p. when (length p.1 == 0) (Some (f p.0)))

-- ---- pairs

-- the type for a type variable
unfoldable pub reads_type_pair : Signature → Text → Option ((Name × Ty) × Text)
reads_type_pair s x = behind (codes "'") x >>= (λ y. parted (reads_segment y) (codes " := ") (λ v z. reads_type s z >>= (λ p. Some ((v, p.0), p.1))))

-- the term for a free variable
unfoldable pub reads_pair : Signature → Text → Option ((FreeVar × Tm) × Text)
reads_pair s x = parted (reads_free s x) (codes " := ") (λ v y. reads_term s [] y >>= (λ p. Some ((v, p.0), p.1)))

-- behind a pair: further ones, or nothing
abbrev pub others_step : {A : Type 0} → (Text → Option (List A)) → A → Text → Option (List A)
others_step others a x = either (behind (codes " ; ") x) (λ y. others y >>= (λ ps. Some (a ∷ ps))) (when (length x == 0) (Some (a ∷ [])))

-- at least one pair, with semicolons between them, up to the end of a text of less than so many bytes
unfoldable pub pairs_below : {A : Type 0} → (Text → Option (A × Text)) → ℕ → Text → Option (List A)
pairs_below pair zero x = None
pairs_below pair (suc n) x = pair x >>= (λ p. others_step (pairs_below pair n) p.0 p.1)

unfoldable pub reads_type_pairs : Signature → Text → Option TySubst
reads_type_pairs s x = pairs_below (reads_type_pair s) (suc (length x)) x

unfoldable pub reads_pairs : Signature → Text → Option VarSubst
reads_pairs s x = pairs_below (reads_pair s) (suc (length x)) x
