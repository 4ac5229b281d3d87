-- Fronts of texts: words and signs.
use Rattle.std.proofs.Common.{◌≡◌, refl, sym, ap, ◌∙◌, ℕ, ◌+◌, ◌<◌, ◌≤◌, Bool, true, false, not, ◌&&◌, ◌||◌, ◌==◌, [], ◌∷◌, ◌++◌, length, length-append, Some, None, eqb-true, eq-eqb, arith}
use Rattle.std.proofs.lemmas.Bool.{and_parts}
use Rattle.hol_terms.specs.Text.{Text}
use Rattle.strict_reading.specs.Words.{is_word_byte, begins_word, in_word, if_word, past_word, word_of, behind_word, ends_word, if_same, behind}

-- ---- what was read

pub word_parts : (x : Text) → x ≡ word_of x ++ behind_word x
unfolding word_of behind_word
word_parts [] = refl
word_parts (c ∷ x) = at (in_word c x) (word_parts x)
  where
    at : (b : Bool) → x ≡ word_of x ++ behind_word x → c ∷ x ≡ if_word b c (word_of x) ++ past_word b (behind_word x) (c ∷ x)
    at true e = ap (λ y. c ∷ y) e
    at false e = refl

pub behind_is : (p x y : Text) → behind p x ≡ Some y → x ≡ p ++ y
unfolding behind
behind_is [] x y h = cc
behind_is (c ∷ p) [] y h = cc
behind_is (c ∷ p) (d ∷ x) y h = at (c == d) refl (behind_is p x y) h
  where
    at : (b : Bool) → (c == d) ≡ b → (behind p x ≡ Some y → x ≡ p ++ y) → if_same b (behind p x) ≡ Some y → d ∷ x ≡ c ∷ (p ++ y)
    at true e f h = λ i. sym (eqb-true c d e) i ∷ f h i
    at false e f h = cc

-- ---- what is read

-- the bytes of the text belong to one word
abbrev pub is_word : Text → Bool
is_word [] = true
is_word (c ∷ cs) = in_word c cs && is_word cs

more_word : (c : ℕ) (w r : Text) → in_word c w ≡ true → in_word c (w ++ r) ≡ true
more_word c [] r h = at (is_word_byte c) (c == 46) h
  where
    at : (a b : Bool) → (a || (b && false)) ≡ true → (a || (b && begins_word r)) ≡ true
    at true b h = refl
    at false true h = cc
    at false false h = cc
more_word c (d ∷ w) r h = h

pub word_front : (w r : Text) → is_word w ≡ true → ends_word r ≡ true → word_of (w ++ r) ≡ w
unfolding word_of
word_front [] [] h e = refl
word_front [] (c ∷ r) h e = at (in_word c r) e
  where
    at : (b : Bool) → not b ≡ true → if_word b c (word_of r) ≡ []
    at true e = cc
    at false e = refl
word_front (c ∷ w) r h e =
    let p = and_parts (in_word c w) (is_word w) h in ap (λ b. if_word b c (word_of (w ++ r))) (more_word c w r p.0) ∙ ap (λ y. c ∷ y) (word_front w r p.1 e)

pub behind_front : (w r : Text) → is_word w ≡ true → ends_word r ≡ true → behind_word (w ++ r) ≡ r
unfolding behind_word
behind_front [] [] h e = refl
behind_front [] (c ∷ r) h e = at (in_word c r) e
  where
    at : (b : Bool) → not b ≡ true → past_word b (behind_word r) (c ∷ r) ≡ c ∷ r
    at true e = cc
    at false e = refl
behind_front (c ∷ w) r h e =
    let p = and_parts (in_word c w) (is_word w) h in ap (λ b. past_word b (behind_word (w ++ r)) (c ∷ (w ++ r))) (more_word c w r p.0) ∙ behind_front w r p.1 e

pub behind_sign : (p y : Text) → behind p (p ++ y) ≡ Some y
unfolding behind
behind_sign [] y = refl
behind_sign (c ∷ p) y = ap (λ b. if_same b (behind p (p ++ y))) (eq-eqb c c refl) ∙ behind_sign p y

-- a sign that begins with no byte of words stands not where a word begins
pub behind_first : (b : ℕ) (p x : Text) → is_word_byte b ≡ false → begins_word x ≡ true → behind (b ∷ p) x ≡ None
unfolding behind
behind_first b p [] h e = cc
behind_first b p (d ∷ x) h e = at (b == d) refl
  where
    unlike : false ≡ true → ⊥
    unlike e = cc

    at : (c : Bool) → (b == d) ≡ c → if_same c (behind p x) ≡ None
    at true f = absurd (unlike (sym h ∙ ap is_word_byte (eqb-true b d f) ∙ e))
    at false f = refl

pub begins_long : (x : Text) → begins_word x ≡ true → 0 < length x
begins_long [] h = cc
begins_long (c ∷ x) h = omega arith

-- what is made of the word and of what is left
pub word_case : {A : Type 0} (f : Text → Text → A) (w r : Text) → is_word w ≡ true → ends_word r ≡ true → f (word_of (w ++ r)) (behind_word (w ++ r)) ≡ f w r
word_case f w r h e = λ i. f (word_front w r h e i) (behind_front w r h e i)

-- ---- what is left is shorter

pub behind_long : (p x y : Text) → behind p x ≡ Some y → length x ≡ length p + length y
behind_long p x y h = ap length (behind_is p x y h) ∙ length-append p y

pub word_long : (x : Text) → length (behind_word x) ≤ length x
word_long x = let e = ap length (word_parts x) in omega (arith, e, length-append (word_of x) (behind_word x))

pub word_longer : (x : Text) → begins_word x ≡ true → length (behind_word x) < length x
unfolding behind_word
word_longer [] h = cc
word_longer (c ∷ x) h = at (in_word c x) (ap (λ b. b || ((c == 46) && begins_word x)) h) (word_long x)
  where
    at : (b : Bool) → b ≡ true → length (behind_word x) ≤ length x → length (past_word b (behind_word x) (c ∷ x)) < length (c ∷ x)
    at true e l = omega arith
    at false e l = cc
