-- Words and signs, a byte at a time.
use Rattle.std.proofs.Common.{◌≡◌, ◌≢◌, Bor, MatchOption, IfSome, IfNone, refl, sym, ap, ◌∙◌, ℕ, ◌+◌, ◌-◌, ◌<◌, ◌≤◌, true, false, [], ◌∷◌, ◌++◌, length, take, take_all, drop, length-drop, get_or, Option, Some, None, add-one, drop-cons, arith, length-append}
use Rattle.hol_terms.specs.Text.{Text}
use Rattle.strict_reading.specs.Words.{in_word, if_word, word_of, behind_word, behind}
use Rattle.strict_reading.proofs.Words.{word_parts, behind_is, behind_sign}

-- a sign and what is left
pub behind_at : (p x y : Text) → x ≡ p ++ y → behind p x ≡ Some y
behind_at p x y e = ap (behind p) e ∙ behind_sign p y

pub behind_no : (p x : Text) → ((y : Text) → x ≡ p ++ y → ⊥) → behind p x ≡ None
behind_no p x never = at (behind p x) refl
  where
    at : (o : Option Text) → behind p x ≡ o → behind p x ≡ None
    at None e = e
    at (Some y) e = absurd (never y (behind_is p x y e))

-- the word's front has so many bytes
pub word_further : (c : ℕ) (cs : Text) → in_word c cs ≡ true → length (word_of (c ∷ cs)) ≡ length (word_of cs) + 1
unfolding word_of
word_further c cs e = ap (λ b. length (if_word b c (word_of cs))) e ∙ omega arith

pub word_stops : (c : ℕ) (cs : Text) → in_word c cs ≡ false → length (word_of (c ∷ cs)) ≡ 0
unfolding word_of
word_stops c cs e = ap (λ b. length (if_word b c (word_of cs))) e

pub word_nil : length (word_of []) ≡ 0
unfolding word_of
word_nil = refl

pub front_further : (x : Text) (i : ℕ) → i < length x → in_word (get_or x i 0) (drop (i + 1) x) ≡ true → length (word_of (drop i x)) ≡ length (word_of (drop (i + 1) x)) + 1
front_further x i l e = ap (λ y. length (word_of y)) (drop-cons x i 0 l ∙ ap (λ k. get_or x i 0 ∷ drop k x) (sym (add-one i))) ∙ word_further (get_or x i 0) (drop (i + 1) x) e

pub front_stops : (x : Text) (i : ℕ) → i < length x → in_word (get_or x i 0) (drop (i + 1) x) ≡ false → length (word_of (drop i x)) ≡ 0
front_stops x i l e = ap (λ y. length (word_of y)) (drop-cons x i 0 l ∙ ap (λ k. get_or x i 0 ∷ drop k x) (sym (add-one i))) ∙ word_stops (get_or x i 0) (drop (i + 1) x) e

pub rest_taken : (x : Text) (k : ℕ) → take (length x - k) (drop k x) ≡ drop k x
rest_taken x k = take_all (length x - k) (drop k x) (let e = length-drop k x in omega (arith, e))

pub take_front : (a b : Text) → take (length a) (a ++ b) ≡ a
take_front [] b = refl
take_front (c ∷ a) b = ap (λ y. c ∷ y) (take_front a b)

pub drop_front : (a b : Text) → drop (length a) (a ++ b) ≡ b
drop_front [] b = refl
drop_front (c ∷ a) b = drop_front a b

pub word_taken : (x : Text) → take (length (word_of x)) x ≡ word_of x
word_taken x = ap (take (length (word_of x))) (word_parts x) ∙ take_front (word_of x) (behind_word x)

pub word_dropped : (x : Text) → drop (length (word_of x)) x ≡ behind_word x
word_dropped x = ap (drop (length (word_of x))) (word_parts x) ∙ drop_front (word_of x) (behind_word x)

pub word_within : (x : Text) → length (word_of x) ≤ length x
word_within x = let e = ap length (word_parts x) in omega (arith, e, length-append (word_of x) (behind_word x))

-- what stripping a sign gives
pub behind_some : (p x : Text) (r : Option (Bor Text)) → MatchOption r ((rest : Text) → x ≢ p ++ rest) (λ y. x ≡ p ++ y.now) → IfSome r (λ y. behind p x ≡ Some y.now)
behind_some p x None h = tt
behind_some p x (Some y) h = behind_at p x y.now h

pub behind_none : (p x : Text) (r : Option (Bor Text)) → MatchOption r ((rest : Text) → x ≢ p ++ rest) (λ y. x ≡ p ++ y.now) → IfNone r (behind p x ≡ None)
behind_none p x None h = behind_no p x h
behind_none p x (Some y) h = tt
