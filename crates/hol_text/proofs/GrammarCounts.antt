-- A text has no more tokens before its end than bytes.
use Rattle.std.proofs.Common.{◌≡◌, ℕ, zero, suc, ◌+◌, ◌*◌, ◌-◌, ◌≤◌, Bool, true, false, cond, List, [], ◌∷◌, ◌++◌, length, length-append, refl, ap, arith}
use Rattle.std.specs.Prelude.{◌==◌}
use Rattle.std.specs.Str.{chars, chars_after, continuation_len, lead_bits}
use lib.Utf8.{encode}
use Rattle.hol_terms.specs.Name.{Name, is_keyword}
use Rattle.hol_terms.specs.Text.{Text}
use Rattle.hol_terms.specs.Tokens.{Kind, the_end, arrow, no_token, and_sign, or_sign, lambda_sign, Token, token, Class, blank, hash, quote, zero_name, letter, minus, equal, slash, backslash, other, class_of, starts, continues, Part, of_segment, of_dot, outside, part_of, State, between, comment, in_name, after_dot, after_quote, in_variable, after_minus, after_equal, after_equals, after_slash, after_backslash, begin_by, name_by, dot_by, quote_by, variable_by, pair_by, equal_by, equals_by, comment_by, step, last, tokens_in, tokens_from, tokens}
use Rattle.hol_terms.specs.Grammar.{before_end}

-- ---- characters and bytes

after_short : (n c : ℕ) (bs : Text) → length (chars_after n c bs) ≤ length bs + 1
after_short zero c [] = omega arith
after_short zero c (b ∷ bs) = omega (arith, after_short (continuation_len b) (lead_bits b) bs)
after_short (suc n) c [] = omega arith
after_short (suc n) c (b ∷ bs) = omega (arith, after_short n (c * 64 + (b - 128)) bs)

chars_short : (t : Text) → length (chars t) ≤ length t
unfolding chars
chars_short [] = omega arith
chars_short (b ∷ bs) = omega (arith, after_short (continuation_len b) (lead_bits b) bs)

-- ---- tokens and characters

-- how many tokens a state has begun, at most
abbrev begun : State → ℕ
begun between = 0
begun comment = 0
begun (after_dot q w d) = 2
begun (after_equals q r) = 2
begun s = 1

before_joined : (xs ts : List Token) → length (before_end (xs ++ ts)) ≤ length xs + length (before_end ts)
before_joined [] ts = omega arith
before_joined (token the_end w p ∷ xs) ts = omega arith
before_joined (token k w p ∷ xs) ts = omega (arith, before_joined xs ts)

last_begun : (s : State) → length (last s) ≤ begun s
last_begun between = omega arith
last_begun comment = omega arith
last_begun (in_name q w) = omega arith
last_begun (after_dot q w d) = omega arith
last_begun (after_quote q) = omega arith
last_begun (in_variable q w) = omega arith
last_begun (after_minus q) = omega arith
last_begun (after_equal q) = omega arith
last_begun (after_equals q r) = omega arith
last_begun (after_slash q) = omega arith
last_begun (after_backslash q) = omega arith

begin_one : (k : Class) (p c : ℕ) → length (begin_by k p c).0 + begun (begin_by k p c).1 ≤ 1
begin_one blank p c = omega arith
begin_one hash p c = omega arith
begin_one quote p c = omega arith
begin_one zero_name p c = omega arith
begin_one letter p c = omega arith
begin_one minus p c = omega arith
begin_one equal p c = omega arith
begin_one slash p c = omega arith
begin_one backslash p c = omega arith
begin_one other p c = omega arith

name_one : (k : Part) (q : ℕ) (w : Name) (p c : ℕ) → length (name_by k q w p c).0 + begun (name_by k q w p c).1 ≤ 2
name_one of_segment q w p c = omega arith
name_one of_dot q w p c = omega arith
name_one outside q w p c = omega (arith, begin_one (class_of c) p c)

dot_one : (b : Bool) (q : ℕ) (w : Name) (d p c : ℕ) → length (dot_by b q w d p c).0 + begun (dot_by b q w d p c).1 ≤ 3
dot_one true q w d p c = omega arith
dot_one false q w d p c = omega (arith, begin_one (class_of c) p c)

quote_one : (b : Bool) (q p c : ℕ) → length (quote_by b q p c).0 + begun (quote_by b q p c).1 ≤ 2
quote_one true q p c = omega arith
quote_one false q p c = omega (arith, begin_one (class_of c) p c)

variable_one : (b : Bool) (q : ℕ) (w : Name) (p c : ℕ) → length (variable_by b q w p c).0 + begun (variable_by b q w p c).1 ≤ 2
variable_one true q w p c = omega arith
variable_one false q w p c = omega (arith, begin_one (class_of c) p c)

pair_one : (b : Bool) (k j : Kind) (q p c : ℕ) → length (pair_by b k j q p c).0 + begun (pair_by b k j q p c).1 ≤ 2
pair_one true k j q p c = omega arith
pair_one false k j q p c = omega (arith, begin_one (class_of c) p c)

equal_one : (b : Bool) (q p c : ℕ) → length (equal_by b q p c).0 + begun (equal_by b q p c).1 ≤ 2
equal_one true q p c = omega arith
equal_one false q p c = omega (arith, begin_one (class_of c) p c)

equals_one : (b : Bool) (q r p c : ℕ) → length (equals_by b q r p c).0 + begun (equals_by b q r p c).1 ≤ 3
equals_one true q r p c = omega arith
equals_one false q r p c = omega (arith, equal_one (c == 61) r p c)

comment_one : (b : Bool) → length (comment_by b).0 + begun (comment_by b).1 ≤ 1
comment_one true = omega arith
comment_one false = omega arith

step_one : (s : State) (p c : ℕ) → length (step s p c).0 + begun (step s p c).1 ≤ begun s + 1
step_one between p c = omega (arith, begin_one (class_of c) p c)
step_one comment p c = omega (arith, comment_one (c == 10))
step_one (in_name q w) p c = omega (arith, name_one (part_of c) q w p c)
step_one (after_dot q w d) p c = omega (arith, dot_one (starts c) q w d p c)
step_one (after_quote q) p c = omega (arith, quote_one (starts c) q p c)
step_one (in_variable q w) p c = omega (arith, variable_one (continues c) q w p c)
step_one (after_minus q) p c = omega (arith, pair_one (c == 62) arrow no_token q p c)
step_one (after_equal q) p c = omega (arith, equal_one (c == 61) q p c)
step_one (after_equals q r) p c = omega (arith, equals_one (c == 62) q r p c)
step_one (after_slash q) p c = omega (arith, pair_one (c == 92) and_sign no_token q p c)
step_one (after_backslash q) p c = omega (arith, pair_one (c == 47) or_sign lambda_sign q p c)

counted : (s : State) (p : ℕ) (cs : List ℕ) → length (before_end (tokens_in s p cs)) ≤ begun s + length cs
counted s p [] = omega (arith, before_joined (last s) (token the_end [] p ∷ []), last_begun s)
counted s p (c ∷ cs) = omega (arith, before_joined (step s p c).0 (tokens_in (step s p c).1 (p + length (encode c)) cs), step_one s p c, counted (step s p c).1 (p + length (encode c)) cs)

pub tokens_short : (t : Text) → length (before_end (tokens t)) ≤ length t
unfolding tokens
tokens_short t = omega (arith, counted between 0 (chars t), chars_short t)
