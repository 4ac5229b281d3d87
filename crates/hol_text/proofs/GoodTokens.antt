-- The names and type variables among the tokens of a text are names and segments.
use Rattle.std.proofs.Common.{◌≡◌, refl, sym, ap, ◌∙◌, subst, ℕ, ◌==◌, Bool, true, false, not, ◌||◌, cond, List, [], ◌∷◌, ◌++◌, Option, Some, None, arith}
use Rattle.std.specs.Prelude.{codes}
use Rattle.std.specs.Char.{encode_utf8}
use Rattle.std.specs.List.{list_all}
use Rattle.std.specs.Str.{chars, IsUtf8}
use Rattle.std.proofs.lemmas.Str.{chars-encodes, chars-append, IsUtf8-append, is_utf8-from_IsUtf8, scalars-chars, IsUtf8-from_ascii, chars-IsAscii}
use Rattle.std.proofs.lemmas.Str.Ascii.{IsAscii-nil, IsAscii-cons}
use Rattle.std.proofs.lemmas.Bool.{and_parts, and_from, or_left}
use Rattle.std.proofs.lemmas.List.{append-nil}
use lib.Utf8.{scalar, scalars, encodes}
use Rattle.unicode_ident.specs.Ident.{is_xid_continue}
use Rattle.hol_terms.specs.Name.{Name, is_start, is_segment_of, segment_step, on_step, are_segments_of, is_keyword, is_segment, is_name}
use Rattle.hol_terms.specs.Tokens.{Kind, a_name, a_variable, open_paren, close_paren, open_brace, close_brace, open_bracket, close_bracket, comma, colon, semicolon, dot, bar, equals, arrow, lambda_sign, all_sign, ex_sign, not_sign, and_sign, or_sign, the_end, no_token, Token, token, sign, word_kind, word, Class, blank, hash, quote, zero_name, letter, minus, equal, slash, backslash, other, starts, continues, class_of, symbol_of, Part, of_segment, of_dot, outside, part_of, State, between, comment, in_name, after_dot, after_quote, in_variable, after_minus, after_equal, after_equals, after_slash, after_backslash, Step, behind, begin_by, begin, name_by, dot_by, quote_by, variable_by, pair_by, equal_by, equals_by, comment_by, step, last, tokens_in, tokens}
use Rattle.hol_terms.proofs.AsciiNames.{is_name_from_ascii}
use Rattle.hol_text.proofs.Characters.{starts-is, continues-is}

abbrev pub IsGood : Token → Type 0
IsGood (token a_name w p) = is_name w ≡ true
IsGood (token a_variable w p) = is_segment w ≡ true
IsGood (token k w p) = Unit {0}

abbrev pub AreGood : List Token → Type 0
AreGood [] = Unit {0}
AreGood (t ∷ ts) = IsGood t × AreGood ts

good-append : (ts us : List Token) → AreGood ts → AreGood us → AreGood (ts ++ us)
good-append [] us h g = g
good-append (t ∷ ts) us h g = (h.0, good-append ts us h.1 g)

-- ---- texts that are segments

-- segments joined by dots, and one segment
pub record AreSegments (w : Name) : Type 0 where
  pub utf8 : IsUtf8 w
  pub joined : are_segments_of false (chars w) ≡ true

pub record IsSegment (w : Name) : Type 0 where
  pub utf8 : IsUtf8 w
  pub one : is_segment_of (chars w) ≡ true

one_char : (c : ℕ) → scalar c ≡ true → IsUtf8 (encode_utf8 c) × (chars (encode_utf8 c) ≡ c ∷ [])
one_char c s =
    let all : scalars (c ∷ []) ≡ true = and_from (scalar c) true s refl in
    let same : encodes (c ∷ []) ≡ encode_utf8 c = append-nil (encode_utf8 c) in
    ((c ∷ [], (all, same)), ap chars (sym same) ∙ chars-encodes (c ∷ []) all)

joined-more : (w : Bool) (cs end : List ℕ) → are_segments_of true end ≡ true → are_segments_of w cs ≡ true → are_segments_of w (cs ++ end) ≡ true
joined-more w [] end e h = subst (λ (v : Bool). are_segments_of v end ≡ true) (sym h) e
joined-more w (c ∷ cs) end e h = at (segment_step w c) (λ next. joined-more next cs end e) h
  where
    at : (o : Option Bool) → ((next : Bool) → are_segments_of next cs ≡ true → are_segments_of next (cs ++ end) ≡ true) → on_step o (λ next. are_segments_of next cs) ≡ true → on_step o (λ next. are_segments_of next (cs ++ end)) ≡ true
    at None f g = g
    at (Some next) f g = f next g

begins : (c : ℕ) → starts c ≡ true → are_segments_of false (c ∷ []) ≡ true
begins c h = ap (λ (b : Bool). on_step (cond b (Some true) None) (λ next. are_segments_of next [])) (sym (starts-is c) ∙ h)

goes_on : (c : ℕ) → (c == 46) ≡ false → continues c ≡ true → are_segments_of true (c ∷ []) ≡ true
goes_on c d h =
    ap (λ (b : Bool). on_step (cond b (Some false) (cond (is_xid_continue c) (Some true) None)) (λ next. are_segments_of next [])) d
    ∙ ap (λ (b : Bool). on_step (cond b (Some true) None) (λ next. are_segments_of next [])) (sym (continues-is c) ∙ h)

-- a first character, one more, and a dot with one more
pub first-segments : (c : ℕ) → scalar c ≡ true → starts c ≡ true → AreSegments (encode_utf8 c)
first-segments c s h = let o = one_char c s in record { utf8 = o.0; joined = ap (are_segments_of false) o.1 ∙ begins c h }

pub more-segments : (w : Name) (c : ℕ) → scalar c ≡ true → (c == 46) ≡ false → continues c ≡ true → AreSegments w → AreSegments (w ++ encode_utf8 c)
more-segments w c s d h g =
    let o = one_char c s in
    record {
      utf8 = IsUtf8-append w (encode_utf8 c) g.utf8 o.0;
      joined = ap (are_segments_of false) (chars-append w (encode_utf8 c) g.utf8 ∙ ap (λ (x : List ℕ). chars w ++ x) o.1) ∙ joined-more false (chars w) (c ∷ []) (goes_on c d h) g.joined;
    }

point-utf8 : IsUtf8 (codes ".")
point-utf8 = IsUtf8-from_ascii (codes ".") (IsAscii-cons 46 [] (omega arith) IsAscii-nil)

point-chars : chars (codes ".") ≡ 46 ∷ []
point-chars = chars-IsAscii (codes ".") (IsAscii-cons 46 [] (omega arith) IsAscii-nil)

pub dotted-segments : (w : Name) (c : ℕ) → scalar c ≡ true → starts c ≡ true → AreSegments w → AreSegments ((w ++ codes ".") ++ encode_utf8 c)
dotted-segments w c s h g =
    let o = one_char c s in
    let u = IsUtf8-append w (codes ".") g.utf8 point-utf8 in
    let e : chars ((w ++ codes ".") ++ encode_utf8 c) ≡ (chars w ++ 46 ∷ []) ++ c ∷ [] =
    chars-append (w ++ codes ".") (encode_utf8 c) u ∙ ap (λ (x : List ℕ). chars (w ++ codes ".") ++ x) o.1
    ∙ ap (λ (x : List ℕ). x ++ c ∷ []) (chars-append w (codes ".") g.utf8 ∙ ap (λ (x : List ℕ). chars w ++ x) point-chars) in
    record {
      utf8 = IsUtf8-append (w ++ codes ".") (encode_utf8 c) u o.0;
      joined = ap (are_segments_of false) (e ∙ regroup (chars w) c) ∙ joined-more false (chars w) (46 ∷ c ∷ []) (begins c h) g.joined;
    }
  where
    regroup : (cs : List ℕ) (c : ℕ) → (cs ++ 46 ∷ []) ++ c ∷ [] ≡ cs ++ 46 ∷ c ∷ []
    regroup [] c = refl
    regroup (d ∷ cs) c = ap (λ (x : List ℕ). d ∷ x) (regroup cs c)

pub first-segment : (c : ℕ) → scalar c ≡ true → starts c ≡ true → IsSegment (encode_utf8 c)
first-segment c s h = let o = one_char c s in record { utf8 = o.0; one = ap is_segment_of o.1 ∙ and_from (is_start c) true (sym (starts-is c) ∙ h) refl }

segment-more : (cs : List ℕ) (c : ℕ) → is_xid_continue c ≡ true → is_segment_of cs ≡ true → is_segment_of (cs ++ c ∷ []) ≡ true
segment-more [] c h g = cc
segment-more (d ∷ cs) c h g = let p = and_parts (is_start d) (list_all is_xid_continue cs) g in and_from (is_start d) _ p.0 (all cs p.1)
  where
    all : (xs : List ℕ) → list_all is_xid_continue xs ≡ true → list_all is_xid_continue (xs ++ c ∷ []) ≡ true
    all [] e = and_from (is_xid_continue c) true h refl
    all (x ∷ xs) e = let q = and_parts (is_xid_continue x) (list_all is_xid_continue xs) e in and_from (is_xid_continue x) _ q.0 (all xs q.1)

pub more-segment : (w : Name) (c : ℕ) → scalar c ≡ true → continues c ≡ true → IsSegment w → IsSegment (w ++ encode_utf8 c)
more-segment w c s h g =
    let o = one_char c s in
    record {
      utf8 = IsUtf8-append w (encode_utf8 c) g.utf8 o.0;
      one = ap is_segment_of (chars-append w (encode_utf8 c) g.utf8 ∙ ap (λ (x : List ℕ). chars w ++ x) o.1) ∙ segment-more (chars w) c (sym (continues-is c) ∙ h) g.one;
    }

-- ---- tokens

word-good : (w : Name) (q : ℕ) → AreSegments w → IsGood (word w q)
unfolding is_name
word-good w q h = at (is_keyword w) refl
  where
    at : (b : Bool) → is_keyword w ≡ b → IsGood (token (word_kind b) w q)
    at true e = tt
    at false e = and_from _ _ (and_from _ _ (is_utf8-from_IsUtf8 w h.utf8) (or_left _ _ h.joined)) (ap not e)

variable-good : (w : Name) → IsSegment w → is_segment w ≡ true
unfolding is_segment
variable-good w h = and_from _ _ (is_utf8-from_IsUtf8 w h.utf8) h.one

zero-good : is_name (codes "0") ≡ true
zero-good = is_name_from_ascii (codes "0") refl

-- ---- the text, character by character

abbrev IsGoodState : State → Type 0
IsGoodState (in_name q w) = AreSegments w
IsGoodState (after_dot q w d) = AreSegments w
IsGoodState (in_variable q w) = IsSegment w
IsGoodState s = Unit {0}

abbrev IsGoodStep : Step → Type 0
IsGoodStep s = AreGood s.0 × IsGoodState s.1

good-if : (p : ℕ) (b : Bool) (k j : Kind) → IsGood (sign k p) → IsGood (sign j p) → IsGood (sign (cond b k j) p)
good-if p true k j h g = h
good-if p false k j h g = g

symbol-good : (c p : ℕ) → IsGood (sign (symbol_of c) p)
symbol-good c p =
    good-if p (c == 40) open_paren _ tt (good-if p (c == 41) close_paren _ tt (good-if p (c == 123) open_brace _ tt (good-if p (c == 125) close_brace _ tt
    (good-if p (c == 91) open_bracket _ tt (good-if p (c == 93) close_bracket _ tt (good-if p (c == 44) comma _ tt (good-if p (c == 58) colon _ tt
    (good-if p (c == 59) semicolon _ tt (good-if p (c == 46) dot _ tt (good-if p (c == 124) bar _ tt (good-if p (c == 33) all_sign _ tt
    (good-if p (c == 63) ex_sign _ tt (good-if p (c == 126) not_sign no_token tt tt)))))))))))))

letter-is : (a b d e f g h i j : Bool) →
    cond a blank (cond b hash (cond d quote (cond e zero_name (cond f minus (cond g equal (cond h slash (cond i backslash (cond j letter other)))))))) ≡ letter → j ≡ true
letter-is true b d e f g h i j q = cc
letter-is false true d e f g h i j q = cc
letter-is false false true e f g h i j q = cc
letter-is false false false true f g h i j q = cc
letter-is false false false false true g h i j q = cc
letter-is false false false false false true h i j q = cc
letter-is false false false false false false true i j q = cc
letter-is false false false false false false false true j q = cc
letter-is false false false false false false false false true q = refl
letter-is false false false false false false false false false q = cc

starts-letter : (c : ℕ) → class_of c ≡ letter → starts c ≡ true
starts-letter c h =
    letter-is ((c == 32) || (c == 9) || (c == 10) || (c == 13)) (c == 35) (c == 39) (c == 48) (c == 45) (c == 61) (c == 47) (c == 92) (starts c) h

begin-good : (p c : ℕ) → scalar c ≡ true → IsGoodStep (begin p c)
begin-good p c s = at (class_of c) refl
  where
    at : (k : Class) → class_of c ≡ k → IsGoodStep (begin_by k p c)
    at blank e = (tt, tt)
    at hash e = (tt, tt)
    at quote e = (tt, tt)
    at zero_name e = ((zero-good, tt), tt)
    at letter e = (tt, first-segments c s (starts-letter c e))
    at minus e = (tt, tt)
    at equal e = (tt, tt)
    at slash e = (tt, tt)
    at backslash e = (tt, tt)
    at other e = ((symbol-good c p, tt), tt)

behind-good : (t : Token) (s : Step) → IsGood t → IsGoodStep s → IsGoodStep (behind t s)
behind-good t s h g = ((h, g.0), g.1)

segment-is : (d k : Bool) → cond d of_dot (cond k of_segment outside) ≡ of_segment → (d ≡ false) × (k ≡ true)
segment-is true k e = cc
segment-is false true e = (refl, refl)
segment-is false false e = cc

name-good : (q : ℕ) (w : Name) (p c : ℕ) → scalar c ≡ true → AreSegments w → IsGoodStep (name_by (part_of c) q w p c)
name-good q w p c s h = at (part_of c) refl
  where
    at : (k : Part) → part_of c ≡ k → IsGoodStep (name_by k q w p c)
    at of_segment e = let i = segment-is (c == 46) (continues c) e in (tt, more-segments w c s i.0 i.1 h)
    at of_dot e = (tt, h)
    at outside e = behind-good (word w q) (begin p c) (word-good w q h) (begin-good p c s)

dot-good : (q : ℕ) (w : Name) (d p c : ℕ) → scalar c ≡ true → AreSegments w → IsGoodStep (dot_by (starts c) q w d p c)
dot-good q w d p c s h = at (starts c) refl
  where
    at : (b : Bool) → starts c ≡ b → IsGoodStep (dot_by b q w d p c)
    at true e = (tt, dotted-segments w c s e h)
    at false e = behind-good (word w q) (behind (sign dot d) (begin p c)) (word-good w q h) (behind-good (sign dot d) (begin p c) tt (begin-good p c s))

quote-good : (q p c : ℕ) → scalar c ≡ true → IsGoodStep (quote_by (starts c) q p c)
quote-good q p c s = at (starts c) refl
  where
    at : (b : Bool) → starts c ≡ b → IsGoodStep (quote_by b q p c)
    at true e = (tt, first-segment c s e)
    at false e = behind-good (sign no_token q) (begin p c) tt (begin-good p c s)

variable_by-good : (q : ℕ) (w : Name) (p c : ℕ) → scalar c ≡ true → IsSegment w → IsGoodStep (variable_by (continues c) q w p c)
variable_by-good q w p c s h = at (continues c) refl
  where
    at : (b : Bool) → continues c ≡ b → IsGoodStep (variable_by b q w p c)
    at true e = (tt, more-segment w c s e h)
    at false e = behind-good (token a_variable w q) (begin p c) (variable-good w h) (begin-good p c s)

equal-good : (b : Bool) (q p c : ℕ) → scalar c ≡ true → IsGoodStep (equal_by b q p c)
equal-good true q p c s = (tt, tt)
equal-good false q p c s = behind-good (sign equals q) (begin p c) tt (begin-good p c s)

equals-good : (b : Bool) (q r p c : ℕ) → scalar c ≡ true → IsGoodStep (equals_by b q r p c)
equals-good true q r p c s = ((tt, tt), tt)
equals-good false q r p c s = behind-good (sign equals q) (equal_by (c == 61) r p c) tt (equal-good (c == 61) r p c s)

pair-good : (b : Bool) (k j : Kind) (q p c : ℕ) → IsGood (sign k q) → IsGood (sign j q) → scalar c ≡ true → IsGoodStep (pair_by b k j q p c)
pair-good true k j q p c h g s = ((h, tt), tt)
pair-good false k j q p c h g s = behind-good (sign j q) (begin p c) g (begin-good p c s)

comment-good : (b : Bool) → IsGoodStep (comment_by b)
comment-good true = (tt, tt)
comment-good false = (tt, tt)

step-good : (s : State) (p c : ℕ) → scalar c ≡ true → IsGoodState s → IsGoodStep (step s p c)
step-good between p c s h = begin-good p c s
step-good comment p c s h = comment-good (c == 10)
step-good (in_name q w) p c s h = name-good q w p c s h
step-good (after_dot q w d) p c s h = dot-good q w d p c s h
step-good (after_quote q) p c s h = quote-good q p c s
step-good (in_variable q w) p c s h = variable_by-good q w p c s h
step-good (after_minus q) p c s h = pair-good (c == 62) arrow no_token q p c tt tt s
step-good (after_equal q) p c s h = equal-good (c == 61) q p c s
step-good (after_equals q r) p c s h = equals-good (c == 62) q r p c s
step-good (after_slash q) p c s h = pair-good (c == 92) and_sign no_token q p c tt tt s
step-good (after_backslash q) p c s h = pair-good (c == 47) or_sign lambda_sign q p c tt tt s

last-good : (s : State) → IsGoodState s → AreGood (last s)
last-good between h = tt
last-good comment h = tt
last-good (in_name q w) h = (word-good w q h, tt)
last-good (after_dot q w d) h = (word-good w q h, (tt, tt))
last-good (after_quote q) h = (tt, tt)
last-good (in_variable q w) h = (variable-good w h, tt)
last-good (after_minus q) h = (tt, tt)
last-good (after_equal q) h = (tt, tt)
last-good (after_equals q r) h = (tt, (tt, tt))
last-good (after_slash q) h = (tt, tt)
last-good (after_backslash q) h = (tt, tt)

tokens_in-good : (cs : List ℕ) (s : State) (p : ℕ) → scalars cs ≡ true → IsGoodState s → AreGood (tokens_in s p cs)
tokens_in-good [] s p e h = good-append (last s) (sign the_end p ∷ []) (last-good s h) (tt, tt)
tokens_in-good (c ∷ cs) s p e h =
    let q = and_parts (scalar c) (scalars cs) e in
    let g = step-good s p c q.0 h in
    good-append (step s p c).0 _ g.0 (tokens_in-good cs (step s p c).1 _ q.1 g.1)

-- the names and type variables among the tokens of a text
pub tokens-good : (t : List ℕ) → IsUtf8 t → AreGood (tokens t)
unfolding tokens
tokens-good t u = tokens_in-good (chars t) between 0 (scalars-chars t u) tt

pub ruleset good_lemmas = (tokens-good)
