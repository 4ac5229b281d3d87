-- The tokens of canonical text, a piece at a time.
use Rattle.std.proofs.Common.{◌≡◌, ◌⊎◌, inl, inr, ℕ, ◌+◌, ◌<◌, Bool, true, false, not, ◌&&◌, ◌||◌, List, [], ◌∷◌, ◌++◌, length, length-append, append_assoc, Some, None, cond, refl, ap, sym, ◌∙◌, arith}
use Rattle.std.specs.Prelude.{◌==◌, nat_lt, codes, bytes_eq}
use Rattle.std.specs.List.{list_all}
use Rattle.std.specs.Str.{chars, is_utf8, IsUtf8}
use Rattle.std.proofs.lemmas.Str.{IsUtf8-from_is_utf8, chars-append, encodes-chars}
use Rattle.std.proofs.lemmas.Bool.{and_parts}
use Rattle.std.proofs.lemmas.Bool.Decides.{nat_tests}
use Rattle.std.proofs.lemmas.Slice.Eq.{bytes_eq-Decides}
use lib.Utf8.{encodes, encode}
use Rattle.unicode_ident.specs.Ident.{is_xid_start, is_xid_continue}
use Rattle.unicode_ident.proofs.IdentLemmas.{is_xid_start-ascii, is_xid_continue-ascii}
use Rattle.hol_terms.specs.Name.{Name, is_start, is_segment_of, on_step, are_segments_of, is_keyword, is_segment, is_name}
use Rattle.hol_terms.specs.Text.{Text}
use Rattle.hol_terms.specs.Tokens.{a_name, a_variable, open_paren, close_paren, open_brace, close_brace, open_bracket, close_bracket, comma, colon, dot, equals, arrow, lambda_sign, all_sign, ex_sign, not_sign, and_sign, or_sign, implies_sign, the_end, token, sign, word_kind, word, letter, class_of, starts, starts_by, continues, continues_by, part_of, of_segment, of_dot, outside, State, between, in_name, after_dot, after_quote, in_variable, tokens_in, tokens_from}

-- ---- signs

pub at_blank : (p : ℕ) (r : Text) → tokens_from p (codes " " ++ r) ≡ tokens_from (p + 1) r
unfolding chars encode
at_blank p [] = refl
at_blank p (b ∷ r) = refl

pub at_open_paren : (p : ℕ) (r : Text) → tokens_from p (codes "(" ++ r) ≡ sign open_paren p ∷ tokens_from (p + 1) r
unfolding chars encode
at_open_paren p [] = refl
at_open_paren p (b ∷ r) = refl

pub at_close_paren : (p : ℕ) (r : Text) → tokens_from p (codes ")" ++ r) ≡ sign close_paren p ∷ tokens_from (p + 1) r
unfolding chars encode
at_close_paren p [] = refl
at_close_paren p (b ∷ r) = refl

pub at_open_brace : (p : ℕ) (r : Text) → tokens_from p (codes "{" ++ r) ≡ sign open_brace p ∷ tokens_from (p + 1) r
unfolding chars encode
at_open_brace p [] = refl
at_open_brace p (b ∷ r) = refl

pub at_close_brace : (p : ℕ) (r : Text) → tokens_from p (codes "}" ++ r) ≡ sign close_brace p ∷ tokens_from (p + 1) r
unfolding chars encode
at_close_brace p [] = refl
at_close_brace p (b ∷ r) = refl

pub at_open_bracket : (p : ℕ) (r : Text) → tokens_from p (codes "[" ++ r) ≡ sign open_bracket p ∷ tokens_from (p + 1) r
unfolding chars encode
at_open_bracket p [] = refl
at_open_bracket p (b ∷ r) = refl

pub at_close_bracket : (p : ℕ) (r : Text) → tokens_from p (codes "]" ++ r) ≡ sign close_bracket p ∷ tokens_from (p + 1) r
unfolding chars encode
at_close_bracket p [] = refl
at_close_bracket p (b ∷ r) = refl

pub at_comma : (p : ℕ) (r : Text) → tokens_from p (codes "," ++ r) ≡ sign comma p ∷ tokens_from (p + 1) r
unfolding chars encode
at_comma p [] = refl
at_comma p (b ∷ r) = refl

pub at_colon : (p : ℕ) (r : Text) → tokens_from p (codes ":" ++ r) ≡ sign colon p ∷ tokens_from (p + 1) r
unfolding chars encode
at_colon p [] = refl
at_colon p (b ∷ r) = refl

pub at_dot : (p : ℕ) (r : Text) → tokens_from p (codes ". " ++ r) ≡ sign dot p ∷ tokens_from ((p + 1) + 1) r
unfolding chars encode
at_dot p [] = refl
at_dot p (b ∷ r) = refl

pub at_arrow : (p : ℕ) (r : Text) → tokens_from p (codes " -> " ++ r) ≡ sign arrow (p + 1) ∷ tokens_from ((((p + 1) + 1) + 1) + 1) r
unfolding chars encode
at_arrow p [] = refl
at_arrow p (b ∷ r) = refl

pub at_all : (p : ℕ) (r : Text) → tokens_from p (codes "!" ++ r) ≡ sign all_sign p ∷ tokens_from (p + 1) r
unfolding chars encode
at_all p [] = refl
at_all p (b ∷ r) = refl

pub at_ex : (p : ℕ) (r : Text) → tokens_from p (codes "?" ++ r) ≡ sign ex_sign p ∷ tokens_from (p + 1) r
unfolding chars encode
at_ex p [] = refl
at_ex p (b ∷ r) = refl

pub at_not : (p : ℕ) (r : Text) → tokens_from p (codes "~ " ++ r) ≡ sign not_sign p ∷ tokens_from ((p + 1) + 1) r
unfolding chars encode
at_not p [] = refl
at_not p (b ∷ r) = refl

pub at_equals : (p : ℕ) (r : Text) → tokens_from p (codes " = " ++ r) ≡ sign equals (p + 1) ∷ tokens_from (((p + 1) + 1) + 1) r
unfolding chars encode
at_equals p [] = refl
at_equals p (b ∷ r) = refl

pub at_and : (p : ℕ) (r : Text) → tokens_from p (codes " /\\ " ++ r) ≡ sign and_sign (p + 1) ∷ tokens_from ((((p + 1) + 1) + 1) + 1) r
unfolding chars encode
at_and p [] = refl
at_and p (b ∷ r) = refl

pub at_or : (p : ℕ) (r : Text) → tokens_from p (codes " \\/ " ++ r) ≡ sign or_sign (p + 1) ∷ tokens_from ((((p + 1) + 1) + 1) + 1) r
unfolding chars encode
at_or p [] = refl
at_or p (b ∷ r) = refl

pub at_implies : (p : ℕ) (r : Text) → tokens_from p (codes " ==> " ++ r) ≡ sign implies_sign (p + 1) ∷ tokens_from (((((p + 1) + 1) + 1) + 1) + 1) r
unfolding chars encode
at_implies p [] = refl
at_implies p (b ∷ r) = refl

-- `\` is a sign where no `/` follows, as before the `x` of a bound variable
pub at_lambda : (p : ℕ) (r : Text) → tokens_from p (codes "\\x" ++ r) ≡ sign lambda_sign p ∷ tokens_from (p + 1) (codes "x" ++ r)
unfolding chars encode
at_lambda p [] = refl
at_lambda p (b ∷ r) = refl

pub at_end : (p : ℕ) → tokens_from p [] ≡ sign the_end p ∷ []
unfolding chars
at_end p = refl

-- ---- characters

or_false : (b : Bool) → (b || false) ≡ b
or_false true = refl
or_false false = refl

pub starts_is : (c : ℕ) → starts c ≡ is_start c
starts_is c = at (nat_lt c 128) refl
  where
    at : (b : Bool) → nat_lt c 128 ≡ b → starts_by b c ≡ is_start c
    at true e = let h : c < 128 = grind (arith, nat_tests) in ap (λ (b : Bool). b || (c == 95)) (sym (is_xid_start-ascii c h))
    at false e = let h : (c == 95) ≡ false = grind (arith, nat_tests) in sym (ap (λ (b : Bool). is_xid_start c || b) h ∙ or_false (is_xid_start c))

pub continues_is : (c : ℕ) → continues c ≡ is_xid_continue c
continues_is c = at (nat_lt c 128) refl
  where
    at : (b : Bool) → nat_lt c 128 ≡ b → continues_by b c ≡ is_xid_continue c
    at true e = let h : c < 128 = grind (arith, nat_tests) in sym (is_xid_continue-ascii c h)
    at false e = refl

differs : (c k : ℕ) → starts c ≡ true → starts k ≡ false → (c == k) ≡ false
differs c k h g = at (c == k) refl
  where
    at : (b : Bool) → (c == k) ≡ b → b ≡ false
    at false e = refl
    at true e = let s : c ≡ k = grind (arith, nat_tests) in sym h ∙ ap starts s ∙ g

pub letter_is : (c : ℕ) → starts c ≡ true → class_of c ≡ letter
letter_is c h =
    rw (differs c 32 h refl, differs c 9 h refl, differs c 10 h refl, differs c 13 h refl, differs c 35 h refl, differs c 39 h refl, differs c 48 h refl, differs c 45 h refl, differs c 61 h refl, differs c 47 h refl, differs c 92 h refl, h) refl

-- ---- where a name ends

pub data Ends : Text → Type 0 where
  ends_text : Ends []
  ends_sign : (b : ℕ) (r : Text) → nat_lt b 128 ≡ true → part_of b ≡ outside → Ends (b ∷ r)
  ends_dot : (r : Text) → Ends (46 ∷ 32 ∷ r)

chars_ascii : (b : ℕ) (r : Text) → nat_lt b 128 ≡ true → chars (b ∷ r) ≡ b ∷ chars r
unfolding chars
chars_ascii b [] h = rw h refl
chars_ascii b (c ∷ r) h = rw h refl

end_name : (q p : ℕ) (w : Name) (r : Text) → Ends r → tokens_in (in_name q w) p (chars r) ≡ word w q ∷ tokens_from p r
unfolding chars encode
end_name q p w _ ends_text = refl
end_name q p w _ (ends_sign b r h o) = rw (chars_ascii b r h, o) refl
end_name q p w _ (ends_dot []) = refl
end_name q p w _ (ends_dot (b ∷ r)) = refl

-- ---- names and type variables

-- in a segment, or behind a dot at d
abbrev state : Bool → ℕ → ℕ → Name → State
state true d q w = in_name q w
state false d q w = after_dot q w d

-- what a name is so far
abbrev so_far : Bool → Name → Name
so_far true w = w
so_far false w = w ++ codes "."

further : (p : ℕ) (a b : List ℕ) → (p + length a) + length b ≡ p + length (a ++ b)
further p a b = omega (arith, length-append a b)

pub no_more : (w : Name) → w ++ [] ≡ w
no_more [] = refl
no_more (b ∷ w) = ap (λ v. b ∷ v) (no_more w)

is_dot : (c : ℕ) → (c == 46) ≡ true → c ≡ 46
is_dot c e = grind (arith, nat_tests)

unlike : true ≡ false → ⊥
unlike e = cc

dot_code : encode 46 ≡ codes "."
unfolding encode
dot_code = refl

segments : (w : Bool) (cs ds : List ℕ) (d q p : ℕ) (u : Name) → are_segments_of w cs ≡ true
    → tokens_in (state w d q u) p (cs ++ ds) ≡ tokens_in (in_name q (so_far w u ++ encodes cs)) (p + length (encodes cs)) ds
segments true [] ds d q p u h = λ i. tokens_in (in_name q (sym (no_more u) i)) (let e : p ≡ p + 0 = omega arith in e i) ds
segments false [] ds d q p u h = absurd (unlike (sym h))
segments true (c ∷ cs) ds d q p u h = at (λ w m k v. segments w cs ds m q k v) (c == 46) (is_xid_continue c) refl (continues_is c) h
  where
    at : ((w : Bool) (m k : ℕ) (v : Name) → are_segments_of w cs ≡ true → tokens_in (state w m q v) k (cs ++ ds) ≡ tokens_in (in_name q (so_far w v ++ encodes cs)) (k + length (encodes cs)) ds) → (b z : Bool) → (c == 46) ≡ b → continues c ≡ z → on_step (cond b (Some false) (cond z (Some true) None)) (λ next. are_segments_of next cs) ≡ true
        → tokens_in (in_name q u) p (c ∷ cs ++ ds) ≡ tokens_in (in_name q (u ++ (encode c ++ encodes cs))) (p + length (encode c ++ encodes cs)) ds
    at more true z e f g =
        let x : (u ++ codes ".") ++ encodes cs ≡ u ++ (encode c ++ encodes cs) = append_assoc u (codes ".") (encodes cs) ∙ ap (λ v. u ++ (v ++ encodes cs)) (sym (ap encode (is_dot c e) ∙ dot_code)) in
        rw e (more false p (p + length (encode c)) u g ∙ (λ i. tokens_in (in_name q (x i)) (further p (encode c) (encodes cs) i) ds))
    at more false true e f g =
        let x : (u ++ encode c) ++ encodes cs ≡ u ++ (encode c ++ encodes cs) = append_assoc u (encode c) (encodes cs) in
        rw (e, f) (more true p (p + length (encode c)) (u ++ encode c) g ∙ (λ i. tokens_in (in_name q (x i)) (further p (encode c) (encodes cs) i) ds))
    at more false false e f g = absurd (unlike (sym g))
segments false (c ∷ cs) ds d q p u h = at (λ w m k v. segments w cs ds m q k v) (is_start c) (starts_is c) h
  where
    at : ((w : Bool) (m k : ℕ) (v : Name) → are_segments_of w cs ≡ true → tokens_in (state w m q v) k (cs ++ ds) ≡ tokens_in (in_name q (so_far w v ++ encodes cs)) (k + length (encodes cs)) ds) → (b : Bool) → starts c ≡ b → on_step (cond b (Some true) None) (λ next. are_segments_of next cs) ≡ true
        → tokens_in (after_dot q u d) p (c ∷ cs ++ ds) ≡ tokens_in (in_name q ((u ++ codes ".") ++ (encode c ++ encodes cs))) (p + length (encode c ++ encodes cs)) ds
    at more true f g =
        let x : ((u ++ codes ".") ++ encode c) ++ encodes cs ≡ (u ++ codes ".") ++ (encode c ++ encodes cs) = append_assoc (u ++ codes ".") (encode c) (encodes cs) in
        rw f (more true p (p + length (encode c)) ((u ++ codes ".") ++ encode c) g ∙ (λ i. tokens_in (in_name q (x i)) (further p (encode c) (encodes cs) i) ds))
    at more false f g = absurd (unlike (sym g))

-- a name, whose first segment begins here
name_from : (cs ds : List ℕ) (p : ℕ) → are_segments_of false cs ≡ true → tokens_in between p (cs ++ ds) ≡ tokens_in (in_name p (encodes cs)) (p + length (encodes cs)) ds
name_from [] ds p h = absurd (unlike (sym h))
name_from (c ∷ cs) ds p h = at (is_start c) (starts_is c) h
  where
    at : (b : Bool) → starts c ≡ b → on_step (cond b (Some true) None) (λ next. are_segments_of next cs) ≡ true
        → tokens_in between p (c ∷ cs ++ ds) ≡ tokens_in (in_name p (encode c ++ encodes cs)) (p + length (encode c ++ encodes cs)) ds
    at true f g = rw (letter_is c f) (segments true cs ds p p (p + length (encode c)) (encode c) g ∙ ap (λ k. tokens_in (in_name p (encode c ++ encodes cs)) k ds) (further p (encode c) (encodes cs)))
    at false f g = absurd (unlike (sym g))

pub either : (a b : Bool) → (a || b) ≡ true → (a ≡ true) ⊎ (b ≡ true)
either true b h = inl refl
either false b h = inr h

not_true : (b : Bool) → not b ≡ true → b ≡ false
not_true true h = absurd (unlike (sym h))
not_true false h = refl

at_zero : (p : ℕ) (r : Text) → tokens_from p (codes "0" ++ r) ≡ token a_name (codes "0") p ∷ tokens_from (p + 1) r
unfolding chars encode
at_zero p [] = refl
at_zero p (b ∷ r) = refl

pub at_name : (p : ℕ) (n : Name) (r : Text) → is_name n ≡ true → Ends r → tokens_from p (n ++ r) ≡ token a_name n p ∷ tokens_from (p + length n) r
unfolding is_name
at_name p n r h e =
    let a = and_parts (is_utf8 n && (are_segments_of false (chars n) || bytes_eq n (codes "0"))) (not (is_keyword n)) h in
    let b = and_parts (is_utf8 n) (are_segments_of false (chars n) || bytes_eq n (codes "0")) a.0 in
    let u : IsUtf8 n = IsUtf8-from_is_utf8 n b.0 in
    elim (either _ _ b.1) [ inl s ↦ word_from p n r u s (not_true _ a.1) e | inr z ↦ zero_from p n r z ]
  where
    word_from : (p : ℕ) (n : Name) (r : Text) → IsUtf8 n → are_segments_of false (chars n) ≡ true → is_keyword n ≡ false → Ends r → tokens_from p (n ++ r) ≡ token a_name n p ∷ tokens_from (p + length n) r
    word_from p n r u s k e =
        ap (tokens_in between p) (chars-append n r u) ∙ name_from (chars n) (chars r) p s ∙ (λ i. tokens_in (in_name p (encodes-chars n u i)) (p + length (encodes-chars n u i)) (chars r))
        ∙ end_name p (p + length n) n r e ∙ ap (λ b. token (word_kind b) n p ∷ tokens_from (p + length n) r) k

    zero_from : (p : ℕ) (n : Name) (r : Text) → bytes_eq n (codes "0") ≡ true → tokens_from p (n ++ r) ≡ token a_name n p ∷ tokens_from (p + length n) r
    zero_from p n r z = let x : n ≡ codes "0" = (bytes_eq-Decides n (codes "0")).0 z in rw x (at_zero p r)

-- a type variable
variable : (cs ds : List ℕ) (q p : ℕ) (u : Name) → list_all is_xid_continue cs ≡ true → tokens_in (in_variable q u) p (cs ++ ds) ≡ tokens_in (in_variable q (u ++ encodes cs)) (p + length (encodes cs)) ds
variable [] ds q p u h = λ i. tokens_in (in_variable q (sym (no_more u) i)) (let e : p ≡ p + 0 = omega arith in e i) ds
variable (c ∷ cs) ds q p u h =
    let a = and_parts (is_xid_continue c) (list_all is_xid_continue cs) h in
    let f : continues c ≡ true = continues_is c ∙ a.0 in
    let x : (u ++ encode c) ++ encodes cs ≡ u ++ (encode c ++ encodes cs) = append_assoc u (encode c) (encodes cs) in
    rw f (variable cs ds q (p + length (encode c)) (u ++ encode c) a.1 ∙ (λ i. tokens_in (in_variable q (x i)) (further p (encode c) (encodes cs) i) ds))

outside_stops : (b : ℕ) → part_of b ≡ outside → continues b ≡ false
outside_stops b h = at (b == 46) (continues b) h
  where
    at : (x d : Bool) → cond x of_dot (cond d of_segment outside) ≡ outside → d ≡ false
    at x false e = refl
    at true true e = cc
    at false true e = cc

end_variable : (q p : ℕ) (w : Name) (r : Text) → Ends r → tokens_in (in_variable q w) p (chars r) ≡ token a_variable w q ∷ tokens_from p r
unfolding chars encode
end_variable q p w _ ends_text = refl
end_variable q p w _ (ends_sign b r h o) = rw (chars_ascii b r h, outside_stops b o) refl
end_variable q p w _ (ends_dot []) = refl
end_variable q p w _ (ends_dot (b ∷ r)) = refl

variable_from : (cs ds : List ℕ) (q p : ℕ) → is_segment_of cs ≡ true → tokens_in (after_quote q) p (cs ++ ds) ≡ tokens_in (in_variable q (encodes cs)) (p + length (encodes cs)) ds
variable_from [] ds q p h = absurd (unlike (sym h))
variable_from (c ∷ cs) ds q p h =
    let a = and_parts (is_start c) (list_all is_xid_continue cs) h in
    let f : starts c ≡ true = starts_is c ∙ a.0 in
    rw f (variable cs ds q (p + length (encode c)) (encode c) a.1 ∙ ap (λ k. tokens_in (in_variable q (encode c ++ encodes cs)) k ds) (further p (encode c) (encodes cs)))

at_quote : (p : ℕ) (r : Text) → tokens_from p (codes "'" ++ r) ≡ tokens_in (after_quote p) (p + 1) (chars r)
unfolding chars encode
at_quote p [] = refl
at_quote p (b ∷ r) = refl

pub at_variable : (p : ℕ) (n : Name) (r : Text) → is_segment n ≡ true → Ends r → tokens_from p (codes "'" ++ (n ++ r)) ≡ token a_variable n p ∷ tokens_from ((p + 1) + length n) r
unfolding is_segment
at_variable p n r h e =
    let a = and_parts (is_utf8 n) (is_segment_of (chars n)) h in
    let u : IsUtf8 n = IsUtf8-from_is_utf8 n a.0 in
    at_quote p (n ++ r) ∙ ap (tokens_in (after_quote p) (p + 1)) (chars-append n r u) ∙ variable_from (chars n) (chars r) p (p + 1) a.1
    ∙ (λ i. tokens_in (in_variable p (encodes-chars n u i)) ((p + 1) + length (encodes-chars n u i)) (chars r)) ∙ end_variable p ((p + 1) + length n) n r e

pub done : at_end ≡ at_end
done = refl
