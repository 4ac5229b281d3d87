-- A text is refused as a type at its first wrong token.
use Rattle.std.proofs.Common.{◌≡◌, ℕ, ◌+◌, ◌≤◌, Bool, true, false, ◌||◌, List, [], ◌∷◌, ◌++◌, length, length-append, append-nil, refl, ap, sym, ◌∙◌, subst, arith}
use Rattle.hol_terms.specs.Ty.{Ty}
use Rattle.hol_terms.specs.Signature.{Signature}
use Rattle.hol_terms.specs.Text.{Text}
use Rattle.std.proofs.lemmas.Bool.{or_right}
use Rattle.std.specs.Char.{encode_utf8}
use Rattle.std.specs.Str.{chars}
use Rattle.hol_terms.specs.Tokens.{the_end, Token, token, sign, State, between, step, last, tokens_in, tokens, head_kind, head_place}
use Rattle.hol_terms.specs.Meaning.{Meaning, means, fault, unknown_at, ill_at}
use Rattle.hol_terms.specs.Reading.{Front, got, stop, type_at, Reading, no_syntax, reading_of, ended, whole, reading_of_type}
use Rattle.hol_terms.specs.Grammar.{kind, IsType}
use Rattle.text_laws.specs.Refusals.{FirstWrong}
use Rattle.hol_text.proofs.GrammarCounts.{tokens_short}
use Rattle.hol_text.proofs.GrammarTypes.{type_form, unlike, got_rest}
use Rattle.text_laws.proofs.TypeEnds.{Unended, is_end, type_unended, type_munch, ends_type, size}
use Rattle.text_laws.proofs.TypesRead.{type_read}
use Rattle.text_laws.proofs.TypeStops.{TypeAlways, type_stop}

-- ---- a text has its end among its tokens

abbrev pub has_end : List Token → Bool
has_end [] = false
has_end (x ∷ ts) = is_end (kind x) || has_end ts

end_behind : (a b : List Token) → has_end b ≡ true → has_end (a ++ b) ≡ true
end_behind [] b h = h
end_behind (x ∷ a) b h = or_right (is_end (kind x)) (has_end (a ++ b)) (end_behind a b h)

text_ends : (s : State) (p : ℕ) (cs : List ℕ) → has_end (tokens_in s p cs) ≡ true
text_ends s p [] = end_behind (last s) (sign the_end p ∷ []) refl
text_ends s p (c ∷ cs) = end_behind (step s p c).0 (tokens_in (step s p c).1 (p + length (encode_utf8 c)) cs) (text_ends (step s p c).1 (p + length (encode_utf8 c)) cs)

pub tokens_end : (t : Text) → has_end (tokens t) ≡ true
unfolding tokens
tokens_end t = text_ends between 0 (chars t)

pub end_past : (a b : List Token) → Unended a → has_end (a ++ b) ≡ true → has_end b ≡ true
end_past [] b u h = h
end_past (x ∷ a) b u h = end_past a b u.1 (subst (λ (e : Bool). (e || has_end (a ++ b)) ≡ true) u.0 h)

pub prefix_unended : (a b : List Token) → Unended (a ++ b) → Unended a
prefix_unended [] b h = tt
prefix_unended (x ∷ a) b h = (h.0, prefix_unended a b h.1)

-- ---- the first wrong token

abbrev pub refused_at : (A : Type 0) → ℕ → Reading A
refused_at A p = no_syntax p

pub same_place : {A : Type 0} (q p : ℕ) → refused_at A q ≡ refused_at A p → q ≡ p
same_place q p e = cc

is_syntax : {A : Type 0} → Reading A → Bool
is_syntax (no_syntax p) = true
is_syntax r = false

differ : false ≡ true → ⊥
differ e = cc

pub no_fault : {A : Type 0} (m : Meaning A) (p : ℕ) → reading_of m ≡ no_syntax p → ⊥
unfolding is_syntax
no_fault (means x) p e = differ (ap is_syntax e)
no_fault (fault (unknown_at n q)) p e = differ (ap is_syntax e)
no_fault (fault (ill_at q)) p e = differ (ap is_syntax e)

-- nothing of the form begins so
begins_none : (s : Signature) (front : List Token) (x : Token) (rest : List Token) (p : ℕ) → TypeAlways s p front (x ∷ rest) → (more : List Token) → IsType (front ++ x ∷ more) → ⊥
begins_none s front (token k w q) rest p al more h =
    let x = token k w q in
    let n = length (front ++ x ∷ more) + 1 in
    let r = type_read s (front ++ x ∷ more) h n [] (omega arith) refl in
    let e = al n (omega (arith, length-append front (x ∷ more))) (x ∷ more) (record { kinds = refl; texts = refl; places = refl }) in
    unlike p r.value [] (sym e ∙ ap (type_at s n) (sym (append-nil (front ++ x ∷ more))) ∙ r.is)

stopped : (s : Signature) (ts front rest : List Token) (p : ℕ) → ts ≡ front ++ rest → has_end rest ≡ true → head_place rest ≡ p → (more : List Token) → IsType (front ++ more) → TypeAlways s p front rest → FirstWrong IsType ts p
stopped s ts front [] p i u e more h al = cc
stopped s ts front (token k w q ∷ rest) p i u e more h al =
    record { front = front; wrong = token k w q; rest = rest; is = i; place = e; begins = (more, h); begins_none = begins_none s front (token k w q) rest p al }

-- a type goes on with no such token
goes_on_none : (s : Signature) (front : List Token) (x : Token) → IsType front → ends_type (kind x) ≡ true → (more : List Token) → IsType (front ++ x ∷ more) → ⊥
goes_on_none s front (token k w q) f g more h =
    let x = token k w q in
    let n = length (front ++ x ∷ more) + 1 in
    let r = type_read s (front ++ x ∷ more) h n [] (omega arith) refl in
    let a = type_read s front f n (x ∷ more) (omega (arith, length-append front (x ∷ more))) g in
    longer (got_rest a.value r.value (x ∷ more) [] (sym a.is ∙ ap (type_at s n) (sym (append-nil (front ++ x ∷ more))) ∙ r.is))
  where
    longer : {y : Token} {ys : List Token} → y ∷ ys ≡ [] → ⊥
    longer e = cc

unended : (s : Signature) (ts front rest : List Token) (p : ℕ) (m : Meaning Ty) → ts ≡ front ++ rest → IsType front → ends_type (head_kind rest) ≡ true → ended (head_kind rest) m rest ≡ no_syntax p → FirstWrong IsType ts p
unended s ts front [] p m i f g e = absurd (no_fault m p e)
unended s ts front (token the_end w q ∷ rest) p m i f g e = absurd (no_fault m p e)
unended s ts front (token k w q ∷ rest) p m i f g e =
    record { front = front; wrong = token k w q; rest = rest; is = i; place = same_place q p e; begins = ([], subst IsType (sym (append-nil front)) f); begins_none = goes_on_none s front (token k w q) f g }

first_wrong : (s : Signature) (n : ℕ) (ts : List Token) (p : ℕ) → size ts ≤ n → has_end ts ≡ true → (x : Front (Meaning Ty)) → type_at s n ts ≡ x → whole x ≡ no_syntax p → FirstWrong IsType ts p
first_wrong s n ts p l u (stop q) i e =
    let w = type_stop s n ts p l (i ∙ ap stop (same_place q p e)) in
    stopped s ts w.front w.rest p w.is (end_past w.front w.rest (prefix_unended w.front w.begins.0 (type_unended (w.front ++ w.begins.0) w.begins.1)) (sym (ap has_end w.is) ∙ u)) w.place w.begins.0 w.begins.1 w.always
first_wrong s n ts p l u (got m rest) i e =
    let f = type_form s n ts rest m i in
    unended s ts f.front rest p m f.is f.form (type_munch s n ts rest m i) e

pub type_refused : (s : Signature) (t : Text) (p : ℕ) → reading_of_type s t ≡ no_syntax p → FirstWrong IsType (tokens t) p
unfolding reading_of_type
type_refused s t p e = first_wrong s (length t + 1) (tokens t) p (omega (arith, tokens_short t)) (tokens_end t) (type_at s (length t + 1) (tokens t)) refl e
