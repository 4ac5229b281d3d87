-- What a text states may be defined.
use Rattle.std.proofs.Common.{◌≡◌, ◌⊎◌, inl, inr, refl, sym, ap, subst, ℕ, ◌+◌, Bool, true, false, cond, not, ◌&&◌, List, [], ◌∷◌, length, Option, Some, None}
use Rattle.std.specs.Prelude.{bytes_eq, codes, nat_le}
use Rattle.std.specs.Ordering.{is_eq}
use Rattle.std.specs.Str.{is_utf8, IsUtf8}
use Rattle.std.proofs.lemmas.Bool.{and_parts, not-true}
use Rattle.std.proofs.lemmas.Str.{IsUtf8-from_is_utf8}
use Rattle.hol_terms.specs.Name.{Name, is_segment}
use Rattle.hol_terms.specs.Ty.{Ty}
use Rattle.hol_terms.specs.Tm.{Tm}
use Rattle.hol_terms.specs.Typing.{tm_type}
use Rattle.hol_terms.specs.TyVars.{occurs}
use Rattle.hol_terms.specs.Subst.{ty_cmp}
use Rattle.hol_terms.specs.Signature.{Signature, IsOver, may_introduce}
use Rattle.hol_terms.specs.Definition.{has_frees}
use Rattle.hol_terms.specs.Text.{Text}
use Rattle.hol_terms.specs.Tokens.{Kind, a_variable, Token, token, tokens, head_kind, head_text, head_place, tail}
use Rattle.hol_terms.specs.Meaning.{Meaning, means, fault, Operand}
use Rattle.hol_terms.specs.Reading.{Front, got, stop, expect_by, is_name_token, is_dotted, typed_at, term_at}
use Rattle.hol_text.specs.Over.{GivesTypes}
use Rattle.hol_text.proofs.GoodTokens.{IsGood, AreGood, tokens-good}
use Rattle.hol_text.proofs.OverTypes.{Finds, bind_finds, expect_finds, tail-good, OverType, typed-over}
use Rattle.hol_text.proofs.OverTerms.{IsTopTerm, top_term-over}
use Rattle.theory_text.specs.Command.{Define, Written, term_limit, types_fit, are_unnumbered, begins, ends, is_equals, named_by, named_at, stated_at, body_by, body_at, written_at, is_stray, strays, is_free_name, is_body, stated, meant_by, meant, accepted, define_in, define_of}
use Rattle.theory_text.specs.Definable.{IsDefinable}

-- ---- type variables in the text

IsVariable : Name → Type 0
IsVariable n = (n ≡ []) ⊎ (is_segment n ≡ true)

stray-variable : (t : Ty) (ts : List Token) → AreGood ts → (head_text (strays t ts) ≡ []) ⊎ (is_segment (head_text (strays t ts)) ≡ true)
stray-variable t [] g = inl refl
stray-variable t (token a_variable w p ∷ ts) g = at (not (occurs w t)) (stray-variable t ts g.1)
  where
    at : (b : Bool) → (head_text (strays t ts) ≡ []) ⊎ (is_segment (head_text (strays t ts)) ≡ true)
        → (head_text (cond b (token a_variable w p ∷ ts) (strays t ts)) ≡ []) ⊎ (is_segment (head_text (cond b (token a_variable w p ∷ ts) (strays t ts))) ≡ true)
    at true h = inr g.0
    at false h = h
stray-variable t (token k w p ∷ ts) g = stray-variable t ts g.1

-- ---- what is read of a command

abbrev IsTop : Signature → Meaning Tm → Type 0
IsTop s m = (t : Tm) → m ≡ means t → IsOver s [] t

abbrev IsName : Name → Type 0
IsName n = Unit {0}

record IsRead (s : Signature) (w : Written) : Type 0 where
  term : IsTop s w.term
  good : AreGood w.from_term

named-step : (b : Bool) (ts : List Token) → AreGood ts → Finds IsName (named_by b ts)
named-step true ts g = expect_finds IsName (is_name_token (head_kind (tail ts))) (head_text (tail ts)) (tail ts) tt (tail-good ts g)
named-step false ts g = tt

named-good : (ts : List Token) → AreGood ts → Finds IsName (named_at ts)
unfolding named_at
named-good ts g = named-step (begins ts) ts g

stated-good : (s : Signature) (n : ℕ) (ts : List Token) → AreGood ts → Finds (OverType s) (stated_at s n ts)
unfolding stated_at
stated-good s n ts g = bind_finds (OverType s) (OverType s) (typed_at s n ts) _ (typed-over s n ts g) (λ t rest o h. expect_finds (OverType s) (is_equals (head_kind rest)) t rest o h)

body-step : (b : Bool) (s : Signature) (n : ℕ) (ts : List Token) → GivesTypes s → AreGood ts → Finds (IsTop s) (body_by b s n ts)
body-step true s n ts k g = bind_finds (IsTopTerm s) (IsTop s) (term_at s n [] ts) _ (top_term-over s n ts k g) (λ x rest o h. expect_finds (IsTop s) (ends rest) x.meaning rest o h)
body-step false s n ts k g = tt

body-good : (s : Signature) (n : ℕ) (ts : List Token) → GivesTypes s → AreGood ts → Finds (IsTop s) (body_at s n ts)
unfolding body_at
body-good s n ts k g = body-step (nat_le (length ts) (term_limit + 2)) s n ts k g

written-good : (s : Signature) (n : ℕ) (ts : List Token) → GivesTypes s → AreGood ts → Finds (IsRead s) (written_at s n ts)
unfolding written_at
written-good s n ts k g =
    bind_finds IsName (IsRead s) (named_at ts) _ (named-good ts g) (λ name rest i h.
    bind_finds (OverType s) (IsRead s) (stated_at s n rest) _ (stated-good s n rest h) (λ t from o f.
    bind_finds (IsTop s) (IsRead s) (body_at s n from) _ (body-good s n from k f) (λ b end top e. (record { term = top; good = f }, e))))

-- ---- what it means

none_unless : {A : Type 0} (b : Bool) (o : Option A) (y : A) → cond b o None ≡ Some y → (b ≡ true) × (o ≡ Some y)
none_unless true o y e = (refl, e)
none_unless false o y e = absurd cc

closed_not : (b : Bool) → not b ≡ true → b ≡ false
closed_not true e = cc
closed_not false e = refl

same_some : {A : Type 0} (x y : A) → Some x ≡ Some y → x ≡ y
same_some x y e = cc

introduced : (s : Signature) (n : Name) → is_free_name s n ≡ true → may_introduce s n ≡ true
introduced s n h =
    let p = and_parts (may_introduce s n && not (is_dotted n) && not (bytes_eq n (codes "plugin"))) (not (bytes_eq n (codes "0"))) h in
    (and_parts (may_introduce s n) (not (is_dotted n)) (and_parts (may_introduce s n && not (is_dotted n)) (not (bytes_eq n (codes "plugin"))) p.0).0).0

no_number : (s : Signature) (n : Name) → is_free_name s n ≡ true → bytes_eq n (codes "0") ≡ false
no_number s n h = closed_not (bytes_eq n (codes "0")) (and_parts (may_introduce s n && not (is_dotted n) && not (bytes_eq n (codes "plugin"))) (not (bytes_eq n (codes "0"))) h).1

definable : (s : Signature) (n : Name) (t : Ty) (b : Tm) (from : List Token) (d : Define) → is_free_name s n ≡ true → IsOver s [] b → AreGood from → stated n t b from ≡ Some d → IsDefinable s d
definable s n t b from d m o g e =
    let body : Define = record { name = n; body = b; stray = head_text (strays t from); stray_place = head_place (strays t from) } in
    let h = none_unless (is_body t b) (Some body) d e in
    let p = and_parts (is_eq (ty_cmp (tm_type b) t)) (not (has_frees b)) h.0 in
    subst (IsDefinable s) (same_some body d h.1) (record { named = introduced s n m; no_number = no_number s n m; typed = o; closed = closed_not (has_frees b) p.1; stray = stray-variable t from g })

meant-definable : (s : Signature) (n : Name) (t : Meaning Ty) (b : Meaning Tm) (from : List Token) (d : Define) → is_free_name s n ≡ true → IsTop s b → AreGood from → meant_by n t b from ≡ Some d → IsDefinable s d
meant-definable s n (means t) (means b) from d m o g e = definable s n t b from d m (o b refl) g e
meant-definable s n (means t) (fault f) from d m o g e = absurd cc
meant-definable s n (fault f) (means b) from d m o g e = absurd cc
meant-definable s n (fault f) (fault h) from d m o g e = absurd cc

accepted-definable : (s : Signature) (f : Front Written) (d : Define) → Finds (IsRead s) f → accepted s f ≡ Some d → IsDefinable s d
accepted-definable s (got w ts) d h e =
    let p = none_unless (is_free_name s w.name) (meant_by w.name w.ty w.term w.from_term) d e in
    meant-definable s w.name w.ty w.term w.from_term d p.0 h.0.term h.0.good p.1
accepted-definable s (stop p) d h e = absurd cc

tokens-definable : (s : Signature) (n : ℕ) (ts : List Token) (d : Define) → GivesTypes s → AreGood ts → define_in s n ts ≡ Some d → IsDefinable s d
unfolding define_in
tokens-definable s n ts d k g e =
    let p = none_unless (types_fit (0, 0) ts && are_unnumbered ts) (accepted s (written_at s (n + 1) ts)) d e in
    accepted-definable s (written_at s (n + 1) ts) d (written-good s (n + 1) ts k g) p.1

pub stated_definable : (s : Signature) (t : Text) (d : Define) → GivesTypes s → define_of s t ≡ Some d → IsDefinable s d
unfolding define_of
stated_definable s t d k e =
    let p = none_unless (is_utf8 t) (define_in s (length t) (tokens t)) d e in
    tokens-definable s (length t) (tokens t) d k (tokens-good t (IsUtf8-from_is_utf8 t p.0)) p.1
