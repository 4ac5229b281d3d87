-- A definition that a text states has a stray type variable in the text where its term has one.
use Rattle.std.proofs.Common.{◌≡◌, ◌⊎◌, arith, inl, inr, refl, sym, ap, ◌∙◌, subst, ℕ, ◌+◌, Bool, true, false, cond, not, ◌&&◌, List, [], ◌∷◌, length, Contains, Option, Some, None}
use Rattle.std.specs.Prelude.{nat_le}
use Rattle.std.specs.Ordering.{is_eq}
use Rattle.std.specs.Str.{is_utf8}
use Rattle.std.proofs.lemmas.Bool.{true≢false, and_parts}
use Rattle.std.proofs.lemmas.List.Elements.{Contains-append_right}
use Rattle.hol_terms.specs.Name.{Name}
use Rattle.hol_terms.specs.Ty.{Ty}
use Rattle.hol_terms.specs.Tm.{Tm}
use Rattle.hol_terms.specs.Typing.{tm_type}
use Rattle.hol_terms.specs.TyVars.{occurs, tm_within}
use Rattle.hol_terms.specs.Subst.{ty_cmp}
use Rattle.hol_terms.specs.Signature.{Signature}
use Rattle.hol_terms.specs.Definition.{has_frees}
use Rattle.hol_terms.specs.Text.{Text}
use Rattle.hol_terms.specs.Tokens.{a_variable, Token, token, tokens, head_kind, head_text, head_place, tail}
use Rattle.hol_terms.specs.Meaning.{Meaning, means, fault}
use Rattle.hol_terms.specs.Reading.{Front, got, stop, expect_by, is_name_token, is_colon, typed_by, typed_at, term_at}
use Rattle.hol_terms.proofs.Order.{is_eq-same, ty_cmp-same}
use Rattle.hol_text.proofs.GrammarTypes.{Splits, unlike, steps, type_form}
use Rattle.theory_text.specs.Command.{Define, Written, term_limit, types_fit, are_unnumbered, begins, ends, is_equals, named_by, named_at, stated_at, body_by, body_at, written_at, is_stray, strays, is_free_name, is_body, stated, meant_by, accepted, define_in, define_of}
use Rattle.theory_text.specs.Strays.{HasStray}
use Rattle.theory_text.proofs.VariablesOfTypes.{HasAll}
use Rattle.theory_text.proofs.VariablesOfTerms.{top_term-within}

-- ---- the first stray among tokens

-- the token that is named is a type variable among the tokens that the type has not
record FirstStray (u : Ty) (ts : List Token) : Type 0 where
  there : Contains ts (token a_variable (head_text (strays u ts)) (head_place (strays u ts)))
  lacking : occurs (head_text (strays u ts)) u ≡ false

hidden_not : (b : Bool) → not b ≡ true → b ≡ false
hidden_not true e = cc
hidden_not false e = refl

here : (x : Token) (ts : List Token) → Contains (x ∷ ts) x
here x ts = (0, omega arith, refl)

behind : (x : Token) (ts : List Token) (y : Token) → Contains ts y → Contains (x ∷ ts) y
behind x ts y h = Contains-append_right (x ∷ []) ts y h

later : (u : Ty) (x : Token) (ts : List Token) → is_stray u x ≡ false → FirstStray u ts → FirstStray u (x ∷ ts)
later u x ts e h =
    let same : strays u (x ∷ ts) ≡ strays u ts = ap (λ (b : Bool). cond b (x ∷ ts) (strays u ts)) e in
    record {
      there = subst (λ (us : List Token). Contains (x ∷ ts) (token a_variable (head_text us) (head_place us))) (sym same) (behind x ts _ h.there);
      lacking = subst (λ (us : List Token). occurs (head_text us) u ≡ false) (sym same) h.lacking;
    }

this : (u : Ty) (w : Name) (p : ℕ) (ts : List Token) → not (occurs w u) ≡ true → FirstStray u (token a_variable w p ∷ ts)
this u w p ts e =
    let x = token a_variable w p in
    let same : strays u (x ∷ ts) ≡ x ∷ ts = ap (λ (b : Bool). cond b (x ∷ ts) (strays u ts)) e in
    record {
      there = subst (λ (us : List Token). Contains (x ∷ ts) (token a_variable (head_text us) (head_place us))) (sym same) (here x ts);
      lacking = subst (λ (us : List Token). occurs (head_text us) u ≡ false) (sym same) (hidden_not (occurs w u) e);
    }

-- either the type has all type variables among the tokens, or there is a stray
with_first : (u : Ty) (x : Token) (ts : List Token) → is_stray u x ≡ false → HasAll u ts ⊎ FirstStray u ts → HasAll u (x ∷ ts) ⊎ FirstStray u (x ∷ ts)
with_first u x ts e (inl h) = inl (e, h)
with_first u x ts e (inr h) = inr (later u x ts e h)

strayed : (u : Ty) (ts : List Token) → HasAll u ts ⊎ FirstStray u ts
strayed u [] = inl tt
strayed u (token a_variable w p ∷ ts) = first (not (occurs w u)) refl (strayed u ts)
  where
    first : (b : Bool) → not (occurs w u) ≡ b → HasAll u ts ⊎ FirstStray u ts → HasAll u (token a_variable w p ∷ ts) ⊎ FirstStray u (token a_variable w p ∷ ts)
    first true e h = inr (this u w p ts e)
    first false e h = with_first u (token a_variable w p) ts e h
strayed u (token k w p ∷ ts) = with_first u (token k w p) ts refl (strayed u ts)

-- ---- what is read of a command

-- the tokens of the second list are among the first
abbrev Among : List Token → List Token → Type 0
Among ts us = (x : Token) → Contains us x → Contains ts x

among-tail : (ts : List Token) → Among ts (tail ts)
among-tail [] x h = h
among-tail (t ∷ ts) x h = behind t ts x h

among-rest : {P : List Token → Type 0} (ts rest : List Token) → Splits P ts rest → Among ts rest
among-rest ts rest s x h = subst (λ (us : List Token). Contains us x) (sym s.is) (Contains-append_right s.front rest x h)

same_rest : {A : Type 0} (x y : A) (us ws : List Token) → got x us ≡ got y ws → us ≡ ws
same_rest x y us ws e = cc

expect-among : {A : Type 0} (b : Bool) (x y : A) (ts rest : List Token) → expect_by b x ts ≡ got y rest → Among ts rest
expect-among true x y ts rest e = subst (Among ts) (same_rest x y (tail ts) rest e) (among-tail ts)
expect-among false x y ts rest e = unlike (head_place ts) y rest e

named-among : (ts rest : List Token) (n : Name) → named_at ts ≡ got n rest → Among ts rest
unfolding named_at
named-among ts rest n e = at (begins ts) e
  where
    at : (b : Bool) → named_by b ts ≡ got n rest → Among ts rest
    at true f = λ x h. among-tail ts x (expect-among (is_name_token (head_kind (tail ts))) (head_text (tail ts)) n (tail ts) rest f x h)
    at false f = unlike (head_place ts) n rest f

typed-among : (s : Signature) (n : ℕ) (ts rest : List Token) (m : Meaning Ty) → typed_at s n ts ≡ got m rest → Among ts rest
unfolding typed_at
typed-among s n ts rest m e = at (is_colon (head_kind ts)) e
  where
    at : (b : Bool) → typed_by b s n ts ≡ got m rest → Among ts rest
    at true f = λ x h. among-tail ts x (among-rest (tail ts) rest (type_form s n (tail ts) rest m f) x h)
    at false f = unlike (head_place ts) m rest f

stated-among : (s : Signature) (n : ℕ) (ts rest : List Token) (m : Meaning Ty) → stated_at s n ts ≡ got m rest → Among ts rest
unfolding stated_at
stated-among s n ts rest m e =
    let a = steps (typed_at s n ts) (λ t rest. expect_by (is_equals (head_kind rest)) t rest) m rest e in
    λ x h. typed-among s n ts a.middle a.value a.was x (expect-among (is_equals (head_kind a.middle)) a.value m a.middle rest a.next x h)

-- a term that was read from tokens whose type variables the type has
abbrev CoversFrom : List Token → Meaning Tm → Type 0
CoversFrom ts m = (u : Ty) (t : Tm) → HasAll u ts → m ≡ means t → tm_within t u ≡ true

same_value : {A : Type 0} (x y : A) (us ws : List Token) → got x us ≡ got y ws → x ≡ y
same_value x y us ws e = cc

expect-value : {A : Type 0} (b : Bool) (x y : A) (ts rest : List Token) → expect_by b x ts ≡ got y rest → x ≡ y
expect-value true x y ts rest e = same_value x y (tail ts) rest e
expect-value false x y ts rest e = unlike (head_place ts) y rest e

body-covers : (s : Signature) (n : ℕ) (ts rest : List Token) (m : Meaning Tm) → body_at s n ts ≡ got m rest → CoversFrom ts m
unfolding body_at
body-covers s n ts rest m e = at (nat_le (length ts) (term_limit + 2)) e
  where
    at : (b : Bool) → body_by b s n ts ≡ got m rest → CoversFrom ts m
    at true f = λ u t h k.
        let a = steps (term_at s n [] ts) (λ x rest. expect_by (ends rest) x.meaning rest) m rest f in
        let same : a.value.meaning ≡ m = expect-value (ends a.middle) a.value.meaning m a.middle rest a.next in
        top_term-within u s n ts a.value t a.middle h a.was (same ∙ k)
    at false f = unlike (head_place ts) m rest f

-- what was read of a command: where its term stands, and that its type variables stand there
record IsRead (ts : List Token) (w : Written) : Type 0 where
  among : Among ts w.from_term
  covers : CoversFrom w.from_term w.term

written-read : (s : Signature) (n : ℕ) (ts rest : List Token) (w : Written) → written_at s n ts ≡ got w rest → IsRead ts w
unfolding written_at
written-read s n ts rest w e =
    let a = steps (named_at ts) _ w rest e in
    let b = steps (stated_at s n a.middle) _ w rest a.next in
    let c = steps (body_at s n b.middle) _ w rest b.next in
    let is : record { name = a.value; ty = b.value; term = c.value; from_term = b.middle } ≡ w = same_value _ w c.middle rest c.next in
    subst (IsRead ts) is (record {
      among = λ x h. named-among ts a.middle a.value a.was x (stated-among s n a.middle b.middle b.value b.was x h);
      covers = body-covers s n b.middle c.middle c.value c.was;
    })

-- ---- what it means

none_unless : {A : Type 0} (b : Bool) (o : Option A) (y : A) → cond b o None ≡ Some y → (b ≡ true) × (o ≡ Some y)
none_unless true o y e = (refl, e)
none_unless false o y e = absurd cc

same_some : {A : Type 0} (x y : A) → Some x ≡ Some y → x ≡ y
same_some x y e = cc

-- among the tokens of a text stands the stray of a definition
record StrayIn (ts : List Token) (d : Define) : Type 0 where
  there : Contains ts (token a_variable d.stray d.stray_place)
  lacking : occurs d.stray (tm_type d.body) ≡ false

stated-stray : (ts : List Token) (n : Name) (u : Ty) (b : Tm) (from : List Token) (d : Define) → Among ts from → CoversFrom from (means b) → stated n u b from ≡ Some d
    → tm_within d.body (tm_type d.body) ≡ false → StrayIn ts d
stated-stray ts n u b from d among covers e w =
    let made : Define = record { name = n; body = b; stray = head_text (strays u from); stray_place = head_place (strays u from) } in
    let h = none_unless (is_body u b) (Some made) d e in
    let typed : tm_type b ≡ u = ty_cmp-same (tm_type b) u (is_eq-same (ty_cmp (tm_type b) u) (and_parts (is_eq (ty_cmp (tm_type b) u)) (not (has_frees b)) h.0).0) in
    let is : made ≡ d = same_some made d h.1 in
    let lacks : tm_within b u ≡ false = ap (λ (t : Ty). tm_within b t) (sym typed) ∙ ap (λ (x : Define). tm_within x.body (tm_type x.body)) is ∙ w in
    subst (StrayIn ts) is (by typed lacks (strayed u from))
  where
    by : tm_type b ≡ u → tm_within b u ≡ false → HasAll u from ⊎ FirstStray u from → StrayIn ts (record { name = n; body = b; stray = head_text (strays u from); stray_place = head_place (strays u from) })
    by typed lacks (inl h) = absurd (true≢false (sym (covers u b h refl) ∙ lacks))
    by typed lacks (inr h) = record { there = among _ h.there; lacking = ap (λ (t : Ty). occurs (head_text (strays u from)) t) typed ∙ h.lacking }

meant-stray : (ts : List Token) (n : Name) (t : Meaning Ty) (b : Meaning Tm) (from : List Token) (d : Define) → Among ts from → CoversFrom from b → meant_by n t b from ≡ Some d
    → tm_within d.body (tm_type d.body) ≡ false → StrayIn ts d
meant-stray ts n (means t) (means b) from d a k e w = stated-stray ts n t b from d a k e w
meant-stray ts n (means t) (fault f) from d a k e w = absurd cc
meant-stray ts n (fault f) (means b) from d a k e w = absurd cc
meant-stray ts n (fault f) (fault h) from d a k e w = absurd cc

accepted-stray : (s : Signature) (n : ℕ) (ts : List Token) (f : Front Written) (d : Define) → written_at s n ts ≡ f → accepted s f ≡ Some d → tm_within d.body (tm_type d.body) ≡ false → StrayIn ts d
accepted-stray s n ts (got w rest) d r e c =
    let p = none_unless (is_free_name s w.name) (meant_by w.name w.ty w.term w.from_term) d e in
    let h = written-read s n ts rest w r in
    meant-stray ts w.name w.ty w.term w.from_term d h.among h.covers p.1 c
accepted-stray s n ts (stop p) d r e c = absurd cc

tokens-stray : (s : Signature) (n : ℕ) (ts : List Token) (d : Define) → define_in s n ts ≡ Some d → tm_within d.body (tm_type d.body) ≡ false → StrayIn ts d
unfolding define_in
tokens-stray s n ts d e c =
    let p = none_unless (types_fit (0, 0) ts && are_unnumbered ts) (accepted s (written_at s (n + 1) ts)) d e in
    accepted-stray s (n + 1) ts (written_at s (n + 1) ts) d refl p.1 c

pub has_stray : (s : Signature) (t : Text) (d : Define) → define_of s t ≡ Some d → tm_within d.body (tm_type d.body) ≡ false → HasStray t d
unfolding define_of
has_stray s t d e c =
    let p = none_unless (is_utf8 t) (define_in s (length t) (tokens t)) d e in
    let h = tokens-stray s (length t) (tokens t) d p.1 c in
    record { there = h.there; lacking = h.lacking }
