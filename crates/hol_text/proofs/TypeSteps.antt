-- One level of the recursion on types, and one turn of its loops.
use Rattle.std.proofs.Common.{◌≡◌, refl, sym, ap, ◌∙◌, ℕ, zero, suc, ◌+◌, ◌-◌, ◌<◌, List, [], ◌∷◌, length-append, arith}
use Rattle.hol_terms.specs.Ty.{Ty}
use Rattle.hol_terms.specs.Signature.{Signature}
use Rattle.hol_terms.specs.Tokens.{Kind, Token, head_kind, head_place, tail}
use Rattle.hol_terms.specs.Meaning.{Meaning, means, fault, Arguments, given, faulty, count, with_one}
use Rattle.hol_text.specs.TokenViews.{kind_of}
use Rattle.hol_text.specs.Reads.{Fails}
use Rattle.hol_text.specs.declared.types.Stop.{Stop}
use Rattle.hol_text.specs.declared.types.Stop.TheVariants.{Memory, Grammar}
use Rattle.hol_text.specs.declared.tokens.TokenKind.{TokenKind}
use Rattle.hol_text.specs.declared.tokens.TokenKind.TheVariants.{Comma}
use Rattle.hol_terms.specs.Reading.{Front, ◌>>=◌, got, stop, more_types, types_at, range_by, dtype_at, type_at}

pub count-with_one : (a : Arguments) (m : Meaning Ty) → count (with_one a m) ≡ count a + 1
count-with_one (given ts) (means t) = length-append ts (t ∷ [])
count-with_one (given ts) (fault e) = refl
count-with_one (faulty k e) (means t) = refl
count-with_one (faulty k e) (fault d) = refl

pub type_step : (s : Signature) (n : ℕ) (ts : List Token) → 0 < n →
    type_at s n ts ≡ (dtype_at s (type_at s (n - 1)) (n - 1) ts >>= (λ dom rest. range_by (head_kind rest) s (type_at s (n - 1)) dom rest))
unfolding type_at
type_step s zero ts h = absurd (omega arith)
type_step s (suc n) ts h =
    let e : n ≡ suc n - 1 = omega arith in
    ap (λ (k : ℕ). dtype_at s (type_at s k) k ts >>= (λ dom rest. range_by (head_kind rest) s (type_at s k) dom rest)) e

pub type_none : (s : Signature) (ts : List Token) → type_at s 0 ts ≡ stop (head_place ts)
unfolding type_at
type_none s ts = refl

pub types_step : (read : List Token → Front (Meaning Ty)) (k : ℕ) (a : Arguments) (ts : List Token) → 0 < k →
    types_at read k a ts ≡ (read ts >>= (λ t rest. more_types (head_kind rest) (types_at read (k - 1)) (with_one a t) rest))
unfolding types_at
types_step read zero a ts h = absurd (omega arith)
types_step read (suc k) a ts h =
    let e : k ≡ suc k - 1 = omega arith in
    ap (λ (n : ℕ). read ts >>= (λ t rest. more_types (head_kind rest) (types_at read n) (with_one a t) rest)) e

pub types_none : (read : List Token → Front (Meaning Ty)) (k : ℕ) (a : Arguments) (ts : List Token) → k ≡ 0 → types_at read k a ts ≡ stop (head_place ts)
unfolding types_at
types_none read zero a ts h = refl
types_none read (suc k) a ts h = absurd (omega arith)

pub ruleset type_lemmas = (type_step, type_none)

-- ---- the loop over types: what is read by a turn, and by the turns that are left

turn : (read : List Token → Front (Meaning Ty)) (k : ℕ) (a b : Arguments) (m : Meaning Ty) (ts rest : List Token) (whole : Front Arguments) → 0 < k →
    read ts ≡ got m rest → b ≡ with_one a m → types_at read k a ts ≡ whole → more_types (head_kind rest) (types_at read (k - 1)) b rest ≡ whole
turn read k a b m ts rest whole l r e h =
    rw e (sym (ap (λ (f : Front (Meaning Ty)). f >>= (λ t us. more_types (head_kind us) (types_at read (k - 1)) (with_one a t) us)) r) ∙ sym (types_step read k a ts l) ∙ h)

more-other : (k : TokenKind) (next : Arguments → List Token → Front Arguments) (a : Arguments) (ts : List Token) → (k ≡ Comma → ⊥) → more_types (kind_of k) next a ts ≡ got a ts
more-other Comma next a ts n = absurd (n refl)
more-other k next a ts n = refl

pub types-over : (read : List Token → Front (Meaning Ty)) (k : ℕ) (a b : Arguments) (m : Meaning Ty) (ts rest : List Token) (whole : Front Arguments) (t : TokenKind) → 0 < k →
    read ts ≡ got m rest → b ≡ with_one a m → kind_of t ≡ head_kind rest → (t ≡ Comma → ⊥) → types_at read k a ts ≡ whole → whole ≡ got b rest
types-over read k a b m ts rest whole t l r e q n h =
    sym (turn read k a b m ts rest whole l r e h) ∙ ap (λ (j : Kind). more_types j (types_at read (k - 1)) b rest) (sym q) ∙ more-other t (types_at read (k - 1)) b rest n

pub types-go_on : (read : List Token → Front (Meaning Ty)) (k : ℕ) (a b : Arguments) (m : Meaning Ty) (ts rest : List Token) (whole : Front Arguments) → 0 < k →
    read ts ≡ got m rest → b ≡ with_one a m → kind_of Comma ≡ head_kind rest → types_at read k a ts ≡ whole → types_at read (k - 1) b (tail rest) ≡ whole
types-go_on read k a b m ts rest whole l r e q h =
    ap (λ (j : Kind). more_types j (types_at read (k - 1)) b rest) q ∙ turn read k a b m ts rest whole l r e h

pub types-fail : (e : Stop) (read : List Token → Front (Meaning Ty)) (k : ℕ) (a : Arguments) (ts : List Token) (whole : Front Arguments) → 0 < k →
    Fails e (read ts) → types_at read k a ts ≡ whole → Fails e whole
types-fail Memory read k a ts whole l f h = tt
types-fail (Grammar p) read k a ts whole l f h =
    sym h ∙ types_step read k a ts l ∙ ap (λ (g : Front (Meaning Ty)). g >>= (λ t us. more_types (head_kind us) (types_at read (k - 1)) (with_one a t) us)) f

pub types-end : (e : Stop) (read : List Token → Front (Meaning Ty)) (k : ℕ) (a : Arguments) (ts : List Token) (whole : Front Arguments) → k ≡ 0 →
    e ≡ Grammar (head_place ts) → types_at read k a ts ≡ whole → Fails e whole
types-end e read k a ts whole z q h = rw q (sym h ∙ types_none read k a ts z)
