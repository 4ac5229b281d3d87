-- A type that is read is well formed over the signature.
use Rattle.std.proofs.Common.{◌≡◌, refl, sym, ap, ◌∙◌, ℕ, zero, suc, Bool, true, false, List, [], ◌∷◌, ◌++◌, length, Option, Some, None, eqb-true}
use Rattle.hol_terms.specs.Name.{Name}
use Rattle.hol_terms.specs.Ty.{Ty, ty_var, tys}
use Rattle.hol_terms.specs.Typing.{fun_name}
use Rattle.hol_terms.specs.Signature.{Signature, arity_of, tys_count, IsTyOver, AreTysOver}
use Rattle.hol_terms.specs.Tokens.{Kind, a_name, a_variable, open_paren, close_paren, comma, arrow, Token, token, head_kind, head_text, head_place, tail}
use Rattle.hol_terms.specs.Meaning.{Meaning, means, fault, Arguments, given, faulty, with_one, is_count, applied_by, applied, function}
use Rattle.hol_terms.specs.Reading.{Front, got, stop, ◌>>=◌, expect_by, is_colon, is_name_token, is_close_paren, postfix_by, postfix, more_types, types_at, tuple_by, tuple, group_by, dtype_by, dtype_at, range_by, type_at, typed_by, typed_at}
use Rattle.hol_text.proofs.GoodTokens.{AreGood}

-- what holds of a value that is read, beside the tokens after it
abbrev pub Finds : {A : Type 0} → (A → Type 0) → Front A → Type 0
Finds P (got x ts) = P x × AreGood ts
Finds P (stop p) = Unit {0}

pub bind_finds : {A B : Type 0} (P : A → Type 0) (Q : B → Type 0) (m : Front A) (f : A → List Token → Front B) → Finds P m →
    ((x : A) (ts : List Token) → P x → AreGood ts → Finds Q (f x ts)) → Finds Q (m >>= f)
bind_finds P Q (got x ts) f h k = k x ts h.0 h.1
bind_finds P Q (stop p) f h k = tt

pub tail-good : (ts : List Token) → AreGood ts → AreGood (tail ts)
tail-good [] h = tt
tail-good (t ∷ ts) h = h.1

pub expect_finds : {A : Type 0} (P : A → Type 0) (b : Bool) (x : A) (ts : List Token) → P x → AreGood ts → Finds P (expect_by b x ts)
expect_finds P true x ts h g = (h, tail-good ts g)
expect_finds P false x ts h g = tt

abbrev pub OverType : Signature → Meaning Ty → Type 0
OverType s (means t) = IsTyOver s t
OverType s (fault e) = Unit {0}

abbrev pub OverTypes : Signature → Arguments → Type 0
OverTypes s (given ts) = AreTysOver s (tys ts)
OverTypes s (faulty k e) = Unit {0}

over-push : (s : Signature) (ts : List Ty) (t : Ty) → AreTysOver s (tys ts) → IsTyOver s t → AreTysOver s (tys (ts ++ t ∷ []))
over-push s [] t h g = (g, tt)
over-push s (u ∷ ts) t h g = (h.0, over-push s ts t h.1 g)

pub with_one-over : (s : Signature) (a : Arguments) (m : Meaning Ty) → OverTypes s a → OverType s m → OverTypes s (with_one a m)
with_one-over s (given ts) (means t) h g = over-push s ts t h g
with_one-over s (given ts) (fault e) h g = tt
with_one-over s (faulty k e) (means t) h g = tt
with_one-over s (faulty k e) (fault d) h g = tt

count-tys : (ts : List Ty) → tys_count (tys ts) ≡ length ts
count-tys [] = refl
count-tys (t ∷ ts) = ap suc (count-tys ts)

is_count-is : (o : Option ℕ) (k : ℕ) → is_count o k ≡ true → o ≡ Some k
is_count-is None k e = cc
is_count-is (Some n) k e = ap (λ (i : ℕ). Some i) (eqb-true n k e)

applied-over : (s : Signature) (c : Name) (p : ℕ) (a : Arguments) → OverTypes s a → OverType s (applied s c p a)
unfolding applied
applied-over s c p (given ts) h = at (is_count (arity_of s c) (length ts)) refl
  where
    at : (b : Bool) → is_count (arity_of s c) (length ts) ≡ b → OverType s (applied_by b c p (given ts))
    at true e = (is_count-is (arity_of s c) (length ts) e ∙ ap (λ (i : ℕ). Some i) (sym (count-tys ts)), h)
    at false e = tt
applied-over s c p (faulty k e) h = at (is_count (arity_of s c) k)
  where
    at : (b : Bool) → OverType s (applied_by b c p (faulty k e))
    at true = tt
    at false = tt

function-over : (s : Signature) (p : ℕ) (m n : Meaning Ty) → OverType s m → OverType s n → OverType s (function s p m n)
unfolding function
function-over s p m n h g = applied-over s fun_name p _ (with_one-over s _ n (with_one-over s (given []) m tt h) g)

-- ---- by the grammar

abbrev IsTypeReader : Signature → (List Token → Front (Meaning Ty)) → Type 0
IsTypeReader s read = (ts : List Token) → AreGood ts → Finds (OverType s) (read ts)

postfix-step : (k : Kind) (s : Signature) (t : Meaning Ty) (ts : List Token) (next : Meaning Ty → Front (Meaning Ty)) → OverType s t → AreGood ts →
    ((u : Meaning Ty) → OverType s u → Finds (OverType s) (next u)) → Finds (OverType s) (postfix_by k s t ts next)
postfix-step a_name s t ts next h g f = f _ (applied-over s (head_text ts) (head_place ts) _ (with_one-over s (given []) t tt h))
postfix-step k s t ts next h g f = (h, g)

postfix-over : (s : Signature) (t : Meaning Ty) (ts : List Token) → OverType s t → AreGood ts → Finds (OverType s) (postfix s t ts)
postfix-over s t [] h g = (h, tt)
postfix-over s t (x ∷ xs) h g = postfix-step (head_kind (x ∷ xs)) s t (x ∷ xs) (λ u. postfix s u xs) h g (λ u i. postfix-over s u xs i g.1)

more-over : (k : Kind) (s : Signature) (next : Arguments → List Token → Front Arguments) (a : Arguments) (ts : List Token) → OverTypes s a → AreGood ts →
    ((b : Arguments) (us : List Token) → OverTypes s b → AreGood us → Finds (OverTypes s) (next b us)) → Finds (OverTypes s) (more_types k next a ts)
more-over comma s next a ts h g f = f a (tail ts) h (tail-good ts g)
more-over k s next a ts h g f = (h, g)

pub types-over : (s : Signature) (read : List Token → Front (Meaning Ty)) (k : ℕ) (a : Arguments) (ts : List Token) → ((us : List Token) → AreGood us → Finds (OverType s) (read us)) →
    OverTypes s a → AreGood ts → Finds (OverTypes s) (types_at read k a ts)
unfolding types_at
types-over s read zero a ts r h g = tt
types-over s read (suc k) a ts r h g =
    bind_finds (OverType s) (OverTypes s) (read ts) _ (r ts g)
    (λ t rest i j. more-over (head_kind rest) s (types_at read k) (with_one a t) rest (with_one-over s a t h i) j (λ b us l m. types-over s read k b us r l m))

tuple-step : (b : Bool) (s : Signature) (a : Arguments) (ts : List Token) → OverTypes s a → AreGood ts → Finds (OverType s) (tuple_by b s a ts)
tuple-step true s a ts h g = postfix-over s _ (tail ts) (applied-over s (head_text ts) (head_place ts) a h) (tail-good ts g)
tuple-step false s a ts h g = tt

group-over : (k : Kind) (s : Signature) (read : List Token → Front (Meaning Ty)) (n : ℕ) (t : Meaning Ty) (ts : List Token) → IsTypeReader s read →
    OverType s t → AreGood ts → Finds (OverType s) (group_by k s read n t ts)
group-over close_paren s read n t ts r h g = postfix-over s t (tail ts) h (tail-good ts g)
group-over comma s read n t ts r h g =
    bind_finds (OverTypes s) (OverType s) (types_at read n (with_one (given []) t) (tail ts) >>= (λ args rest. expect_by (is_close_paren (head_kind rest)) args rest)) (tuple s)
    (bind_finds (OverTypes s) (OverTypes s) (types_at read n (with_one (given []) t) (tail ts)) _ (types-over s read n (with_one (given []) t) (tail ts) r (with_one-over s (given []) t tt h) (tail-good ts g))
    (λ args rest i j. expect_finds (OverTypes s) (is_close_paren (head_kind rest)) args rest i j))
    (λ args rest i j. tuple-step (is_name_token (head_kind rest)) s args rest i j)
group-over k s read n t ts r h g = tt

pub variable-head : (s : Signature) (ts : List Token) → AreGood ts → head_kind ts ≡ a_variable → IsTyOver s (ty_var (head_text ts))
variable-head s [] g e = cc
variable-head s (token a_variable w p ∷ ts) g e = g.0
variable-head s (token k w p ∷ ts) g e = cc

dtype-over : (k : Kind) (s : Signature) (read : List Token → Front (Meaning Ty)) (n : ℕ) (ts : List Token) → head_kind ts ≡ k → IsTypeReader s read → AreGood ts →
    Finds (OverType s) (dtype_by k s read n ts)
dtype-over a_variable s read n ts e r g = postfix-over s (means (ty_var (head_text ts))) (tail ts) (variable-head s ts g e) (tail-good ts g)
dtype-over a_name s read n ts e r g = postfix-over s _ (tail ts) (applied-over s (head_text ts) (head_place ts) (given []) tt) (tail-good ts g)
dtype-over open_paren s read n ts e r g =
    bind_finds (OverType s) (OverType s) (read (tail ts)) _ (r (tail ts) (tail-good ts g)) (λ t rest i j. group-over (head_kind rest) s read n t rest r i j)
dtype-over k s read n ts e r g = tt

dtype_at-over : (s : Signature) (read : List Token → Front (Meaning Ty)) (n : ℕ) (ts : List Token) → IsTypeReader s read → AreGood ts → Finds (OverType s) (dtype_at s read n ts)
unfolding dtype_at
dtype_at-over s read n ts r g = dtype-over (head_kind ts) s read n ts refl r g

range-over : (k : Kind) (s : Signature) (read : List Token → Front (Meaning Ty)) (t : Meaning Ty) (ts : List Token) → IsTypeReader s read → OverType s t → AreGood ts →
    Finds (OverType s) (range_by k s read t ts)
range-over arrow s read t ts r h g = bind_finds (OverType s) (OverType s) (read (tail ts)) _ (r (tail ts) (tail-good ts g)) (λ u rest i j. (function-over s (head_place ts) t u h i, j))
range-over k s read t ts r h g = (h, g)

pub type-over : (s : Signature) (n : ℕ) (ts : List Token) → AreGood ts → Finds (OverType s) (type_at s n ts)
unfolding type_at
type-over s zero ts g = tt
type-over s (suc n) ts g =
    bind_finds (OverType s) (OverType s) (dtype_at s (type_at s n) n ts) _ (dtype_at-over s (type_at s n) n ts (type-over s n) g)
    (λ t rest i j. range-over (head_kind rest) s (type_at s n) t rest (type-over s n) i j)

typed-step : (b : Bool) (s : Signature) (n : ℕ) (ts : List Token) → AreGood ts → Finds (OverType s) (typed_by b s n ts)
typed-step true s n ts g = type-over s n (tail ts) (tail-good ts g)
typed-step false s n ts g = tt

pub typed-over : (s : Signature) (n : ℕ) (ts : List Token) → AreGood ts → Finds (OverType s) (typed_at s n ts)
unfolding typed_at
typed-over s n ts g = typed-step (is_colon (head_kind ts)) s n ts g

pub ruleset over_lemmas = (type-over)
