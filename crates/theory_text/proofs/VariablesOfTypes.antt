-- A type that is read has no type variable but those of its tokens.
use Rattle.std.proofs.Common.{◌≡◌, refl, ℕ, zero, suc, Bool, true, false, not, List, [], ◌∷◌, ◌++◌, length}
use Rattle.std.proofs.lemmas.Bool.{and_parts, and_from}
use Rattle.hol_terms.specs.Name.{Name}
use Rattle.hol_terms.specs.Ty.{Ty, ty_var, tys}
use Rattle.hol_terms.specs.Typing.{fun_name}
use Rattle.hol_terms.specs.TyVars.{occurs, ty_within, tys_within}
use Rattle.hol_terms.specs.Signature.{Signature, arity_of}
use Rattle.hol_terms.specs.Tokens.{Kind, a_name, a_variable, open_paren, close_paren, comma, arrow, Token, token, head_kind, head_text, head_place, tail}
use Rattle.hol_terms.specs.Meaning.{Meaning, means, fault, Arguments, given, faulty, with_one, is_count, applied_by, applied, function}
use Rattle.hol_terms.specs.Reading.{Front, got, stop, ◌>>=◌, expect_by, is_colon, is_name_token, is_close_paren, postfix_by, postfix, more_types, types_at, tuple_by, tuple, group_by, dtype_by, dtype_at, range_by, type_at, typed_by, typed_at}
use Rattle.theory_text.specs.Command.{is_stray}

-- each type variable among the tokens occurs in the type
abbrev pub HasAll : Ty → List Token → Type 0
HasAll u [] = Unit {0}
HasAll u (x ∷ ts) = (is_stray u x ≡ false) × HasAll u ts

-- what holds of a value that is read, beside the tokens after it
abbrev pub Finds : {A : Type 0} → Ty → (A → Type 0) → Front A → Type 0
Finds u P (got x ts) = P x × HasAll u ts
Finds u P (stop p) = Unit {0}

pub bind_finds : {A B : Type 0} (u : Ty) (P : A → Type 0) (Q : B → Type 0) (m : Front A) (f : A → List Token → Front B) → Finds u P m →
    ((x : A) (ts : List Token) → P x → HasAll u ts → Finds u Q (f x ts)) → Finds u Q (m >>= f)
bind_finds u P Q (got x ts) f h k = k x ts h.0 h.1
bind_finds u P Q (stop p) f h k = tt

pub tail-has : (u : Ty) (ts : List Token) → HasAll u ts → HasAll u (tail ts)
tail-has u [] h = tt
tail-has u (t ∷ ts) h = h.1

pub expect_finds : {A : Type 0} (u : Ty) (P : A → Type 0) (b : Bool) (x : A) (ts : List Token) → P x → HasAll u ts → Finds u P (expect_by b x ts)
expect_finds u P true x ts h g = (h, tail-has u ts g)
expect_finds u P false x ts h g = tt

-- each type variable of what was read occurs in the type
abbrev pub IsWithin : Ty → Meaning Ty → Type 0
IsWithin u (means t) = ty_within t u ≡ true
IsWithin u (fault e) = Unit {0}

abbrev pub AreWithin : Ty → Arguments → Type 0
AreWithin u (given ts) = tys_within (tys ts) u ≡ true
AreWithin u (faulty k e) = Unit {0}

within-push : (u : Ty) (ts : List Ty) (t : Ty) → tys_within (tys ts) u ≡ true → ty_within t u ≡ true → tys_within (tys (ts ++ t ∷ [])) u ≡ true
within-push u [] t h g = and_from (ty_within t u) true g refl
within-push u (v ∷ ts) t h g =
    let p = and_parts (ty_within v u) (tys_within (tys ts) u) h in
    and_from (ty_within v u) (tys_within (tys (ts ++ t ∷ [])) u) p.0 (within-push u ts t p.1 g)

pub with_one-within : (u : Ty) (a : Arguments) (m : Meaning Ty) → AreWithin u a → IsWithin u m → AreWithin u (with_one a m)
with_one-within u (given ts) (means t) h g = within-push u ts t h g
with_one-within u (given ts) (fault e) h g = tt
with_one-within u (faulty k e) (means t) h g = tt
with_one-within u (faulty k e) (fault d) h g = tt

applied-within : (u : Ty) (s : Signature) (c : Name) (p : ℕ) (a : Arguments) → AreWithin u a → IsWithin u (applied s c p a)
unfolding applied
applied-within u s c p (given ts) h = at (is_count (arity_of s c) (length ts))
  where
    at : (b : Bool) → IsWithin u (applied_by b c p (given ts))
    at true = h
    at false = tt
applied-within u s c p (faulty k e) h = at (is_count (arity_of s c) k)
  where
    at : (b : Bool) → IsWithin u (applied_by b c p (faulty k e))
    at true = tt
    at false = tt

function-within : (u : Ty) (s : Signature) (p : ℕ) (m n : Meaning Ty) → IsWithin u m → IsWithin u n → IsWithin u (function s p m n)
unfolding function
function-within u s p m n h g = applied-within u s fun_name p _ (with_one-within u _ n (with_one-within u (given []) m refl h) g)

-- ---- by the grammar

abbrev IsTypeReader : Ty → (List Token → Front (Meaning Ty)) → Type 0
IsTypeReader u read = (ts : List Token) → HasAll u ts → Finds u (IsWithin u) (read ts)

postfix-step : (k : Kind) (u : Ty) (s : Signature) (t : Meaning Ty) (ts : List Token) (next : Meaning Ty → Front (Meaning Ty)) → IsWithin u t → HasAll u ts →
    ((v : Meaning Ty) → IsWithin u v → Finds u (IsWithin u) (next v)) → Finds u (IsWithin u) (postfix_by k s t ts next)
postfix-step a_name u s t ts next h g f = f _ (applied-within u s (head_text ts) (head_place ts) _ (with_one-within u (given []) t refl h))
postfix-step k u s t ts next h g f = (h, g)

postfix-within : (u : Ty) (s : Signature) (t : Meaning Ty) (ts : List Token) → IsWithin u t → HasAll u ts → Finds u (IsWithin u) (postfix s t ts)
postfix-within u s t [] h g = (h, tt)
postfix-within u s t (x ∷ xs) h g = postfix-step (head_kind (x ∷ xs)) u s t (x ∷ xs) (λ v. postfix s v xs) h g (λ v i. postfix-within u s v xs i g.1)

more-within : (k : Kind) (u : Ty) (next : Arguments → List Token → Front Arguments) (a : Arguments) (ts : List Token) → AreWithin u a → HasAll u ts →
    ((b : Arguments) (us : List Token) → AreWithin u b → HasAll u us → Finds u (AreWithin u) (next b us)) → Finds u (AreWithin u) (more_types k next a ts)
more-within comma u next a ts h g f = f a (tail ts) h (tail-has u ts g)
more-within k u next a ts h g f = (h, g)

pub types-within : (u : Ty) (read : List Token → Front (Meaning Ty)) (k : ℕ) (a : Arguments) (ts : List Token) → ((us : List Token) → HasAll u us → Finds u (IsWithin u) (read us)) →
    AreWithin u a → HasAll u ts → Finds u (AreWithin u) (types_at read k a ts)
unfolding types_at
types-within u read zero a ts r h g = tt
types-within u read (suc k) a ts r h g =
    bind_finds u (IsWithin u) (AreWithin u) (read ts) _ (r ts g)
    (λ t rest i j. more-within (head_kind rest) u (types_at read k) (with_one a t) rest (with_one-within u a t h i) j (λ b us l m. types-within u read k b us r l m))

tuple-step : (b : Bool) (u : Ty) (s : Signature) (a : Arguments) (ts : List Token) → AreWithin u a → HasAll u ts → Finds u (IsWithin u) (tuple_by b s a ts)
tuple-step true u s a ts h g = postfix-within u s _ (tail ts) (applied-within u s (head_text ts) (head_place ts) a h) (tail-has u ts g)
tuple-step false u s a ts h g = tt

group-within : (k : Kind) (u : Ty) (s : Signature) (read : List Token → Front (Meaning Ty)) (n : ℕ) (t : Meaning Ty) (ts : List Token) → IsTypeReader u read →
    IsWithin u t → HasAll u ts → Finds u (IsWithin u) (group_by k s read n t ts)
group-within close_paren u s read n t ts r h g = postfix-within u s t (tail ts) h (tail-has u ts g)
group-within comma u s read n t ts r h g =
    bind_finds u (AreWithin u) (IsWithin u) (types_at read n (with_one (given []) t) (tail ts) >>= (λ args rest. expect_by (is_close_paren (head_kind rest)) args rest)) (tuple s)
    (bind_finds u (AreWithin u) (AreWithin u) (types_at read n (with_one (given []) t) (tail ts)) _ (types-within u read n (with_one (given []) t) (tail ts) r (with_one-within u (given []) t refl h) (tail-has u ts g))
    (λ args rest i j. expect_finds u (AreWithin u) (is_close_paren (head_kind rest)) args rest i j))
    (λ args rest i j. tuple-step (is_name_token (head_kind rest)) u s args rest i j)
group-within k u s read n t ts r h g = tt

shown : (b : Bool) → not b ≡ false → b ≡ true
shown true e = refl
shown false e = cc

variable-head : (u : Ty) (ts : List Token) → HasAll u ts → head_kind ts ≡ a_variable → occurs (head_text ts) u ≡ true
variable-head u [] g e = cc
variable-head u (token a_variable w p ∷ ts) g e = shown (occurs w u) g.0
variable-head u (token k w p ∷ ts) g e = cc

dtype-within : (k : Kind) (u : Ty) (s : Signature) (read : List Token → Front (Meaning Ty)) (n : ℕ) (ts : List Token) → head_kind ts ≡ k → IsTypeReader u read → HasAll u ts →
    Finds u (IsWithin u) (dtype_by k s read n ts)
dtype-within a_variable u s read n ts e r g = postfix-within u s (means (ty_var (head_text ts))) (tail ts) (variable-head u ts g e) (tail-has u ts g)
dtype-within a_name u s read n ts e r g = postfix-within u s _ (tail ts) (applied-within u s (head_text ts) (head_place ts) (given []) refl) (tail-has u ts g)
dtype-within open_paren u s read n ts e r g =
    bind_finds u (IsWithin u) (IsWithin u) (read (tail ts)) _ (r (tail ts) (tail-has u ts g)) (λ t rest i j. group-within (head_kind rest) u s read n t rest r i j)
dtype-within k u s read n ts e r g = tt

dtype_at-within : (u : Ty) (s : Signature) (read : List Token → Front (Meaning Ty)) (n : ℕ) (ts : List Token) → IsTypeReader u read → HasAll u ts → Finds u (IsWithin u) (dtype_at s read n ts)
unfolding dtype_at
dtype_at-within u s read n ts r g = dtype-within (head_kind ts) u s read n ts refl r g

range-within : (k : Kind) (u : Ty) (s : Signature) (read : List Token → Front (Meaning Ty)) (t : Meaning Ty) (ts : List Token) → IsTypeReader u read → IsWithin u t → HasAll u ts →
    Finds u (IsWithin u) (range_by k s read t ts)
range-within arrow u s read t ts r h g =
    bind_finds u (IsWithin u) (IsWithin u) (read (tail ts)) _ (r (tail ts) (tail-has u ts g)) (λ v rest i j. (function-within u s (head_place ts) t v h i, j))
range-within k u s read t ts r h g = (h, g)

pub type-within : (u : Ty) (s : Signature) (n : ℕ) (ts : List Token) → HasAll u ts → Finds u (IsWithin u) (type_at s n ts)
unfolding type_at
type-within u s zero ts g = tt
type-within u s (suc n) ts g =
    bind_finds u (IsWithin u) (IsWithin u) (dtype_at s (type_at s n) n ts) _ (dtype_at-within u s (type_at s n) n ts (type-within u s n) g)
    (λ t rest i j. range-within (head_kind rest) u s (type_at s n) t rest (type-within u s n) i j)

typed-step : (b : Bool) (u : Ty) (s : Signature) (n : ℕ) (ts : List Token) → HasAll u ts → Finds u (IsWithin u) (typed_by b s n ts)
typed-step true u s n ts g = type-within u s n (tail ts) (tail-has u ts g)
typed-step false u s n ts g = tt

pub typed-within : (u : Ty) (s : Signature) (n : ℕ) (ts : List Token) → HasAll u ts → Finds u (IsWithin u) (typed_at s n ts)
unfolding typed_at
typed-within u s n ts g = typed-step (is_colon (head_kind ts)) u s n ts g
