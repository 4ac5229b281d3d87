-- A term that is read has no loose index.
use Rattle.std.proofs.Common.{◌≡◌, subst, ℕ, zero, suc, ◌+◌, Bool, true, false, List, [], ◌∷◌, Option, Some, None, cond, arith}
use Rattle.hol_terms.specs.Name.{Name}
use Rattle.hol_terms.specs.Ty.{Ty}
use Rattle.hol_terms.specs.Tm.{Tm, tm_index, tm_free, tm_const, tm_comb, tm_abs, FreeVar}
use Rattle.hol_terms.specs.Signature.{Signature}
use Rattle.hol_terms.specs.Loose.{IsClosedAt}
use Rattle.hol_terms.specs.Rules.{fits}
use Rattle.hol_terms.specs.Binding.{tm_bind, var_eq}
use Rattle.hol_terms.specs.Tokens.{Kind, a_name, open_paren, open_brace, open_bracket, equals, lambda_sign, all_sign, ex_sign, not_sign, and_sign, or_sign, implies_sign, Token, head_kind, head_text, head_place, tail}
use Rattle.hol_terms.specs.Meaning.{ill_at, Meaning, means, fault, Arguments, given, faulty, constant_of, constant_by, constant, fitted, Operand, operand, apply, equation, connective, negation, abstraction, quantified}
use Rattle.hol_text.specs.Fitting.{IsClosedMeaning}
use Rattle.hol_terms.specs.Reading.{Front, got, stop, ◌>>=◌, expect_by, Scope, innermost, stand_in, type_or_none, plain_by, braces_at, name_by, free_of, free_by, typed_at, is_close_paren, is_close_bracket, is_name_token, is_dot, Reader, atom_by, atom_at, begins_atom, atoms_by, atoms_at, application_at, infix_by, bound_at, Binder, body_at, binder_at, term_by, term_at}

-- what holds of a value that is read
abbrev Holds : {A : Type 0} → (A → Type 0) → Front A → Type 0
Holds P (got x ts) = P x
Holds P (stop p) = Unit {0}

bind_holds : {A B : Type 0} (P : A → Type 0) (Q : B → Type 0) (m : Front A) (f : A → List Token → Front B) → Holds P m → ((x : A) (ts : List Token) → P x → Holds Q (f x ts)) → Holds Q (m >>= f)
bind_holds P Q (got x ts) f h k = k x ts h
bind_holds P Q (stop p) f h k = tt

-- a step of which nothing is needed
bind_any : {A B : Type 0} (Q : B → Type 0) (m : Front A) (f : A → List Token → Front B) → ((x : A) (ts : List Token) → Holds Q (f x ts)) → Holds Q (m >>= f)
bind_any Q (got x ts) f k = k x ts
bind_any Q (stop p) f k = tt

expect_holds : {A : Type 0} (P : A → Type 0) (b : Bool) (x : A) (ts : List Token) → P x → Holds P (expect_by b x ts)
expect_holds P true x ts h = h
expect_holds P false x ts h = tt

abbrev IsClosed : Operand → Type 0
IsClosed o = IsClosedMeaning o.meaning

constant_by-closed : (b : Bool) (c : Name) (p : ℕ) (g : Ty) (a : Arguments) → IsClosedMeaning (constant_by b c p g a)
constant_by-closed true c p g (given ts) = tt
constant_by-closed true c p g (faulty k e) = tt
constant_by-closed false c p g (given ts) = tt
constant_by-closed false c p g (faulty k e) = tt

constant_of-closed : (o : Option Ty) (c : Name) (p : ℕ) (a : Arguments) → IsClosedMeaning (constant_of o c p a)
constant_of-closed None c p (given ts) = tt
constant_of-closed None c p (faulty k e) = tt
constant_of-closed (Some g) c p a = constant_by-closed _ c p g a

constant-closed : (s : Signature) (c : Name) (p : ℕ) (a : Arguments) → IsClosedMeaning (constant s c p a)
unfolding constant
constant-closed s c p a = constant_of-closed _ c p a

fitted-closed : (p : ℕ) (m n : Meaning Tm) → IsClosedMeaning m → IsClosedMeaning n → IsClosedMeaning (fitted p m n)
unfolding fitted
fitted-closed p (means f) (means x) h k = at (fits f x)
  where
    at : (b : Bool) → IsClosedMeaning (cond b (means (tm_comb f x)) (fault (ill_at p)))
    at true = (h, k)
    at false = tt
fitted-closed p (means f) (fault e) h k = tt
fitted-closed p (fault e) (means x) h k = tt
fitted-closed p (fault e) (fault d) h k = tt

apply-closed : (f x : Operand) → IsClosed f → IsClosed x → IsClosed (apply f x)
unfolding apply
apply-closed f x h k = fitted-closed f.first f.meaning x.meaning h k

connective-closed : (s : Signature) (c : Name) (p : ℕ) (a b : Operand) → IsClosed a → IsClosed b → IsClosed (connective s c p a b)
unfolding connective
connective-closed s c p a b h k = apply-closed _ b (apply-closed _ a (constant-closed s c p (given [])) h) k

equation-closed : (s : Signature) (p : ℕ) (a b : Operand) → IsClosed a → IsClosed b → IsClosed (equation s p a b)
unfolding equation
equation-closed s p a b h k = apply-closed _ b (apply-closed _ a (constant-closed s _ p _) h) k

negation-closed : (s : Signature) (p : ℕ) (a : Operand) → IsClosed a → IsClosed (negation s p a)
unfolding negation
negation-closed s p a h = apply-closed _ a (constant-closed s _ p (given [])) h

quantified-closed : (s : Signature) (c : Name) (p : ℕ) (t : Meaning Ty) (m : Meaning Tm) → IsClosedMeaning m → IsClosed (quantified s c p t m)
unfolding quantified
quantified-closed s c p t m h = apply-closed _ (operand m p) (constant-closed s c p _) h

closed-bind : (k : ℕ) (v : FreeVar) (t : Tm) → IsClosedAt k t → IsClosedAt (k + 1) (tm_bind k v t)
closed-bind k v (tm_index i t) h = omega arith
closed-bind k v (tm_free w) h = at (var_eq v w)
  where
    at : (b : Bool) → IsClosedAt (k + 1) (cond b (tm_index k w.ty) (tm_free w))
    at true = omega arith
    at false = tt
closed-bind k v (tm_const c ts t) h = tt
closed-bind k v (tm_comb f x) h = (closed-bind k v f h.0, closed-bind k v x h.1)
closed-bind k v (tm_abs t b) h = closed-bind (k + 1) v b h

abstraction-closed : (t : Meaning Ty) (v : FreeVar) (m : Meaning Tm) → IsClosedMeaning m → IsClosedMeaning (abstraction t v m)
abstraction-closed (means t) v (means b) h = closed-bind 0 v b h
abstraction-closed (means t) v (fault e) h = tt
abstraction-closed (fault e) v (means b) h = tt
abstraction-closed (fault e) v (fault d) h = tt

plain-closed : (o : Option FreeVar) (s : Signature) (n : Name) (p : ℕ) → IsClosedMeaning (plain_by o s n p)
plain-closed (Some v) s n p = tt
plain-closed None s n p = constant-closed s n p (given [])

free-closed : (n : Name) (t : Meaning Ty) → IsClosedMeaning (free_of n t)
free-closed n (means t) = tt
free-closed n (fault e) = tt

-- ---- by the grammar

abbrev IsReader : Reader → Type 0
IsReader read = (b : Scope) (ts : List Token) → Holds IsClosed (read b ts)

name-holds : (k : Kind) (s : Signature) (n : ℕ) (b : Scope) (c : Name) (p : ℕ) (ts : List Token) → Holds IsClosed (name_by k s n b c p ts)
name-holds open_brace s n b c p ts = bind_any IsClosed (braces_at s n (tail ts)) _ (λ args rest. constant-closed s c p args)
name-holds k s n b c p ts = plain-closed (innermost b c) s c p

free-holds : (q : Bool) (s : Signature) (n p : ℕ) (ts : List Token) → Holds IsClosed (free_by q s n p ts)
free-holds true s n p ts =
    bind_any IsClosed (typed_at s n (tail ts)) _ (λ t rest. expect_holds IsClosed (is_close_bracket (head_kind rest)) (operand (free_of (head_text ts) t) p) rest (free-closed (head_text ts) t))
free-holds false s n p ts = tt

atom-holds : (k : Kind) (s : Signature) (read : Reader) (n : ℕ) (b : Scope) (ts : List Token) → IsReader read → Holds IsClosed (atom_by k s read n b ts)
atom-holds a_name s read n b ts h = name-holds (head_kind (tail ts)) s n b (head_text ts) (head_place ts) (tail ts)
atom-holds open_bracket s read n b ts h = free-holds (is_name_token (head_kind (tail ts))) s n (head_place ts) (tail ts)
atom-holds open_paren s read n b ts h =
    bind_holds IsClosed IsClosed (read b (tail ts)) _ (h b (tail ts)) (λ t rest i. expect_holds IsClosed (is_close_paren (head_kind rest)) t rest i)
atom-holds k s read n b ts h = tt

atom_at-holds : (s : Signature) (read : Reader) (n : ℕ) (b : Scope) (ts : List Token) → IsReader read → Holds IsClosed (atom_at s read n b ts)
unfolding atom_at
atom_at-holds s read n b ts h = atom-holds (head_kind ts) s read n b ts h

atoms-holds : (q : Bool) (read : List Token → Front Operand) (next : Operand → List Token → Front Operand) (f : Operand) (ts : List Token) →
    ((us : List Token) → Holds IsClosed (read us)) → ((g : Operand) (us : List Token) → IsClosed g → Holds IsClosed (next g us)) → IsClosed f → Holds IsClosed (atoms_by q read next f ts)
atoms-holds true read next f ts r n h = bind_holds IsClosed IsClosed (read ts) _ (r ts) (λ x rest i. n (apply f x) rest (apply-closed f x h i))
atoms-holds false read next f ts r n h = h

atoms_at-holds : (read : List Token → Front Operand) (k : ℕ) (f : Operand) (ts : List Token) → ((us : List Token) → Holds IsClosed (read us)) → IsClosed f → Holds IsClosed (atoms_at read k f ts)
unfolding atoms_at
atoms_at-holds read zero f ts r h = tt
atoms_at-holds read (suc k) f ts r h = atoms-holds (begins_atom (head_kind ts)) read (atoms_at read k) f ts r (λ g us i. atoms_at-holds read k g us r i) h

application-holds : (s : Signature) (read : Reader) (n : ℕ) (b : Scope) (ts : List Token) → IsReader read → Holds IsClosed (application_at s read n b ts)
unfolding application_at
application-holds s read n b ts h =
    bind_holds IsClosed IsClosed (atom_at s read n b ts) _ (atom_at-holds s read n b ts h) (λ f rest i. atoms_at-holds (atom_at s read n b) n f rest (λ us. atom_at-holds s read n b us h) i)

infix-holds : (k : Kind) (s : Signature) (read : List Token → Front Operand) (a : Operand) (ts : List Token) → ((us : List Token) → Holds IsClosed (read us)) → IsClosed a → Holds IsClosed (infix_by k s read a ts)
infix-holds equals s read a ts r h = bind_holds IsClosed IsClosed (read (tail ts)) _ (r (tail ts)) (λ x rest i. equation-closed s (head_place ts) a x h i)
infix-holds and_sign s read a ts r h = bind_holds IsClosed IsClosed (read (tail ts)) _ (r (tail ts)) (λ x rest i. connective-closed s _ (head_place ts) a x h i)
infix-holds or_sign s read a ts r h = bind_holds IsClosed IsClosed (read (tail ts)) _ (r (tail ts)) (λ x rest i. connective-closed s _ (head_place ts) a x h i)
infix-holds implies_sign s read a ts r h = bind_holds IsClosed IsClosed (read (tail ts)) _ (r (tail ts)) (λ x rest i. connective-closed s _ (head_place ts) a x h i)
infix-holds k s read a ts r h = h

abbrev IsClosedBinder : Binder → Type 0
IsClosedBinder x = IsClosedMeaning x.1

body-holds : (read : Reader) (b : Scope) (n : Name) (t : Meaning Ty) (ts : List Token) → IsReader read → Holds IsClosedBinder (body_at read b n t ts)
unfolding body_at
body-holds read b n t ts h =
    bind_holds IsClosed IsClosedBinder (read ((n, stand_in b n (type_or_none t)) ∷ b) ts) _ (h ((n, stand_in b n (type_or_none t)) ∷ b) ts) (λ x rest i. abstraction-closed t (stand_in b n (type_or_none t)) x.meaning i)

binder-holds : (s : Signature) (read : Reader) (n : ℕ) (b : Scope) (ts : List Token) → IsReader read → Holds IsClosedBinder (binder_at s read n b ts)
unfolding binder_at
binder-holds s read n b ts h =
    bind_any IsClosedBinder (bound_at ts) _ (λ x rest. bind_any IsClosedBinder (typed_at s n rest) _ (λ t after. bind_any IsClosedBinder (expect_by (is_dot (head_kind after)) t after) _ (λ u us. body-holds read b x u us h)))

term-holds : (k : Kind) (s : Signature) (read : Reader) (n : ℕ) (b : Scope) (ts : List Token) → IsReader read → Holds IsClosed (term_by k s read n b ts)
term-holds lambda_sign s read n b ts h = bind_holds IsClosedBinder IsClosed (binder_at s read n b (tail ts)) _ (binder-holds s read n b (tail ts) h) (λ x rest i. i)
term-holds all_sign s read n b ts h = bind_holds IsClosedBinder IsClosed (binder_at s read n b (tail ts)) _ (binder-holds s read n b (tail ts) h) (λ x rest i. quantified-closed s _ (head_place ts) x.0 x.1 i)
term-holds ex_sign s read n b ts h = bind_holds IsClosedBinder IsClosed (binder_at s read n b (tail ts)) _ (binder-holds s read n b (tail ts) h) (λ x rest i. quantified-closed s _ (head_place ts) x.0 x.1 i)
term-holds not_sign s read n b ts h = bind_holds IsClosed IsClosed (application_at s read n b (tail ts)) _ (application-holds s read n b (tail ts) h) (λ x rest i. negation-closed s (head_place ts) x i)
term-holds k s read n b ts h =
    bind_holds IsClosed IsClosed (application_at s read n b ts) _ (application-holds s read n b ts h) (λ a rest i. infix-holds (head_kind rest) s (application_at s read n b) a rest (λ us. application-holds s read n b us h) i)

term_at-holds : (s : Signature) (n : ℕ) → IsReader (term_at s n)
unfolding term_at
term_at-holds s zero b ts = tt
term_at-holds s (suc n) b ts = term-holds (head_kind ts) s (term_at s n) n b ts (term_at-holds s n)

pub term_at-closed : (s : Signature) (n : ℕ) (b : Scope) (ts : List Token) (x : Operand) (rest : List Token) → term_at s n b ts ≡ got x rest → IsClosedMeaning x.meaning
term_at-closed s n b ts x rest h = subst (Holds IsClosed) h (term_at-holds s n b ts)

pub ruleset closed_lemmas = (term_at-closed)
