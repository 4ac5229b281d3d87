-- A term that is read is well typed over the signature, where the constants have types of the signature.
use Rattle.std.proofs.Common.{◌≡◌, refl, sym, ap, ◌∙◌, subst, ℕ, zero, suc, ◌+◌, ◌==◌, Bool, true, false, ◌||◌, cond, List, [], ◌∷◌, ◌++◌, length, slice_get, Option, Some, None, eqb-true, add-one}
use Rattle.std.specs.Prelude.{bytes_eq}
use Rattle.std.specs.Ordering.{is_eq}
use Rattle.std.specs.Str.{IsUtf8}
use Rattle.std.proofs.lemmas.Bool.{and_from, or_left, or_right}
use Rattle.std.proofs.lemmas.Map.Text.{is_eq-slice_cmp}
use Rattle.hol_terms.specs.Name.{Name, is_name}
use Rattle.hol_terms.specs.Ty.{Ty, tys}
use Rattle.hol_terms.specs.Tm.{Tm, tm_index, tm_free, tm_const, tm_comb, tm_abs, FreeVar}
use Rattle.hol_terms.specs.Typing.{tm_type, range_ty, fun_ty, fun_name}
use Rattle.hol_terms.specs.Signature.{Signature, arity_of, generic_of, IsTyOver, AreTysOver, IsConstOver, IsOver}
use Rattle.hol_terms.specs.Subst.{name_cmp, ty_cmp}
use Rattle.hol_terms.specs.TyVars.{ty_vars, pairs_of, instance_at}
use Rattle.hol_terms.specs.Binding.{tm_bind, var_eq}
use Rattle.hol_terms.specs.Proves.{AreTypesOver}
use Rattle.hol_terms.specs.Rules.{fits}
use Rattle.hol_terms.proofs.Order.{var_eq-same}
use Rattle.hol_terms.proofs.KeptTypes.{tm_type-bind}
use Rattle.hol_terms.proofs.InstLemmas.{slice_get-append}
use Rattle.hol_terms.proofs.Tables.{same_bytes}
use Rattle.hol_terms.proofs.TypeInst.{gives_over, IsTyOver-subst}
use Rattle.hol_text.specs.Over.{GivesTypes}
use Rattle.hol_terms.specs.Tokens.{Kind, a_name, open_paren, open_brace, open_bracket, equals, lambda_sign, all_sign, ex_sign, not_sign, and_sign, or_sign, implies_sign, the_end, Token, token, head_kind, head_text, head_place, tail, tokens}
use Rattle.hol_terms.specs.Meaning.{unknown_at, ill_at, Meaning, means, fault, Arguments, given, faulty, count, constant_of, constant_by, constant, fitted, Operand, operand, apply, type_of, equation, connective, negation, abstraction, quantified}
use Rattle.hol_terms.specs.Reading.{Front, got, stop, expect_by, Scope, innermost, stand_in, type_or_none, plain_by, braces_at, name_by, free_of, free_by, type_at, types_at, typed_at, is_close_paren, is_close_brace, is_close_bracket, is_name_token, is_dot, is_dotted, Reader, atom_by, atom_at, begins_atom, atoms_by, atoms_at, application_at, infix_by, bound_by, bound_at, Binder, body_at, binder_at, term_by, term_at, reads, ended, whole, only_meaning, reading_of_type, reading_of_term}
use Rattle.hol_text.proofs.Fits.{eq-then, itself, takes_if}
use Rattle.hol_text.proofs.GoodTokens.{AreGood, tokens-good}
use Rattle.hol_text.proofs.OverTypes.{Finds, bind_finds, tail-good, expect_finds, OverType, OverTypes, with_one-over, types-over, type-over, typed-over}

-- ---- terms in a scope

abbrev is_in : Scope → FreeVar → Bool
is_in [] w = false
is_in (e ∷ b) w = var_eq e.1 w || is_in b w

-- a free variable has a name, or stands for one that a binder around binds
abbrev OverIn : Signature → Scope → List Ty → Tm → Type 0
OverIn s b bound (tm_index i t) = (slice_get bound i ≡ Some t) × IsTyOver s t
OverIn s b bound (tm_free v) = ((is_name v.name || is_in b v) ≡ true) × IsTyOver s v.ty
OverIn s b bound (tm_const c ts t) = IsConstOver s c ts t
OverIn s b bound (tm_comb f x) = OverIn s b bound f × OverIn s b bound x × (tm_type f ≡ fun_ty (tm_type x) (range_ty (tm_type f)))
OverIn s b bound (tm_abs t u) = IsTyOver s t × OverIn s b (t ∷ bound) u

or_none : (b : Bool) → (b || false) ≡ b
or_none true = refl
or_none false = refl

at-top : (s : Signature) (bound : List Ty) (t : Tm) → OverIn s [] bound t → IsOver s bound t
at-top s bound (tm_index i t) h = h
at-top s bound (tm_free v) h = (sym (or_none (is_name v.name)) ∙ h.0, h.1)
at-top s bound (tm_const c ts t) h = h
at-top s bound (tm_comb f x) h = (at-top s bound f h.0, at-top s bound x h.1, h.2)
at-top s bound (tm_abs t u) h = (h.0, at-top s (t ∷ bound) u h.1)

type-in : (s : Signature) → arity_of s fun_name ≡ Some 2 → (b : Scope) (bound : List Ty) (t : Tm) → OverIn s b bound t → IsTyOver s (tm_type t)
type-in s k b bound (tm_index i t) h = h.1
type-in s k b bound (tm_free v) h = h.1
type-in s k b bound (tm_const c ts t) h = h.ty_over
type-in s k b bound (tm_comb f x) h =
    let e : IsTyOver s (fun_ty (tm_type x) (range_ty (tm_type f))) = subst (IsTyOver s) h.2 (type-in s k b bound f h.0) in
    e.1.1.0
type-in s k b bound (tm_abs t u) h = (k, (h.0, (type-in s k b (t ∷ bound) u h.1, tt)))

get_last : (bound : List Ty) (t : Ty) → slice_get (bound ++ t ∷ []) (length bound) ≡ Some t
get_last [] t = refl
get_last (u ∷ bound) t = get_last bound t

bind-in : (s : Signature) (b : Scope) (n : Name) (v : FreeVar) (bound : List Ty) (t : Tm) → OverIn s ((n, v) ∷ b) bound t → OverIn s b (bound ++ v.ty ∷ []) (tm_bind (length bound) v t)
bind-in s b n v bound (tm_index i t) h = (slice_get-append bound (v.ty ∷ []) i t h.0, h.1)
bind-in s b n v bound (tm_free w) h = at (var_eq v w) refl
  where
    at : (q : Bool) → var_eq v w ≡ q → OverIn s b (bound ++ v.ty ∷ []) (cond q (tm_index (length bound) w.ty) (tm_free w))
    at true e = (get_last bound v.ty ∙ ap (λ (u : FreeVar). Some u.ty) (var_eq-same v w e), h.1)
    at false e = (sym (ap (λ (q : Bool). is_name w.name || (q || is_in b w)) e) ∙ h.0, h.1)
bind-in s b n v bound (tm_const c ts t) h = h
bind-in s b n v bound (tm_comb f x) h = (
  bind-in s b n v bound f h.0,
  bind-in s b n v bound x h.1,
  tm_type-bind (length bound) v f ∙ h.2 ∙ sym (λ i. fun_ty (tm_type-bind (length bound) v x i) (range_ty (tm_type-bind (length bound) v f i))),
)
bind-in s b n v bound (tm_abs t u) h = (h.0, rw (add-one) (bind-in s b n v (t ∷ bound) u h.1))

-- ---- what is read, where the types of the binders around are well formed

abbrev IsScope : Signature → Scope → Type 0
IsScope s [] = Unit {0}
IsScope s (e ∷ b) = IsTyOver s e.1.ty × IsScope s b

abbrev OverTerm : Signature → Scope → Meaning Tm → Type 0
OverTerm s b (means t) = IsScope s b → OverIn s b [] t
OverTerm s b (fault e) = Unit {0}

abbrev OverOperand : Signature → Scope → Operand → Type 0
OverOperand s b o = OverTerm s b o.meaning

pairs-over : (s : Signature) (vs ts : List Ty) → AreTysOver s (tys ts) → AreTypesOver s (pairs_of vs ts)
pairs-over s [] ts h = tt
pairs-over s (v ∷ vs) [] h = tt
pairs-over s (v ∷ vs) (t ∷ ts) h = (h.0, pairs-over s vs ts h.1)

instance-over : (s : Signature) (c : Name) (g : Ty) (ts : List Ty) → GivesTypes s → generic_of s c ≡ Some g → (length (ty_vars g []) == length ts) ≡ true → AreTysOver s (tys ts) → IsConstOver s c ts (instance_at g ts)
instance-over s c g ts k e n h = record {
  generic = g;
  known = e;
  as_many = sym (eqb-true (length (ty_vars g [])) (length ts) n);
  instance = refl;
  over = h;
  ty_over = IsTyOver-subst s (pairs_of (ty_vars g []) ts) g (gives_over s (pairs_of (ty_vars g []) ts) (pairs-over s (ty_vars g []) ts h)) (k.generics c g e);
}

constant_by-over : (s : Signature) (b : Scope) (c : Name) (p : ℕ) (g : Ty) (a : Arguments) → GivesTypes s → generic_of s c ≡ Some g → (IsScope s b → OverTypes s a) →
    OverTerm s b (constant_by (length (ty_vars g []) == count a) c p g a)
constant_by-over s b c p g (given ts) k e h = at (length (ty_vars g []) == length ts) refl
  where
    at : (q : Bool) → (length (ty_vars g []) == length ts) ≡ q → OverTerm s b (constant_by q c p g (given ts))
    at true n = λ ok. instance-over s c g ts k e n (h ok)
    at false n = tt
constant_by-over s b c p g (faulty j d) k e h = at (length (ty_vars g []) == j)
  where
    at : (q : Bool) → OverTerm s b (constant_by q c p g (faulty j d))
    at true = tt
    at false = tt

constant-over : (s : Signature) (b : Scope) (c : Name) (p : ℕ) (a : Arguments) → GivesTypes s → (IsScope s b → OverTypes s a) → OverTerm s b (constant s c p a)
unfolding constant
constant-over s b c p a k h = at (generic_of s c) a refl h
  where
    at : (o : Option Ty) (d : Arguments) → generic_of s c ≡ o → (IsScope s b → OverTypes s d) → OverTerm s b (constant_of o c p d)
    at None (given ts) e i = tt
    at None (faulty j d) e i = tt
    at (Some g) d e i = constant_by-over s b c p g d k e i

fitted-over : (s : Signature) (b : Scope) (p : ℕ) (m n : Meaning Tm) → OverTerm s b m → OverTerm s b n → OverTerm s b (fitted p m n)
unfolding fitted
fitted-over s b p (means f) (means x) h k = at (fits f x) refl
  where
    at : (q : Bool) → fits f x ≡ q → OverTerm s b (cond q (means (tm_comb f x)) (fault (ill_at p)))
    at true e = λ ok. (h ok, k ok, takes_if f x e)
    at false e = tt
fitted-over s b p (means f) (fault e) h k = tt
fitted-over s b p (fault e) (means x) h k = tt
fitted-over s b p (fault e) (fault d) h k = tt

apply-over : (s : Signature) (b : Scope) (f x : Operand) → OverOperand s b f → OverOperand s b x → OverOperand s b (apply f x)
unfolding apply
apply-over s b f x h k = fitted-over s b f.first f.meaning x.meaning h k

type_of-over : (s : Signature) (b : Scope) (m : Meaning Tm) → GivesTypes s → OverTerm s b m → IsScope s b → OverType s (type_of m)
type_of-over s b (means t) k h ok = type-in s k.fun_takes_two b [] t (h ok)
type_of-over s b (fault e) k h ok = tt

connective-over : (s : Signature) (b : Scope) (c : Name) (p : ℕ) (x y : Operand) → GivesTypes s → OverOperand s b x → OverOperand s b y → OverOperand s b (connective s c p x y)
unfolding connective
connective-over s b c p x y k h i = apply-over s b _ y (apply-over s b _ x (constant-over s b c p (given []) k (λ ok. tt)) h) i

equation-over : (s : Signature) (b : Scope) (p : ℕ) (x y : Operand) → GivesTypes s → OverOperand s b x → OverOperand s b y → OverOperand s b (equation s p x y)
unfolding equation
equation-over s b p x y k h i =
    apply-over s b _ y (apply-over s b _ x (constant-over s b _ p _ k (λ ok. with_one-over s (given []) (type_of x.meaning) tt (type_of-over s b x.meaning k h ok))) h) i

negation-over : (s : Signature) (b : Scope) (p : ℕ) (x : Operand) → GivesTypes s → OverOperand s b x → OverOperand s b (negation s p x)
unfolding negation
negation-over s b p x k h = apply-over s b _ x (constant-over s b _ p (given []) k (λ ok. tt)) h

quantified-over : (s : Signature) (b : Scope) (c : Name) (p : ℕ) (t : Meaning Ty) (m : Meaning Tm) → GivesTypes s → OverType s t → OverTerm s b m → OverOperand s b (quantified s c p t m)
unfolding quantified
quantified-over s b c p t m k h i = apply-over s b _ (operand m p) (constant-over s b c p _ k (λ ok. with_one-over s (given []) t tt h)) i

abstraction-over : (s : Signature) (b : Scope) (n : Name) (t : Meaning Ty) (m : Meaning Tm) → OverType s t → OverTerm s ((n, stand_in b n (type_or_none t)) ∷ b) m →
    OverTerm s b (abstraction t (stand_in b n (type_or_none t)) m)
abstraction-over s b n (means t) (means u) h k = λ ok. (h, bind-in s b n (stand_in b n t) [] u (k (h, ok)))
abstraction-over s b n (means t) (fault e) h k = tt
abstraction-over s b n (fault e) (means u) h k = tt
abstraction-over s b n (fault e) (fault d) h k = tt

-- ---- names

itself-var : (v : FreeVar) → var_eq v v ≡ true
itself-var v = eq-then (name_cmp v.name v.name) (ty_cmp v.ty v.ty) ∙ and_from _ _ (is_eq-slice_cmp v.name v.name ∙ same_bytes v.name) (ap is_eq (itself v.ty))

innermost-over : (s : Signature) (b : Scope) (n : Name) (v : FreeVar) → innermost b n ≡ Some v → (is_in b v ≡ true) × (IsScope s b → IsTyOver s v.ty)
innermost-over s [] n v e = cc
innermost-over s (x ∷ b) n v e = at (bytes_eq x.0 n) (innermost-over s b n v) e
  where
    at : (q : Bool) → (innermost b n ≡ Some v → (is_in b v ≡ true) × (IsScope s b → IsTyOver s v.ty)) → cond q (Some x.1) (innermost b n) ≡ Some v →
        ((var_eq x.1 v || is_in b v) ≡ true) × (IsTyOver s x.1.ty × IsScope s b → IsTyOver s v.ty)
    at true f g =
        let same : x.1 ≡ v = cc in
        (or_left (var_eq x.1 v) (is_in b v) (ap (λ (u : FreeVar). var_eq u v) same ∙ itself-var v), λ ok. subst (λ (u : FreeVar). IsTyOver s u.ty) same ok.0)
    at false f g = let r = f g in (or_right (var_eq x.1 v) (is_in b v) r.0, λ ok. r.1 ok.1)

plain-over : (s : Signature) (b : Scope) (n : Name) (p : ℕ) → GivesTypes s → OverTerm s b (plain_by (innermost b n) s n p)
plain-over s b n p k = at (innermost b n) refl
  where
    at : (o : Option FreeVar) → innermost b n ≡ o → OverTerm s b (plain_by o s n p)
    at None e = constant-over s b n p (given []) k (λ ok. tt)
    at (Some v) e = let r = innermost-over s b n v e in λ ok. (or_right (is_name v.name) (is_in b v) r.0, r.1 ok)

free-over : (s : Signature) (b : Scope) (n : Name) (t : Meaning Ty) → is_name n ≡ true → OverType s t → OverTerm s b (free_of n t)
free-over s b n (means t) e h = λ ok. (or_left (is_name n) _ e, h)
free-over s b n (fault d) e h = tt

name-head : (ts : List Token) → AreGood ts → is_name_token (head_kind ts) ≡ true → is_name (head_text ts) ≡ true
name-head [] g e = cc
name-head (token a_name w p ∷ ts) g e = g.0
name-head (token k w p ∷ ts) g e = cc

-- ---- by the grammar

abbrev IsOverReader : Signature → Reader → Type 0
IsOverReader s read = (b : Scope) (ts : List Token) → AreGood ts → Finds (OverOperand s b) (read b ts)

braces-over : (s : Signature) (n : ℕ) (ts : List Token) → AreGood ts → Finds (OverTypes s) (braces_at s n ts)
unfolding braces_at
braces-over s n ts g =
    bind_finds (OverTypes s) (OverTypes s) (types_at (type_at s n) n (given []) ts) _ (types-over s (type_at s n) n (given []) ts (type-over s n) tt g)
    (λ args rest i j. expect_finds (OverTypes s) (is_close_brace (head_kind rest)) args rest i j)

named-over : (k : Kind) (s : Signature) (n : ℕ) (b : Scope) (c : Name) (p : ℕ) (ts : List Token) → GivesTypes s → AreGood ts → Finds (OverOperand s b) (name_by k s n b c p ts)
named-over open_brace s n b c p ts k g =
    bind_finds (OverTypes s) (OverOperand s b) (braces_at s n (tail ts)) _ (braces-over s n (tail ts) (tail-good ts g)) (λ args rest i j. (constant-over s b c p args k (λ ok. i), j))
named-over q s n b c p ts k g = (plain-over s b c p k, g)

bracket-over : (q : Bool) (s : Signature) (n p : ℕ) (b : Scope) (ts : List Token) → is_name_token (head_kind ts) ≡ q → AreGood ts → Finds (OverOperand s b) (free_by q s n p ts)
bracket-over true s n p b ts e g =
    bind_finds (OverType s) (OverOperand s b) (typed_at s n (tail ts)) _ (typed-over s n (tail ts) (tail-good ts g))
    (λ t rest i j. expect_finds (OverOperand s b) (is_close_bracket (head_kind rest)) (operand (free_of (head_text ts) t) p) rest (free-over s b (head_text ts) t (name-head ts g e) i) j)
bracket-over false s n p b ts e g = tt

atom-over : (k : Kind) (s : Signature) (read : Reader) (n : ℕ) (b : Scope) (ts : List Token) → GivesTypes s → IsOverReader s read → AreGood ts → Finds (OverOperand s b) (atom_by k s read n b ts)
atom-over a_name s read n b ts k r g = named-over (head_kind (tail ts)) s n b (head_text ts) (head_place ts) (tail ts) k (tail-good ts g)
atom-over open_bracket s read n b ts k r g = bracket-over (is_name_token (head_kind (tail ts))) s n (head_place ts) b (tail ts) refl (tail-good ts g)
atom-over open_paren s read n b ts k r g =
    bind_finds (OverOperand s b) (OverOperand s b) (read b (tail ts)) _ (r b (tail ts) (tail-good ts g)) (λ t rest i j. expect_finds (OverOperand s b) (is_close_paren (head_kind rest)) t rest i j)
atom-over q s read n b ts k r g = tt

atom_at-over : (s : Signature) (read : Reader) (n : ℕ) (b : Scope) (ts : List Token) → GivesTypes s → IsOverReader s read → AreGood ts → Finds (OverOperand s b) (atom_at s read n b ts)
unfolding atom_at
atom_at-over s read n b ts k r g = atom-over (head_kind ts) s read n b ts k r g

atoms-step : (q : Bool) (s : Signature) (b : Scope) (read : List Token → Front Operand) (next : Operand → List Token → Front Operand) (f : Operand) (ts : List Token) →
    ((us : List Token) → AreGood us → Finds (OverOperand s b) (read us)) → ((x : Operand) (us : List Token) → OverOperand s b x → AreGood us → Finds (OverOperand s b) (next x us)) →
    OverOperand s b f → AreGood ts → Finds (OverOperand s b) (atoms_by q read next f ts)
atoms-step true s b read next f ts r n h g = bind_finds (OverOperand s b) (OverOperand s b) (read ts) _ (r ts g) (λ x rest i j. n (apply f x) rest (apply-over s b f x h i) j)
atoms-step false s b read next f ts r n h g = (h, g)

atoms-over : (s : Signature) (b : Scope) (read : List Token → Front Operand) (k : ℕ) (f : Operand) (ts : List Token) → ((us : List Token) → AreGood us → Finds (OverOperand s b) (read us)) →
    OverOperand s b f → AreGood ts → Finds (OverOperand s b) (atoms_at read k f ts)
unfolding atoms_at
atoms-over s b read zero f ts r h g = tt
atoms-over s b read (suc k) f ts r h g = atoms-step (begins_atom (head_kind ts)) s b read (atoms_at read k) f ts r (λ x us i j. atoms-over s b read k x us r i j) h g

application-over : (s : Signature) (read : Reader) (n : ℕ) (b : Scope) (ts : List Token) → GivesTypes s → IsOverReader s read → AreGood ts → Finds (OverOperand s b) (application_at s read n b ts)
unfolding application_at
application-over s read n b ts k r g =
    bind_finds (OverOperand s b) (OverOperand s b) (atom_at s read n b ts) _ (atom_at-over s read n b ts k r g)
    (λ f rest i j. atoms-over s b (atom_at s read n b) n f rest (λ us l. atom_at-over s read n b us k r l) i j)

infix-over : (q : Kind) (s : Signature) (b : Scope) (read : List Token → Front Operand) (a : Operand) (ts : List Token) → GivesTypes s → ((us : List Token) → AreGood us → Finds (OverOperand s b) (read us)) →
    OverOperand s b a → AreGood ts → Finds (OverOperand s b) (infix_by q s read a ts)
infix-over equals s b read a ts k r h g = bind_finds (OverOperand s b) (OverOperand s b) (read (tail ts)) _ (r (tail ts) (tail-good ts g)) (λ x rest i j. (equation-over s b (head_place ts) a x k h i, j))
infix-over and_sign s b read a ts k r h g = bind_finds (OverOperand s b) (OverOperand s b) (read (tail ts)) _ (r (tail ts) (tail-good ts g)) (λ x rest i j. (connective-over s b _ (head_place ts) a x k h i, j))
infix-over or_sign s b read a ts k r h g = bind_finds (OverOperand s b) (OverOperand s b) (read (tail ts)) _ (r (tail ts) (tail-good ts g)) (λ x rest i j. (connective-over s b _ (head_place ts) a x k h i, j))
infix-over implies_sign s b read a ts k r h g = bind_finds (OverOperand s b) (OverOperand s b) (read (tail ts)) _ (r (tail ts) (tail-good ts g)) (λ x rest i j. (connective-over s b _ (head_place ts) a x k h i, j))
infix-over q s b read a ts k r h g = (h, g)

abbrev OverBinder : Signature → Scope → Binder → Type 0
OverBinder s b x = OverType s x.0 × OverTerm s b x.1

body-over : (s : Signature) (read : Reader) (b : Scope) (n : Name) (t : Meaning Ty) (ts : List Token) → IsOverReader s read → OverType s t → AreGood ts → Finds (OverBinder s b) (body_at read b n t ts)
unfolding body_at
body-over s read b n t ts r h g =
    bind_finds (OverOperand s ((n, stand_in b n (type_or_none t)) ∷ b)) (OverBinder s b) (read ((n, stand_in b n (type_or_none t)) ∷ b) ts) _ (r ((n, stand_in b n (type_or_none t)) ∷ b) ts g)
    (λ x rest i j. ((h, abstraction-over s b n t x.meaning h i), j))

abbrev Any : Name → Type 0
Any n = Unit {0}

bound-step : (p q : Bool) (ts : List Token) → AreGood ts → Finds Any (bound_by p q ts)
bound-step true false ts g = (tt, tail-good ts g)
bound-step true true ts g = tt
bound-step false q ts g = tt

bound-over : (ts : List Token) → AreGood ts → Finds Any (bound_at ts)
unfolding bound_at
bound-over ts g = bound-step (is_name_token (head_kind ts)) (is_dotted (head_text ts)) ts g

binder-over : (s : Signature) (read : Reader) (n : ℕ) (b : Scope) (ts : List Token) → IsOverReader s read → AreGood ts → Finds (OverBinder s b) (binder_at s read n b ts)
unfolding binder_at
binder-over s read n b ts r g =
    bind_finds Any (OverBinder s b) (bound_at ts) _ (bound-over ts g)
    (λ x rest i j. bind_finds (OverType s) (OverBinder s b) (typed_at s n rest) _ (typed-over s n rest j)
    (λ t after h l. bind_finds (OverType s) (OverBinder s b) (expect_by (is_dot (head_kind after)) t after) (body_at read b x) (expect_finds (OverType s) (is_dot (head_kind after)) t after h l)
    (λ u us m o. body-over s read b x u us r m o)))

term-step : (q : Kind) (s : Signature) (read : Reader) (n : ℕ) (b : Scope) (ts : List Token) → GivesTypes s → IsOverReader s read → AreGood ts → Finds (OverOperand s b) (term_by q s read n b ts)
term-step lambda_sign s read n b ts k r g = bind_finds (OverBinder s b) (OverOperand s b) (binder_at s read n b (tail ts)) _ (binder-over s read n b (tail ts) r (tail-good ts g)) (λ x rest i j. (i.1, j))
term-step all_sign s read n b ts k r g =
    bind_finds (OverBinder s b) (OverOperand s b) (binder_at s read n b (tail ts)) _ (binder-over s read n b (tail ts) r (tail-good ts g)) (λ x rest i j. (quantified-over s b _ (head_place ts) x.0 x.1 k i.0 i.1, j))
term-step ex_sign s read n b ts k r g =
    bind_finds (OverBinder s b) (OverOperand s b) (binder_at s read n b (tail ts)) _ (binder-over s read n b (tail ts) r (tail-good ts g)) (λ x rest i j. (quantified-over s b _ (head_place ts) x.0 x.1 k i.0 i.1, j))
term-step not_sign s read n b ts k r g =
    bind_finds (OverOperand s b) (OverOperand s b) (application_at s read n b (tail ts)) _ (application-over s read n b (tail ts) k r (tail-good ts g)) (λ x rest i j. (negation-over s b (head_place ts) x k i, j))
term-step q s read n b ts k r g =
    bind_finds (OverOperand s b) (OverOperand s b) (application_at s read n b ts) _ (application-over s read n b ts k r g)
    (λ a rest i j. infix-over (head_kind rest) s b (application_at s read n b) a rest k (λ us l. application-over s read n b us k r l) i j)

term-over : (s : Signature) (n : ℕ) → GivesTypes s → IsOverReader s (term_at s n)
unfolding term_at
term-over s zero k b ts g = tt
term-over s (suc n) k b ts g = term-step (head_kind ts) s (term_at s n) n b ts k (term-over s n k) g

-- ---- whole texts

ended-reads : {A : Type 0} (q : Kind) (m : Meaning A) (ts : List Token) (x : A) → ended q m ts ≡ reads x → m ≡ means x
ended-reads the_end (means y) ts x e = cc
ended-reads the_end (fault (unknown_at n p)) ts x e = cc
ended-reads the_end (fault (ill_at p)) ts x e = cc
ended-reads q m ts x e = cc

type-whole : (s : Signature) (f : Front (Meaning Ty)) (t : Ty) → Finds (OverType s) f → whole f ≡ reads t → IsTyOver s t
type-whole s (got m ts) t h e = subst (OverType s) (ended-reads (head_kind ts) m ts t e) h.0
type-whole s (stop p) t h e = cc

pub type_read-over : (s : Signature) (text : List ℕ) (t : Ty) → IsUtf8 text → reading_of_type s text ≡ reads t → IsTyOver s t
unfolding reading_of_type
type_read-over s text t u e = type-whole s (type_at s (length text + 1) (tokens text)) t (type-over s (length text + 1) (tokens text) (tokens-good text u)) e

term-whole : (s : Signature) (f : Front Operand) (t : Tm) → Finds (OverOperand s []) f → whole (only_meaning f) ≡ reads t → IsOver s [] t
term-whole s (got o ts) t h e = at-top s [] t (subst (OverTerm s []) (ended-reads (head_kind ts) o.meaning ts t e) h.0 tt)
term-whole s (stop p) t h e = cc

pub term_read-over : (s : Signature) (text : List ℕ) (t : Tm) → GivesTypes s → IsUtf8 text → reading_of_term s text ≡ reads t → IsOver s [] t
unfolding reading_of_term
term_read-over s text t k u e = term-whole s (term_at s (length text + 1) [] (tokens text)) t (term-over s (length text + 1) k [] (tokens text) (tokens-good text u)) e

-- what is read as a term at the front of tokens, outside of binders, is well typed
abbrev pub IsTopTerm : Signature → Operand → Type 0
IsTopTerm s x = (t : Tm) → x.meaning ≡ means t → IsOver s [] t

top_found : (s : Signature) (f : Front Operand) → Finds (OverOperand s []) f → Finds (IsTopTerm s) f
top_found s (got x ts) h = (λ t m. at-top s [] t (subst (OverTerm s []) m h.0 tt), h.1)
top_found s (stop p) h = tt

pub top_term-over : (s : Signature) (n : ℕ) (ts : List Token) → GivesTypes s → AreGood ts → Finds (IsTopTerm s) (term_at s n [] ts)
top_term-over s n ts k g = top_found s (term_at s n [] ts) (term-over s n k [] ts g)

pub ruleset over_lemmas = (type_read-over, term_read-over)
