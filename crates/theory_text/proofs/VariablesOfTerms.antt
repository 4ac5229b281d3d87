-- A term that is read has no type variable but those of its tokens.
use Rattle.std.proofs.Common.{◌≡◌, refl, sym, ap, ◌∙◌, subst, ℕ, zero, suc, ◌+◌, ◌==◌, Bool, true, false, ◌&&◌, ◌||◌, cond, List, [], ◌∷◌, ◌++◌, length, Option, Some, None, eqb-true, arith}
use Rattle.std.specs.Prelude.{bytes_eq}
use Rattle.std.specs.Ordering.{is_eq}
use Rattle.std.specs.Cmp.{tied_itself}
use Rattle.std.proofs.lemmas.Bool.{and_parts, and_from, or_left, or_right}
use Rattle.std.proofs.lemmas.Map.Text.{is_eq-slice_cmp}
use Rattle.hol_terms.specs.Name.{Name}
use Rattle.hol_terms.specs.Ty.{Ty, ty_var, ty_app, Tys, no_tys, more_tys, tys}
use Rattle.hol_terms.specs.Tm.{Tm, tm_index, tm_free, tm_const, tm_comb, tm_abs, FreeVar}
use Rattle.hol_terms.specs.Typing.{tm_type, range_ty, fun_ty}
use Rattle.hol_terms.specs.Subst.{ty_lookup, ty_subst, tys_subst, ty_cmp}
use Rattle.hol_terms.specs.TyVars.{is_among, with_var, ty_vars, tys_vars, ty_within, tys_within, tm_within, pairs_of, var_name}
use Rattle.hol_terms.specs.Binding.{tm_bind, var_eq}
use Rattle.hol_terms.specs.Rules.{fits}
use Rattle.hol_terms.specs.Signature.{Signature, generic_of}
use Rattle.hol_terms.proofs.Checked.{same_ty-is}
use Rattle.hol_terms.proofs.KeptTypes.{tm_type-bind}
use Rattle.hol_terms.proofs.TotalOrder.{ty_cmp_total}
use Rattle.hol_terms.specs.Tokens.{Kind, a_name, open_paren, open_brace, open_bracket, equals, lambda_sign, all_sign, ex_sign, not_sign, and_sign, or_sign, implies_sign, Token, head_kind, head_text, head_place, tail}
use Rattle.hol_terms.specs.Meaning.{ill_at, Meaning, means, fault, Arguments, given, faulty, count, constant_of, constant_by, constant, fitted, Operand, operand, apply, type_of, equation, connective, negation, abstraction, quantified}
use Rattle.hol_terms.specs.Reading.{Front, got, expect_by, Scope, innermost, stand_in, type_or_none, plain_by, braces_at, name_by, free_of, free_by, type_at, types_at, typed_at, is_close_paren, is_close_brace, is_close_bracket, is_name_token, is_dot, is_dotted, Reader, atom_by, atom_at, begins_atom, atoms_by, atoms_at, application_at, infix_by, bound_by, bound_at, Binder, body_at, binder_at, term_by, term_at}
use Rattle.theory_text.proofs.VariablesOfTypes.{HasAll, Finds, bind_finds, tail-has, expect_finds, IsWithin, AreWithin, with_one-within, types-within, type-within, typed-within}

-- ---- an instance of a type, where each of its type variables is given a type

-- those of the first list are in the second
abbrev Keeps : List Ty → List Ty → Type 0
Keeps vs ws = (n : Name) → is_among (ty_var n) vs ≡ true → is_among (ty_var n) ws ≡ true

among-left : (v : Ty) (vs ws : List Ty) → is_among v vs ≡ true → is_among v (vs ++ ws) ≡ true
among-left v [] ws h = cc
among-left v (x ∷ vs) ws h = at (is_eq (ty_cmp x v)) (among-left v vs ws) h
  where
    at : (b : Bool) → (is_among v vs ≡ true → is_among v (vs ++ ws) ≡ true) → (b || is_among v vs) ≡ true → (b || is_among v (vs ++ ws)) ≡ true
    at true f g = refl
    at false f g = f g

among-last : (v : Ty) (vs : List Ty) → is_among v (vs ++ v ∷ []) ≡ true
among-last v [] = or_left (is_eq (ty_cmp v v)) false (ap is_eq (tied_itself ty_cmp_total v))
among-last v (x ∷ vs) = or_right (is_eq (ty_cmp x v)) (is_among v (vs ++ v ∷ [])) (among-last v vs)

keeps-with : (v : Ty) (vs : List Ty) → Keeps vs (with_var v vs)
keeps-with v vs n h = at (is_among v vs)
  where
    at : (b : Bool) → is_among (ty_var n) (cond b vs (vs ++ v ∷ [])) ≡ true
    at true = h
    at false = among-left (ty_var n) vs (v ∷ []) h

with-has : (v : Ty) (vs : List Ty) → is_among v (with_var v vs) ≡ true
with-has v vs = at (is_among v vs) refl
  where
    at : (b : Bool) → is_among v vs ≡ b → is_among v (cond b vs (vs ++ v ∷ [])) ≡ true
    at true e = e
    at false e = among-last v vs

mutual
  keeps-vars : (t : Ty) (vs : List Ty) → Keeps vs (ty_vars t vs)
  keeps-vars (ty_var m) vs n h = keeps-with (ty_var m) vs n h
  keeps-vars (ty_app c ts) vs n h = keeps-all_vars ts vs n h

  keeps-all_vars : (ts : Tys) (vs : List Ty) → Keeps vs (tys_vars ts vs)
  keeps-all_vars no_tys vs n h = h
  keeps-all_vars (more_tys t ts) vs n h = keeps-all_vars ts (ty_vars t vs) n (keeps-vars t vs n h)

-- each type variable of the type is in the list
abbrev mutual
  IsCovered : List Ty → Ty → Type 0
  IsCovered vs (ty_var n) = is_among (ty_var n) vs ≡ true
  IsCovered vs (ty_app c ts) = AreCovered vs ts

  AreCovered : List Ty → Tys → Type 0
  AreCovered vs no_tys = Unit {0}
  AreCovered vs (more_tys t ts) = IsCovered vs t × AreCovered vs ts

mutual
  covered-more : (vs ws : List Ty) (t : Ty) → Keeps vs ws → IsCovered vs t → IsCovered ws t
  covered-more vs ws (ty_var n) k h = k n h
  covered-more vs ws (ty_app c ts) k h = all_covered-more vs ws ts k h

  all_covered-more : (vs ws : List Ty) (ts : Tys) → Keeps vs ws → AreCovered vs ts → AreCovered ws ts
  all_covered-more vs ws no_tys k h = tt
  all_covered-more vs ws (more_tys t ts) k h = (covered-more vs ws t k h.0, all_covered-more vs ws ts k h.1)

mutual
  own-covered : (t : Ty) (vs : List Ty) → IsCovered (ty_vars t vs) t
  own-covered (ty_var n) vs = with-has (ty_var n) vs
  own-covered (ty_app c ts) vs = all_own-covered ts vs

  all_own-covered : (ts : Tys) (vs : List Ty) → AreCovered (tys_vars ts vs) ts
  all_own-covered no_tys vs = tt
  all_own-covered (more_tys t ts) vs = (covered-more (ty_vars t vs) (tys_vars ts (ty_vars t vs)) t (keeps-all_vars ts (ty_vars t vs)) (own-covered t vs), all_own-covered ts (ty_vars t vs))

-- a type stands for a variable as the lookup finds it
same-name : (v : Ty) (n : Name) → bytes_eq (var_name v) n ≡ false → is_eq (ty_cmp v (ty_var n)) ≡ false
same-name (ty_var m) n e = is_eq-slice_cmp m n ∙ e
same-name (ty_app c ts) n e = refl

lookup-within : (u : Ty) (vs ts : List Ty) (n : Name) → length vs ≡ length ts → is_among (ty_var n) vs ≡ true → tys_within (tys ts) u ≡ true → ty_within (ty_lookup (pairs_of vs ts) n) u ≡ true
lookup-within u [] ts n l h g = cc
lookup-within u (v ∷ vs) [] n l h g = absurd (omega (arith, l))
lookup-within u (v ∷ vs) (t ∷ ts) n l h g =
    let p = and_parts (ty_within t u) (tys_within (tys ts) u) g in
    at (bytes_eq (var_name v) n) refl p.0 (λ k. lookup-within u vs ts n (omega (arith, l)) k p.1)
  where
    later : bytes_eq (var_name v) n ≡ false → is_among (ty_var n) vs ≡ true
    later e = ap (λ (b : Bool). b || is_among (ty_var n) vs) (sym (same-name v n e)) ∙ h

    at : (b : Bool) → bytes_eq (var_name v) n ≡ b → ty_within t u ≡ true → (is_among (ty_var n) vs ≡ true → ty_within (ty_lookup (pairs_of vs ts) n) u ≡ true)
        → ty_within (cond b t (ty_lookup (pairs_of vs ts) n)) u ≡ true
    at true e w f = w
    at false e w f = f (later e)

mutual
  subst-within : (u : Ty) (vs ts : List Ty) (t : Ty) → length vs ≡ length ts → tys_within (tys ts) u ≡ true → IsCovered vs t → ty_within (ty_subst (pairs_of vs ts) t) u ≡ true
  subst-within u vs ts (ty_var n) l g h = lookup-within u vs ts n l h g
  subst-within u vs ts (ty_app c us) l g h = all_subst-within u vs ts us l g h

  all_subst-within : (u : Ty) (vs ts : List Ty) (us : Tys) → length vs ≡ length ts → tys_within (tys ts) u ≡ true → AreCovered vs us → tys_within (tys_subst (pairs_of vs ts) us) u ≡ true
  all_subst-within u vs ts no_tys l g h = refl
  all_subst-within u vs ts (more_tys t us) l g h =
      and_from (ty_within (ty_subst (pairs_of vs ts) t) u) (tys_within (tys_subst (pairs_of vs ts) us) u) (subst-within u vs ts t l g h.0) (all_subst-within u vs ts us l g h.1)

-- ---- what is read, where the types of the binders around have no others

-- each type variable of the term and of its type occurs in the type
record AllWithin (u : Ty) (t : Tm) : Type 0 where
  term : tm_within t u ≡ true
  ty : ty_within (tm_type t) u ≡ true

abbrev IsScope : Ty → Scope → Type 0
IsScope u [] = Unit {0}
IsScope u (e ∷ b) = (ty_within e.1.ty u ≡ true) × IsScope u b

abbrev TermWithin : Ty → Scope → Meaning Tm → Type 0
TermWithin u b (means t) = IsScope u b → AllWithin u t
TermWithin u b (fault e) = Unit {0}

abbrev OperandWithin : Ty → Scope → Operand → Type 0
OperandWithin u b o = TermWithin u b o.meaning

bind-within : (u : Ty) (k : ℕ) (v : FreeVar) (t : Tm) → tm_within t u ≡ true → tm_within (tm_bind k v t) u ≡ true
bind-within u k v (tm_index i t) h = refl
bind-within u k v (tm_free w) h = at (var_eq v w)
  where
    at : (q : Bool) → tm_within (cond q (tm_index k w.ty) (tm_free w)) u ≡ true
    at true = refl
    at false = h
bind-within u k v (tm_const c ts t) h = h
bind-within u k v (tm_comb f x) h =
    let p = and_parts (tm_within f u) (tm_within x u) h in
    and_from (tm_within (tm_bind k v f) u) (tm_within (tm_bind k v x) u) (bind-within u k v f p.0) (bind-within u k v x p.1)
bind-within u k v (tm_abs t b) h =
    let p = and_parts (ty_within t u) (tm_within b u) h in
    and_from (ty_within t u) (tm_within (tm_bind (k + 1) v b) u) p.0 (bind-within u (k + 1) v b p.1)

-- a function type and its parts
fun-within : (u a b : Ty) → ty_within a u ≡ true → ty_within b u ≡ true → ty_within (fun_ty a b) u ≡ true
fun-within u a b h g = and_from (ty_within a u) (ty_within b u && true) h (and_from (ty_within b u) true g refl)

range-of : (u a b : Ty) → ty_within (fun_ty a b) u ≡ true → ty_within b u ≡ true
range-of u a b h = (and_parts (ty_within b u) true (and_parts (ty_within a u) (ty_within b u && true) h).1).0

constant_by-within : (u : Ty) (b : Scope) (c : Name) (p : ℕ) (g : Ty) (a : Arguments) → (IsScope u b → AreWithin u a) → TermWithin u b (constant_by (length (ty_vars g []) == count a) c p g a)
constant_by-within u b c p g (given ts) h = at (length (ty_vars g []) == length ts) refl
  where
    at : (q : Bool) → (length (ty_vars g []) == length ts) ≡ q → TermWithin u b (constant_by q c p g (given ts))
    at true n = λ ok. record { term = h ok; ty = subst-within u (ty_vars g []) ts g (eqb-true (length (ty_vars g [])) (length ts) n) (h ok) (own-covered g []) }
    at false n = tt
constant_by-within u b c p g (faulty j d) h = at (length (ty_vars g []) == j)
  where
    at : (q : Bool) → TermWithin u b (constant_by q c p g (faulty j d))
    at true = tt
    at false = tt

constant-within : (u : Ty) (s : Signature) (b : Scope) (c : Name) (p : ℕ) (a : Arguments) → (IsScope u b → AreWithin u a) → TermWithin u b (constant s c p a)
unfolding constant
constant-within u s b c p a h = at (generic_of s c) a h
  where
    at : (o : Option Ty) (d : Arguments) → (IsScope u b → AreWithin u d) → TermWithin u b (constant_of o c p d)
    at None (given ts) i = tt
    at None (faulty j d) i = tt
    at (Some g) d i = constant_by-within u b c p g d i

comb-within : (u : Ty) (f x : Tm) → fits f x ≡ true → AllWithin u f → AllWithin u x → AllWithin u (tm_comb f x)
comb-within u f x e h k =
    let takes : tm_type f ≡ fun_ty (tm_type x) (range_ty (tm_type f)) = same_ty-is (tm_type f) (fun_ty (tm_type x) (range_ty (tm_type f))) e in
    record {
      term = and_from (tm_within f u) (tm_within x u) h.term k.term;
      ty = range-of u (tm_type x) (range_ty (tm_type f)) (ap (λ (t : Ty). ty_within t u) (sym takes) ∙ h.ty);
    }

fitted-within : (u : Ty) (b : Scope) (p : ℕ) (m n : Meaning Tm) → TermWithin u b m → TermWithin u b n → TermWithin u b (fitted p m n)
unfolding fitted
fitted-within u b p (means f) (means x) h k = at (fits f x) refl
  where
    at : (q : Bool) → fits f x ≡ q → TermWithin u b (cond q (means (tm_comb f x)) (fault (ill_at p)))
    at true e = λ ok. comb-within u f x e (h ok) (k ok)
    at false e = tt
fitted-within u b p (means f) (fault e) h k = tt
fitted-within u b p (fault e) (means x) h k = tt
fitted-within u b p (fault e) (fault d) h k = tt

apply-within : (u : Ty) (b : Scope) (f x : Operand) → OperandWithin u b f → OperandWithin u b x → OperandWithin u b (apply f x)
unfolding apply
apply-within u b f x h k = fitted-within u b f.first f.meaning x.meaning h k

type_of-within : (u : Ty) (b : Scope) (m : Meaning Tm) → TermWithin u b m → IsScope u b → IsWithin u (type_of m)
type_of-within u b (means t) h ok = (h ok).ty
type_of-within u b (fault e) h ok = tt

connective-within : (u : Ty) (s : Signature) (b : Scope) (c : Name) (p : ℕ) (x y : Operand) → OperandWithin u b x → OperandWithin u b y → OperandWithin u b (connective s c p x y)
unfolding connective
connective-within u s b c p x y h i = apply-within u b _ y (apply-within u b _ x (constant-within u s b c p (given []) (λ ok. refl)) h) i

equation-within : (u : Ty) (s : Signature) (b : Scope) (p : ℕ) (x y : Operand) → OperandWithin u b x → OperandWithin u b y → OperandWithin u b (equation s p x y)
unfolding equation
equation-within u s b p x y h i =
    apply-within u b _ y (apply-within u b _ x (constant-within u s b _ p _ (λ ok. with_one-within u (given []) (type_of x.meaning) refl (type_of-within u b x.meaning h ok))) h) i

negation-within : (u : Ty) (s : Signature) (b : Scope) (p : ℕ) (x : Operand) → OperandWithin u b x → OperandWithin u b (negation s p x)
unfolding negation
negation-within u s b p x h = apply-within u b _ x (constant-within u s b _ p (given []) (λ ok. refl)) h

quantified-within : (u : Ty) (s : Signature) (b : Scope) (c : Name) (p : ℕ) (t : Meaning Ty) (m : Meaning Tm) → IsWithin u t → TermWithin u b m → OperandWithin u b (quantified s c p t m)
unfolding quantified
quantified-within u s b c p t m h i = apply-within u b _ (operand m p) (constant-within u s b c p _ (λ ok. with_one-within u (given []) t refl h)) i

abstraction-within : (u : Ty) (b : Scope) (n : Name) (t : Meaning Ty) (m : Meaning Tm) → IsWithin u t → TermWithin u ((n, stand_in b n (type_or_none t)) ∷ b) m →
    TermWithin u b (abstraction t (stand_in b n (type_or_none t)) m)
abstraction-within u b n (means t) (means x) h k = λ ok.
    let v = stand_in b n t in
    let r = k (h, ok) in
    record {
      term = and_from (ty_within t u) (tm_within (tm_bind 0 v x) u) h (bind-within u 0 v x r.term);
      ty = fun-within u t (tm_type (tm_bind 0 v x)) h (ap (λ (a : Ty). ty_within a u) (tm_type-bind 0 v x) ∙ r.ty);
    }
abstraction-within u b n (means t) (fault e) h k = tt
abstraction-within u b n (fault e) (means x) h k = tt
abstraction-within u b n (fault e) (fault d) h k = tt

-- ---- names

free_var-within : (u : Ty) (v : FreeVar) → ty_within v.ty u ≡ true → AllWithin u (tm_free v)
free_var-within u v h = record { term = h; ty = h }

innermost-within : (u : Ty) (b : Scope) (n : Name) (v : FreeVar) → innermost b n ≡ Some v → IsScope u b → ty_within v.ty u ≡ true
innermost-within u [] n v e ok = cc
innermost-within u (x ∷ b) n v e ok = at (bytes_eq x.0 n) (λ i. innermost-within u b n v i ok.1) e
  where
    at : (q : Bool) → (innermost b n ≡ Some v → ty_within v.ty u ≡ true) → cond q (Some x.1) (innermost b n) ≡ Some v → ty_within v.ty u ≡ true
    at true f g = let same : x.1 ≡ v = cc in ap (λ (w : FreeVar). ty_within w.ty u) (sym same) ∙ ok.0
    at false f g = f g

plain-within : (u : Ty) (s : Signature) (b : Scope) (n : Name) (p : ℕ) → TermWithin u b (plain_by (innermost b n) s n p)
plain-within u s b n p = at (innermost b n) refl
  where
    at : (o : Option FreeVar) → innermost b n ≡ o → TermWithin u b (plain_by o s n p)
    at None e = constant-within u s b n p (given []) (λ ok. refl)
    at (Some v) e = λ ok. free_var-within u v (innermost-within u b n v e ok)

free-within : (u : Ty) (b : Scope) (n : Name) (t : Meaning Ty) → IsWithin u t → TermWithin u b (free_of n t)
free-within u b n (means t) h = λ ok. free_var-within u (record { name = n; ty = t }) h
free-within u b n (fault d) h = tt

-- ---- by the grammar

abbrev IsReader : Ty → Reader → Type 0
IsReader u read = (b : Scope) (ts : List Token) → HasAll u ts → Finds u (OperandWithin u b) (read b ts)

braces-within : (u : Ty) (s : Signature) (n : ℕ) (ts : List Token) → HasAll u ts → Finds u (AreWithin u) (braces_at s n ts)
unfolding braces_at
braces-within u s n ts g =
    bind_finds u (AreWithin u) (AreWithin u) (types_at (type_at s n) n (given []) ts) _ (types-within u (type_at s n) n (given []) ts (type-within u s n) refl g)
    (λ args rest i j. expect_finds u (AreWithin u) (is_close_brace (head_kind rest)) args rest i j)

named-within : (k : Kind) (u : Ty) (s : Signature) (n : ℕ) (b : Scope) (c : Name) (p : ℕ) (ts : List Token) → HasAll u ts → Finds u (OperandWithin u b) (name_by k s n b c p ts)
named-within open_brace u s n b c p ts g =
    bind_finds u (AreWithin u) (OperandWithin u b) (braces_at s n (tail ts)) _ (braces-within u s n (tail ts) (tail-has u ts g)) (λ args rest i j. (constant-within u s b c p args (λ ok. i), j))
named-within q u s n b c p ts g = (plain-within u s b c p, g)

bracket-within : (q : Bool) (u : Ty) (s : Signature) (n p : ℕ) (b : Scope) (ts : List Token) → HasAll u ts → Finds u (OperandWithin u b) (free_by q s n p ts)
bracket-within true u s n p b ts g =
    bind_finds u (IsWithin u) (OperandWithin u b) (typed_at s n (tail ts)) _ (typed-within u s n (tail ts) (tail-has u ts g))
    (λ t rest i j. expect_finds u (OperandWithin u b) (is_close_bracket (head_kind rest)) (operand (free_of (head_text ts) t) p) rest (free-within u b (head_text ts) t i) j)
bracket-within false u s n p b ts g = tt

atom-within : (k : Kind) (u : Ty) (s : Signature) (read : Reader) (n : ℕ) (b : Scope) (ts : List Token) → IsReader u read → HasAll u ts → Finds u (OperandWithin u b) (atom_by k s read n b ts)
atom-within a_name u s read n b ts r g = named-within (head_kind (tail ts)) u s n b (head_text ts) (head_place ts) (tail ts) (tail-has u ts g)
atom-within open_bracket u s read n b ts r g = bracket-within (is_name_token (head_kind (tail ts))) u s n (head_place ts) b (tail ts) (tail-has u ts g)
atom-within open_paren u s read n b ts r g =
    bind_finds u (OperandWithin u b) (OperandWithin u b) (read b (tail ts)) _ (r b (tail ts) (tail-has u ts g)) (λ t rest i j. expect_finds u (OperandWithin u b) (is_close_paren (head_kind rest)) t rest i j)
atom-within q u s read n b ts r g = tt

atom_at-within : (u : Ty) (s : Signature) (read : Reader) (n : ℕ) (b : Scope) (ts : List Token) → IsReader u read → HasAll u ts → Finds u (OperandWithin u b) (atom_at s read n b ts)
unfolding atom_at
atom_at-within u s read n b ts r g = atom-within (head_kind ts) u s read n b ts r g

atoms-step : (q : Bool) (u : Ty) (b : Scope) (read : List Token → Front Operand) (next : Operand → List Token → Front Operand) (f : Operand) (ts : List Token) →
    ((us : List Token) → HasAll u us → Finds u (OperandWithin u b) (read us)) → ((x : Operand) (us : List Token) → OperandWithin u b x → HasAll u us → Finds u (OperandWithin u b) (next x us)) →
    OperandWithin u b f → HasAll u ts → Finds u (OperandWithin u b) (atoms_by q read next f ts)
atoms-step true u b read next f ts r n h g = bind_finds u (OperandWithin u b) (OperandWithin u b) (read ts) _ (r ts g) (λ x rest i j. n (apply f x) rest (apply-within u b f x h i) j)
atoms-step false u b read next f ts r n h g = (h, g)

atoms-within : (u : Ty) (b : Scope) (read : List Token → Front Operand) (k : ℕ) (f : Operand) (ts : List Token) → ((us : List Token) → HasAll u us → Finds u (OperandWithin u b) (read us)) →
    OperandWithin u b f → HasAll u ts → Finds u (OperandWithin u b) (atoms_at read k f ts)
unfolding atoms_at
atoms-within u b read zero f ts r h g = tt
atoms-within u b read (suc k) f ts r h g = atoms-step (begins_atom (head_kind ts)) u b read (atoms_at read k) f ts r (λ x us i j. atoms-within u b read k x us r i j) h g

application-within : (u : Ty) (s : Signature) (read : Reader) (n : ℕ) (b : Scope) (ts : List Token) → IsReader u read → HasAll u ts → Finds u (OperandWithin u b) (application_at s read n b ts)
unfolding application_at
application-within u s read n b ts r g =
    bind_finds u (OperandWithin u b) (OperandWithin u b) (atom_at s read n b ts) _ (atom_at-within u s read n b ts r g)
    (λ f rest i j. atoms-within u b (atom_at s read n b) n f rest (λ us l. atom_at-within u s read n b us r l) i j)

infix-within : (q : Kind) (u : Ty) (s : Signature) (b : Scope) (read : List Token → Front Operand) (a : Operand) (ts : List Token) → ((us : List Token) → HasAll u us → Finds u (OperandWithin u b) (read us)) →
    OperandWithin u b a → HasAll u ts → Finds u (OperandWithin u b) (infix_by q s read a ts)
infix-within equals u s b read a ts r h g = bind_finds u (OperandWithin u b) (OperandWithin u b) (read (tail ts)) _ (r (tail ts) (tail-has u ts g)) (λ x rest i j. (equation-within u s b (head_place ts) a x h i, j))
infix-within and_sign u s b read a ts r h g = bind_finds u (OperandWithin u b) (OperandWithin u b) (read (tail ts)) _ (r (tail ts) (tail-has u ts g)) (λ x rest i j. (connective-within u s b _ (head_place ts) a x h i, j))
infix-within or_sign u s b read a ts r h g = bind_finds u (OperandWithin u b) (OperandWithin u b) (read (tail ts)) _ (r (tail ts) (tail-has u ts g)) (λ x rest i j. (connective-within u s b _ (head_place ts) a x h i, j))
infix-within implies_sign u s b read a ts r h g = bind_finds u (OperandWithin u b) (OperandWithin u b) (read (tail ts)) _ (r (tail ts) (tail-has u ts g)) (λ x rest i j. (connective-within u s b _ (head_place ts) a x h i, j))
infix-within q u s b read a ts r h g = (h, g)

abbrev BinderWithin : Ty → Scope → Binder → Type 0
BinderWithin u b x = IsWithin u x.0 × TermWithin u b x.1

body-within : (u : Ty) (read : Reader) (b : Scope) (n : Name) (t : Meaning Ty) (ts : List Token) → IsReader u read → IsWithin u t → HasAll u ts → Finds u (BinderWithin u b) (body_at read b n t ts)
unfolding body_at
body-within u read b n t ts r h g =
    bind_finds u (OperandWithin u ((n, stand_in b n (type_or_none t)) ∷ b)) (BinderWithin u b) (read ((n, stand_in b n (type_or_none t)) ∷ b) ts) _ (r ((n, stand_in b n (type_or_none t)) ∷ b) ts g)
    (λ x rest i j. ((h, abstraction-within u b n t x.meaning h i), j))

abbrev Any : Name → Type 0
Any n = Unit {0}

bound-step : (p q : Bool) (u : Ty) (ts : List Token) → HasAll u ts → Finds u Any (bound_by p q ts)
bound-step true false u ts g = (tt, tail-has u ts g)
bound-step true true u ts g = tt
bound-step false q u ts g = tt

bound-within : (u : Ty) (ts : List Token) → HasAll u ts → Finds u Any (bound_at ts)
unfolding bound_at
bound-within u ts g = bound-step (is_name_token (head_kind ts)) (is_dotted (head_text ts)) u ts g

binder-within : (u : Ty) (s : Signature) (read : Reader) (n : ℕ) (b : Scope) (ts : List Token) → IsReader u read → HasAll u ts → Finds u (BinderWithin u b) (binder_at s read n b ts)
unfolding binder_at
binder-within u s read n b ts r g =
    bind_finds u Any (BinderWithin u b) (bound_at ts) _ (bound-within u ts g)
    (λ x rest i j. bind_finds u (IsWithin u) (BinderWithin u b) (typed_at s n rest) _ (typed-within u s n rest j)
    (λ t after h l. bind_finds u (IsWithin u) (BinderWithin u b) (expect_by (is_dot (head_kind after)) t after) (body_at read b x) (expect_finds u (IsWithin u) (is_dot (head_kind after)) t after h l)
    (λ v us m o. body-within u read b x v us r m o)))

term-step : (q : Kind) (u : Ty) (s : Signature) (read : Reader) (n : ℕ) (b : Scope) (ts : List Token) → IsReader u read → HasAll u ts → Finds u (OperandWithin u b) (term_by q s read n b ts)
term-step lambda_sign u s read n b ts r g =
    bind_finds u (BinderWithin u b) (OperandWithin u b) (binder_at s read n b (tail ts)) _ (binder-within u s read n b (tail ts) r (tail-has u ts g)) (λ x rest i j. (i.1, j))
term-step all_sign u s read n b ts r g =
    bind_finds u (BinderWithin u b) (OperandWithin u b) (binder_at s read n b (tail ts)) _ (binder-within u s read n b (tail ts) r (tail-has u ts g)) (λ x rest i j. (quantified-within u s b _ (head_place ts) x.0 x.1 i.0 i.1, j))
term-step ex_sign u s read n b ts r g =
    bind_finds u (BinderWithin u b) (OperandWithin u b) (binder_at s read n b (tail ts)) _ (binder-within u s read n b (tail ts) r (tail-has u ts g)) (λ x rest i j. (quantified-within u s b _ (head_place ts) x.0 x.1 i.0 i.1, j))
term-step not_sign u s read n b ts r g =
    bind_finds u (OperandWithin u b) (OperandWithin u b) (application_at s read n b (tail ts)) _ (application-within u s read n b (tail ts) r (tail-has u ts g)) (λ x rest i j. (negation-within u s b (head_place ts) x i, j))
term-step q u s read n b ts r g =
    bind_finds u (OperandWithin u b) (OperandWithin u b) (application_at s read n b ts) _ (application-within u s read n b ts r g)
    (λ a rest i j. infix-within (head_kind rest) u s b (application_at s read n b) a rest (λ us l. application-within u s read n b us r l) i j)

term-within : (u : Ty) (s : Signature) (n : ℕ) → IsReader u (term_at s n)
unfolding term_at
term-within u s zero b ts g = tt
term-within u s (suc n) b ts g = term-step (head_kind ts) u s (term_at s n) n b ts (term-within u s n) g

-- what is read at the front of tokens, outside of binders
top : (u : Ty) (f : Front Operand) (x : Operand) (t : Tm) (rest : List Token) → Finds u (OperandWithin u []) f → f ≡ got x rest → x.meaning ≡ means t → tm_within t u ≡ true
top u f x t rest h e m =
    let found : Finds u (OperandWithin u []) (got x rest) = subst (Finds u (OperandWithin u [])) e h in
    let held : TermWithin u [] (means t) = subst (TermWithin u []) m found.0 in
    (held tt).term

pub top_term-within : (u : Ty) (s : Signature) (n : ℕ) (ts : List Token) (x : Operand) (t : Tm) (rest : List Token) → HasAll u ts → term_at s n [] ts ≡ got x rest → x.meaning ≡ means t → tm_within t u ≡ true
top_term-within u s n ts x t rest g e m = top u (term_at s n [] ts) x t rest (term-within u s n [] ts g) e m
