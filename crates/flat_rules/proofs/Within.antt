-- That each type variable of a term occurs in a type, by the lists of their type variables.
use Rattle.std.proofs.Common.{◌≡◌, ℕ, ◌+◌, ◌<◌, ◌≤◌, Bool, true, false, ◌||◌, ◌&&◌, if◌then◌else◌, List, [], ◌∷◌, ◌++◌, length, drop, get_or, nat_eq, bytes_eq, refl, ap, sym, ◌∙◌, true≢false, add-one, drop-cons, drop_of_length-le}
use Rattle.std.specs.List.{list_any, list_all}
use Rattle.std.specs.Ordering.{is_eq}
use Rattle.std.proofs.lemmas.Slice.Eq.{bytes_eq-Decides}
use Rattle.hol_terms.specs.Name.{Name}
use Rattle.hol_terms.specs.Ty.{Ty, ty_var, ty_app, Tys, no_tys, more_tys, tys}
use Rattle.hol_terms.specs.Tm.{Tm, tm_index, tm_free, tm_const, tm_comb, tm_abs}
use Rattle.hol_terms.specs.Subst.{ty_cmp}
use Rattle.hol_terms.specs.TyVars.{is_among, with_var, ty_vars, tys_vars, tm_ty_vars, occurs, occurs_in, ty_within, tys_within, tm_within, var_name}
use Rattle.hol_terms.proofs.Order.{ty_cmp-same, is_eq-same}
use Rattle.flat_terms.specs.declared.nodes.TypeId.{TypeId}
use Rattle.flat_terms.specs.Trees.{Distinct}
use Rattle.flat_terms.specs.Plain.{PlainTables, HasType, HasTypes, type_of, types_of}
use Rattle.flat_signatures.proofs.VariableSteps.{is_same, among_is}

or_three : (a b c : Bool) → ((a || b) || c) ≡ (a || (b || c))
or_three true b c = refl
or_three false b c = refl

and_three : (a b c : Bool) → ((a && b) && c) ≡ (a && (b && c))
and_three true b c = refl
and_three false b c = refl

or_none : (b : Bool) → (b || false) ≡ b
or_none true = refl
or_none false = refl

and_all : (b : Bool) → (b && true) ≡ b
and_all true = refl
and_all false = refl

-- two type variables are told apart by their names
same_var : (m n : Name) → is_eq (ty_cmp (ty_var m) (ty_var n)) ≡ bytes_eq m n
same_var m n = at (bytes_eq m n) refl
  where
    other : (c : Bool) → is_eq (ty_cmp (ty_var m) (ty_var n)) ≡ c → bytes_eq m n ≡ false → c ≡ false
    other true s e = absurd (true≢false (sym ((bytes_eq-Decides m n).1 (ap var_name (ty_cmp-same (ty_var m) (ty_var n) (is_eq-same _ s)))) ∙ e))
    other false s e = refl

    at : (c : Bool) → bytes_eq m n ≡ c → is_eq (ty_cmp (ty_var m) (ty_var n)) ≡ c
    at true e = is_same (ty_var m) (ty_var n) (ap (λ k. ty_var k) ((bytes_eq-Decides m n).0 e))
    at false e = other (is_eq (ty_cmp (ty_var m) (ty_var n))) refl e

-- ---- a variable occurs in a type where it is among the type's variables

among_pushed : (v w : Ty) (s : List Ty) → is_among v (s ++ w ∷ []) ≡ (is_among v s || is_eq (ty_cmp w v))
among_pushed v w [] = or_none (is_eq (ty_cmp w v))
among_pushed v w (u ∷ s) = ap (λ b. is_eq (ty_cmp u v) || b) (among_pushed v w s) ∙ sym (or_three (is_eq (ty_cmp u v)) (is_among v s) (is_eq (ty_cmp w v)))

with_var_among : (m n : Name) (s : List Ty) → is_among (ty_var n) (with_var (ty_var m) s) ≡ (is_among (ty_var n) s || bytes_eq m n)
with_var_among m n s = at (is_among (ty_var m) s) refl
  where
    there : (c : Bool) → bytes_eq m n ≡ c → is_among (ty_var m) s ≡ true → is_among (ty_var n) s ≡ (is_among (ty_var n) s || c)
    there true e h = let k : is_among (ty_var n) s ≡ true = ap (λ x. is_among (ty_var x) s) (sym ((bytes_eq-Decides m n).0 e)) ∙ h in k ∙ ap (λ b. b || true) (sym k)
    there false e h = sym (or_none (is_among (ty_var n) s))

    at : (b : Bool) → is_among (ty_var m) s ≡ b → is_among (ty_var n) (if b then s else s ++ ty_var m ∷ []) ≡ (is_among (ty_var n) s || bytes_eq m n)
    at true h = there (bytes_eq m n) refl h
    at false h = among_pushed (ty_var n) (ty_var m) s ∙ ap (λ b. is_among (ty_var n) s || b) (same_var m n)

mutual
  vars_among : (n : Name) (u : Ty) (s : List Ty) → is_among (ty_var n) (ty_vars u s) ≡ (is_among (ty_var n) s || occurs n u)
  vars_among n (ty_var m) s = with_var_among m n s
  vars_among n (ty_app c ts) s = all_vars_among n ts s

  all_vars_among : (n : Name) (ts : Tys) (s : List Ty) → is_among (ty_var n) (tys_vars ts s) ≡ (is_among (ty_var n) s || occurs_in n ts)
  all_vars_among n no_tys s = sym (or_none (is_among (ty_var n) s))
  all_vars_among n (more_tys t ts) s = all_vars_among n ts (ty_vars t s) ∙ ap (λ b. b || occurs_in n ts) (vars_among n t s) ∙ or_three (is_among (ty_var n) s) (occurs n t) (occurs_in n ts)

-- ---- and each variable of a type occurs in another where all of its variables are among those of the other

module _ (u : Ty) where
  -- a type is among the variables of u
  abbrev is_own : Ty → Bool
  is_own v = is_among v (ty_vars u [])

  own_occurs : (n : Name) → is_own (ty_var n) ≡ occurs n u
  own_occurs n = vars_among n u []

  all_pushed : (s : List Ty) (v : Ty) → list_all is_own (s ++ v ∷ []) ≡ (list_all is_own s && is_own v)
  all_pushed [] v = and_all (is_own v)
  all_pushed (w ∷ s) v = ap (λ b. is_own w && b) (all_pushed s v) ∙ sym (and_three (is_own w) (list_all is_own s) (is_own v))

  -- what is among own types is its own
  among_own : (s : List Ty) (v : Ty) → is_among v s ≡ true → list_all is_own s ≡ true → is_own v ≡ true
  among_own [] v h a = absurd (true≢false (sym h))
  among_own (w ∷ s) v h a = at (is_eq (ty_cmp w v)) refl (is_own w) refl (among_own s v) h a
    where
      at : (b : Bool) → is_eq (ty_cmp w v) ≡ b → (c : Bool) → is_own w ≡ c → (is_among v s ≡ true → list_all is_own s ≡ true → is_own v ≡ true) → (b || is_among v s) ≡ true → (c && list_all is_own s) ≡ true → is_own v ≡ true
      at b e false o later k a = absurd (true≢false (sym a))
      at true e true o later k a = ap is_own (sym (ty_cmp-same w v (is_eq-same _ e))) ∙ o
      at false e true o later k a = later k a

  with_var_all : (n : Name) (s : List Ty) → list_all is_own (with_var (ty_var n) s) ≡ (list_all is_own s && occurs n u)
  with_var_all n s = at (is_among (ty_var n) s) refl
    where
      there : (b : Bool) → list_all is_own s ≡ b → is_among (ty_var n) s ≡ true → b ≡ (b && occurs n u)
      there true e h = sym (sym (own_occurs n) ∙ among_own s (ty_var n) h e)
      there false e h = refl

      at : (b : Bool) → is_among (ty_var n) s ≡ b → list_all is_own (if b then s else s ++ ty_var n ∷ []) ≡ (list_all is_own s && occurs n u)
      at true h = there (list_all is_own s) refl h
      at false h = all_pushed s (ty_var n) ∙ ap (λ b. list_all is_own s && b) (own_occurs n)

  mutual
    vars_within : (x : Ty) (s : List Ty) → list_all is_own (ty_vars x s) ≡ (list_all is_own s && ty_within x u)
    vars_within (ty_var n) s = with_var_all n s
    vars_within (ty_app c ts) s = all_vars_within ts s

    all_vars_within : (ts : Tys) (s : List Ty) → list_all is_own (tys_vars ts s) ≡ (list_all is_own s && tys_within ts u)
    all_vars_within no_tys s = sym (and_all (list_all is_own s))
    all_vars_within (more_tys t ts) s = all_vars_within ts (ty_vars t s) ∙ ap (λ b. b && tys_within ts u) (vars_within t s) ∙ and_three (list_all is_own s) (ty_within t u) (tys_within ts u)

  term_vars_within : (x : Tm) (s : List Ty) → list_all is_own (tm_ty_vars x s) ≡ (list_all is_own s && tm_within x u)
  term_vars_within (tm_index i t) s = sym (and_all (list_all is_own s))
  term_vars_within (tm_free v) s = vars_within v.ty s
  term_vars_within (tm_const c ts t) s = all_vars_within (tys ts) s
  term_vars_within (tm_comb f x) s = term_vars_within x (tm_ty_vars f s) ∙ ap (λ b. b && tm_within x u) (term_vars_within f s) ∙ and_three (list_all is_own s) (tm_within f u) (tm_within x u)
  term_vars_within (tm_abs t b) s = term_vars_within b (ty_vars t s) ∙ ap (λ c. c && tm_within b u) (vars_within t s) ∙ and_three (list_all is_own s) (ty_within t u) (tm_within b u)

pub within_by_vars : (x : Tm) (u : Ty) (vs ws : List Ty) → vs ≡ tm_ty_vars x [] → ws ≡ ty_vars u [] → list_all (λ v. is_among v ws) vs ≡ tm_within x u
within_by_vars x u vs ws p q = (λ j. list_all (λ v. is_among v (q j)) (p j)) ∙ term_vars_within u x []

-- ---- the same over numbers, one at a time

abbrev pub AllIn : PlainTables → List TypeId → List TypeId → Bool
AllIn t ms ns = list_all (λ v. is_among v (types_of t ms)) (types_of t ns)

pub in_at : (t : PlainTables) (ms ns : List TypeId) (i : ℕ) (d : TypeId) → i < length ns → AllIn t ms (drop i ns) ≡ (is_among (type_of t (get_or ns i d)) (types_of t ms) && AllIn t ms (drop (i + 1) ns))
in_at t ms ns i d h = rw (add-one, drop-cons ns i d h) refl

pub in_end : (t : PlainTables) (ms ns : List TypeId) (i : ℕ) → length ns ≤ i → AllIn t ms (drop i ns) ≡ true
in_end t ms ns i h = ap (λ l. AllIn t ms l) (drop_of_length-le ns h)

pub in_is : (t : PlainTables) (ms : List TypeId) (n : TypeId) (b : Bool) → Distinct (ty_var []) t.types → HasTypes t ms → HasType t n → b ≡ list_any (λ m. nat_eq n.0 m.0) ms → is_among (type_of t n) (types_of t ms) ≡ b
in_is t ms n b once h hn e = among_is t ms n once h hn ∙ sym e
