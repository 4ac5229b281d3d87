-- Lemmas on the types and terms that a table has made.
use Rattle.std.proofs.Common.{◌≡◌, ℕ, ◌+◌, ◌≤◌, arith, refl, subst, List, [], ◌∷◌, ◌++◌, length, drop, Bool, true, false, Option, Some, None, IsSome, slice_get, cond}
use Rattle.std.specs.Prelude.{◌==◌}
use Rattle.std.specs.Option.{option_to_list}
use Rattle.std.proofs.lemmas.Option.{slice_get_within, get_or_from_slice_get}
use Rattle.std.proofs.lemmas.Bool.{eqb-true}
use Rattle.std.proofs.lemmas.List.{drop_all}
use Rattle.hol_terms.specs.Ty.{Ty}
use Rattle.hol_terms.specs.Tm.{Tm, tm_index, tm_free, tm_const, tm_comb, tm_abs, FreeVar}
use Rattle.hol_terms.specs.Typing.{tm_type, fun_ty, range_ty}
use Rattle.hol_terms.specs.Binding.{tm_bind, var_eq}
use Rattle.hol_terms.specs.Loose.{IsClosedAt}
use Rattle.hol_terms.specs.Rules.{if_so, fits, lambda}
use Rattle.hol_terms.proofs.Checked.{same_ty-is}
use Rattle.hol_tables.specs.Building.{on, listed, last, const_made, term_made, terms_made, AllClosed}
use Rattle.hol_tables.specs.declared.build.TermLine.{TermLine}
use Rattle.hol_tables.specs.declared.build.TermLine.TheVariants.{Const, Var, Comb, Abs}
use Rattle.std.proofs.lemmas.List.Elements.{All-push}
use Rattle.hol_terms.specs.TyVars.{ty_vars, const_at}

pub closed_at : (ts : List Tm) (n : ℕ) (t : Tm) → AllClosed ts → slice_get ts n ≡ Some t → IsClosedAt 0 t
closed_at ts n t h e = subst (IsClosedAt 0) (get_or_from_slice_get ts n t t e) (h.all n t (slice_get_within ts n t e))

pub ruleset at_lemmas = (closed_at)

if_true : {A : Type 0} (b : Bool) (x : A) → IsSome (if_so b x) → b ≡ true
if_true true x h = refl
if_true false x h = cc

pub if_some : {A : Type 0} (b : Bool) (x : A) → IsSome (if_so b x) → if_so b x ≡ Some x
if_some true x h = refl
if_some false x h = cc

pub apply_fits : (f x y : Tm) → IsSome (if_so (fits f x) y) → tm_type f ≡ fun_ty (tm_type x) (range_ty (tm_type f))
apply_fits f x y h = same_ty-is _ _ (if_true (fits f x) y h)

pub applied : (f x y : Tm) → IsSome (if_so (fits f x) y) → if_so (fits f x) y ≡ Some y
applied f x y h = if_some (fits f x) y h

pub ruleset fit_lemmas = (apply_fits, applied)

pub const_fits : (m n : ℕ) (y : Tm) → IsSome (if_so (m == n) y) → m ≡ n
const_fits m n y h = eqb-true m n (if_true (m == n) y h)

pub const_applied : (m n : ℕ) (y : Tm) → IsSome (if_so (m == n) y) → if_so (m == n) y ≡ Some y
const_applied m n y h = if_some (m == n) y h

pub ruleset const_lemmas = (const_fits, const_applied)

-- a free variable that is bound leaves no loose index
pub IsClosedAt-bind : (k : ℕ) (v : FreeVar) (t : Tm) → IsClosedAt k t → IsClosedAt (k + 1) (tm_bind k v t)
IsClosedAt-bind k v (tm_index i t) h = omega arith
IsClosedAt-bind k v (tm_free w) h = at (var_eq v w)
  where
    at : (b : Bool) → IsClosedAt (k + 1) (cond b (tm_index k w.ty) (tm_free w))
    at true = omega arith
    at false = tt
IsClosedAt-bind k v (tm_const c ts t) h = tt
IsClosedAt-bind k v (tm_comb f x) h = (IsClosedAt-bind k v f h.0, IsClosedAt-bind k v x h.1)
IsClosedAt-bind k v (tm_abs t b) h = IsClosedAt-bind (k + 1) v b h

-- each line makes a term with no loose index
on_some : {A B : Type 0} (o : Option A) (k : A → Option B) (b : B) (P : Type 0) → ((a : A) → o ≡ Some a → k a ≡ Some b → P) → on o k ≡ Some b → P
on_some None k b P f e = cc
on_some (Some a) k b P f e = f a refl e

if_so-is : (b : Bool) (x t : Tm) → if_so b x ≡ Some t → x ≡ t
if_so-is true x t e = cc
if_so-is false x t e = cc

some_is : (x t : Tm) → Some x ≡ Some t → x ≡ t
some_is x t e = cc

pub term_made-closed : (types : List Ty) (terms : List Tm) (l : TermLine) (t : Tm) → AllClosed terms → term_made types terms l ≡ Some t → IsClosedAt 0 t
term_made-closed types terms (Const n i ps) t h e =
    let P = IsClosedAt 0 t in
    on_some (slice_get types i) (λ g. const_made types n.now g ps.now) t P
    (λ g p q. on_some (listed types [] ps.now) (λ args. if_so (length args == length (ty_vars g [])) (const_at n.now g args)) t P
    (λ args r u. subst (IsClosedAt 0) (if_so-is (length args == length (ty_vars g [])) (const_at n.now g args) t u) tt) q) e
term_made-closed types terms (Var n i) t h e =
    on_some (slice_get types i) (λ a. Some (tm_free (record { name = n.now; ty = a }))) t (IsClosedAt 0 t)
    (λ a p q. subst (IsClosedAt 0) (some_is (tm_free (record { name = n.now; ty = a })) t q) tt) e
term_made-closed types terms (Comb i j) t h e =
    let P = IsClosedAt 0 t in
    on_some (slice_get terms i) (λ f. on (slice_get terms j) (λ x. if_so (fits f x) (tm_comb f x))) t P
    (λ f p q. on_some (slice_get terms j) (λ x. if_so (fits f x) (tm_comb f x)) t P
    (λ x r u. subst (IsClosedAt 0) (if_so-is (fits f x) (tm_comb f x) t u) (closed_at terms i f h p, closed_at terms j x h r)) q) e
term_made-closed types terms (Abs n i j) t h e =
    let P = IsClosedAt 0 t in
    on_some (slice_get types i) (λ a. on (slice_get terms j) (λ b. Some (lambda (record { name = n.now; ty = a }) b))) t P
    (λ a p q. on_some (slice_get terms j) (λ b. Some (lambda (record { name = n.now; ty = a }) b)) t P
    (λ b r u. subst (IsClosedAt 0) (some_is (lambda (record { name = n.now; ty = a }) b) t u)
    (IsClosedAt-bind 0 (record { name = n.now; ty = a }) b (closed_at terms j b h r))) q) e

pub closed_push : (terms : List Tm) (t : Tm) → AllClosed terms → IsClosedAt 0 t → AllClosed (terms ++ t ∷ [])
closed_push terms t h g = record { all = All-push (IsClosedAt 0) terms t h.all g }

-- the end of a table
last_push : (ts : List Tm) (t : Tm) → last (ts ++ t ∷ []) ≡ Some t
last_push [] t = refl
last_push (u ∷ []) t = refl
last_push (u ∷ v ∷ ts) t = last_push (v ∷ ts) t

pub terms_made-end : (types : List Ty) (ts us : List Tm) (t : Tm) (ls : List TermLine) (i : ℕ) → length ls ≤ i → ts ≡ us ++ option_to_list (Some t)
    → terms_made types ts (drop i ls) ≡ Some t
terms_made-end types ts us t ls i h e = rw (drop_all i ls h, e) (last_push us t)
