-- Lists of types, a member at a time.
use Rattle.std.proofs.Common.{◌≡◌, ◌≢◌, true, false, ◌&&◌, ◌||◌, ℕ, zero, suc, arith, ◌+◌, ◌<◌, ◌≤◌, List, [], ◌∷◌, ◌++◌, append_assoc, length, get_or, drop, map, refl, sym, ap, ◌∙◌, drop-cons, drop_of_length-le, add-one, bytes_eq, String, string_bytes, cond}
use Rattle.std.specs.Ordering.{ordering_then}
use Rattle.std.specs.Cmp.Lexicographic.{slice_cmp}
use Rattle.std.specs.declared.cmp.Ordering.{Ordering}
use Rattle.std.specs.declared.cmp.Ordering.TheVariants.{Less, Equal, Greater}
use Rattle.std.specs.declared.alloc.Global.{Global}
use Rattle.hol_terms.specs.TyVars.{ty_vars, tys_vars, pairs_of, var_name, occurs, occurs_in, ty_within, tys_within}
use Rattle.hol_terms.specs.Binding.{var_lookup, var_eq}
use Rattle.hol_terms.specs.Tm.{Tm, tm_free, FreeVar}
use Rattle.hol_terms.specs.Typing.{fun_ty}
use Rattle.hol_terms.specs.Name.{Name}
use Rattle.hol_terms.specs.Ty.{Ty, ty_var, ty_app, ty_list, ty_list-tys, tys, ty_size, tys_size}
use Rattle.hol_terms.specs.Subst.{tys_cmp-tys, tys_subst-tys, ty_lookup, ty_pairs, ty_subst, ty_cmp, name_cmp}

pub slice_cmp-at : {A : Type 0} (R : A → A → Ordering) (xs ys : List A) (i : ℕ) (d e : A) → i < length xs → i < length ys
    → slice_cmp R (drop i xs) (drop i ys) ≡ ordering_then (R (get_or xs i d) (get_or ys i e)) (slice_cmp R (drop (i + 1) xs) (drop (i + 1) ys))
slice_cmp-at R xs ys i d e h g = rw (add-one, drop-cons xs i d h, drop-cons ys i e g) refl

pub slice_cmp-left_more : {A : Type 0} (R : A → A → Ordering) (xs ys : List A) (i : ℕ) (d : A) → i < length xs → length ys ≤ i
    → slice_cmp R (drop i xs) (drop i ys) ≡ Greater
slice_cmp-left_more R xs ys i d h g = rw (drop-cons xs i d h, drop_of_length-le ys g) refl

pub slice_cmp-right_more : {A : Type 0} (R : A → A → Ordering) (xs ys : List A) (i : ℕ) (e : A) → length xs ≤ i → i < length ys
    → slice_cmp R (drop i xs) (drop i ys) ≡ Less
slice_cmp-right_more R xs ys i e h g = rw (drop_of_length-le xs h, drop-cons ys i e g) refl

pub slice_cmp-no_more : {A : Type 0} (R : A → A → Ordering) (xs ys : List A) (i : ℕ) → length xs ≤ i → length ys ≤ i
    → slice_cmp R (drop i xs) (drop i ys) ≡ Equal
slice_cmp-no_more R xs ys i h g = rw (drop_of_length-le xs h, drop_of_length-le ys g) refl

pub ruleset cmp_lemmas = (tys_cmp-tys, slice_cmp-at, slice_cmp-left_more, slice_cmp-right_more, slice_cmp-no_more)

pub ty_size-at : (ts : List Ty) (i : ℕ) (d : Ty) → i < length ts → ty_size (get_or ts i d) ≤ tys_size (tys ts)
ty_size-at [] i d h = absurd (omega arith)
ty_size-at (t ∷ ts) zero d h = omega arith
ty_size-at (t ∷ ts) (suc i) d h = let k : i < length ts = omega arith in omega (arith, ty_size-at ts i d k)

pub ruleset subst_lemmas = (tys_subst-tys, ty_size-at)

pub lookup-at : (s : List (String Global × Ty)) (n : Name) (i : ℕ) (d : String Global × Ty) → i < length s
    → ty_lookup (ty_pairs (drop i s)) n ≡ cond (bytes_eq (string_bytes (get_or s i d).0) n) (get_or s i d).1 (ty_lookup (ty_pairs (drop (i + 1) s)) n)
lookup-at s n i d h = rw (add-one, drop-cons s i d h) refl

pub lookup-end : (s : List (String Global × Ty)) (n : Name) (i : ℕ) → length s ≤ i → ty_lookup (ty_pairs (drop i s)) n ≡ ty_var n
lookup-end s n i h = rw (drop_of_length-le s h) refl

pub ruleset lookup_lemmas = (lookup-at, lookup-end)

pub app_subst : (s : List (Name × Ty)) (n m : Name) (ts new : List Ty) → m ≡ n → new ≡ map (ty_subst s) ts → ty_subst s (ty_app n (tys ts)) ≡ ty_app m (tys new)
app_subst s n m ts new e f = rw (e, f, tys_subst-tys s ts) refl

pub app_cmp : (a b : Name) (xs ys : List Ty) → name_cmp a b ≡ Equal → ty_cmp (ty_app a (tys xs)) (ty_app b (tys ys)) ≡ slice_cmp ty_cmp xs ys
app_cmp a b xs ys e = rw (e, tys_cmp-tys xs ys) refl

-- the first pair that is not equal decides
pub slice_cmp-decided : {A : Type 0} (R : A → A → Ordering) (xs ys : List A) (i : ℕ) (d e : A) (o : Ordering) → i < length xs → i < length ys → R (get_or xs i d) (get_or ys i e) ≡ o → (o ≢ Equal)
    → slice_cmp R (drop i xs) (drop i ys) ≡ o
slice_cmp-decided R xs ys i d e o h g r n = rw (slice_cmp-at R xs ys i d e h g, r) (decided o n)
  where
    decided : (p : Ordering) → (p ≢ Equal) → ordering_then p (slice_cmp R (drop (i + 1) xs) (drop (i + 1) ys)) ≡ p
    decided Less n = refl
    decided Equal n = absurd (n refl)
    decided Greater n = refl

abbrev args_of : Ty → List Ty
args_of (ty_var n) = []
args_of (ty_app n ts) = ty_list ts

pub fun_args : (t : Ty) (n : Name) (args : List Ty) (a b : Ty) → t ≡ ty_app n (tys args) → t ≡ fun_ty a b → args ≡ a ∷ b ∷ []
fun_args t n args a b e f = sym (ty_list-tys args) ∙ ap args_of (sym e ∙ f)

pub var_lookup-at : (s : List (FreeVar × Tm)) (w : FreeVar) (i : ℕ) (d : FreeVar × Tm) → i < length s
    → var_lookup (drop i s) w ≡ cond (var_eq (get_or s i d).0 w) (get_or s i d).1 (var_lookup (drop (i + 1) s) w)
var_lookup-at s w i d h = rw (add-one, drop-cons s i d h) refl

pub var_lookup-end : (s : List (FreeVar × Tm)) (w : FreeVar) (i : ℕ) → length s ≤ i → var_lookup (drop i s) w ≡ tm_free w
var_lookup-end s w i h = rw (drop_of_length-le s h) refl

pub ruleset var_lookup_lemmas = (var_lookup-at, var_lookup-end)

-- the variables of one more type
pub tys_vars-at : (ts seen : List Ty) (i : ℕ) (d : Ty) → i < length ts → tys_vars (tys (drop i ts)) seen ≡ tys_vars (tys (drop (i + 1) ts)) (ty_vars (get_or ts i d) seen)
tys_vars-at ts seen i d h = rw (add-one, drop-cons ts i d h) refl

pub tys_vars-end : (ts seen : List Ty) (i : ℕ) → length ts ≤ i → tys_vars (tys (drop i ts)) seen ≡ seen
tys_vars-end ts seen i h = rw (drop_of_length-le ts h) refl

pub ruleset vars_lemmas = (tys_vars-at, tys_vars-end, ty_size-at)

-- the pairs of what was passed, one more at the end
pub ty_pairs-push : (s : List (String Global × Ty)) (p : String Global × Ty) → ty_pairs (s ++ p ∷ []) ≡ ty_pairs s ++ (string_bytes p.0, p.1) ∷ []
ty_pairs-push [] p = refl
ty_pairs-push (q ∷ s) p = ap (λ r. (string_bytes q.0, q.1) ∷ r) (ty_pairs-push s p)

pub pairs_of-at : (done : List (Name × Ty)) (vs ts : List Ty) (i : ℕ) (d e : Ty) (n : Name) (t : Ty) → i < length vs → i < length ts → n ≡ var_name (get_or vs i d) → t ≡ get_or ts i e
    → (done ++ (n, t) ∷ []) ++ pairs_of (drop (i + 1) vs) (drop (i + 1) ts) ≡ done ++ pairs_of (drop i vs) (drop i ts)
pairs_of-at done vs ts i d e n t h g p q = rw (add-one, drop-cons vs i d h, drop-cons ts i e g, p, q, append_assoc) refl

pub pairs_of-end_left : (vs ts : List Ty) (i : ℕ) → length vs ≤ i → pairs_of (drop i vs) (drop i ts) ≡ []
pairs_of-end_left vs ts i h = rw (drop_of_length-le vs h) refl

pub pairs_of-end_right : (vs ts : List Ty) (i : ℕ) (d : Ty) → i < length vs → length ts ≤ i → pairs_of (drop i vs) (drop i ts) ≡ []
pairs_of-end_right vs ts i d h g = rw (drop-cons vs i d h, drop_of_length-le ts g) refl

pub ruleset pairs_lemmas = (ty_pairs-push, pairs_of-at, pairs_of-end_left, pairs_of-end_right)

pub occurs-at : (n : Name) (ts : List Ty) (i : ℕ) (d : Ty) → i < length ts → occurs_in n (tys (drop i ts)) ≡ (occurs n (get_or ts i d) || occurs_in n (tys (drop (i + 1) ts)))
occurs-at n ts i d h = rw (add-one, drop-cons ts i d h) refl

pub occurs-end : (n : Name) (ts : List Ty) (i : ℕ) → length ts ≤ i → occurs_in n (tys (drop i ts)) ≡ false
occurs-end n ts i h = rw (drop_of_length-le ts h) refl

pub within-at : (u : Ty) (ts : List Ty) (i : ℕ) (d : Ty) → i < length ts → tys_within (tys (drop i ts)) u ≡ (ty_within (get_or ts i d) u && tys_within (tys (drop (i + 1) ts)) u)
within-at u ts i d h = rw (add-one, drop-cons ts i d h) refl

pub within-end : (u : Ty) (ts : List Ty) (i : ℕ) → length ts ≤ i → tys_within (tys (drop i ts)) u ≡ true
within-end u ts i h = rw (drop_of_length-le ts h) refl

pub ruleset occurs_lemmas = (occurs-at, occurs-end, within-at, within-end, ty_size-at)
