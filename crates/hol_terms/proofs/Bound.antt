-- Binding a variable, and opening, keep a term well typed.
use Rattle.std.proofs.Common.{◌≡◌, ◌≢◌, ℕ, zero, suc, Bool, true, false, cond, nat_eq, List, [], ◌∷◌, ◌++◌, length, slice_get, Some, refl, ap, sym, ◌∙◌, subst, add-one, arith}
use Rattle.std.proofs.lemmas.Bool.Decides.{nat_tests}
use Rattle.hol_terms.specs.Ty.{Ty}
use Rattle.hol_terms.specs.Tm.{Tm, tm_index, tm_free, tm_const, tm_comb, tm_abs, FreeVar}
use Rattle.hol_terms.specs.Typing.{fun_ty, range_ty}
use Rattle.hol_terms.specs.Binding.{tm_bind, tm_open, var_eq}
use Rattle.hol_terms.specs.Loose.{HasAt}
use Rattle.hol_terms.specs.Signature.{Signature, IsOver}
use Rattle.hol_terms.proofs.Order.{var_eq-same}
use Rattle.hol_terms.proofs.KeptTypes.{tm_type-bind}
use Rattle.hol_terms.proofs.LooseLemmas.{tm_type-open}
use Rattle.hol_terms.proofs.InstLemmas.{slice_get-append}

get_last : (bound : List Ty) (t : Ty) → slice_get (bound ++ t ∷ []) (length bound) ≡ Some t
get_last [] t = refl
get_last (u ∷ bound) t = get_last bound t

pub IsOver-bind : (sig : Signature) (bound : List Ty) (v : FreeVar) (t : Tm) → IsOver sig bound t → IsOver sig (bound ++ v.ty ∷ []) (tm_bind (length bound) v t)
IsOver-bind sig bound v (tm_index i t) h = (slice_get-append bound (v.ty ∷ []) i t h.0, h.1)
IsOver-bind sig bound v (tm_free w) h = at (var_eq v w) refl
  where
    at : (b : Bool) → var_eq v w ≡ b → IsOver sig (bound ++ v.ty ∷ []) (cond b (tm_index (length bound) w.ty) (tm_free w))
    at true e = (get_last bound v.ty ∙ ap (λ (u : FreeVar). Some u.ty) (var_eq-same v w e), h.1)
    at false e = h
IsOver-bind sig bound v (tm_const c ts t) h = h
IsOver-bind sig bound v (tm_comb f x) h = (
  IsOver-bind sig bound v f h.0,
  IsOver-bind sig bound v x h.1,
  tm_type-bind (length bound) v f ∙ h.2 ∙ sym (λ i. fun_ty (tm_type-bind (length bound) v x i) (range_ty (tm_type-bind (length bound) v f i))),
)
IsOver-bind sig bound v (tm_abs t b) h = (h.0, rw (add-one) (IsOver-bind sig (t ∷ bound) v b h.1))

get_at : (bound : List Ty) (a t : Ty) → slice_get (bound ++ a ∷ []) (length bound) ≡ Some t → t ≡ a
get_at [] a t e = cc
get_at (u ∷ bound) a t e = get_at bound a t e

get_before : (bound : List Ty) (a t : Ty) (i : ℕ) → i ≢ length bound → slice_get (bound ++ a ∷ []) i ≡ Some t → slice_get bound i ≡ Some t
get_before [] a t zero n e = absurd (n refl)
get_before [] a t (suc i) n e = cc
get_before (u ∷ bound) a t zero n e = e
get_before (u ∷ bound) a t (suc i) n e = get_before bound a t i (λ f. n (ap suc f)) e

pub IsOver-HasAt : (sig : Signature) (bound : List Ty) (a : Ty) (t : Tm) → IsOver sig (bound ++ a ∷ []) t → HasAt (length bound) a t
IsOver-HasAt sig bound a (tm_index i t) h = λ e. get_at bound a t (subst (λ j. slice_get (bound ++ a ∷ []) j ≡ Some t) e h.0)
IsOver-HasAt sig bound a (tm_free v) h = tt
IsOver-HasAt sig bound a (tm_const c ts t) h = tt
IsOver-HasAt sig bound a (tm_comb f x) h = (IsOver-HasAt sig bound a f h.0, IsOver-HasAt sig bound a x h.1)
IsOver-HasAt sig bound a (tm_abs t b) h = rw (add-one) (IsOver-HasAt sig (t ∷ bound) a b h.1)

not_equal : (i j : ℕ) → nat_eq i j ≡ false → i ≢ j
not_equal i j e = grind (arith, nat_tests)

pub IsOver-open : (sig : Signature) (bound : List Ty) (v : FreeVar) (t : Tm) → IsOver sig [] (tm_free v) → IsOver sig (bound ++ v.ty ∷ []) t → IsOver sig bound (tm_open (length bound) v t)
IsOver-open sig bound v (tm_index i t) o h = at (nat_eq i (length bound)) refl
  where
    at : (b : Bool) → nat_eq i (length bound) ≡ b → IsOver sig bound (cond b (tm_free v) (tm_index i t))
    at true e = o
    at false e = (get_before bound v.ty t i (not_equal i (length bound) e) h.0, h.1)
IsOver-open sig bound v (tm_free w) o h = h
IsOver-open sig bound v (tm_const c ts t) o h = h
IsOver-open sig bound v (tm_comb f x) o h =
    let ef = tm_type-open (length bound) v f (IsOver-HasAt sig bound v.ty f h.0) in
    let ex = tm_type-open (length bound) v x (IsOver-HasAt sig bound v.ty x h.1) in
    (IsOver-open sig bound v f o h.0, IsOver-open sig bound v x o h.1, ef ∙ h.2 ∙ sym (λ i. fun_ty (ex i) (range_ty (ef i))))
IsOver-open sig bound v (tm_abs t b) o h = (h.0, rw (add-one) (IsOver-open sig (t ∷ bound) v b o h.1))
