-- Instances are well typed.
use Rattle.std.proofs.Common.{◌≡◌, ℕ, zero, suc, List, [], ◌∷◌, ◌++◌, sym, ◌∙◌, cond, Bool, true, false, slice_get, Some, length, map, All, add-one}
use Rattle.std.proofs.lemmas.List.Elements.{All-cons, All-nil, All-head, All-tail}
use Rattle.std.proofs.lemmas.Option.{slice_get_within}
use Rattle.hol_terms.specs.Ty.{Ty}
use Rattle.hol_terms.specs.Tm.{Tm, tm_index, tm_free, tm_const, tm_comb, tm_abs, FreeVar}
use Rattle.hol_terms.specs.Typing.{range_ty, fun_ty}
use Rattle.hol_terms.specs.Binding.{tm_inst, var_eq, var_lookup, VarSubst}
use Rattle.hol_terms.specs.Keeps.{KeepsTypes}
use Rattle.hol_terms.specs.Loose.{IsClosedAt, AreClosed}
use Rattle.hol_terms.specs.Signature.{Signature, IsOver}
use Rattle.hol_terms.specs.Sequent.{IsFormula}
use Rattle.hol_terms.specs.Proves.{AreOver}
use Rattle.hol_terms.proofs.KeptTypes.{tm_type-inst}

pub slice_get-append : {X : Type 0} (xs ys : List X) (i : ℕ) (x : X) → slice_get xs i ≡ Some x → slice_get (xs ++ ys) i ≡ Some x
slice_get-append [] ys i x e = cc
slice_get-append (y ∷ xs) ys zero x e = e
slice_get-append (y ∷ xs) ys (suc i) x e = slice_get-append xs ys i x e

-- below more binders
pub IsOver-below : (sig : Signature) (bound more : List Ty) (t : Tm) → IsOver sig bound t → IsOver sig (bound ++ more) t
IsOver-below sig bound more (tm_index i t) h = (slice_get-append bound more i t h.0, h.1)
IsOver-below sig bound more (tm_free v) h = h
IsOver-below sig bound more (tm_const c ts t) h = h
IsOver-below sig bound more (tm_comb f x) h = (IsOver-below sig bound more f h.0, IsOver-below sig bound more x h.1, h.2)
IsOver-below sig bound more (tm_abs t b) h = (h.0, IsOver-below sig (t ∷ bound) more b h.1)

pub IsOver-closed : (sig : Signature) (bound : List Ty) (t : Tm) → IsOver sig bound t → IsClosedAt (length bound) t
IsOver-closed sig bound (tm_index i t) h = slice_get_within bound i t h.0
IsOver-closed sig bound (tm_free v) h = tt
IsOver-closed sig bound (tm_const c ts t) h = tt
IsOver-closed sig bound (tm_comb f x) h = (IsOver-closed sig bound f h.0, IsOver-closed sig bound x h.1)
IsOver-closed sig bound (tm_abs t b) h = rw (add-one) (IsOver-closed sig (t ∷ bound) b h.1)

pub AreOver-closed : (sig : Signature) (s : VarSubst) → AreOver sig s → AreClosed s
AreOver-closed sig [] h = tt
AreOver-closed sig (p ∷ s) h = (IsOver-closed sig [] p.1 h.1, AreOver-closed sig s h.2)

IsOver-lookup : (sig : Signature) (bound : List Ty) (s : VarSubst) (w : FreeVar) → AreOver sig s → IsOver sig bound (tm_free w) → IsOver sig bound (var_lookup s w)
IsOver-lookup sig bound [] w o h = h
IsOver-lookup sig bound (p ∷ s) w o h = at (IsOver-lookup sig bound s w o.2 h) (var_eq p.0 w)
  where
    at : IsOver sig bound (var_lookup s w) → (b : Bool) → IsOver sig bound (cond b p.1 (var_lookup s w))
    at r true = IsOver-below sig [] bound p.1 o.1
    at r false = r

pub IsOver-inst : (sig : Signature) (bound : List Ty) (s : VarSubst) (t : Tm) → AreOver sig s → KeepsTypes s → IsOver sig bound t → IsOver sig bound (tm_inst s t)
IsOver-inst sig bound s (tm_index i t) o k h = h
IsOver-inst sig bound s (tm_free w) o k h = IsOver-lookup sig bound s w o h
IsOver-inst sig bound s (tm_const c ts t) o k h = h
IsOver-inst sig bound s (tm_comb f x) o k h = (
  IsOver-inst sig bound s f o k h.0,
  IsOver-inst sig bound s x o k h.1,
  tm_type-inst s f k ∙ h.2 ∙ sym (λ i. fun_ty (tm_type-inst s x k i) (range_ty (tm_type-inst s f k i))),
)
IsOver-inst sig bound s (tm_abs t b) o k h = (h.0, IsOver-inst sig (t ∷ bound) s b o k h.1)

pub formulas_inst : (sig : Signature) (s : VarSubst) (hs : List Tm) → AreOver sig s → KeepsTypes s → All (IsFormula sig) hs → All (IsFormula sig) (map (tm_inst s) hs)
formulas_inst sig s [] o k h = All-nil (IsFormula sig)
formulas_inst sig s (t ∷ hs) o k h =
    let f = All-head (IsFormula sig) t hs h in
    All-cons (IsFormula sig) (tm_inst s t) (map (tm_inst s) hs) (IsOver-inst sig [] s t o k f.0, tm_type-inst s t k ∙ f.1) (formulas_inst sig s hs o k (All-tail (IsFormula sig) t hs h))
