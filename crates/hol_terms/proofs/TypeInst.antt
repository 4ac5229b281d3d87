-- A type instance of a well typed term is well typed.
use Rattle.std.proofs.Common.{◌≡◌, ℕ, zero, suc, List, [], ◌∷◌, map, length, slice_get, All, Bool, true, false, cond, bytes_eq, Some, refl, ap, sym, ◌∙◌, subst}
use Rattle.hol_terms.specs.Name.{Name, is_segment}
use Rattle.hol_terms.specs.Ty.{Ty, ty_var, ty_app, Tys, no_tys, more_tys, tys}
use Rattle.hol_terms.specs.Tm.{Tm, tm_index, tm_free, tm_const, tm_comb, tm_abs}
use Rattle.hol_terms.specs.Typing.{tm_type, fun_ty, range_ty}
use Rattle.hol_terms.specs.Subst.{TySubst, ty_lookup, ty_subst, tys_subst, tys_subst-tys}
use Rattle.hol_terms.specs.Signature.{Signature, IsTyOver, AreTysOver, IsOver, tys_count}
use Rattle.hol_terms.specs.Sequent.{IsFormula}
use Rattle.hol_terms.specs.Proves.{AreTypesOver}
use Rattle.std.proofs.lemmas.List.Elements.{All-cons, All-nil, All-head, All-tail}
use Rattle.hol_terms.proofs.Instances.{instance_subst}
use Rattle.hol_terms.specs.Binding.{tm_ty_subst}

-- each type variable that may be written goes to a well formed type
abbrev pub GivesOver : Signature → TySubst → Type 0
GivesOver sig s = (n : Name) → is_segment n ≡ true → IsTyOver sig (ty_lookup s n)

pub gives_over : (sig : Signature) (s : TySubst) → AreTypesOver sig s → GivesOver sig s
gives_over sig [] o n h = h
gives_over sig (p ∷ s) o n h = at (gives_over sig s o.1 n h) (bytes_eq p.0 n)
  where
    at : IsTyOver sig (ty_lookup s n) → (b : Bool) → IsTyOver sig (cond b p.1 (ty_lookup s n))
    at r true = o.0
    at r false = r

count_subst : (s : TySubst) (ts : Tys) → tys_count (tys_subst s ts) ≡ tys_count ts
count_subst s no_tys = refl
count_subst s (more_tys t ts) = ap suc (count_subst s ts)

mutual
  pub IsTyOver-subst : (sig : Signature) (s : TySubst) (t : Ty) → GivesOver sig s → IsTyOver sig t → IsTyOver sig (ty_subst s t)
  IsTyOver-subst sig s (ty_var n) g h = g n h
  IsTyOver-subst sig s (ty_app n ts) g h = (h.0 ∙ ap Some (sym (count_subst s ts)), AreTysOver-subst sig s ts g h.1)

  pub AreTysOver-subst : (sig : Signature) (s : TySubst) (ts : Tys) → GivesOver sig s → AreTysOver sig ts → AreTysOver sig (tys_subst s ts)
  AreTysOver-subst sig s no_tys g h = tt
  AreTysOver-subst sig s (more_tys t ts) g h = (IsTyOver-subst sig s t g h.0, AreTysOver-subst sig s ts g h.1)

slice_get_map : {A B : Type 0} (f : A → B) (xs : List A) (i : ℕ) (x : A) → slice_get xs i ≡ Some x → slice_get (map f xs) i ≡ Some (f x)
slice_get_map f [] i x e = cc
slice_get_map f (y ∷ xs) zero x e = cc
slice_get_map f (y ∷ xs) (suc i) x e = slice_get_map f xs i x e

length_map : {A B : Type 0} (f : A → B) (xs : List A) → length (map f xs) ≡ length xs
length_map f [] = refl
length_map f (x ∷ xs) = ap suc (length_map f xs)

pub tm_type-ty_subst : (sig : Signature) (s : TySubst) (bound : List Ty) (t : Tm) → IsOver sig bound t → tm_type (tm_ty_subst s t) ≡ ty_subst s (tm_type t)
tm_type-ty_subst sig s bound (tm_index i t) h = refl
tm_type-ty_subst sig s bound (tm_free v) h = refl
tm_type-ty_subst sig s bound (tm_const c ts t) h = refl
tm_type-ty_subst sig s bound (tm_comb f x) h = ap range_ty (tm_type-ty_subst sig s bound f h.0) ∙ ap (λ u. range_ty (ty_subst s u)) h.2
tm_type-ty_subst sig s bound (tm_abs t b) h = ap (λ u. fun_ty (ty_subst s t) u) (tm_type-ty_subst sig s (t ∷ bound) b h.1)

pub IsOver-ty_subst : (sig : Signature) (s : TySubst) (bound : List Ty) (t : Tm) → GivesOver sig s → IsOver sig bound t → IsOver sig (map (ty_subst s) bound) (tm_ty_subst s t)
IsOver-ty_subst sig s bound (tm_index i t) g h = (slice_get_map (ty_subst s) bound i t h.0, IsTyOver-subst sig s t g h.1)
IsOver-ty_subst sig s bound (tm_free v) g h = (h.0, IsTyOver-subst sig s v.ty g h.1)
IsOver-ty_subst sig s bound (tm_const c ts t) g h = record {
  generic = h.generic;
  known = h.known;
  as_many = length_map (ty_subst s) ts ∙ h.as_many;
  instance = ap (ty_subst s) h.instance ∙ instance_subst s h.generic ts h.as_many;
  over = subst (AreTysOver sig) (tys_subst-tys s ts) (AreTysOver-subst sig s (tys ts) g h.over);
  ty_over = IsTyOver-subst sig s t g h.ty_over;
}
IsOver-ty_subst sig s bound (tm_comb f x) g h = (
  IsOver-ty_subst sig s bound f g h.0,
  IsOver-ty_subst sig s bound x g h.1,
  tm_type-ty_subst sig s bound f h.0 ∙ ap (ty_subst s) h.2 ∙ sym (λ i. fun_ty (tm_type-ty_subst sig s bound x h.1 i) (tm_type-ty_subst sig s bound (tm_comb f x) h i)),
)
IsOver-ty_subst sig s bound (tm_abs t b) g h = (IsTyOver-subst sig s t g h.0, IsOver-ty_subst sig s (t ∷ bound) b g h.1)

pub formula_inst_type : (sig : Signature) (s : TySubst) (p : Tm) → AreTypesOver sig s → IsFormula sig p → IsFormula sig (tm_ty_subst s p)
formula_inst_type sig s p o h = (IsOver-ty_subst sig s [] p (gives_over sig s o) h.0, tm_type-ty_subst sig s [] p h.0 ∙ ap (ty_subst s) h.1)

pub formulas_inst_type : (sig : Signature) (s : TySubst) (hs : List Tm) → AreTypesOver sig s → All (IsFormula sig) hs → All (IsFormula sig) (map (tm_ty_subst s) hs)
formulas_inst_type sig s [] o h = All-nil (IsFormula sig)
formulas_inst_type sig s (t ∷ hs) o h =
    All-cons (IsFormula sig) (tm_ty_subst s t) (map (tm_ty_subst s) hs) (formula_inst_type sig s t o (All-head (IsFormula sig) t hs h))
    (formulas_inst_type sig s hs o (All-tail (IsFormula sig) t hs h))
