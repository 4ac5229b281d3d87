-- When a term takes another.
use Rattle.std.proofs.Common.{◌≡◌, refl, sym, ap, ◌∙◌, Bool, true, false, ◌&&◌, List, [], ◌∷◌}
use Rattle.std.specs.Prelude.{bytes_eq, codes}
use Rattle.std.specs.Cmp.{tied_itself}
use Rattle.std.specs.Ordering.{ordering_then, is_eq}
use Rattle.std.specs.declared.cmp.Ordering.{Ordering}
use Rattle.std.specs.declared.cmp.Ordering.TheVariants.{Less, Equal, Greater}
use Rattle.std.proofs.lemmas.Map.Text.{is_eq-slice_cmp}
use Rattle.hol_terms.specs.Name.{Name}
use Rattle.hol_terms.specs.Ty.{Ty, ty_var, ty_app, no_tys, more_tys, tys}
use Rattle.hol_terms.specs.Tm.{Tm}
use Rattle.hol_terms.specs.Typing.{fun_name, fun_ty, second_ty, range_ty}
use Rattle.hol_terms.specs.Takes.{Takes}
use Rattle.hol_terms.specs.Subst.{name_cmp, ty_cmp, tys_cmp}
use Rattle.hol_terms.specs.Rules.{same_ty, fits}
use Rattle.hol_terms.proofs.Order.{is_eq-same, ty_cmp-same}
use Rattle.hol_terms.proofs.TotalOrder.{ty_cmp_total}
use Rattle.hol_text.specs.Fitting.{first_of_two}

pub eq-then : (o p : Ordering) → is_eq (ordering_then o p) ≡ (is_eq o && is_eq p)
eq-then Less p = refl
eq-then Equal p = refl
eq-then Greater p = refl

and-false : (b : Bool) → (b && false) ≡ false
and-false true = refl
and-false false = refl

and-true : (b : Bool) → (b && true) ≡ b
and-true true = refl
and-true false = refl

pub itself : (b : Ty) → ty_cmp b b ≡ Equal
itself b = tied_itself ty_cmp_total b

two_are : (ts : List Ty) (d : Ty) → is_eq (tys_cmp (tys ts) (more_tys d (more_tys (second_ty (tys ts)) no_tys))) ≡ first_of_two ts d
two_are [] d = refl
two_are (a ∷ []) d = eq-then (ty_cmp a d) Less ∙ and-false (is_eq (ty_cmp a d))
two_are (a ∷ b ∷ []) d =
    eq-then (ty_cmp a d) (ordering_then (ty_cmp b b) Equal) ∙ ap (λ (o : Ordering). is_eq (ty_cmp a d) && is_eq (ordering_then o Equal)) (itself b) ∙ and-true (is_eq (ty_cmp a d))
two_are (a ∷ b ∷ c ∷ ts) d =
    eq-then (ty_cmp a d) (ordering_then (ty_cmp b b) Greater) ∙ ap (λ (o : Ordering). is_eq (ty_cmp a d) && is_eq (ordering_then o Greater)) (itself b) ∙ and-false (is_eq (ty_cmp a d))

pub app_from : (t : Ty) (c : Name) (ts : List Ty) (d : Ty) → t ≡ ty_app c (tys ts) → same_ty t (fun_ty d (range_ty t)) ≡ (bytes_eq c (codes "fun") && first_of_two ts d)
unfolding same_ty
app_from t c ts d e =
    ap (λ (u : Ty). same_ty u (fun_ty d (range_ty u))) e ∙ eq-then (name_cmp c fun_name) _ ∙ ap (λ (b : Bool). b && is_eq (tys_cmp (tys ts) (more_tys d (more_tys (second_ty (tys ts)) no_tys)))) (is_eq-slice_cmp c fun_name)
    ∙ ap (λ (b : Bool). bytes_eq c (codes "fun") && b) (two_are ts d)

pub app_then : (t : Ty) (c : Name) (ts : List Ty) (d : Ty) (r : Bool) → t ≡ ty_app c (tys ts) → bytes_eq c (codes "fun") ≡ true → r ≡ first_of_two ts d → r ≡ same_ty t (fun_ty d (range_ty t))
app_then t c ts d r e h k = k ∙ ap (λ (b : Bool). b && first_of_two ts d) (sym h) ∙ sym (app_from t c ts d e)

pub app_else : (t : Ty) (c : Name) (ts : List Ty) (d : Ty) (r : Bool) → t ≡ ty_app c (tys ts) → bytes_eq c (codes "fun") ≡ false → r ≡ false → r ≡ same_ty t (fun_ty d (range_ty t))
app_else t c ts d r e h k = k ∙ ap (λ (b : Bool). b && first_of_two ts d) (sym h) ∙ sym (app_from t c ts d e)

pub var_from : (t : Ty) (n : Name) (d : Ty) → t ≡ ty_var n → same_ty t (fun_ty d (range_ty t)) ≡ false
unfolding same_ty
var_from t n d e = ap (λ (u : Ty). same_ty u (fun_ty d (range_ty u))) e

pub takes_if : (f x : Tm) → fits f x ≡ true → Takes f x
unfolding same_ty
takes_if f x h = ty_cmp-same _ _ (is_eq-same _ h)

pub ruleset from_lemmas = (app_from, var_from)
