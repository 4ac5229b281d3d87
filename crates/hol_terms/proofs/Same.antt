-- The tests of equality decide it.
use Rattle.std.proofs.Common.{◌≡◌, true, ap, sym, ◌∙◌}
use Rattle.std.specs.Cmp.{tied_itself}
use Rattle.std.specs.Ordering.{is_eq}
use Rattle.hol_terms.specs.Ty.{Ty}
use Rattle.hol_terms.specs.Tm.{Tm}
use Rattle.hol_terms.specs.Subst.{ty_cmp}
use Rattle.hol_terms.specs.Binding.{tm_cmp}
use Rattle.hol_terms.specs.Rules.{same, same_ty}
use Rattle.hol_terms.proofs.Order.{is_eq-same}
use Rattle.hol_terms.proofs.TotalOrder.{tm_cmp-same, ty_cmp_total, tm_cmp_total}

pub same-is : (s t : Tm) → same s t ≡ true → s ≡ t
unfolding same
same-is s t e = tm_cmp-same s t (is_eq-same (tm_cmp s t) e)

pub same_refl : (t : Tm) → same t t ≡ true
unfolding same
same_refl t = ap is_eq (tied_itself tm_cmp_total t)

pub same_ty-from : (t u : Ty) → t ≡ u → same_ty t u ≡ true
unfolding same_ty
same_ty-from t u e = ap is_eq (ap (ty_cmp t) (sym e) ∙ tied_itself ty_cmp_total t)
