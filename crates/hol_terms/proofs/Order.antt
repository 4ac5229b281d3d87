-- Types and variables that the order does not tell apart are equal.
use Rattle.std.proofs.Common.{◌≡◌, refl, ap, true}
use Rattle.std.specs.Ordering.{ordering_then, is_eq}
use Rattle.std.specs.declared.cmp.Ordering.{Ordering}
use Rattle.std.specs.declared.cmp.Ordering.TheVariants.{Less, Equal, Greater}
use Rattle.std.specs.FinMap.{nat_cmp-IsAntisymmetric, slice_cmp-IsAntisymmetric}
use Rattle.hol_terms.specs.Name.{Name}
use Rattle.hol_terms.specs.Ty.{Ty, ty_var, ty_app, Tys, no_tys, more_tys}
use Rattle.hol_terms.specs.Tm.{FreeVar}
use Rattle.hol_terms.specs.Subst.{name_cmp, ty_cmp, tys_cmp}
use Rattle.hol_terms.specs.Binding.{var_cmp, var_eq}

pub both_tie : (p q : Ordering) → ordering_then p q ≡ Equal → (p ≡ Equal) × (q ≡ Equal)
both_tie Less q e = cc
both_tie Equal q e = (refl, e)
both_tie Greater q e = cc

pub name_cmp-same : (a b : Name) → name_cmp a b ≡ Equal → a ≡ b
name_cmp-same a b e = slice_cmp-IsAntisymmetric nat_cmp-IsAntisymmetric a b e

mutual
  pub ty_cmp-same : (t u : Ty) → ty_cmp t u ≡ Equal → t ≡ u
  ty_cmp-same (ty_var a) (ty_var b) e = ap ty_var (name_cmp-same a b e)
  ty_cmp-same (ty_var a) (ty_app b us) e = cc
  ty_cmp-same (ty_app a ts) (ty_var b) e = cc
  ty_cmp-same (ty_app a ts) (ty_app b us) e =
      let p = both_tie (name_cmp a b) (tys_cmp ts us) e in
      λ i. ty_app (name_cmp-same a b p.0 i) (tys_cmp-same ts us p.1 i)

  pub tys_cmp-same : (ts us : Tys) → tys_cmp ts us ≡ Equal → ts ≡ us
  tys_cmp-same no_tys no_tys e = refl
  tys_cmp-same no_tys (more_tys u us) e = cc
  tys_cmp-same (more_tys t ts) no_tys e = cc
  tys_cmp-same (more_tys t ts) (more_tys u us) e =
      let p = both_tie (ty_cmp t u) (tys_cmp ts us) e in
      λ i. more_tys (ty_cmp-same t u p.0 i) (tys_cmp-same ts us p.1 i)

pub is_eq-same : (o : Ordering) → is_eq o ≡ true → o ≡ Equal
is_eq-same Less e = cc
is_eq-same Equal e = refl
is_eq-same Greater e = cc

pub var_eq-same : (v w : FreeVar) → var_eq v w ≡ true → v ≡ w
var_eq-same v w e =
    let p = both_tie (name_cmp v.name w.name) (ty_cmp v.ty w.ty) (is_eq-same (var_cmp v w) e) in
    λ i. record { name = name_cmp-same v.name w.name p.0 i; ty = ty_cmp-same v.ty w.ty p.1 i }
