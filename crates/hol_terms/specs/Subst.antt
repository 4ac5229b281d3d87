-- Substitution in types, all variables at once, and the order of types.
use Rattle.std.specs.Prelude.{◌≡◌, List, [], ◌∷◌, map, if◌then◌else◌, bytes_eq, refl, String, string_bytes}
use mathlib.Core.Path.{ap}
use Rattle.std.specs.declared.alloc.Global.{Global}
use Rattle.std.specs.Ordering.{nat_cmp, ordering_then}
use Rattle.std.specs.Cmp.Lexicographic.{slice_cmp}
use Rattle.std.specs.declared.cmp.Ordering.{Ordering}
use Rattle.std.specs.declared.cmp.Ordering.TheVariants.{Less, Equal, Greater}
use Rattle.hol_terms.specs.Name.{Name}
use Rattle.hol_terms.specs.Ty.{Ty, ty_var, ty_app, Tys, no_tys, more_tys, tys}

abbrev pub TySubst : Type 0
TySubst = List (Name × Ty)

abbrev pub ty_lookup : TySubst → Name → Ty
ty_lookup [] n = ty_var n
ty_lookup (p ∷ s) n = if bytes_eq p.0 n then p.1 else ty_lookup s n

abbrev mutual
  pub ty_subst : TySubst → Ty → Ty
  ty_subst s (ty_var n) = ty_lookup s n
  ty_subst s (ty_app n ts) = ty_app n (tys_subst s ts)

  pub tys_subst : TySubst → Tys → Tys
  tys_subst s no_tys = no_tys
  tys_subst s (more_tys t ts) = more_tys (ty_subst s t) (tys_subst s ts)

pub tys_subst-tys : (s : TySubst) (ts : List Ty) → tys_subst s (tys ts) ≡ tys (map (ty_subst s) ts)
tys_subst-tys s [] = refl
tys_subst-tys s (t ∷ ts) = ap (λ us. more_tys (ty_subst s t) us) (tys_subst-tys s ts)

-- the pairs that a call was given
abbrev pub ty_pairs : List (String Global × Ty) → TySubst
ty_pairs [] = []
ty_pairs (p ∷ ps) = (string_bytes p.0, p.1) ∷ ty_pairs ps

abbrev pub name_cmp : Name → Name → Ordering
name_cmp = slice_cmp nat_cmp

abbrev mutual
  pub ty_cmp : Ty → Ty → Ordering
  ty_cmp (ty_var a) (ty_var b) = name_cmp a b
  ty_cmp (ty_var a) (ty_app b us) = Less
  ty_cmp (ty_app a ts) (ty_var b) = Greater
  ty_cmp (ty_app a ts) (ty_app b us) = ordering_then (name_cmp a b) (tys_cmp ts us)

  pub tys_cmp : Tys → Tys → Ordering
  tys_cmp no_tys no_tys = Equal
  tys_cmp no_tys (more_tys u us) = Less
  tys_cmp (more_tys t ts) no_tys = Greater
  tys_cmp (more_tys t ts) (more_tys u us) = ordering_then (ty_cmp t u) (tys_cmp ts us)

pub tys_cmp-tys : (ts us : List Ty) → tys_cmp (tys ts) (tys us) ≡ slice_cmp ty_cmp ts us
tys_cmp-tys [] [] = refl
tys_cmp-tys [] (u ∷ us) = refl
tys_cmp-tys (t ∷ ts) [] = refl
tys_cmp-tys (t ∷ ts) (u ∷ us) = ap (λ o. ordering_then (ty_cmp t u) o) (tys_cmp-tys ts us)
