-- Type variables in order of first occurrence, and instances of a generic type.
use Rattle.std.specs.Prelude.{Bool, true, false, ◌&&◌, ◌||◌, List, [], ◌∷◌, ◌++◌, if◌then◌else◌, bytes_eq}
use Rattle.std.specs.List.{list_any}
use Rattle.std.specs.Ordering.{is_eq}
use Rattle.hol_terms.specs.Name.{Name}
use Rattle.hol_terms.specs.Ty.{Ty, ty_var, ty_app, Tys, no_tys, more_tys, tys}
use Rattle.hol_terms.specs.Tm.{Tm, tm_index, tm_free, tm_const, tm_comb, tm_abs}
use Rattle.hol_terms.specs.Subst.{TySubst, ty_subst, ty_cmp}

abbrev pub is_among : Ty → List Ty → Bool
is_among v seen = list_any (λ u. is_eq (ty_cmp u v)) seen

abbrev pub with_var : Ty → List Ty → List Ty
with_var v seen = if is_among v seen then seen else seen ++ v ∷ []

-- the type variables of a type, each once, by first occurrence, after those seen before
abbrev mutual
  pub ty_vars : Ty → List Ty → List Ty
  ty_vars (ty_var n) seen = with_var (ty_var n) seen
  ty_vars (ty_app n ts) seen = tys_vars ts seen

  pub tys_vars : Tys → List Ty → List Ty
  tys_vars no_tys seen = seen
  tys_vars (more_tys t ts) seen = tys_vars ts (ty_vars t seen)

-- those of a term, in pre-order; the type beside an index or a constant is no part of the term
abbrev pub tm_ty_vars : Tm → List Ty → List Ty
tm_ty_vars (tm_index i t) seen = seen
tm_ty_vars (tm_free v) seen = ty_vars v.ty seen
tm_ty_vars (tm_const c ts t) seen = tys_vars (tys ts) seen
tm_ty_vars (tm_comb f x) seen = tm_ty_vars x (tm_ty_vars f seen)
tm_ty_vars (tm_abs t b) seen = tm_ty_vars b (ty_vars t seen)

-- the variable occurs in the type
abbrev mutual
  pub occurs : Name → Ty → Bool
  occurs n (ty_var m) = bytes_eq m n
  occurs n (ty_app c ts) = occurs_in n ts

  pub occurs_in : Name → Tys → Bool
  occurs_in n no_tys = false
  occurs_in n (more_tys t ts) = occurs n t || occurs_in n ts

-- each type variable of the first occurs in the second
abbrev mutual
  pub ty_within : Ty → Ty → Bool
  ty_within (ty_var n) u = occurs n u
  ty_within (ty_app c ts) u = tys_within ts u

  pub tys_within : Tys → Ty → Bool
  tys_within no_tys u = true
  tys_within (more_tys t ts) u = ty_within t u && tys_within ts u

-- each type variable of the term occurs in the type
abbrev pub tm_within : Tm → Ty → Bool
tm_within (tm_index i t) u = true
tm_within (tm_free v) u = ty_within v.ty u
tm_within (tm_const c ts t) u = tys_within (tys ts) u
tm_within (tm_comb f x) u = tm_within f u && tm_within x u
tm_within (tm_abs t b) u = ty_within t u && tm_within b u

abbrev pub var_name : Ty → Name
var_name (ty_var n) = n
var_name (ty_app n ts) = n

-- each variable is given the argument at its place
abbrev pub pairs_of : List Ty → List Ty → TySubst
pairs_of [] ts = []
pairs_of (v ∷ vs) [] = []
pairs_of (v ∷ vs) (t ∷ ts) = (var_name v, t) ∷ pairs_of vs ts

-- a generic type with arguments in place of its type variables, by first occurrence
abbrev pub instance_at : Ty → List Ty → Ty
instance_at generic args = ty_subst (pairs_of (ty_vars generic []) args) generic

-- the constant c of a generic type, at type arguments
abbrev pub const_at : Name → Ty → List Ty → Tm
const_at c generic args = tm_const c args (instance_at generic args)

-- the constant c of a generic type, at the type's own variables
abbrev pub own_const : Name → Ty → Tm
own_const c generic = tm_const c (ty_vars generic []) generic
