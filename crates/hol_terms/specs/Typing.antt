-- The type of a term, and function types.
use Rattle.std.specs.Prelude.{[], ◌∷◌}
use Rattle.hol_terms.specs.Name.{Name}
use Rattle.hol_terms.specs.Ty.{Ty, ty_var, ty_app, Tys, no_tys, more_tys}
use Rattle.hol_terms.specs.Tm.{Tm, tm_index, tm_free, tm_const, tm_comb, tm_abs}

abbrev pub fun_name : Name
fun_name = 102 ∷ 117 ∷ 110 ∷ []

abbrev pub fun_ty : Ty → Ty → Ty
fun_ty a b = ty_app fun_name (more_tys a (more_tys b no_tys))

-- the second argument of a type, which is the range of a function type
abbrev pub second_ty : Tys → Ty
second_ty no_tys = ty_var []
second_ty (more_tys a no_tys) = ty_var []
second_ty (more_tys a (more_tys b ts)) = b

abbrev pub range_ty : Ty → Ty
range_ty (ty_var n) = ty_var []
range_ty (ty_app n ts) = second_ty ts

abbrev pub first_ty : Tys → Ty
first_ty no_tys = ty_var []
first_ty (more_tys a ts) = a

abbrev pub domain_ty : Ty → Ty
domain_ty (ty_var n) = ty_var []
domain_ty (ty_app n ts) = first_ty ts

abbrev pub tm_type : Tm → Ty
tm_type (tm_index i t) = t
tm_type (tm_free v) = v.ty
tm_type (tm_const c ts t) = t
tm_type (tm_comb f x) = range_ty (tm_type f)
tm_type (tm_abs t b) = fun_ty t (tm_type b)
