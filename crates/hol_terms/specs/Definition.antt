-- Definitions, and the signature that a list of them gives. The oldest definition comes first.
use Rattle.std.specs.Prelude.{◌≡◌, ℕ, Bool, true, false, ◌||◌, List, [], ◌∷◌, ◌++◌, length, codes}
use Rattle.std.specs.List.{flat_map}
use base.Stored.{Coded, Gv, gcons, gnum, gnil}
use Rattle.std.specs.Coded.{code_by}
use denote.Struct.Codes.{itself}
use Rattle.hol_terms.specs.Name.{Name, dot_abs, dot_rep}
use Rattle.hol_terms.specs.Ty.{Ty, ty_var, ty_app, no_tys, tys, name_tree, name_of_tree, name_of_tree-name_tree}
use Rattle.hol_terms.specs.Tm.{Tm, tm_index, tm_free, tm_const, tm_comb, tm_abs, tm_tree, tm_of_tree, tm_of_tree-tm_tree}
use Rattle.hol_terms.specs.Typing.{tm_type, domain_ty, fun_ty, fun_name}
use Rattle.hol_terms.specs.TyVars.{tm_ty_vars}
use Rattle.hol_terms.specs.Signature.{Signature}

-- a constant that a closed term defines, or a type that a predicate carves out of another
pub data Definition : Type 0 where
  const_def : Name → Tm → Definition
  type_def : Name → Tm → Definition

-- A definition as a tree of numbers, and back.
abbrev pub def_tree : Definition → Gv
def_tree (const_def n t) = gcons gnil (gcons (name_tree n) (tm_tree t))
def_tree (type_def n t) = gcons (gnum 0) (gcons (name_tree n) (tm_tree t))

abbrev pub def_of_tree : Gv → Definition
def_of_tree (gcons gnil (gcons n t)) = const_def (name_of_tree n) (tm_of_tree t)
def_of_tree (gcons (gnum k) (gcons n t)) = type_def (name_of_tree n) (tm_of_tree t)
def_of_tree _ = const_def [] (tm_of_tree gnil)

pub def_of_tree-def_tree : (d : Definition) → def_of_tree (def_tree d) ≡ d
def_of_tree-def_tree (const_def n t) = λ i. const_def (name_of_tree-name_tree n i) (tm_of_tree-tm_tree t i)
def_of_tree-def_tree (type_def n t) = λ i. type_def (name_of_tree-name_tree n i) (tm_of_tree-tm_tree t i)

abbrev pub def_code : Coded Definition
def_code = code_by Gv itself def_tree def_of_tree def_of_tree-def_tree

abbrev pub bool_ty : Ty
bool_ty = ty_app (codes "bool") no_tys

abbrev pub ind_ty : Ty
ind_ty = ty_app (codes "ind") no_tys

abbrev pub alpha : Ty
alpha = ty_var (codes "a")

-- the types of equality and of choice at a type
abbrev pub eq_ty : Ty → Ty
eq_ty a = fun_ty a (fun_ty a bool_ty)

abbrev pub some_ty : Ty → Ty
some_ty a = fun_ty (fun_ty a bool_ty) a

-- what there is before any definition (HOL Light): bool, fun, ind, equality and choice
abbrev pub start : Signature
start = record {
  types = (codes "bool", 0) ∷ (fun_name, 2) ∷ (codes "ind", 0) ∷ [];
  consts = (codes "eq", eq_ty alpha) ∷ (codes "some", some_ty alpha) ∷ [];
}

-- a new type at its parameters, which are the type variables of its predicate by first occurrence
abbrev pub new_type : Name → Tm → Ty
new_type n p = ty_app n (tys (tm_ty_vars p []))

-- the two functions between the new type and the old one
abbrev pub abs_ty : Name → Tm → Ty
abs_ty n p = fun_ty (domain_ty (tm_type p)) (new_type n p)

abbrev pub rep_ty : Name → Tm → Ty
rep_ty n p = fun_ty (new_type n p) (domain_ty (tm_type p))

abbrev pub types_of : Definition → List (Name × ℕ)
types_of (const_def c t) = []
types_of (type_def n p) = (n, length (tm_ty_vars p [])) ∷ []

abbrev pub consts_of : Definition → List (Name × Ty)
consts_of (const_def c t) = (c, tm_type t) ∷ []
consts_of (type_def n p) = (dot_abs n, abs_ty n p) ∷ (dot_rep n, rep_ty n p) ∷ []

-- the signature with the names of one more definition
abbrev pub with_def : Signature → Definition → Signature
with_def s d = record { types = s.types ++ types_of d; consts = s.consts ++ consts_of d }

-- the signature of a list of definitions: the start, and what each of them adds
abbrev pub signature_of : List Definition → Signature
signature_of ds = record { types = start.types ++ flat_map types_of ds; consts = start.consts ++ flat_map consts_of ds }

-- the term has a free variable
abbrev pub has_frees : Tm → Bool
has_frees (tm_index i t) = false
has_frees (tm_free v) = true
has_frees (tm_const c ts t) = false
has_frees (tm_comb f x) = has_frees f || has_frees x
has_frees (tm_abs t b) = has_frees b
