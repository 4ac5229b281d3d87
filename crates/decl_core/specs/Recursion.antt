-- Recursion over the datatypes of a group, and corecursion into its codatatypes. In the comments T1, T2 and so on are the types of the
-- group, l is one of them, and its results have the type 'xl.
use Rattle.std.specs.Prelude.{ℕ, zero, suc, List, [], ◌∷◌, ◌++◌, ◌+◌, length, if◌then◌else◌, map, flat_map, decimal, codes}
use Rattle.hol_terms.specs.Ty.{Ty, ty_var, ty_app, Tys, no_tys, more_tys}
use Rattle.hol_terms.specs.Tm.{Tm, FreeVar, tm_free}
use Rattle.hol_terms.specs.Typing.{tm_type}
use Rattle.hol_terms.specs.TyVars.{own_const}
use Rattle.hol_terms.specs.Notation.{◌⇒◌, ◌·◌}
use Rattle.hol_terms.specs.Rules.{lambda}
use Rattle.hol_terms.specs.Base.{const_id, const_one, const_pair, const_inl, const_inr, const_sum_case, prod_ty, sum_ty, unit_ty}
use Rattle.stmt_core.specs.Formulas.{all_of}
use Rattle.decl_core.specs.Declaration.{Ctor, Decl, type_of, arg_types}
use Rattle.decl_core.specs.Statements.{Fact, ◌≐◌, each_from, flat_map_from, numbered, variables, variable, frees, function_ty, applied, call}
use Rattle.decl_core.specs.FreeConstructors.{xs, of_xs, t}
use Rattle.decl_core.specs.Functors.{Lives, Names, same_type, map_at}
use Rattle.decl_core.specs.FunctorFacts.{images}

-- the type of the results for the type of the number, which is a type variable
abbrev pub result_of : ℕ → Ty
result_of l = ty_var (codes "x" ++ decimal l)

-- a type expression with other types for some that occur in it
abbrev pub type_for : List (Ty × Ty) → Ty → Ty → Ty
type_for [] a b = b
type_for (e ∷ es) a b = if same_type e.0 a then e.1 else type_for es a b

abbrev mutual
  pub replaced : List (Ty × Ty) → Ty → Ty
  replaced es (ty_var n) = ty_var n
  replaced es (ty_app c ts) = type_for es (ty_app c ts) (ty_app c (all_replaced es ts))

  pub all_replaced : List (Ty × Ty) → Tys → Tys
  all_replaced es no_tys = no_tys
  all_replaced es (more_tys a ts) = more_tys (replaced es a) (all_replaced es ts)

-- ---- recursion

-- each type of the group with the pairs of its values and their results
abbrev pub with_results : List Decl → List (Ty × Ty)
with_results ds = each_from (λ l d. (type_of d, prod_ty (type_of d) (result_of l))) 1 ds

-- the type of the function of C, which gets an argument's values with their results
abbrev pub case_type : List Decl → ℕ → Ctor → Ty
case_type ds l c = function_ty (map (replaced (with_results ds)) (arg_types c)) (result_of l)

-- a function for each constructor of the group
abbrev pub case_types : List Decl → List Ty
case_types ds = flat_map_from (λ l d. map (case_type ds l) d.ctors) 1 ds

abbrev pub fs : List Decl → List FreeVar
fs ds = variables (codes "f") (case_types ds)

-- `T.rec fs v`
abbrev pub rec_of : List Decl → ℕ → Decl → Tm → Tm
rec_of ds l d v = call (d.name ++ codes ".rec") (frees (fs ds) ++ v ∷ []) (result_of l)

-- `\t. pair t (T.rec fs t)`
abbrev pub with_result : List Decl → ℕ → Decl → Tm
with_result ds l d = lambda (t d) (const_pair (type_of d) (result_of l) · tm_free (t d) · rec_of ds l d (tm_free (t d)))

abbrev pub all_with_results : List Decl → Names
all_with_results ds = each_from (λ l d. (type_of d, with_result ds l d)) 1 ds

-- `!fs xs. T.rec fs (C xs) = f` of the images of xs, f being the function of C, which has the number k
abbrev pub rec_at : Lives → List Decl → ℕ → Decl → ℕ → Ctor → Tm
rec_at ls ds l d k c =
    all_of (fs ds) (all_of (xs c) (rec_of ds l d (of_xs d c) ≐ applied (tm_free (numbered (codes "f") k (case_type ds l c))) (images ls (all_with_results ds) (arg_types c) (xs c))))

-- T.rec.C for each C; k is how many constructors the types before have
abbrev pub rec_facts_from : Lives → List Decl → ℕ → ℕ → List Decl → List (List Fact)
rec_facts_from ls ds l k [] = []
rec_facts_from ls ds l k (d ∷ rest) =
    each_from (λ n c. (d.name ++ codes ".rec." ++ c.name, rec_at ls ds l d n c)) k d.ctors ∷ rec_facts_from ls ds (l + 1) (k + length d.ctors) rest

abbrev pub rec_facts : Lives → List Decl → List Fact
rec_facts ls ds = flat_map (λ fs. fs) (rec_facts_from ls ds 1 1 ds)

-- ---- corecursion

-- a right-nested product and a right-nested sum
abbrev pub product_of : List Ty → Ty
product_of [] = unit_ty
product_of (a ∷ []) = a
product_of (a ∷ b ∷ rest) = prod_ty a (product_of (b ∷ rest))

abbrev pub sum_of : List Ty → Ty
sum_of [] = unit_ty
sum_of (a ∷ []) = a
sum_of (a ∷ b ∷ rest) = sum_ty a (sum_of (b ∷ rest))

-- the shape of a type: one of its constructors, with its arguments
abbrev pub summands : Decl → List Ty
summands d = map (λ c. product_of (arg_types c)) d.ctors

abbrev pub shape : Decl → Ty
shape d = sum_of (summands d)

abbrev pub tuple : List Tm → Tm
tuple [] = const_one
tuple (x ∷ []) = x
tuple (x ∷ y ∷ rest) = let ys = tuple (y ∷ rest) in const_pair (tm_type x) (tm_type ys) · x · ys

-- x in the k-th summand, from 1
abbrev pub injected : ℕ → List Ty → Tm → Tm
injected k [] x = x
injected k (a ∷ []) x = x
injected zero (a ∷ b ∷ rest) x = x
injected (suc zero) (a ∷ b ∷ rest) x = const_inl a (sum_of (b ∷ rest)) · x
injected (suc (suc k)) (a ∷ b ∷ rest) x = const_inr (sum_of (b ∷ rest)) a · injected (suc k) (b ∷ rest) x

-- `T.ctor s`
abbrev pub ctor_of : Decl → Tm → Tm
ctor_of d s = call (d.name ++ codes ".ctor") (s ∷ []) (type_of d)

-- `!xs. T.ctor (xs in the shape) = C xs`
abbrev pub ctor_at : Decl → ℕ → Ctor → Tm
ctor_at d k c = all_of (xs c) (ctor_of d (injected k (summands d) (tuple (frees (xs c)))) ≐ of_xs d c)

-- T.ctor.C for each C
abbrev pub ctor_facts : Decl → List Fact
ctor_facts d = each_from (λ k c. (d.name ++ codes ".ctor." ++ c.name, ctor_at d k c)) 1 d.ctors

-- each type of the group with its values or states
abbrev pub with_states : List Decl → List (Ty × Ty)
with_states ds = each_from (λ l d. (type_of d, sum_ty (type_of d) (result_of l))) 1 ds

-- for each type of the group, a function from states to the shape, with values or states for the types of the group
abbrev pub steps : List Decl → List FreeVar
steps ds = variables (codes "g") (each_from (λ l d. result_of l ⇒ replaced (with_states ds) (shape d)) 1 ds)

abbrev pub step : List Decl → ℕ → Decl → FreeVar
step ds l d = numbered (codes "g") l (result_of l ⇒ replaced (with_states ds) (shape d))

-- `T.corec gs`
abbrev pub corec : List Decl → ℕ → Decl → Tm
corec ds l d = applied (own_const (d.name ++ codes ".corec") (function_ty (map tm_type (frees (steps ds))) (result_of l ⇒ type_of d))) (frees (steps ds))

-- `sum.case id (T.corec gs)`
abbrev pub from_state : List Decl → ℕ → Decl → Tm
from_state ds l d = const_sum_case (type_of d) (type_of d) (result_of l) · const_id (type_of d) · corec ds l d

abbrev pub all_from_states : List Decl → Names
all_from_states ds = each_from (λ l d. (type_of d, from_state ds l d)) 1 ds

-- `!gs s. T.corec gs s = T.ctor` of the image of `g s`
abbrev pub corec_at : Lives → List Decl → ℕ → Decl → Tm
corec_at ls ds l d =
    let s = variable (codes "s") (result_of l) in
    all_of (steps ds) (all_of (s ∷ []) ((corec ds l d · tm_free s) ≐ ctor_of d (map_at ls (all_from_states ds) (shape d) (tm_free (step ds l d) · tm_free s))))

-- T.ctor.C for each C, then T.corec, for each type
abbrev pub corec_facts : Lives → List Decl → List Fact
corec_facts ls ds = flat_map_from (λ l d. ctor_facts d ++ (d.name ++ codes ".corec", corec_at ls ds l d) ∷ []) 1 ds
