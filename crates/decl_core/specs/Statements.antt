-- Words that facts are stated in.
use Rattle.std.specs.Prelude.{ℕ, ◌+◌, Bool, Option, Some, None, if◌then◌else◌, List, [], ◌∷◌, ◌++◌, map, decimal, codes}
use Rattle.std.specs.Coded.{Coded, coded×}
use Rattle.hol_terms.specs.Name.{Name}
use Rattle.hol_terms.specs.Ty.{Ty, ty_var}
use Rattle.hol_terms.specs.Tm.{Tm, FreeVar, tm_free, tm_code}
use Rattle.hol_terms.specs.Typing.{tm_type}
use Rattle.hol_terms.specs.TyVars.{own_const}
use Rattle.hol_terms.specs.Notation.{◌⇒◌, ◌·◌}
use Rattle.hol_terms.specs.Logic.{const_not}
use Rattle.stmt_core.specs.Formulas.{eq_of, imp_of}
use Rattle.decl_core.specs.Declaration.{name_code}

-- a fact is its name and what it states
abbrev pub Fact : Type 0
Fact = Name × Tm

abbrev pub fact_code : Coded Fact
fact_code = coded× name_code tm_code

-- one element where the test holds, and none else
abbrev pub when : {A : Type 0} → Bool → A → List A
when test x = if test then x ∷ [] else []

-- what f gives for a value that is there
abbrev pub for_some : {A B : Type 0} → (A → B) → Option A → List B
for_some f None = []
for_some f (Some x) = f x ∷ []

infixl 30 ◌≐◌
infixr 20 ◌⟹◌
-- an equation, an implication and a negation of HOL
abbrev pub ◌≐◌ : Tm → Tm → Tm
s ≐ t = eq_of s t

abbrev pub ◌⟹◌ : Tm → Tm → Tm
p ⟹ q = imp_of (p ∷ []) q

abbrev pub not_of : Tm → Tm
not_of p = const_not · p

-- what f gives for each element with its number, from k; in the second an element may give several
abbrev pub each_from : {A B : Type 0} → (ℕ → A → B) → ℕ → List A → List B
each_from f k [] = []
each_from f k (x ∷ xs) = f k x ∷ each_from f (k + 1) xs

abbrev pub flat_map_from : {A B : Type 0} → (ℕ → A → List B) → ℕ → List A → List B
flat_map_from f k [] = []
flat_map_from f k (x ∷ xs) = f k x ++ flat_map_from f (k + 1) xs

-- the k-th variable of a letter, as x1, x2
abbrev pub numbered : Name → ℕ → Ty → FreeVar
numbered letter k a = record { name = letter ++ decimal k; ty = a }

-- variables of the types, numbered from 1
abbrev pub variables : Name → List Ty → List FreeVar
variables letter types = each_from (numbered letter) 1 types

-- a variable by its name
abbrev pub variable : Name → Ty → FreeVar
variable name a = record { name = name; ty = a }

-- variables as terms
abbrev pub frees : List FreeVar → List Tm
frees vs = map tm_free vs

-- the type of functions of several arguments
abbrev pub function_ty : List Ty → Ty → Ty
function_ty [] b = b
function_ty (a ∷ rest) b = a ⇒ function_ty rest b

-- a function applied to several arguments
abbrev pub applied : Tm → List Tm → Tm
applied f [] = f
applied f (t ∷ ts) = applied (f · t) ts

-- the constant c applied to arguments, with a result of the type b. Its generic type is that of such a function
abbrev pub call : Name → List Tm → Ty → Tm
call c ts b = applied (own_const c (function_ty (map tm_type ts) b)) ts

-- s1 = t1, s2 = t2 and so on
abbrev pub equations : List Tm → List Tm → List Tm
equations [] ts = []
equations (s ∷ ss) [] = []
equations (s ∷ ss) (t ∷ ts) = (s ≐ t) ∷ equations ss ts

-- the type variable of results
abbrev pub result_ty : Ty
result_ty = ty_var (codes "x1")
