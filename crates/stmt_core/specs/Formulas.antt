-- Formulas of several parts. All nest to the right.
use Rattle.std.specs.Prelude.{◌≡◌, List, [], ◌∷◌}
use Rattle.hol_terms.specs.Tm.{Tm, FreeVar}
use Rattle.hol_terms.specs.Notation.{◌·◌}
use Rattle.hol_terms.specs.Typing.{tm_type}
use Rattle.hol_terms.specs.Definition.{bool_ty}
use Rattle.hol_terms.specs.Loose.{IsClosedAt}
use Rattle.hol_terms.specs.Rules.{lambda}
use Rattle.hol_terms.specs.Logic.{const_eq, const_T, const_F, const_conj, const_disj, const_imp, const_all, const_ex}

-- terms of the type of truth values
abbrev pub IsBoolean : Tm → Type 0
IsBoolean t = tm_type t ≡ bool_ty

abbrev pub AreBoolean : List Tm → Type 0
AreBoolean [] = Unit {0}
AreBoolean (t ∷ ts) = IsBoolean t × AreBoolean ts

-- terms without loose indices
abbrev pub HaveNoLoose : List Tm → Type 0
HaveNoLoose [] = Unit {0}
HaveNoLoose (t ∷ ts) = IsClosedAt 0 t × HaveNoLoose ts

-- the equation of two terms
abbrev pub eq_of : Tm → Tm → Tm
eq_of a b = (const_eq (tm_type a)) · a · b

-- all of the terms: T if there are none, and one term is itself
abbrev pub conj_of : List Tm → Tm
conj_of [] = const_T
conj_of (t ∷ []) = t
conj_of (t ∷ u ∷ us) = const_conj · t · conj_of (u ∷ us)

-- one of the terms: F if there are none, and one term is itself
abbrev pub disj_of : List Tm → Tm
disj_of [] = const_F
disj_of (t ∷ []) = t
disj_of (t ∷ u ∷ us) = const_disj · t · disj_of (u ∷ us)

-- from the premises the last term follows
abbrev pub imp_of : List Tm → Tm → Tm
imp_of [] q = q
imp_of (p ∷ ps) q = const_imp · p · imp_of ps q

-- the term for all values of the variables
abbrev pub all_of : List FreeVar → Tm → Tm
all_of [] t = t
all_of (v ∷ vs) t = (const_all v.ty) · lambda v (all_of vs t)

-- the term for some values of the variables
abbrev pub ex_of : List FreeVar → Tm → Tm
ex_of [] t = t
ex_of (v ∷ vs) t = (const_ex v.ty) · lambda v (ex_of vs t)
