-- What the parts of a formula keep: truth values, and no loose index.
use Rattle.std.proofs.Common.{◌≡◌, ℕ, zero, suc, ◌∙◌, List, [], ◌∷◌, take, drop, ap}
use Rattle.hol_terms.specs.Tm.{Tm, FreeVar}
use Rattle.hol_terms.specs.Typing.{tm_type, fun_ty}
use Rattle.hol_terms.specs.Definition.{bool_ty}
use Rattle.hol_terms.specs.Binding.{tm_bind}
use Rattle.hol_terms.proofs.KeptTypes.{tm_type-bind}
use Rattle.hol_terms.specs.Loose.{IsClosedAt}
use Rattle.hol_tables.proofs.BuildingLemmas.{IsClosedAt-bind}
use Rattle.stmt_core.specs.Formulas.{IsBoolean, AreBoolean, HaveNoLoose}

AreBoolean-take : (n : ℕ) (ts : List Tm) → AreBoolean ts → AreBoolean (take n ts)
AreBoolean-take zero ts h = tt
AreBoolean-take (suc n) [] h = tt
AreBoolean-take (suc n) (t ∷ ts) h = (h.0, AreBoolean-take n ts h.1)

pub AreBoolean-rest : (n : ℕ) (ts : List Tm) → AreBoolean ts → AreBoolean (take n (drop 1 ts))
AreBoolean-rest n [] h = AreBoolean-take n [] h
AreBoolean-rest n (t ∷ ts) h = AreBoolean-take n ts h.1

HaveNoLoose-take : (n : ℕ) (ts : List Tm) → HaveNoLoose ts → HaveNoLoose (take n ts)
HaveNoLoose-take zero ts h = tt
HaveNoLoose-take (suc n) [] h = tt
HaveNoLoose-take (suc n) (t ∷ ts) h = (h.0, HaveNoLoose-take n ts h.1)

pub HaveNoLoose-rest : (n : ℕ) (ts : List Tm) → HaveNoLoose ts → HaveNoLoose (take n (drop 1 ts))
HaveNoLoose-rest n [] h = HaveNoLoose-take n [] h
HaveNoLoose-rest n (t ∷ ts) h = HaveNoLoose-take n ts h.1

-- a predicate on a variable's type
pub tm_type-lambda : (v : FreeVar) (t : Tm) → IsBoolean t → fun_ty v.ty (tm_type (tm_bind 0 v t)) ≡ fun_ty v.ty bool_ty
tm_type-lambda v t h = ap (λ u. fun_ty v.ty u) (tm_type-bind 0 v t ∙ h)

pub IsClosedAt-lambda : (v : FreeVar) (t : Tm) → IsClosedAt 0 t → IsClosedAt 1 (tm_bind 0 v t)
IsClosedAt-lambda v t h = IsClosedAt-bind 0 v t h

pub ruleset rest_lemmas = (AreBoolean-rest, HaveNoLoose-rest)

pub ruleset lambda_lemmas = (tm_type-lambda, IsClosedAt-lambda)
