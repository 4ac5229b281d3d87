-- Applications to several arguments, and lists of terms.
use Rattle.std.proofs.Common.{◌≡◌, ℕ, zero, suc, ◌+◌, ◌<◌, ◌≤◌, drop, ◌∙◌, sym, List, [], ◌∷◌, ◌++◌, map, length, take, get_or, ap, refl, arith, add-one}
use Rattle.std.proofs.lemmas.List.{get_or-map, length-map}
use Rattle.hol_terms.specs.Ty.{Ty, ty_var}
use Rattle.hol_terms.specs.Tm.{Tm, FreeVar}
use Rattle.hol_terms.specs.Typing.{tm_type, fun_ty, range_ty}
use Rattle.hol_terms.specs.Notation.{◌·◌}
use Rattle.hol_terms.specs.TyVars.{own_const}
use Rattle.hol_terms.specs.Name.{Name}
use Rattle.hol_terms.specs.Loose.{IsClosedAt}
use Rattle.stmt_core.specs.Formulas.{HaveNoLoose, AreBoolean}
use Rattle.decl_core.specs.Statements.{◌≐◌, frees, function_ty, applied, call, equations}
use Rattle.decl_facts.specs.Typed.{TakesAll}

-- a function of the type that the arguments show takes them all
pub TakesAll-function : (f : Tm) (ts : List Tm) (b : Ty) → tm_type f ≡ function_ty (map tm_type ts) b → TakesAll f ts
TakesAll-function f [] b h = tt
TakesAll-function f (t ∷ ts) b h =
    let r : range_ty (tm_type f) ≡ function_ty (map tm_type ts) b = ap range_ty h in
    (h ∙ ap (λ u. fun_ty (tm_type t) u) (sym r), TakesAll-function (f · t) ts b r)

pub tm_type-applied : (f : Tm) (ts : List Tm) (b : Ty) → tm_type f ≡ function_ty (map tm_type ts) b → tm_type (applied f ts) ≡ b
tm_type-applied f [] b h = h
tm_type-applied f (t ∷ ts) b h = tm_type-applied (f · t) ts b (ap range_ty h)

pub IsClosedAt-applied : (f : Tm) (ts : List Tm) → IsClosedAt 0 f → HaveNoLoose ts → IsClosedAt 0 (applied f ts)
IsClosedAt-applied f [] h k = h
IsClosedAt-applied f (t ∷ ts) h k = IsClosedAt-applied (f · t) ts (h, k.0) k.1

-- a constant called with the arguments
pub TakesAll-own : (n : Name) (ts : List Tm) (b : Ty) → TakesAll (own_const n (function_ty (map tm_type ts) b)) ts
TakesAll-own n ts b = TakesAll-function (own_const n (function_ty (map tm_type ts) b)) ts b refl

pub tm_type-call : (n : Name) (ts : List Tm) (b : Ty) → tm_type (call n ts b) ≡ b
tm_type-call n ts b = tm_type-applied (own_const n (function_ty (map tm_type ts) b)) ts b refl

pub IsClosedAt-call : (n : Name) (ts : List Tm) (b : Ty) → HaveNoLoose ts → IsClosedAt 0 (call n ts b)
IsClosedAt-call n ts b h = IsClosedAt-applied (own_const n (function_ty (map tm_type ts) b)) ts tt h

pub ruleset call_lemmas = (TakesAll-own, tm_type-call, IsClosedAt-call)

pub HaveNoLoose-frees : (vs : List FreeVar) → HaveNoLoose (frees vs)
HaveNoLoose-frees [] = tt
HaveNoLoose-frees (v ∷ vs) = (tt, HaveNoLoose-frees vs)

pub ruleset frees_lemmas = (HaveNoLoose-frees)

pub AreBoolean-equations : (ss ts : List Tm) → AreBoolean (equations ss ts)
AreBoolean-equations [] ts = tt
AreBoolean-equations (s ∷ ss) [] = tt
AreBoolean-equations (s ∷ ss) (t ∷ ts) = (refl, AreBoolean-equations ss ts)

pub HaveNoLoose-equations : (ss ts : List Tm) → HaveNoLoose ss → HaveNoLoose ts → HaveNoLoose (equations ss ts)
HaveNoLoose-equations [] ts h k = tt
HaveNoLoose-equations (s ∷ ss) [] h k = tt
HaveNoLoose-equations (s ∷ ss) (t ∷ ts) h k = (((tt, h.0), k.0), HaveNoLoose-equations ss ts h.1 k.1)

HaveNoLoose-take : (n : ℕ) (ts : List Tm) → HaveNoLoose ts → HaveNoLoose (take n ts)
HaveNoLoose-take zero ts h = tt
HaveNoLoose-take (suc n) [] h = tt
HaveNoLoose-take (suc n) (t ∷ ts) h = (h.0, HaveNoLoose-take n ts h.1)

pub HaveNoLoose-equations_take : (us ss ts : List Tm) (i : ℕ) → us ≡ equations (take i ss) ts → HaveNoLoose ss → HaveNoLoose ts → HaveNoLoose us
HaveNoLoose-equations_take us ss ts i e h k = rw e (HaveNoLoose-equations (take i ss) ts (HaveNoLoose-take i ss h) k)

-- the arguments that are left of a slice
TakesAll-take : (n : ℕ) (f : Tm) (ts : List Tm) → TakesAll f ts → TakesAll f (take n ts)
TakesAll-take zero f ts h = tt
TakesAll-take (suc n) f [] h = tt
TakesAll-take (suc n) f (t ∷ ts) h = (h.0, TakesAll-take n (f · t) ts h.1)

pub TakesAll-rest : (n : ℕ) (f : Tm) (ts : List Tm) (d : Tm) → 1 ≤ length ts → TakesAll f ts → TakesAll (f · get_or ts 0 d) (take n (drop 1 ts))
TakesAll-rest n f [] d h k = absurd (omega arith)
TakesAll-rest n f (t ∷ ts) d h k = TakesAll-take n (f · t) ts k.1

pub ruleset apply_lemmas = (TakesAll-rest)

same_length : (ss ts : List Tm) → map tm_type ss ≡ map tm_type ts → length ss ≡ length ts
same_length ss ts h = sym (length-map ss tm_type) ∙ ap length h ∙ length-map ts tm_type

-- terms of the same types, at each place
pub same_types-bound : (ss ts : List Tm) (i : ℕ) → map tm_type ss ≡ map tm_type ts → i < length ss → i < length ts
same_types-bound ss ts i h k = omega (arith, same_length ss ts h)

pub same_types-at : (ss ts : List Tm) (i : ℕ) (d e : Tm) → map tm_type ss ≡ map tm_type ts → i < length ss → tm_type (get_or ss i d) ≡ tm_type (get_or ts i e)
same_types-at ss ts i d e h k =
    sym (get_or-map tm_type ss i d (ty_var []) k) ∙ ap (λ us. get_or us i (ty_var [])) h ∙ get_or-map tm_type ts i e (ty_var []) (same_types-bound ss ts i h k)

equations-suc : (ss ts : List Tm) (i : ℕ) (d e : Tm) → i < length ss → i < length ts → equations (take (suc i) ss) ts ≡ equations (take i ss) ts ++ (get_or ss i d ≐ get_or ts i e) ∷ []
equations-suc [] ts i d e h k = absurd (omega arith)
equations-suc (s ∷ ss) [] i d e h k = absurd (omega arith)
equations-suc (s ∷ ss) (t ∷ ts) zero d e h k = refl
equations-suc (s ∷ ss) (t ∷ ts) (suc i) d e h k = ap (λ us. (s ≐ t) ∷ us) (equations-suc ss ts i d e (omega arith) (omega arith))

pub equations_more : (ss ts : List Tm) (i : ℕ) (d e : Tm) → i < length ss → i < length ts → equations (take (i + 1) ss) ts ≡ equations (take i ss) ts ++ (get_or ss i d ≐ get_or ts i e) ∷ []
equations_more ss ts i d e h k = rw add-one (equations-suc ss ts i d e h k)

pub ruleset equations_lemmas = (same_types-bound, same_types-at, equations_more, AreBoolean-equations, HaveNoLoose-equations)
