-- The functions of a case function, applied.
use Rattle.std.proofs.Common.{◌≡◌, ℕ, ◌+◌, List, [], ◌∷◌, map, ap, sym, refl, codes}
use Rattle.hol_terms.specs.Name.{Name}
use Rattle.hol_terms.specs.Ty.{Ty}
use Rattle.hol_terms.specs.Tm.{tm_free}
use Rattle.hol_terms.specs.Typing.{tm_type}
use Rattle.hol_terms.specs.Loose.{IsClosedAt}
use Rattle.decl_core.specs.Declaration.{Ctor, arg_types}
use Rattle.decl_core.specs.Statements.{each_from, numbered, variables, frees, function_ty, result_ty}
use Rattle.decl_core.specs.FreeConstructors.{xs, branch, branch_xs}
use Rattle.decl_facts.specs.Typed.{TakesAll}
use Rattle.decl_facts.proofs.Applied.{TakesAll-function, tm_type-applied, IsClosedAt-applied, HaveNoLoose-frees}

types-each : (letter : Name) (k : ℕ) (types : List Ty) → map tm_type (map tm_free (each_from (numbered letter) k types)) ≡ types
types-each letter k [] = refl
types-each letter k (a ∷ types) = ap (λ us. a ∷ us) (types-each letter (k + 1) types)

-- the types of variables are those that they were made for
pub types-variables : (letter : Name) (types : List Ty) → map tm_type (frees (variables letter types)) ≡ types
types-variables letter types = types-each letter 1 types

branch-type : (k : ℕ) (c : Ctor) → tm_type (tm_free (branch k c)) ≡ function_ty (map tm_type (frees (xs c))) result_ty
branch-type k c = ap (λ us. function_ty us result_ty) (sym (types-variables (codes "x") (arg_types c)))

pub TakesAll-branch : (k : ℕ) (c : Ctor) → TakesAll (tm_free (branch k c)) (frees (xs c))
TakesAll-branch k c = TakesAll-function (tm_free (branch k c)) (frees (xs c)) result_ty (branch-type k c)

pub tm_type-branch : (k : ℕ) (c : Ctor) → tm_type (branch_xs k c) ≡ result_ty
tm_type-branch k c = tm_type-applied (tm_free (branch k c)) (frees (xs c)) result_ty (branch-type k c)

pub IsClosedAt-branch : (k : ℕ) (c : Ctor) → IsClosedAt 0 (branch_xs k c)
IsClosedAt-branch k c = IsClosedAt-applied (tm_free (branch k c)) (frees (xs c)) tt (HaveNoLoose-frees (xs c))

pub ruleset branch_lemmas = (TakesAll-branch, tm_type-branch, IsClosedAt-branch)

pub ruleset types_lemmas = (types-variables)
