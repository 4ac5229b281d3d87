-- What a signature's tables stand for.
use Rattle.std.specs.Prelude.{◌≡◌, ℕ, Bool, ◌&&◌, List, [], ◌∷◌, ◌++◌, refl, string_bytes, String}
use Rattle.std.specs.Coded.{Coded, code_by, coded×, coded_list, coded_ℕ}
use Rattle.std.specs.declared.alloc.Global.{Global}
use Rattle.hol_terms.specs.Name.{Name, dot_abs, dot_rep}
use Rattle.hol_terms.specs.Ty.{Ty, ty_code}
use Rattle.hol_terms.specs.Signature.{Signature, is_new}
use Rattle.hol_terms.specs.Tm.{Tm}
use Rattle.hol_terms.specs.Typing.{tm_type, domain_ty, fun_ty}
use Rattle.hol_terms.specs.Definition.{Definition, const_def, type_def, bool_ty}

abbrev pub signature_code : Coded Signature
signature_code = code_by (List (Name × ℕ) × List (Name × Ty)) (coded× (coded_list (coded× (coded_list coded_ℕ) coded_ℕ)) (coded_list (coded× (coded_list coded_ℕ) ty_code)))
    (λ s. (s.types, s.consts)) (λ p. record { types = p.0; consts = p.1 }) (λ _. refl)

-- the entries of a table, each name as its bytes
abbrev pub named : {A : Type 0} → List (String Global × A) → List (Name × A)
named [] = []
named (e ∷ es) = (string_bytes e.0, e.1) ∷ named es

-- one more type, and one more constant
abbrev pub with_type : Signature → Name → ℕ → Signature
with_type s n k = record { types = s.types ++ (n, k) ∷ []; consts = s.consts }

abbrev pub with_const : Signature → Name → Ty → Signature
with_const s c t = record { types = s.types; consts = s.consts ++ (c, t) ∷ [] }

-- each name that the definition introduces is new
abbrev pub introduces_new : Signature → Definition → Bool
introduces_new s (const_def c t) = is_new s c
introduces_new s (type_def n p) = is_new s n && is_new s (dot_abs n) && is_new s (dot_rep n)

-- a type is carved out by a function into bool
abbrev pub IsPredicate : Tm → Type 0
IsPredicate p = tm_type p ≡ fun_ty (domain_ty (tm_type p)) bool_ty

abbrev pub IsPredicateOf : Definition → Type 0
IsPredicateOf (const_def c t) = Unit {0}
IsPredicateOf (type_def n p) = IsPredicate p
