-- What a definition has to meet, but for the witness that the predicate of a new type holds of something.
use Rattle.std.specs.Prelude.{◌≡◌, true, false, List, []}
use Rattle.hol_terms.specs.Name.{Name, dot_abs, dot_rep}
use Rattle.hol_terms.specs.Tm.{Tm}
use Rattle.hol_terms.specs.Typing.{tm_type, domain_ty, fun_ty}
use Rattle.hol_terms.specs.Signature.{IsOver, may_introduce}
use Rattle.hol_terms.specs.Definition.{Definition, const_def, type_def, bool_ty, signature_of, has_frees}
use Rattle.hol_terms.specs.Proves.{IsConstDef}

-- the three names of a new type may be introduced, and its predicate is well typed, closed and a function into bool
pub record IsTypeForm (ds : List Definition) (n : Name) (p : Tm) : Type 0 where
  pub named : may_introduce (signature_of ds) n ≡ true
  pub named_abs : may_introduce (signature_of ds) (dot_abs n) ≡ true
  pub named_rep : may_introduce (signature_of ds) (dot_rep n) ≡ true
  pub closed : has_frees p ≡ false
  pub typed : IsOver (signature_of ds) [] p
  pub predicate : tm_type p ≡ fun_ty (domain_ty (tm_type p)) bool_ty

abbrev pub IsWellFormed : List Definition → Definition → Type 0
IsWellFormed before (const_def c t) = IsConstDef before c t
IsWellFormed before (type_def n p) = IsTypeForm before n p
