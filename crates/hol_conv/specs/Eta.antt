-- Eta conversion.
use Rattle.std.specs.Prelude.{◌≡◌, [], codes}
use Rattle.hol_terms.specs.Ty.{Ty}
use Rattle.hol_terms.specs.Tm.{Tm, tm_index, tm_free, tm_comb, tm_abs, FreeVar}
use Rattle.hol_terms.specs.Typing.{domain_ty, tm_type, fun_ty}
use Rattle.hol_terms.specs.Loose.{IsClosedAt}
use Rattle.hol_terms.specs.Opening.{body_of}
use Rattle.hol_terms.specs.Rules.{function}
use Rattle.hol_terms.specs.Sequent.{Sequent, seq, eq_tm}

-- `\x. f x`
abbrev pub expanded : Tm → Tm
expanded f = tm_abs (domain_ty (tm_type f)) (tm_comb f (tm_index 0 (domain_ty (tm_type f))))

-- the function that is applied in the body
abbrev pub applied_in : Tm → Tm
applied_in t = function (body_of t)

-- the term is `\x. f x`, and x is not in f
pub record IsEtaRedex (t : Tm) : Type 0 where
  pub shape : t ≡ expanded (applied_in t)
  pub closed : IsClosedAt 0 (applied_in t)

-- the variable f of functions between two types
abbrev pub function_between : Ty → Ty → FreeVar
function_between a b = record { name = codes "f"; ty = fun_ty a b }

-- `|- (\x. f x) = f` for that variable
unfoldable pub eta_fact : Ty → Ty → Sequent
eta_fact a b = seq [] (eq_tm (expanded (tm_free (function_between a b))) (tm_free (function_between a b)))
