-- What stands behind the sign of a binder.
use Rattle.std.specs.Prelude.{◌≡◌, List, ◌∷◌, Option, Some, None, length, codes}
use Rattle.hol_terms.specs.Ty.{Ty}
use Rattle.hol_terms.specs.Tm.{Tm}
use Rattle.hol_terms.specs.Signature.{Signature}
use Rattle.hol_terms.specs.Text.{Text, bound_text}
use Rattle.strict_reading.specs.Steps.{◌>>=◌}
use Rattle.strict_reading.specs.Words.{behind}
use Rattle.strict_reading.specs.Types.{reads_type}
use Rattle.strict_reading.specs.Terms.{TermReadings}
use Rattle.flat_terms.specs.Plain.{PlainTables, HasType, HasTerm, type_of, term_of}
use Rattle.flat_reading.specs.declared.terms.ScopeRead.{ScopeRead}

-- the type of a bound variable, and the body
pub record Scope : Type 0 where
  pub ty : Ty
  pub body : Tm

-- behind the sign of a binder: the variable with its type, and the body
abbrev pub scope_step : Signature → TermReadings → List Ty → Text → Option (Scope × Text)
scope_step s r bound x =
    behind (bound_text (length bound)) x >>= (λ y. behind (codes ":") y >>= (λ z. reads_type s z >>= (λ p. behind (codes ". ") p.1 >>= (λ v. r.whole (p.0 ∷ bound) v >>= (λ q. Some (record { ty = p.0; body = q.0 }, q.1))))))

abbrev pub IsScopeRead : PlainTables → Option ScopeRead → Option (Scope × Text) → Type 0
IsScopeRead t None o = o ≡ None
IsScopeRead t (Some r) o = HasType t r.ty × HasTerm t r.body × (o ≡ Some (record { ty = type_of t r.ty; body = term_of t r.body }, r.rest.now))
