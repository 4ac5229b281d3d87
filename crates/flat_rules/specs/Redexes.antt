-- Applications of an abstraction to a variable.
use Rattle.std.specs.Prelude.{◌≡◌, false, Option, Some, None}
use Rattle.hol_terms.specs.Tm.{Tm, tm_comb, tm_abs}
use Rattle.hol_terms.specs.Sequent.{argument}
use Rattle.hol_terms.specs.Rules.{both, function, is_abstraction, is_variable}
use Rattle.flat_terms.specs.Plain.{PlainTables, HasTerm, term_of}
use Rattle.flat_walks.specs.Walk.{IsVariable, var_of}
use Rattle.flat_rules.specs.declared.rules.Redex.{Redex}

-- the parts of the application p of an abstraction to a variable
pub record AreRedexParts (t : PlainTables) (p : Tm) (r : Redex) : Type 0 where
  pub has_function : HasTerm t r.function
  pub has_body : HasTerm t r.body
  pub variable : IsVariable t r.variable
  pub tree : p ≡ tm_comb (term_of t r.function) (term_of t r.variable)
  pub abstraction : term_of t r.function ≡ tm_abs (var_of (term_of t r.variable)).ty (term_of t r.body)

abbrev pub IsRedex : PlainTables → Tm → Option Redex → Type 0
IsRedex t p None = both (is_abstraction (function p)) (is_variable (argument p)) ≡ false
IsRedex t p (Some r) = AreRedexParts t p r
