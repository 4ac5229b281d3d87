-- What a text means over a signature: a type or a term, or its first fault.
use Rattle.std.specs.Prelude.{ℕ, ◌+◌, Bool, true, false, ◌==◌, nat_lt, List, [], ◌∷◌, ◌++◌, length, if◌then◌else◌, Option, Some, None, codes}
use Rattle.hol_terms.specs.Name.{Name}
use Rattle.hol_terms.specs.Ty.{Ty, ty_app, tys}
use Rattle.hol_terms.specs.Tm.{Tm, tm_comb, FreeVar}
use Rattle.hol_terms.specs.TyVars.{ty_vars, const_at}
use Rattle.hol_terms.specs.Typing.{tm_type, fun_name}
use Rattle.hol_terms.specs.Signature.{Signature, arity_of, generic_of}
use Rattle.hol_terms.specs.Rules.{fits, lambda}

-- A name that the signature and the binders do not give, or that has another number of type arguments; an application of a term
-- to one that it does not take. Each with the place of a token.
pub data Fault : Type 0 where
  unknown_at : Name → ℕ → Fault
  ill_at : ℕ → Fault

pub data Meaning (A : Type 0) : Type 0 where
  means : A → Meaning A
  fault : Fault → Meaning A

-- of two faults an unknown name, the one that stands first; of two applications the one that was read first
abbrev pub first_fault : Fault → Fault → Fault
first_fault (unknown_at m p) (unknown_at n q) = if nat_lt q p then unknown_at n q else unknown_at m p
first_fault (unknown_at m p) (ill_at q) = unknown_at m p
first_fault (ill_at p) (unknown_at n q) = unknown_at n q
first_fault (ill_at p) (ill_at q) = ill_at p

-- type arguments; where one has a fault, how many there are
pub data Arguments : Type 0 where
  given : List Ty → Arguments
  faulty : ℕ → Fault → Arguments

abbrev pub count : Arguments → ℕ
count (given ts) = length ts
count (faulty k e) = k

-- one more argument
abbrev pub with_one : Arguments → Meaning Ty → Arguments
with_one (given ts) (means t) = given (ts ++ t ∷ [])
with_one (given ts) (fault e) = faulty (length ts + 1) e
with_one (faulty k e) (means t) = faulty (k + 1) e
with_one (faulty k e) (fault d) = faulty (k + 1) (first_fault e d)

-- ---- types

abbrev pub is_count : Option ℕ → ℕ → Bool
is_count None k = false
is_count (Some n) k = n == k

-- where the name at p has not the number of arguments, that is a fault beside those of the arguments
abbrev pub applied_by : Bool → Name → ℕ → Arguments → Meaning Ty
applied_by true c p (given ts) = means (ty_app c (tys ts))
applied_by true c p (faulty k e) = fault e
applied_by false c p (given ts) = fault (unknown_at c p)
applied_by false c p (faulty k e) = fault (first_fault (unknown_at c p) e)

-- the type of the name at p, applied to arguments
unfoldable pub applied : Signature → Name → ℕ → Arguments → Meaning Ty
applied s c p args = applied_by (is_count (arity_of s c) (count args)) c p args

-- the function type whose arrow is at p
unfoldable pub function : Signature → ℕ → Meaning Ty → Meaning Ty → Meaning Ty
function s p dom ran = applied s fun_name p (with_one (with_one (given []) dom) ran)

-- ---- terms

abbrev pub constant_by : Bool → Name → ℕ → Ty → Arguments → Meaning Tm
constant_by true c p g (given ts) = means (const_at c g ts)
constant_by true c p g (faulty k e) = fault e
constant_by false c p g (given ts) = fault (unknown_at c p)
constant_by false c p g (faulty k e) = fault (first_fault (unknown_at c p) e)

abbrev pub constant_of : Option Ty → Name → ℕ → Arguments → Meaning Tm
constant_of None c p (given ts) = fault (unknown_at c p)
constant_of None c p (faulty k e) = fault (first_fault (unknown_at c p) e)
constant_of (Some g) c p args = constant_by (length (ty_vars g []) == count args) c p g args

-- the constant of the name at p, with type arguments in the order of first occurrence in its generic type
unfoldable pub constant : Signature → Name → ℕ → Arguments → Meaning Tm
constant s c p args = constant_of (generic_of s c) c p args

-- the application whose first token is at p
unfoldable pub fitted : ℕ → Meaning Tm → Meaning Tm → Meaning Tm
fitted p (means f) (means x) = if fits f x then means (tm_comb f x) else fault (ill_at p)
fitted p (means f) (fault e) = fault e
fitted p (fault e) (means x) = fault e
fitted p (fault e) (fault d) = fault (first_fault e d)

-- a term, and the place of the first token of its tree, without parentheses
pub record Operand : Type 0 where
  pub meaning : Meaning Tm
  pub first : ℕ

abbrev pub operand : Meaning Tm → ℕ → Operand
operand m p = record { meaning = m; first = p }

unfoldable pub apply : Operand → Operand → Operand
apply f x = operand (fitted f.first f.meaning x.meaning) f.first

-- a type as the only argument
abbrev pub one_type : Meaning Ty → Arguments
one_type m = with_one (given []) m

abbrev pub type_of : Meaning Tm → Meaning Ty
type_of (means t) = means (tm_type t)
type_of (fault e) = fault e

-- `a = b`, with the sign at p
unfoldable pub equation : Signature → ℕ → Operand → Operand → Operand
equation s p a b = apply (apply (operand (constant s (codes "eq") p (one_type (type_of a.meaning))) a.first) a) b

-- `a /\ b`, `a \/ b`, `a ==> b`, with the sign of the constant c at p
unfoldable pub connective : Signature → Name → ℕ → Operand → Operand → Operand
connective s c p a b = apply (apply (operand (constant s c p (given [])) a.first) a) b

-- `~ a`, with the sign at p
unfoldable pub negation : Signature → ℕ → Operand → Operand
negation s p a = apply (operand (constant s (codes "not") p (given [])) p) a

-- `\x:t. b`, where v stands for x in b. What is unknown in t comes before any fault of b.
abbrev pub abstraction : Meaning Ty → FreeVar → Meaning Tm → Meaning Tm
abstraction (means t) v (means b) = means (lambda v b)
abstraction (means t) v (fault e) = fault e
abstraction (fault e) v b = fault e

-- `!x:t. b`, `?x:t. b`, with the sign of the constant c at p
unfoldable pub quantified : Signature → Name → ℕ → Meaning Ty → Meaning Tm → Operand
quantified s c p t abs = apply (operand (constant s c p (one_type t)) p) (operand abs p)
