-- What the rules read off conclusions.
use Rattle.std.specs.Prelude.{◌≡◌, []}
use Rattle.hol_terms.specs.Ty.{Ty}
use Rattle.hol_terms.specs.Tm.{Tm, tm_comb, tm_abs}
use Rattle.hol_terms.specs.Notation.{◌⇒◌}
use Rattle.hol_terms.specs.Opening.{body_of}
use Rattle.hol_terms.specs.Typing.{tm_type, fun_ty}
use Rattle.hol_terms.specs.Signature.{Signature, IsOver}
use Rattle.hol_terms.specs.Definition.{bool_ty}
use Rattle.hol_terms.specs.Sequent.{left_of, argument}
use Rattle.hol_terms.specs.Rules.{function}

-- `o s`, where o takes a truth value
pub record IsUnary (p : Tm) : Type 0 where
  pub applied : p ≡ tm_comb (function p) (argument p)
  pub typed : tm_type (function p) ≡ fun_ty bool_ty bool_ty

-- `s o t`, where o takes two truth values
pub record IsBinary (p : Tm) : Type 0 where
  pub applied : p ≡ tm_comb (tm_comb (function (function p)) (left_of p)) (argument p)
  pub typed : tm_type (function (function p)) ≡ fun_ty bool_ty (fun_ty bool_ty bool_ty)

-- s of `o s`, a formula
pub record IsOperand (sig : Signature) (p s : Tm) : Type 0 where
  pub is : s ≡ argument p
  pub over : IsOver sig [] s
  pub boolean : tm_type s ≡ bool_ty

-- s and t of `s o t`, formulas
pub record AreOperands (sig : Signature) (p s t : Tm) : Type 0 where
  pub first : s ≡ left_of p
  pub second : t ≡ argument p
  pub over_first : IsOver sig [] s
  pub over_second : IsOver sig [] t
  pub boolean_first : tm_type s ≡ bool_ty
  pub boolean_second : tm_type t ≡ bool_ty

-- s and t of `s = t`
pub record AreSides (sig : Signature) (p s t : Tm) : Type 0 where
  pub first : s ≡ left_of p
  pub second : t ≡ argument p
  pub over_first : IsOver sig [] s
  pub over_second : IsOver sig [] t
  pub typed : tm_type t ≡ tm_type s

-- `q (\x. b)`, where q takes predicates on the type
pub record IsQuantified (a : Ty) (e : Tm) : Type 0 where
  pub applied : e ≡ tm_comb (function e) (argument e)
  pub abstraction : argument e ≡ tm_abs a (body_of (argument e))
  pub typed : tm_type (function e) ≡ (a ⇒ bool_ty) ⇒ bool_ty

-- a predicate on the type, an abstraction
pub record IsPredicate (sig : Signature) (a : Ty) (p : Tm) : Type 0 where
  pub is : p ≡ tm_abs a (body_of p)
  pub over : IsOver sig [] p
  pub typed : tm_type p ≡ a ⇒ bool_ty

pub record IsFormula (sig : Signature) (p : Tm) : Type 0 where
  pub over : IsOver sig [] p
  pub boolean : tm_type p ≡ bool_ty
