-- Equations over the tables.
use Rattle.std.specs.Prelude.{◌≡◌, false, [], ◌∷◌, codes, Option, Some, None}
use Rattle.hol_terms.specs.Ty.{Ty}
use Rattle.hol_terms.specs.Tm.{Tm, tm_const}
use Rattle.hol_terms.specs.Typing.{tm_type, fun_ty}
use Rattle.hol_terms.specs.Definition.{eq_ty}
use Rattle.hol_terms.specs.Sequent.{eq_tm}
use Rattle.hol_terms.specs.Rules.{is_equation}
use Rattle.flat_terms.specs.declared.nodes.TypeId.{TypeId}
use Rattle.flat_terms.specs.declared.nodes.TermId.{TermId}
use Rattle.flat_terms.specs.Plain.{PlainTables, HasType, HasTerm, type_of, term_of}

-- the constant `eq` at a type
abbrev pub eq_const : Ty → Tm
eq_const a = tm_const (codes "eq") (a ∷ []) (eq_ty a)

-- s and r are the numbers of the sides of the equation p, which have one type
pub record AreSides (t : PlainTables) (p : Tm) (s r : TermId) : Type 0 where
  pub has_left : HasTerm t s
  pub has_right : HasTerm t r
  pub tree : p ≡ eq_tm (term_of t s) (term_of t r)
  pub typed : tm_type (term_of t r) ≡ tm_type (term_of t s)

-- the sides of an equation, or None of what isn't one
abbrev pub IsSplit : PlainTables → Tm → Option (TermId × TermId) → Type 0
IsSplit t p None = is_equation p ≡ false
IsSplit t p (Some (s, r)) = AreSides t p s r

-- the number of the range of a type with the domain a, or None of a type without it
abbrev pub IsRange : PlainTables → Ty → Ty → Option TypeId → Type 0
IsRange t y a None = (b : Ty) → y ≡ fun_ty a b → ⊥
IsRange t y a (Some b) = HasType t b × (y ≡ fun_ty a (type_of t b))
