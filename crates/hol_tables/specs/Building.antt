-- Tables of lines that make types and terms: each line makes one, from those that lines before it made.
use Rattle.std.specs.Prelude.{◌≡◌, ℕ, ◌==◌, List, [], ◌∷◌, ◌++◌, length, Option, Some, None, slice_get, IsSome, All}
use Rattle.hol_terms.specs.Name.{Name}
use Rattle.hol_terms.specs.Ty.{Ty, ty_var, ty_app, tys}
use Rattle.hol_terms.specs.Tm.{Tm, tm_free, tm_comb}
use Rattle.hol_terms.specs.Typing.{fun_ty}
use Rattle.hol_terms.specs.TyVars.{ty_vars, const_at}
use Rattle.hol_terms.specs.Loose.{IsClosedAt}
use Rattle.hol_terms.specs.Rules.{fits, if_so, lambda}
use Rattle.hol_tables.specs.declared.build.TypeLine.{TypeLine}
use Rattle.hol_tables.specs.declared.build.TypeLine.TheVariants.{TypeVar, Apply, Fun}
use Rattle.hol_tables.specs.declared.build.TermLine.{TermLine}
use Rattle.hol_tables.specs.declared.build.TermLine.TheVariants.{Const, Var, Comb, Abs}

abbrev pub on : {A B : Type 0} → Option A → (A → Option B) → Option B
on None k = None
on (Some a) k = k a

-- the types at the places, after those found
abbrev pub listed : List Ty → List Ty → List ℕ → Option (List Ty)
listed types found [] = Some found
listed types found (i ∷ is) = on (slice_get types i) (λ t. listed types (found ++ t ∷ []) is)

-- a type variable, a name at types before, and the functions from a type before to one
abbrev pub type_made : List Ty → TypeLine → Option Ty
type_made types (TypeVar name) = Some (ty_var name.now)
type_made types (Apply name places) = on (listed types [] places.now) (λ args. Some (ty_app name.now (tys args)))
type_made types (Fun i j) = on (slice_get types i) (λ a. on (slice_get types j) (λ b. Some (fun_ty a b)))

-- all the types, after those made
abbrev pub types_made : List Ty → List TypeLine → Option (List Ty)
types_made types [] = Some types
types_made types (l ∷ ls) = on (type_made types l) (λ t. types_made (types ++ t ∷ []) ls)

-- a constant of a generic type at types before
abbrev pub const_made : List Ty → Name → Ty → List ℕ → Option Tm
const_made types name generic places = on (listed types [] places) (λ args. if_so (length args == length (ty_vars generic [])) (const_at name generic args))

-- a constant of a generic type at type arguments, a free variable, an application of two terms before that fit, and the
-- abstraction of a variable in a term before
abbrev pub term_made : List Ty → List Tm → TermLine → Option Tm
term_made types terms (Const name i places) = on (slice_get types i) (λ generic. const_made types name.now generic places.now)
term_made types terms (Var name i) = on (slice_get types i) (λ t. Some (tm_free (record { name = name.now; ty = t })))
term_made types terms (Comb i j) = on (slice_get terms i) (λ f. on (slice_get terms j) (λ x. if_so (fits f x) (tm_comb f x)))
term_made types terms (Abs name i j) = on (slice_get types i) (λ t. on (slice_get terms j) (λ b. Some (lambda (record { name = name.now; ty = t }) b)))

abbrev pub last : List Tm → Option Tm
last [] = None
last (t ∷ []) = Some t
last (t ∷ u ∷ us) = last (u ∷ us)

-- the last term of all, after those made
abbrev pub terms_made : List Ty → List Tm → List TermLine → Option Tm
terms_made types terms [] = last terms
terms_made types terms (l ∷ ls) = on (term_made types terms l) (λ t. terms_made types (terms ++ t ∷ []) ls)

-- the term that two tables make
abbrev pub made : List TypeLine → List TermLine → Option Tm
made type_lines term_lines = on (types_made [] type_lines) (λ types. terms_made types [] term_lines)

-- A line can be followed where some further lines make something after it, and what it makes is then what further lines
-- start from.
pub record PlaceFits (types found : List Ty) (i : ℕ) : Type 0 where
  pub rest : List ℕ
  pub is : IsSome (listed types found (i ∷ rest))

pub record PlaceSteps (types found : List Ty) (i : ℕ) (new : List Ty) : Type 0 where
  pub is : (places : List ℕ) → listed types found (i ∷ places) ≡ listed types new places

pub record TypeFits (types : List Ty) (l : TypeLine) : Type 0 where
  pub rest : List TypeLine
  pub is : IsSome (types_made types (l ∷ rest))

pub record TypeSteps (types : List Ty) (l : TypeLine) (new : List Ty) : Type 0 where
  pub is : (ls : List TypeLine) → types_made types (l ∷ ls) ≡ types_made new ls

pub record TermFits (types : List Ty) (terms : List Tm) (l : TermLine) : Type 0 where
  pub rest : List TermLine
  pub is : IsSome (terms_made types terms (l ∷ rest))

pub record TermSteps (types : List Ty) (terms : List Tm) (l : TermLine) (new : List Tm) : Type 0 where
  pub is : (ls : List TermLine) → terms_made types terms (l ∷ ls) ≡ terms_made types new ls

-- no term has a loose index
pub record AllClosed (terms : List Tm) : Type 0 where
  pub all : All (IsClosedAt 0) terms

-- the tables make a term, and which
pub record Makes (type_lines : List TypeLine) (term_lines : List TermLine) : Type 0 where
  pub is : IsSome (made type_lines term_lines)

pub record MakesTerm (type_lines : List TypeLine) (term_lines : List TermLine) (t : Tm) : Type 0 where
  pub is : made type_lines term_lines ≡ Some t
