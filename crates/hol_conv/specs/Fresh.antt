-- Variables that a term doesn't have.
use Rattle.std.specs.Prelude.{◌≡◌, ℕ, zero, suc, ◌≤◌, true, false, List, [], ◌∷◌, length}
use Rattle.hol_terms.specs.Name.{Name, is_name}
use Rattle.hol_terms.specs.Ty.{Ty}
use Rattle.hol_terms.specs.Tm.{Tm, tm_index, tm_free, tm_const, tm_comb, tm_abs, FreeVar}
use Rattle.hol_terms.specs.Binding.{has_free}
use Rattle.hol_terms.specs.Rules.{free_in_none}

-- a variable of the type that is free neither in the term nor in the hypotheses
pub record IsFresh (t : Tm) (hyps : List Tm) (a : Ty) (v : FreeVar) : Type 0 where
  pub typed : v.ty ≡ a
  pub named : is_name v.name ≡ true
  pub absent : has_free v t ≡ false
  pub none : free_in_none v hyps ≡ true

-- the name of each free variable has at most n bytes
abbrev pub NamesWithin : ℕ → Tm → Type 0
NamesWithin n (tm_index i t) = Unit {0}
NamesWithin n (tm_free v) = length v.name ≤ n
NamesWithin n (tm_const c ts t) = Unit {0}
NamesWithin n (tm_comb f x) = NamesWithin n f × NamesWithin n x
NamesWithin n (tm_abs t b) = NamesWithin n b

abbrev pub AllNamesWithin : ℕ → List Tm → Type 0
AllNamesWithin n [] = Unit {0}
AllNamesWithin n (t ∷ ts) = NamesWithin n t × AllNamesWithin n ts

-- the letter v, so many times
abbrev pub letters : ℕ → Name
letters zero = []
letters (suc n) = 118 ∷ letters n
