-- Terms with terms in place of their free variables, over the tables.
use Rattle.std.specs.Prelude.{◌≡◌, ◌⊎◌, Bool, List, [], ◌∷◌, Option, nat_eq}
use Rattle.std.specs.Map.{lookup}
use Rattle.indexmap.specs.IndexMap.{insert_entry}
use Rattle.hol_terms.specs.Tm.{Tm}
use Rattle.hol_terms.specs.Typing.{tm_type}
use Rattle.hol_terms.specs.Binding.{VarSubst, tm_inst}
use Rattle.flat_terms.specs.Plain.{PlainTables, HasTerm, term_of}
use Rattle.flat_terms.specs.declared.nodes.TermId.{TermId}
use Rattle.flat_walks.specs.Walk.{var_of, IsVariable, Grows}
use Rattle.flat_walks.specs.Number.{IsNumber, AreAll}

-- pairs of a variable and a term of its type
abbrev pub HasTermPairs : PlainTables → List (TermId × TermId) → Type 0
HasTermPairs t [] = Unit {0}
HasTermPairs t (p ∷ ps) = IsVariable t p.0 × HasTerm t p.1 × (tm_type (term_of t p.1) ≡ (var_of (term_of t p.0)).ty) × HasTermPairs t ps

abbrev pub term_pairs : PlainTables → List (TermId × TermId) → VarSubst
term_pairs t [] = []
term_pairs t (p ∷ ps) = (var_of (term_of t p.0), term_of t p.1) ∷ term_pairs t ps

-- the term n with the pairs' terms for their variables
abbrev pub instance_of : PlainTables → List (TermId × TermId) → TermId → Tm
instance_of t ps n = tm_inst (term_pairs t ps) (term_of t n)

-- what was noted of a term is right
pub record IsInstance (t : PlainTables) (ps : List (TermId × TermId)) (n r : TermId) : Type 0 where
  pub has : HasTerm t n
  pub number : IsNumber t r (instance_of t ps n)

-- the tables grew, and what is noted is right
pub record TakesTerms (old new : PlainTables) (ps es : List (TermId × TermId)) : Type 0 where
  pub grows : Grows old new
  pub memo : AreAll (IsInstance new ps) es

abbrev pub same_term_id : TermId → TermId → Bool
same_term_id a b = nat_eq a.0 b.0

-- what is noted of a term
abbrev pub found_term : List (TermId × TermId) → TermId → Option TermId
found_term es n = lookup (λ k. same_term_id n k) es

-- the list stays, or has the term n with r
abbrev pub IsTermNoted : List (TermId × TermId) → List (TermId × TermId) → TermId → TermId → Type 0
IsTermNoted old new n r = (new ≡ old) ⊎ (new ≡ insert_entry same_term_id old n r)
