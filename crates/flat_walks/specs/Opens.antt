-- Terms opened with a variable.
use Rattle.std.specs.Prelude.{ℕ, List}
use Rattle.hol_terms.specs.Tm.{Tm}
use Rattle.hol_terms.specs.Binding.{tm_open}
use Rattle.hol_terms.specs.Loose.{HasAt}
use Rattle.flat_terms.specs.Plain.{PlainTables, HasTerm, term_of}
use Rattle.flat_terms.specs.declared.nodes.TermId.{TermId}
use Rattle.flat_walks.specs.declared.bind.Place.{Place}
use Rattle.flat_walks.specs.Walk.{var_of, Grows}
use Rattle.flat_walks.specs.Number.{IsNumber, AreAll}

-- each index in n that k binders lie before has the type of the variable v
abbrev pub IsOpenable : PlainTables → TermId → ℕ → TermId → Type 0
IsOpenable t v k n = HasAt k (var_of (term_of t v)).ty (term_of t n)

-- the term n with the variable v for each index that k binders lie before
abbrev pub opened : PlainTables → TermId → ℕ → TermId → Tm
opened t v k n = tm_open k (var_of (term_of t v)) (term_of t n)

-- what was noted of a place is right
pub record IsOpened (t : PlainTables) (v : TermId) (p : Place) (r : TermId) : Type 0 where
  pub has : HasTerm t p.term
  pub number : IsNumber t r (opened t v p.depth p.term)

-- the tables grew, and what is noted is right
pub record Opens (old new : PlainTables) (v : TermId) (es : List (Place × TermId)) : Type 0 where
  pub grows : Grows old new
  pub memo : AreAll (IsOpened new v) es
