-- What a walk over the tables keeps, and what it gives.
use Rattle.std.specs.Prelude.{◌≡◌, ◌⊎◌, ℕ, Bool, List, [], ◌∷◌, Option, Some, None, nat_eq, ◌&&◌, if◌then◌else◌}
use Rattle.indexmap.specs.IndexMap.{insert_entry}
use Rattle.hol_terms.specs.Ty.{ty_var}
use Rattle.hol_terms.specs.Tm.{Tm, FreeVar, tm_index, tm_free, tm_const, tm_comb, tm_abs}
use Rattle.hol_terms.specs.Binding.{tm_bind}
use Rattle.flat_terms.specs.Plain.{PlainTables, HasTerm, term_of}
use Rattle.flat_terms.specs.declared.nodes.TermId.{TermId}
use Rattle.flat_walks.specs.declared.bind.Place.{Place}

-- the free variable that a term is
abbrev pub var_of : Tm → FreeVar
var_of (tm_free v) = v
var_of (tm_index i t) = record { name = []; ty = ty_var [] }
var_of (tm_const c ts t) = record { name = []; ty = ty_var [] }
var_of (tm_comb f x) = record { name = []; ty = ty_var [] }
var_of (tm_abs t b) = record { name = []; ty = ty_var [] }

abbrev pub IsVariable : PlainTables → TermId → Type 0
IsVariable t v = HasTerm t v × (term_of t v ≡ tm_free (var_of (term_of t v)))

-- only terms were added
pub record Grows (old new : PlainTables) : Type 0 where
  pub names : new.names ≡ old.names
  pub types : new.types ≡ old.types
  pub has : (n : TermId) → HasTerm old n → HasTerm new n
  pub same : (n : TermId) → HasTerm old n → term_of new n ≡ term_of old n

-- r is the number of the term n with the variable v bound below k binders
pub record IsBound (old new : PlainTables) (v : TermId) (k : ℕ) (n r : TermId) : Type 0 where
  pub has : HasTerm new r
  pub bound : term_of new r ≡ tm_bind k (var_of (term_of old v)) (term_of old n)

-- what was noted of a place is right
pub record IsRight (t : PlainTables) (v : TermId) (p : Place) (r : TermId) : Type 0 where
  pub has : HasTerm t p.term
  pub bound : IsBound t t v p.depth p.term r

abbrev pub AreBound : PlainTables → TermId → List (Place × TermId) → Type 0
AreBound t v [] = Unit {0}
AreBound t v (e ∷ es) = IsRight t v e.0 e.1 × AreBound t v es

-- the tables grew, and what is noted is right
pub record Walks (old new : PlainTables) (v : TermId) (es : List (Place × TermId)) : Type 0 where
  pub grows : Grows old new
  pub memo : AreBound new v es

abbrev pub same_place : Place → Place → Bool
same_place p q = nat_eq p.term.0 q.term.0 && nat_eq p.depth q.depth

-- what is noted of a place
abbrev pub found : List (Place × TermId) → Place → Option TermId
found [] p = None
found (e ∷ es) p = if same_place p e.0 then Some e.1 else found es p

-- the list stays, or has the place with r
abbrev pub IsNoted : List (Place × TermId) → List (Place × TermId) → Place → TermId → Type 0
IsNoted old new p r = (new ≡ old) ⊎ (new ≡ insert_entry same_place old p r)
