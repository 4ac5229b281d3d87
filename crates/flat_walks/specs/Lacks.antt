-- Terms that lack a free variable.
use Rattle.std.specs.Prelude.{◌≡◌, ◌⊎◌, false, List, [], ◌∷◌, nat_eq}
use Rattle.indexmap.specs.IndexSet.{insert_key}
use Rattle.hol_terms.specs.Binding.{has_free}
use Rattle.flat_terms.specs.Plain.{PlainTables, term_of}
use Rattle.flat_terms.specs.declared.nodes.TermId.{TermId}
use Rattle.flat_walks.specs.Walk.{var_of}

abbrev pub LackAll : PlainTables → TermId → List TermId → Type 0
LackAll t v [] = Unit {0}
LackAll t v (n ∷ ns) = (has_free (var_of (term_of t v)) (term_of t n) ≡ false) × LackAll t v ns

-- the list stays, or has the term
abbrev pub IsAdded : List TermId → List TermId → TermId → Type 0
IsAdded old new n = (new ≡ old) ⊎ (new ≡ insert_key (λ a b. nat_eq a.0 b.0) old n)
