-- What is known of terms that a walk has passed.
use Rattle.std.specs.Prelude.{◌≡◌, false, List, [], ◌∷◌}
use Rattle.hol_terms.specs.Tm.{Tm}
use Rattle.hol_terms.specs.Definition.{has_frees}
use Rattle.flat_terms.specs.Plain.{PlainTables, term_of}
use Rattle.flat_terms.specs.declared.nodes.TermId.{TermId}

abbrev pub AllMeet : (Tm → Type 0) → PlainTables → List TermId → Type 0
AllMeet P t [] = Unit {0}
AllMeet P t (n ∷ ns) = P (term_of t n) × AllMeet P t ns

abbrev pub IsClosed : Tm → Type 0
IsClosed t = has_frees t ≡ false
