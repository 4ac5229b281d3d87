-- Terms of which all type variables were seen.
use Rattle.std.specs.Prelude.{List, [], ◌∷◌}
use Rattle.hol_terms.specs.Ty.{Ty, tys}
use Rattle.hol_terms.specs.Tm.{Tm, tm_index, tm_free, tm_const, tm_comb, tm_abs}
use Rattle.flat_terms.specs.Plain.{PlainTables, term_of}
use Rattle.flat_terms.specs.declared.nodes.TermId.{TermId}
use Rattle.flat_signatures.specs.Walked.{IsSeen, AreSeen}

-- each type variable of the term is among those seen
abbrev pub IsTermSeen : List Ty → Tm → Type 0
IsTermSeen seen (tm_index i t) = Unit {0}
IsTermSeen seen (tm_free v) = IsSeen seen v.ty
IsTermSeen seen (tm_const c ts t) = AreSeen seen (tys ts)
IsTermSeen seen (tm_comb f x) = IsTermSeen seen f × IsTermSeen seen x
IsTermSeen seen (tm_abs t b) = IsSeen seen t × IsTermSeen seen b

abbrev pub AllTermsWalked : PlainTables → List Ty → List TermId → Type 0
AllTermsWalked t seen [] = Unit {0}
AllTermsWalked t seen (n ∷ ns) = IsTermSeen seen (term_of t n) × AllTermsWalked t seen ns
