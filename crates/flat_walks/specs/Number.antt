-- The number of a tree, and what is known of each entry of a memo.
use Rattle.std.specs.Prelude.{◌≡◌, List, [], ◌∷◌}
use Rattle.hol_terms.specs.Tm.{Tm}
use Rattle.flat_terms.specs.Plain.{PlainTables, HasTerm, term_of}
use Rattle.flat_terms.specs.declared.nodes.TermId.{TermId}

-- r is the number of the tree x
pub record IsNumber (t : PlainTables) (r : TermId) (x : Tm) : Type 0 where
  pub has : HasTerm t r
  pub tree : term_of t r ≡ x

-- each key has the relation to its value
abbrev pub AreAll : {K V : Type 0} → (K → V → Type 0) → List (K × V) → Type 0
AreAll Holds [] = Unit {0}
AreAll Holds (e ∷ es) = Holds e.0 e.1 × AreAll Holds es
