-- Where a hypothesis goes in a list, or that it is there.
use Rattle.std.specs.Prelude.{◌≡◌, ℕ, ◌≤◌, List, length, Option, Some, None, insert}
use Rattle.hol_terms.specs.Tm.{Tm}
use Rattle.hol_terms.specs.Sequent.{insert_hyp}

abbrev pub IsPlace : Tm → List Tm → Option ℕ → Type 0
IsPlace x hyps None = insert_hyp x hyps ≡ hyps
IsPlace x hyps (Some i) = (i ≤ length hyps) × (insert_hyp x hyps ≡ insert hyps i x)
