-- Where a hypothesis goes in a list, or that it is there.
use Rattle.std.specs.Prelude.{◌≡◌, ℕ, ◌≤◌, List, length, Option, Some, None, insert}
use Rattle.hol_terms.specs.Tm.{Tm}
use Rattle.hol_terms.specs.Sequent.{insert_hyp}

abbrev pub IsPlace : Tm → List Tm → Option ℕ → Type 0
IsPlace t hyps None = insert_hyp t hyps ≡ hyps
IsPlace t hyps (Some i) = (i ≤ length hyps) × (insert_hyp t hyps ≡ insert hyps i t)
