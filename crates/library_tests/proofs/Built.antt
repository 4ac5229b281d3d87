-- What is there once parts of the library are built.
use Rattle.std.proofs.Common.{◌≡◌, ◌∙◌, sym, subst, []}
use Rattle.std.proofs.lemmas.List.Elements.{All-nil}
use Rattle.hol_terms.specs.Text.{Text}
use Rattle.hol_kernel.specs.State.{State, Theorem, Has}
use Rattle.script_core.specs.Shelves.{Shelved, ShelfHad}
use Rattle.script_core.proofs.Closed.{base_is}
use Rattle.library_steps.proofs.Taken.{rules_kept, all_more}

-- each kernel has the theorems of a shelf without any
pub had_none : (k : State) (s : Shelved) → s ≡ [] → ShelfHad k s
had_none k s e = subst (λ (t : Shelved). ShelfHad k t) (sym e) (record { all = All-nil (λ (x : Text × Theorem). Has k x.1) })

pub ruleset first_lemmas = (base_is, had_none, rules_kept)

pub ruleset more_lemmas = (rules_kept, all_more)
