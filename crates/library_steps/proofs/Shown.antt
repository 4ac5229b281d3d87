-- What closed tables show.
use Rattle.std.proofs.Common.{sym, ◌∙◌, subst, List, IsSome}
use Rattle.hol_terms.specs.Definition.{Definition}
use Rattle.hol_terms.specs.Sequent.{Sequent}
use Rattle.hol_terms.specs.Text.{Text}
use Rattle.hol_kernel.specs.State.{State, Grows}
use Rattle.script_core.specs.Shelves.{Shelved, IsFact, ShelfHad}
use Rattle.script_core.specs.Ready.{Fits, Gives}
use Rattle.library_steps.specs.Closed.{nothing, Proves}
use Rattle.library_steps.proofs.Taken.{facts_put}

pub proves_fits : (ds : List Definition) (from : List Text) (table : Text) (fact : Text) → Proves ds from table fact → Fits ds from nothing table
proves_fits ds from table fact p = record { is = subst IsSome (sym p.is) p.stated }

pub proves_gives : (ds : List Definition) (from : List Text) (table : Text) (fact : Text) (a : Sequent) → Proves ds from table fact → Gives ds from nothing table a → IsFact fact a
proves_gives ds from table fact a p g = record { is = sym p.is ∙ g.is }

pub ruleset shown_lemmas = (proves_fits, proves_gives)

pub had_grows : (k l : State) (s : Shelved) → ShelfHad k s → Grows k l → ShelfHad l s
had_grows k l s h g = record { all = λ i d b. g.keeps _ (h.all i d b) }

pub ruleset put_lemmas = (had_grows, facts_put)
