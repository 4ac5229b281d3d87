-- What is on a shelf: facts, each by its text, and their theorems, in the order of putting.
use Rattle.std.specs.Prelude.{◌≡◌, ◌≢◌, List, ◌∷◌, ◌++◌, All, Contains, Some, map}
use Rattle.library_facts.specs.declared.fact.Fact.{Fact}
use Rattle.library_facts.specs.Facts.{statement_of}
use Rattle.hol_terms.specs.Text.{Text}
use Rattle.hol_terms.specs.Sequent.{Sequent}
use Rattle.hol_kernel.specs.State.{State, Theorem, Has}
use Rattle.script_core.specs.Tables.{fact_sequent}

abbrev pub Shelved : Type 0
Shelved = List (Text × Theorem)

abbrev pub shelved : List (Fact × Theorem) → Shelved
shelved es = map (λ (e : Fact × Theorem). (statement_of e.0, e.1)) es

-- the sequent is `|- p`, where p is the statement of the fact
pub record IsFact (fact : Text) (a : Sequent) : Type 0 where
  pub is : fact_sequent fact ≡ Some a

-- each theorem is that of its fact
pub record AreStated (shelf : Shelved) : Type 0 where
  pub all : All (λ e. IsFact e.0 e.1.sequent) shelf

-- the kernel has each theorem of the shelf
pub record ShelfHad (k : State) (shelf : Shelved) : Type 0 where
  pub all : All (λ e. Has k e.1) shelf

-- the fact was put
pub record IsOn (shelf : Shelved) (fact : Text) : Type 0 where
  pub th : Theorem
  pub there : Contains shelf (fact, th)

pub record AreOn (shelf : Shelved) (facts : List Text) : Type 0 where
  pub all : All (IsOn shelf) facts

-- what was put last for the fact
pub record IsLastPut (shelf : Shelved) (fact : Text) (th : Theorem) : Type 0 where
  pub before : Shelved
  pub after : Shelved
  pub is : shelf ≡ before ++ (fact, th) ∷ after
  pub none_after : All (λ e. e.0 ≢ fact) after
