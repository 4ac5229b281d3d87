-- Tables that take facts alone.
use Rattle.std.specs.Prelude.{◌≡◌, ℕ, List, [], IsSome, Some, None, slice_get}
use Rattle.hol_terms.specs.Name.{Name}
use Rattle.hol_terms.specs.Definition.{Definition, type_def}
use Rattle.hol_terms.specs.Base.{base, base_definitions}
use Rattle.hol_terms.specs.Sequent.{Sequent}
use Rattle.hol_terms.specs.Text.{Text}
use Rattle.hol_kernel.specs.Fault.{type_fault, predicate_of}
use Rattle.script_core.specs.Steps.{Registers}
use Rattle.script_core.specs.Tables.{fact_sequent, table_sequent}

-- what such a table is given beside its facts
abbrev pub nothing : Registers
nothing = record { types = []; terms = []; thms = [] }

-- over the definitions and from the facts, the table gives what the fact states
pub record Proves (ds : List Definition) (from : List Text) (table : Text) (fact : Text) : Type 0 where
  pub stated : IsSome (fact_sequent fact)
  pub is : table_sequent ds from nothing table ≡ fact_sequent fact

-- over the base definitions before that place, the table shows an element of the predicate of the next one, a type's
pub record ShowsElement (place : ℕ) (table : Text) (name : Name) : Type 0 where
  pub shown : Sequent
  pub is : table_sequent (base place) [] nothing table ≡ Some shown
  pub fit : type_fault (base place) name shown ≡ None
  pub next : slice_get base_definitions place ≡ Some (type_def name (predicate_of shown))
