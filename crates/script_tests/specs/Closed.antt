-- What tables are given, and a kernel with one more type.
use Rattle.std.specs.Prelude.{◌≡◌, List, [], ◌∷◌, ◌++◌, All, codes}
use Rattle.std.specs.Borrow.{Bor}
use Rattle.hol_terms.specs.Name.{Name}
use Rattle.hol_terms.specs.Tm.{Tm, FreeVar}
use Rattle.hol_terms.specs.Definition.{Definition, type_def, bool_ty}
use Rattle.hol_terms.specs.Base.{base}
use Rattle.hol_terms.specs.Sequent.{Sequent}
use Rattle.hol_terms.specs.Text.{Text}
use Rattle.script_core.specs.Steps.{Registers}
use Rattle.script_core.specs.Ready.{Fits}

-- nothing beside facts
abbrev pub nothing : Registers
nothing = record { types = []; terms = []; thms = [] }

-- a variable for truth values
abbrev pub named : Name → FreeVar
named n = record { name = n; ty = bool_ty }

abbrev pub variable : FreeVar
variable = named (codes "p")

-- terms and a theorem
abbrev pub over_terms : List Tm → Sequent → Registers
over_terms ts a = record { types = []; terms = ts; thms = a ∷ [] }

-- `T`, which is a fact
abbrev pub truth_text : Text
truth_text = codes "T"

-- the first ten base definitions, and that of a type behind them
pub record HasType (ds : List Definition) : Type 0 where
  pub name : Name
  pub predicate : Tm
  pub is : ds ≡ base 10 ++ type_def name predicate ∷ []

-- each table can be run over the definitions, from nothing
pub record AllFit (ds : List Definition) (cases : List (Bor Text × Bor Text)) : Type 0 where
  pub all : All (λ c. Fits ds [] nothing c.0.now) cases
