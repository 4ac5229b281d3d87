-- What the definition of a type adds.
use Rattle.std.specs.Prelude.{◌≡◌, ℕ, ◌+◌, List, [], ◌∷◌, ◌++◌, length, slice_get, Some}
use Rattle.hol_terms.specs.Name.{Name}
use Rattle.hol_terms.specs.Tm.{Tm, tm_comb}
use Rattle.hol_terms.specs.Definition.{type_def}
use Rattle.hol_terms.specs.Sequent.{Sequent, seq}
use Rattle.hol_terms.specs.Proves.{abs_rep, rep_abs}
use Rattle.hol_kernel.specs.State.{Theorem, State}

-- the type of that name and predicate is the last definition, and the two theorems that say it are the kernel's next steps
pub record IsNewType (old : State) (n : Name) (p : Tm) (new : State) (abs rep : Theorem) : Type 0 where
  pub abs_is : abs ≡ record { defs = old.defs ++ type_def n p ∷ []; sequent = seq [] (abs_rep n p); step = length old.steps }
  pub rep_is : rep ≡ record { defs = old.defs ++ type_def n p ∷ []; sequent = seq [] (rep_abs n p); step = length old.steps + 1 }
  pub state : new ≡ record { defs = old.defs ++ type_def n p ∷ []; steps = old.steps ++ seq [] (abs_rep n p) ∷ seq [] (rep_abs n p) ∷ [] }

-- the step of that number says that the predicate holds of a term
pub record IsShownAt (steps : List Sequent) (from : ℕ) (p : Tm) : Type 0 where
  pub witness : Tm
  pub shown : slice_get steps from ≡ Some (seq [] (tm_comb p witness))
