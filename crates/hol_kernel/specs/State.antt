-- What contracts see of a theorem and of a kernel, what a kernel has, and what a call adds.
use Rattle.std.specs.Prelude.{◌≡◌, ℕ, List, [], ◌∷◌, ◌++◌, refl, length, slice_get, Some}
use Rattle.std.specs.Coded.{Coded, code_by, coded×, coded_list, coded_ℕ}
use Rattle.hol_terms.specs.Definition.{Definition, def_code}
use Rattle.hol_terms.specs.Sequent.{Sequent, sequent_code}
use Rattle.hol_terms.specs.Proves.{IsPrefix}

-- a sequent, the definitions that it is derivable over, and the number of the step that gave it
pub record Theorem : Type 0 where
  pub defs : List Definition
  pub sequent : Sequent
  pub step : ℕ

pub record State : Type 0 where
  pub defs : List Definition
  pub steps : List Sequent

abbrev pub theorem_code : Coded Theorem
theorem_code = code_by (List Definition × (Sequent × ℕ)) (coded× (coded_list def_code) (coded× sequent_code coded_ℕ))
    (λ s. (s.defs, (s.sequent, s.step))) (λ p. record { defs = p.0; sequent = p.1.0; step = p.1.1 }) (λ _. refl)

abbrev pub state_code : Coded State
state_code = code_by (List Definition × List Sequent) (coded× (coded_list def_code) (coded_list sequent_code)) (λ s. (s.defs, s.steps)) (λ p. record { defs = p.0; steps = p.1 }) (λ _. refl)

-- the kernel has the theorem: its steps give its sequent at its number, and its definitions begin with those of the theorem
pub record Has (k : State) (th : Theorem) : Type 0 where
  pub at : slice_get k.steps th.step ≡ Some th.sequent
  pub older : IsPrefix th.defs k.defs

-- the theorem is the kernel's next step, over these definitions
pub record IsNewStep (old : State) (defs : List Definition) (new : State) (th : Theorem) (a : Sequent) : Type 0 where
  pub theorem : th ≡ record { defs = defs; sequent = a; step = length old.steps }
  pub state : new ≡ record { defs = defs; steps = old.steps ++ a ∷ [] }

-- what a kernel had, it still has
abbrev pub KeepsAll : State → State → Type 0
KeepsAll old new = (th : Theorem) → Has old th → Has new th

-- only steps were added: the definitions are as before, and each older step and theorem is still there
pub record Grows (old new : State) : Type 0 where
  pub defs : new.defs ≡ old.defs
  pub steps : (i : ℕ) (a : Sequent) → slice_get old.steps i ≡ Some a → slice_get new.steps i ≡ Some a
  pub keeps : (th : Theorem) → Has old th → Has new th
