-- Steps over the tables, and the steps that they stand on.
use Rattle.std.specs.Prelude.{◌≡◌, ℕ, Bool, false, List, [], ◌∷◌, Some, slice_get, nat_lt}
use Rattle.hol_terms.specs.Signature.{Signature}
use Rattle.hol_logs.specs.Step.{LogStep, IsStepOver}
use Rattle.flat_terms.specs.Plain.{PlainTables}
use Rattle.flat_rules.specs.declared.sequent.FlatSequent.{FlatSequent}
use Rattle.flat_lines.specs.declared.numbers.Number.{Number}
use Rattle.flat_lines.specs.declared.numbers.Number.TheVariants.{Small, Huge}
use Rattle.flat_lines.specs.declared.steps.FlatStep.{FlatStep}
use Rattle.flat_lines.specs.declared.steps.FlatStep.TheVariants.{Refl, Trans, Comb, Abs, Beta, Assume, Mp, Deduct, InstType, Inst, Axiom}
use Rattle.flat_lines.specs.Lines.{IsFlatStep}

-- of so many steps there is one of the number
abbrev pub is_there : ℕ → Number → Bool
is_there count (Small n) = nat_lt n count
is_there count Huge = false

-- the sequent stands there
abbrev pub IsAt : List FlatSequent → Number → FlatSequent → Type 0
IsAt qs (Small n) q = slice_get qs n ≡ Some q
IsAt qs Huge q = ⊥

-- the numbers of the steps that a step stands on
abbrev pub flat_premises : FlatStep → List Number
flat_premises (Refl t) = []
flat_premises (Trans i j) = i ∷ j ∷ []
flat_premises (Comb i j) = i ∷ j ∷ []
flat_premises (Abs v i) = i ∷ []
flat_premises (Beta t) = []
flat_premises (Assume t) = []
flat_premises (Mp i j) = i ∷ j ∷ []
flat_premises (Deduct i j) = i ∷ j ∷ []
flat_premises (InstType i ps) = i ∷ []
flat_premises (Inst i ps) = i ∷ []
flat_premises (Axiom k) = []

-- the step stands for one over the signature
abbrev pub IsStepRead : PlainTables → Signature → FlatStep → Type 0
IsStepRead t s f = (l : LogStep) × IsFlatStep t f l × IsStepOver s l
