-- Marks and ends that are fit for a kernel.
use Rattle.std.specs.Prelude.{◌≡◌, ℕ, ◌+◌, ◌<◌, ◌≤◌, Bool, true, false, List, [], ◌∷◌, All, IsSomeAnd, length, take, slice_get, string_bytes, option_to_list}
use Rattle.std.specs.List.{list_any}
use Rattle.hol_terms.specs.Name.{is_name}
use Rattle.hol_terms.specs.Base.{base}
use Rattle.hol_terms.specs.declared.defs.Def.{Def}
use Rattle.hol_kernel.specs.State.{State}
use Rattle.hol_kernel.specs.Run.{IsRun}
use Rattle.hol_kernel.specs.declared.step.Step.{Step}
use Rattle.hol_kernel.specs.declared.step.Step.TheVariants.{Const, TypeAbs, TypeRep}
use Rattle.hol_logs.specs.Line.{is_section, is_word}
use Rattle.proof_log.specs.declared.marks.Mark.{Mark}
use Rattle.proof_log.specs.declared.marks.MarkKind.{MarkKind}
use Rattle.proof_log.specs.declared.marks.MarkKind.TheVariants.{Base, Section, Name}
use Rattle.proof_log.specs.declared.marks.End.{End}
use Rattle.proof_log.specs.declared.marks.End.TheVariants.{Done, Stop}

-- ---- places

-- the second step of a type's definition
abbrev pub is_second : Step → Bool
is_second (TypeRep i) = true
is_second s = false

-- no place is above the number of steps, or between the two steps of a type's definition
pub record IsPlace (steps : List Step) (at : ℕ) : Type 0 where
  pub within : at ≤ length steps
  pub apart : list_any is_second (option_to_list (slice_get steps at)) ≡ false

-- how many definitions a step makes, and a list of steps
abbrev pub makes : Step → ℕ
makes (Const i) = 1
makes (TypeAbs i) = 1
makes s = 0

abbrev pub made_by : List Step → ℕ
made_by [] = 0
made_by (s ∷ ss) = makes s + made_by ss

-- places don't descend, and none is below the given one
abbrev pub AreInOrder : ℕ → List Mark → Type 0
AreInOrder at [] = Unit {0}
AreInOrder at (m ∷ ms) = (at ≤ m.at) × AreInOrder m.at ms

-- ---- what a mark says

-- behind the base mark: a section, or a name of a theorem without hypotheses whose step is below the place
abbrev pub IsFitKind : State → ℕ → MarkKind → Type 0
IsFitKind k at (Base m) = ⊥
IsFitKind k at (Section text) = is_section (string_bytes text) ≡ true
IsFitKind k at (Name name i) = (is_name (string_bytes name) ≡ true) × (i < at) × IsSomeAnd (slice_get k.steps i) (λ a. a.hyps ≡ [])

abbrev pub IsFitMark : State → Mark → Type 0
IsFitMark k m = IsFitKind k m.at m.kind

-- a test and a name of one word each
abbrev pub IsFitEnd : End → Type 0
IsFitEnd Done = Unit {0}
IsFitEnd (Stop test name place) = (is_word (string_bytes test) ≡ true) × (is_word (string_bytes name) ≡ true)

-- The first mark is the only base mark, and stands where the definitions are exactly the n base definitions. Places are those of
-- any steps that give the kernel's state.
pub record AreFitFrom (n : ℕ) (k : State) (first : Mark) (others : List Mark) (end : End) : Type 0 where
  pub based : first.kind ≡ Base n
  pub said : All (IsFitMark k) others
  pub ordered : AreInOrder first.at others
  pub ended : IsFitEnd end
  pub placed : (ds : List Def) (ss : List Step) → IsRun ds ss k → All (λ m. IsPlace ss m.at) (first ∷ others)
  pub exact : (ds : List Def) (ss : List Step) → IsRun ds ss k → take (made_by (take first.at ss)) k.defs ≡ base n

-- with n base definitions in force
abbrev pub AreFit : ℕ → State → List Mark → End → Type 0
AreFit n k [] end = ⊥
AreFit n k (first ∷ others) end = AreFitFrom n k first others end
