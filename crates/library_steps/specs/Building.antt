-- The steps in which a library is built, and what is there after them.
use Rattle.std.specs.Prelude.{◌≡◌, ◌<◌, ◌≤◌, ℕ, ◌+◌, List, [], ◌∷◌, ◌++◌, Some, All, Contains, IsSomeAnd, map, slice_get, true}
use Rattle.hol_terms.specs.Base.{base, base_definitions}
use Rattle.hol_terms.specs.Definition.{Definition}
use Rattle.hol_terms.specs.Name.{Name}
use Rattle.hol_terms.specs.Sequent.{Sequent}
use Rattle.hol_terms.specs.Text.{Text}
use Rattle.hol_kernel.specs.Said.{is_const_def}
use Rattle.hol_kernel.specs.State.{State, Theorem, Has}
use Rattle.library_facts.specs.Facts.{statement_of, statements_of}
use Rattle.script_core.specs.Shelves.{Shelved}
use Rattle.library_steps.specs.Closed.{Proves, ShowsElement}
use Rattle.library_steps.specs.declared.step.Step.{Step}
use Rattle.library_steps.specs.declared.step.Step.TheVariants.{Constant, NewType, Prove}

-- the kernel still has its definitions, in front, its steps and its theorems
pub record Keeps (k l : State) : Type 0 where
  pub more : List Definition
  pub defs : l.defs ≡ k.defs ++ more
  pub steps : (i : ℕ) (a : Sequent) → slice_get k.steps i ≡ Some a → slice_get l.steps i ≡ Some a
  pub theorems : (th : Theorem) → Has k th → Has l th

-- the shelf begins as it was
pub record Extends (s t : Shelved) : Type 0 where
  pub more : Shelved
  pub is : t ≡ s ++ more

-- the facts on a shelf, each by its text, in the order of putting
abbrev pub facts_on : Shelved → List Text
facts_on s = map (λ (e : Text × Theorem). e.0) s

-- the definitions, and the facts that are proved, after a step and after steps
abbrev pub defs_after : List Definition → Step → List Definition
defs_after ds (Constant place) = base (place + 1)
defs_after ds (NewType place table) = base (place + 1)
defs_after ds (Prove fact from table) = ds

abbrev pub facts_after : List Text → Step → List Text
facts_after facts (Constant place) = facts
facts_after facts (NewType place table) = facts
facts_after facts (Prove fact from table) = facts ++ statement_of fact ∷ []

abbrev pub made : List Definition → List Step → List Definition
made ds [] = ds
made ds (step ∷ steps) = made (defs_after ds step) steps

abbrev pub proved : List Text → List Step → List Text
proved facts [] = facts
proved facts (step ∷ steps) = proved (facts_after facts step) steps

-- the base definition behind so many others, at least ten, is a constant's
pub record IsConstantAt (place : ℕ) : Type 0 where
  pub above : 10 ≤ place
  pub below : place < 52
  pub is : IsSomeAnd (slice_get base_definitions place) (λ d. is_const_def d ≡ true)

-- that of a type, whose element the table shows
pub record IsTypeAt (place : ℕ) (table : Text) : Type 0 where
  pub above : 10 ≤ place
  pub below : place < 52
  pub name : Name
  pub shows : ShowsElement place table name

-- each of the facts is one of these
pub record AreAmong (facts from : List Text) : Type 0 where
  pub all : All (Contains facts) from

-- the step can be taken over these definitions, once these facts are proved
abbrev pub FitsAt : List Definition → List Text → Step → Type 0
FitsAt ds facts (Constant place) = (ds ≡ base place) × IsConstantAt place
FitsAt ds facts (NewType place table) = (ds ≡ base place) × IsTypeAt place table.now
FitsAt ds facts (Prove fact from table) = AreAmong facts (statements_of from.now) × Proves ds (statements_of from.now) table.now (statement_of fact)

-- each step can be taken after those before it
abbrev pub AllFit : List Definition → List Text → List Step → Type 0
AllFit ds facts [] = Unit {0}
AllFit ds facts (step ∷ steps) = FitsAt ds facts step × AllFit (defs_after ds step) (facts_after facts step) steps

pub record CanTake (ds : List Definition) (facts : List Text) (steps : List Step) : Type 0 where
  pub all : AllFit ds facts steps

-- the steps make these definitions from those
pub record Makes (ds es : List Definition) (steps : List Step) : Type 0 where
  pub is : es ≡ made ds steps

-- they put their facts on the shelf, and nothing else
pub record Puts (s t : Shelved) (steps : List Step) : Type 0 where
  pub is : facts_on t ≡ proved (facts_on s) steps
