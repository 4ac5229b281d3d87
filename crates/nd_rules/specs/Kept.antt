-- What the rules keep, and a kernel that has it.
use Rattle.std.specs.Prelude.{List, [], ◌∷◌, ◌++◌, Option, Some}
use Rattle.std.specs.Borrow.{Bor}
use Rattle.hol_terms.specs.Sequent.{Sequent}
use Rattle.hol_kernel.specs.State.{State, Theorem}
use Rattle.kernel_lines.specs.Bases.{HasBase}
use Rattle.kernel_lines.specs.Lines.{on, run}
use Rattle.kernel_lines.specs.Ready.{AllHad}
use Rattle.kernel_lines.specs.declared.line.Line.{Line}

-- the kernel begins with the base definitions and has the theorems that the rules keep
pub record HasRules (k : State) (kept : List Theorem) : Type 0 where
  pub base : HasBase k.defs
  pub had : AllHad k kept

-- the sequents after tables, each over all those before it
abbrev pub derived : List Sequent → List (Bor (List Line)) → Option (List Sequent)
derived before [] = Some before
derived before (table ∷ tables) = on (run [] before table.now) (λ a. derived (before ++ a ∷ []) tables)
