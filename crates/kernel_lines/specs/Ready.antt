-- What a table needs of the given terms and theorems, and what it gives.
use Rattle.std.specs.Prelude.{◌≡◌, ℕ, List, [], ◌∷◌, map, IsSome, Some, All}
use Rattle.std.specs.Borrow.{Bor}
use Rattle.hol_terms.specs.Name.{Name}
use Rattle.hol_terms.specs.Tm.{Tm}
use Rattle.hol_terms.specs.Subst.{TySubst}
use Rattle.hol_terms.specs.Binding.{VarSubst}
use Rattle.hol_terms.specs.Signature.{IsOver}
use Rattle.hol_terms.specs.Definition.{Definition, signature_of}
use Rattle.hol_terms.specs.Sequent.{Sequent}
use Rattle.hol_kernel.specs.State.{Theorem, State, Has}
use Rattle.kernel_lines.specs.Lines.{run, types_put, terms_put}
use Rattle.kernel_lines.specs.declared.line.Line.{Line}

-- what is behind references
abbrev pub behind : {A : Type 0} → List (Bor A) → List A
behind rs = map (λ r. r.now) rs

abbrev pub sequents : List Theorem → List Sequent
sequents ths = map (λ th. th.sequent) ths

-- each term is well formed over the definitions
pub record AllOver (ds : List Definition) (ts : List Tm) : Type 0 where
  pub all : All (IsOver (signature_of ds) []) ts

-- the kernel has each theorem
pub record AllHad (k : State) (ths : List Theorem) : Type 0 where
  pub all : All (Has k) ths

-- the table can be run over these terms and sequents, and what it gives
pub record Fits (ts : List Tm) (hs : List Sequent) (ls : List Line) : Type 0 where
  pub is : IsSome (run ts hs ls)

pub record Gives (ts : List Tm) (hs : List Sequent) (ls : List Line) (a : Sequent) : Type 0 where
  pub is : run ts hs ls ≡ Some a

-- A line can be followed where some further lines give something after it, and what it makes is then what further lines start
-- from. Likewise a pair.
pub record LineFits (ts : List Tm) (hs : List Sequent) (l : Line) : Type 0 where
  pub rest : List Line
  pub is : IsSome (run ts hs (l ∷ rest))

pub record LineSteps (ts : List Tm) (hs : List Sequent) (l : Line) (us : List Tm) (ks : List Sequent) : Type 0 where
  pub is : (ls : List Line) → run ts hs (l ∷ ls) ≡ run us ks ls

pub record TypeFits (ts : List Tm) (found : TySubst) (p : Bor Name × ℕ) : Type 0 where
  pub rest : List (Bor Name × ℕ)
  pub is : IsSome (types_put ts found (p ∷ rest))

pub record TypeSteps (ts : List Tm) (found : TySubst) (p : Bor Name × ℕ) (new : TySubst) : Type 0 where
  pub is : (ps : List (Bor Name × ℕ)) → types_put ts found (p ∷ ps) ≡ types_put ts new ps

pub record TermFits (ts : List Tm) (found : VarSubst) (p : ℕ × ℕ) : Type 0 where
  pub rest : List (ℕ × ℕ)
  pub is : IsSome (terms_put ts found (p ∷ rest))

pub record TermSteps (ts : List Tm) (found : VarSubst) (p : ℕ × ℕ) (new : VarSubst) : Type 0 where
  pub is : (ps : List (ℕ × ℕ)) → terms_put ts found (p ∷ ps) ≡ terms_put ts new ps
