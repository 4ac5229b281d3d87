-- What the conversions give.
use Rattle.std.specs.Prelude.{◌≡◌, ℕ, true, [], Option, Some, None}
use Rattle.hol_terms.specs.Tm.{Tm, tm_comb}
use Rattle.hol_terms.specs.Rules.{is_abstraction, function}
use Rattle.hol_terms.specs.Sequent.{seq, eq_tm, left_of, argument}
use Rattle.hol_kernel.specs.State.{State, Theorem, Has}
use Rattle.hol_conv.specs.Reduction.{contracted, beta_steps}

-- an abstraction applied to a term
pub record IsRedex (t : Tm) : Type 0 where
  pub applied : t ≡ tm_comb (function t) (argument t)
  pub abstraction : is_abstraction (function t) ≡ true

-- the theorem `|- t = u`
abbrev pub IsEquationOf : Tm → Tm → Theorem → Type 0
IsEquationOf t u th = th.sequent ≡ seq [] (eq_tm t u)

-- the theorem that contracts a redex, or none where there is no redex
pub record Contracts (t : Tm) (th : Theorem) : Type 0 where
  pub to : Tm
  pub step : contracted t ≡ Some to
  pub exact : IsEquationOf t to th

abbrev pub IsContraction : Tm → Option Theorem → Type 0
IsContraction t None = contracted t ≡ None
IsContraction t (Some th) = Contracts t th

-- an equation without hypotheses
abbrev pub IsPlain : Theorem → Type 0
IsPlain th = IsEquationOf (left_of th.sequent.concl) (argument th.sequent.concl) th

-- from `|- t = u` the equation of t and what u contracts to
pub record StepsOn (old new : Theorem) : Type 0 where
  pub to : Tm
  pub step : contracted (argument old.sequent.concl) ≡ Some to
  pub exact : IsEquationOf (left_of old.sequent.concl) to new

abbrev pub IsStepOn : Theorem → Option Theorem → Type 0
IsStepOn old None = contracted (argument old.sequent.concl) ≡ None
IsStepOn old (Some new) = StepsOn old new

-- `|- t = u`, where the contractions that are left lead from u to where all lead from t
pub record Reaches (t : Tm) (all left : ℕ) (th : Theorem) : Type 0 where
  pub to : Tm
  pub exact : IsEquationOf t to th
  pub rest : beta_steps left to ≡ beta_steps all t

abbrev pub HasIt : State → Option Theorem → Type 0
HasIt k None = Unit {0}
HasIt k (Some th) = Has k th
