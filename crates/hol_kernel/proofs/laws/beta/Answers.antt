use Rattle.hol_kernel.proofs.Calculus.{beta_over, beta_derives}
use Rattle.hol_kernel.proofs.Textbook.{beta_gives, beta_only}
use Rattle.hol_kernel.proofs.laws.beta.Goals as goal

pub returns-clause-gives : goal.returns-clause-gives
returns-clause-gives c = beta_over

pub returns-clause-gives_opened : goal.returns-clause-gives_opened
returns-clause-gives_opened c = beta_gives

pub returns-clause-only : goal.returns-clause-only
returns-clause-only c = beta_only

pub returns-clause-derives : goal.returns-clause-derives
returns-clause-derives c = beta_derives
