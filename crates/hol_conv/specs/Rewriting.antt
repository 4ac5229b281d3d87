-- What rewriting gives.
use Rattle.std.specs.Prelude.{◌≡◌, Bool, true, false, List, []}
use Rattle.hol_terms.specs.Typing.{tm_type}
use Rattle.hol_terms.specs.Signature.{IsOver}
use Rattle.hol_terms.specs.Definition.{signature_of}
use Rattle.hol_kernel.specs.State.{State, Theorem}
use Rattle.hol_terms.specs.Tm.{Tm, FreeVar}
use Rattle.hol_terms.specs.Binding.{tm_bind}
use Rattle.hol_terms.specs.Sequent.{Sequent, left_of, argument}
use Rattle.hol_terms.specs.Replacing.{has_subterm}
use Rattle.hol_conv.specs.Reduction.{put}

-- the term with u in place of the variable
abbrev pub filled : FreeVar → Tm → Tm → Tm
filled v u t = put 0 u (tm_bind 0 v t)

abbrev pub hyps_if : Bool → List Tm → List Tm
hyps_if true hs = hs
hyps_if false hs = []

-- the hypotheses of the equation, where its left side occurs
abbrev pub rewriting_hyps : Tm → Sequent → List Tm
rewriting_hyps t eq = hyps_if (has_subterm (left_of eq.concl) t) eq.hyps

-- the sides of an equation are well typed over the kernel's signature, and have one type
pub record Sides (k : State) (a : Theorem) : Type 0 where
  pub left : IsOver (signature_of k.defs) [] (left_of a.sequent.concl)
  pub right : IsOver (signature_of k.defs) [] (argument a.sequent.concl)
  pub types : tm_type (left_of a.sequent.concl) ≡ tm_type (argument a.sequent.concl)
