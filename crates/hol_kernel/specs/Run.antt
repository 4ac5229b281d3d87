-- What the steps of a kernel say: each gives its sequent from the sequents before it and from the definitions.
use Rattle.std.specs.Prelude.{◌≡◌, ℕ, zero, suc, List, [], ◌∷◌, ◌++◌, Option, Some, None, length, slice_get, string_bytes, String}
use Rattle.std.specs.declared.alloc.Global.{Global}
use Rattle.hol_terms.specs.Tm.{Tm, tm_free, tm_comb}
use Rattle.hol_terms.specs.Typing.{tm_type}
use Rattle.hol_terms.specs.TyVars.{own_const}
use Rattle.hol_terms.specs.Subst.{ty_pairs}
use Rattle.hol_terms.specs.Signature.{IsOver}
use Rattle.hol_terms.specs.Definition.{Definition, const_def, type_def, signature_of}
use Rattle.hol_terms.specs.Sequent.{Sequent, seq, eq_tm}
use Rattle.hol_terms.specs.Rules.{refl_rule, trans_rule, comb_rule, abs_rule, beta_rule, assume_rule, eq_mp_rule, deduct_rule, inst_type_rule, inst_rule}
use Rattle.hol_terms.specs.Logic.{axioms}
use Rattle.hol_terms.specs.Base.{base}
use Rattle.hol_terms.specs.Proves.{AreTypesOver, AreOver, IsPrefix, IsConstDef, abs_rep, rep_abs}
use Rattle.hol_terms.specs.WellFormed.{IsTypeForm}
use Rattle.hol_terms.specs.declared.defs.Def.{Def}
use Rattle.hol_terms.specs.declared.defs.Def.TheVariants as def
use Rattle.hol_kernel.specs.State.{State}
use Rattle.hol_kernel.specs.declared.step.Step.{Step}
use Rattle.hol_kernel.specs.declared.step.Step.TheVariants.{Refl, Trans, Comb, Abs, Beta, Assume, Mp, Deduct, InstType, Inst, Axiom, Const, TypeAbs, TypeRep}

-- a rule, where there is a premise
abbrev pub on_premise : Option Sequent → (Sequent → Option Sequent) → Option Sequent
on_premise None rule = None
on_premise (Some a) rule = rule a

abbrev pub from_one : List Sequent → ℕ → (Sequent → Option Sequent) → Option Sequent
from_one so_far i rule = on_premise (slice_get so_far i) rule

abbrev pub from_two : List Sequent → ℕ → ℕ → (Sequent → Sequent → Option Sequent) → Option Sequent
from_two so_far i j rule = from_one so_far i (λ a. from_one so_far j (rule a))

-- the axiom of a number from 1 to 3
abbrev pub axiom_at : ℕ → Option Sequent
axiom_at zero = None
axiom_at (suc n) = slice_get axioms n

-- the sequent of a rule's or an axiom's step; a definition's step stands beside its definition
abbrev pub step_gives : List Sequent → Step → Option Sequent
step_gives so_far (Refl t) = refl_rule t
step_gives so_far (Trans i j) = from_two so_far i j trans_rule
step_gives so_far (Comb i j) = from_two so_far i j comb_rule
step_gives so_far (Abs v i) = from_one so_far i (abs_rule v)
step_gives so_far (Beta t) = beta_rule t
step_gives so_far (Assume p) = assume_rule p
step_gives so_far (Mp i j) = from_two so_far i j eq_mp_rule
step_gives so_far (Deduct i j) = from_two so_far i j deduct_rule
step_gives so_far (InstType i s) = from_one so_far i (inst_type_rule (ty_pairs s.items))
step_gives so_far (Inst i s) = from_one so_far i (inst_rule s.items)
step_gives so_far (Axiom n) = axiom_at n
step_gives so_far (Const i) = None
step_gives so_far (TypeAbs i) = None
step_gives so_far (TypeRep i) = None

-- what a step takes from outside is well formed over the definitions, and the connectives are defined before an axiom
abbrev pub IsStepOver : List Definition → Step → Type 0
IsStepOver ds (Refl t) = IsOver (signature_of ds) [] t
IsStepOver ds (Trans i j) = Unit {0}
IsStepOver ds (Comb i j) = Unit {0}
IsStepOver ds (Abs v i) = IsOver (signature_of ds) [] (tm_free v)
IsStepOver ds (Beta t) = IsOver (signature_of ds) [] t
IsStepOver ds (Assume p) = IsOver (signature_of ds) [] p
IsStepOver ds (Mp i j) = Unit {0}
IsStepOver ds (Deduct i j) = Unit {0}
IsStepOver ds (InstType i s) = AreTypesOver (signature_of ds) (ty_pairs s.items)
IsStepOver ds (Inst i s) = AreOver (signature_of ds) s.items
IsStepOver ds (Axiom n) = IsPrefix (base 10) ds
IsStepOver ds (Const i) = Unit {0}
IsStepOver ds (TypeAbs i) = Unit {0}
IsStepOver ds (TypeRep i) = Unit {0}

-- the step gives the sequent in that state
pub record IsStep (k : State) (s : Step) (c : Sequent) : Type 0 where
  pub gives : step_gives k.steps s ≡ Some c
  pub over : IsStepOver k.defs s

-- the state after these definitions and steps: each rule's or axiom's step gives the next sequent; a constant's definition is
-- followed by the step that says it, a type's by its two steps, and `from` is the number of a step `|- P t`
pub data IsRun : List Def → List Step → State → Type 0 where
  run_start : IsRun [] [] (record { defs = []; steps = [] })
  run_rule : (ds : List Def) (ss : List Step) (k : State) (s : Step) (c : Sequent) → IsRun ds ss k → IsStep k s c
      → IsRun ds (ss ++ s ∷ []) (record { defs = k.defs; steps = k.steps ++ c ∷ [] })
  run_const : (ds : List Def) (ss : List Step) (k : State) (name : String Global) (t : Tm) → IsRun ds ss k → IsConstDef k.defs (string_bytes name) t
      → IsRun (ds ++ def.Const name t ∷ []) (ss ++ Const (length ds) ∷ [])
      (record { defs = k.defs ++ const_def (string_bytes name) t ∷ []; steps = k.steps ++ seq [] (eq_tm (own_const (string_bytes name) (tm_type t)) t) ∷ [] })
  run_type : (ds : List Def) (ss : List Step) (k : State) (name : String Global) (p t : Tm) (from : ℕ) → IsRun ds ss k → IsTypeForm k.defs (string_bytes name) p
      → slice_get k.steps from ≡ Some (seq [] (tm_comb p t))
      → IsRun (ds ++ def.NewType name p from ∷ []) (ss ++ TypeAbs (length ds) ∷ TypeRep (length ds) ∷ [])
      (record { defs = k.defs ++ type_def (string_bytes name) p ∷ []; steps = k.steps ++ seq [] (abs_rep (string_bytes name) p) ∷ seq [] (rep_abs (string_bytes name) p) ∷ [] })
