-- A rule's or an axiom's step of a kernel gives in a log what it gives in the kernel.
use Rattle.std.proofs.Common.{◌≡◌, ℕ, zero, suc, ◌<◌, true, false, not, ◌||◌, List, [], ◌∷◌, length, Option, Some, refl, ap, ◌∙◌, arith, slice_get, unwrap_or, nat_lt}
use Rattle.std.proofs.lemmas.Bool.{not_from_true}
use Rattle.std.proofs.lemmas.Bool.Decides.{nat_tests}
use Rattle.std.proofs.lemmas.Option.{slice_get_within}
use Rattle.hol_terms.specs.Ty.{ty_var}
use Rattle.hol_terms.specs.Tm.{tm_index}
use Rattle.hol_terms.specs.Subst.{ty_pairs}
use Rattle.hol_terms.specs.Binding.{VarSubst}
use Rattle.hol_terms.specs.Definition.{signature_of}
use Rattle.hol_terms.specs.Sequent.{Sequent, seq, IsTyped}
use Rattle.hol_terms.specs.Rules.{both, some_pair, are_distinct_vars, keeps_types, trans_rule, comb_rule, abs_rule, eq_mp_rule, deduct_rule, inst_type_rule, inst_rule}
use Rattle.hol_terms.specs.declared.defs.Def.{Def}
use Rattle.hol_kernel.specs.State.{State}
use Rattle.hol_kernel.specs.Run.{from_one, from_two, IsStep}
use Rattle.hol_kernel.specs.declared.step.Step.{Step}
use Rattle.hol_kernel.specs.declared.step.Step.TheVariants.{Refl, Trans, Comb, Abs, Beta, Assume, Mp, Deduct, InstType, Inst, Axiom, Const, TypeAbs, TypeRep}
use Rattle.hol_kernel.proofs.Guards.{premise, passed, both_parts}
use Rattle.hol_logs.specs.Step.{LogStep, step_refl, step_trans, step_comb, step_abs, step_beta, step_assume, step_mp, step_deduct, step_inst_type, step_inst, step_axiom, IsStepOver, premises, sequent_at, axiom_of, if_connectives, step_gives}
use Rattle.hol_logs.specs.Line.{line_step}
use Rattle.hol_logs.proofs.BaseStands.{connectives_there}
use Rattle.log_laws.proofs.StepsProve.{miss}
use Rattle.proof_log.specs.Lines.{step_lines, written_pairs}
use Rattle.proof_log.proofs.TypePairs.{some_written, all_segments, over_written, inst_type_written}

-- ---- premises

pub at_number : (steps : List Sequent) (i : ℕ) (a : Sequent) → slice_get steps i ≡ Some a → sequent_at steps i ≡ a
at_number steps i a e = ap (λ o. unwrap_or o (seq [] (tm_index 0 (ty_var [])))) e

there : (steps : List Sequent) (i : ℕ) (a : Sequent) → slice_get steps i ≡ Some a → not (nat_lt i (length steps)) ≡ false
there steps i a e = let h : i < length steps = slice_get_within steps i a e in let t : nat_lt i (length steps) ≡ true = grind (arith, nat_tests) in not_from_true (nat_lt i (length steps)) t

pub hit_one : (steps : List Sequent) (i : ℕ) (a : Sequent) → slice_get steps i ≡ Some a → miss steps (i ∷ []) ≡ false
hit_one steps i a e = ap (λ b. b || false) (there steps i a e)

hit_two : (steps : List Sequent) (i j : ℕ) (a b : Sequent) → slice_get steps i ≡ Some a → slice_get steps j ≡ Some b → miss steps (i ∷ j ∷ []) ≡ false
hit_two steps i j a b e f = ap (λ c. c || miss steps (j ∷ [])) (there steps i a e) ∙ hit_one steps j b f

-- ---- rules

pub record IsRuleLine (ds : List Def) (k : State) (s : Step) (c : Sequent) : Type 0 where
  pub step : LogStep
  pub lines : step_lines ds s ≡ line_step step ∷ []
  pub gives : step_gives k.defs k.steps step ≡ Some c
  pub over : IsStepOver (signature_of k.defs) step
  pub present : miss k.steps (premises step) ≡ false

two_premises : (steps : List Sequent) (i j : ℕ) (rule : Sequent → Sequent → Option Sequent) (c : Sequent) → from_two steps i j rule ≡ Some c
    → (rule (sequent_at steps i) (sequent_at steps j) ≡ Some c) × (miss steps (i ∷ j ∷ []) ≡ false)
two_premises steps i j rule c e =
    let p = premise (slice_get steps i) (λ a. from_one steps j (rule a)) c e in
    let q = premise (slice_get steps j) (rule p.0) c p.2 in
    ((λ x. rule (at_number steps i p.0 p.1 x) (at_number steps j q.0 q.1 x)) ∙ q.2, hit_two steps i j p.0 q.0 p.1 q.1)

one_premise : (steps : List Sequent) (i : ℕ) (rule : Sequent → Option Sequent) (c : Sequent) → from_one steps i rule ≡ Some c
    → (rule (sequent_at steps i) ≡ Some c) × (miss steps (i ∷ []) ≡ false)
one_premise steps i rule c e =
    let p = premise (slice_get steps i) rule c e in
    (ap rule (at_number steps i p.0 p.1) ∙ p.2, hit_one steps i p.0 p.1)

some_terms : (s : VarSubst) (a c : Sequent) → inst_rule s a ≡ Some c → some_pair s ≡ true
some_terms s a c e = (both_parts (some_pair s) (both (are_distinct_vars s) (keeps_types s)) (passed (both (some_pair s) (both (are_distinct_vars s) (keeps_types s))) _ c e).0).0

-- the sequents of the steps so far are well typed
abbrev pub AreStepsTyped : State → Type 0
AreStepsTyped k = (i : ℕ) (a : Sequent) → slice_get k.steps i ≡ Some a → IsTyped (signature_of k.defs) a

pub rule_line : (ds : List Def) (k : State) (s : Step) (c : Sequent) → IsStep k s c → AreStepsTyped k → IsRuleLine ds k s c
rule_line ds k (Refl t) c h g = record { step = step_refl t; lines = refl; gives = h.gives; over = h.over; present = refl }
rule_line ds k (Trans i j) c h g = let p = two_premises k.steps i j trans_rule c h.gives in record { step = step_trans i j; lines = refl; gives = p.0; over = tt; present = p.1 }
rule_line ds k (Comb i j) c h g = let p = two_premises k.steps i j comb_rule c h.gives in record { step = step_comb i j; lines = refl; gives = p.0; over = tt; present = p.1 }
rule_line ds k (Abs v i) c h g = let p = one_premise k.steps i (abs_rule v) c h.gives in record { step = step_abs v i; lines = refl; gives = p.0; over = h.over; present = p.1 }
rule_line ds k (Beta t) c h g = record { step = step_beta t; lines = refl; gives = h.gives; over = h.over; present = refl }
rule_line ds k (Assume p) c h g = record { step = step_assume p; lines = refl; gives = h.gives; over = h.over; present = refl }
rule_line ds k (Mp i j) c h g = let p = two_premises k.steps i j eq_mp_rule c h.gives in record { step = step_mp i j; lines = refl; gives = p.0; over = tt; present = p.1 }
rule_line ds k (Deduct i j) c h g = let p = two_premises k.steps i j deduct_rule c h.gives in record { step = step_deduct i j; lines = refl; gives = p.0; over = tt; present = p.1 }
rule_line ds k (InstType i s) c h g =
    let ps = ty_pairs s.items in
    let p = premise (slice_get k.steps i) (inst_type_rule ps) c h.gives in
    record {
      step = step_inst_type i (written_pairs ps);
      lines = refl;
      gives = ap (inst_type_rule (written_pairs ps)) (at_number k.steps i p.0 p.1) ∙ inst_type_written (signature_of k.defs) ps p.0 c (g i p.0 p.1) p.2;
      over = (some_written ps, all_segments ps, over_written (signature_of k.defs) ps h.over);
      present = hit_one k.steps i p.0 p.1;
    }
rule_line ds k (Inst i s) c h g =
    let p = one_premise k.steps i (inst_rule s.items) c h.gives in
    record { step = step_inst i s.items; lines = refl; gives = p.0; over = (some_terms s.items (sequent_at k.steps i) c p.0, h.over); present = p.1 }
rule_line ds k (Axiom zero) c h g = let none = h.gives in cc
rule_line ds k (Axiom (suc n)) c h g =
    record { step = step_axiom (suc n); lines = refl; gives = ap (λ b. if_connectives b (axiom_of (suc n))) (connectives_there k.defs h.over) ∙ h.gives; over = tt; present = refl }
rule_line ds k (Const i) c h g = let none = h.gives in cc
rule_line ds k (TypeAbs i) c h g = let none = h.gives in cc
rule_line ds k (TypeRep i) c h g = let none = h.gives in cc
