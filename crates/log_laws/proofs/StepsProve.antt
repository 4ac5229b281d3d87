-- What a step of a log gives follows from what the steps before it give.
use Rattle.std.proofs.Common.{◌≡◌, ℕ, zero, suc, ◌<◌, Bool, true, false, not, List, [], ◌∷◌, length, Option, Some, take, refl, arith, slice_get, nat_lt}
use Rattle.std.specs.List.{list_any}
use Rattle.std.proofs.lemmas.Bool.{or_parts, not-false}
use Rattle.std.proofs.lemmas.Bool.Decides.{nat_tests}
use Rattle.std.proofs.lemmas.Option.{slice_get_within, get_or_from_slice_get}
use Rattle.hol_terms.specs.Definition.{Definition, signature_of}
use Rattle.hol_terms.specs.Sequent.{Sequent}
use Rattle.hol_terms.specs.Logic.{axioms}
use Rattle.hol_terms.specs.Proves.{Proves}
use Rattle.hol_kernel.proofs.Sound.{refl_step, trans_step, comb_step, abs_step, beta_step, assume_step, eq_mp_step, deduct_step, inst_type_step, inst_step, axiom_proves}
use Rattle.hol_logs.specs.Step.{LogStep, step_refl, step_trans, step_comb, step_abs, step_beta, step_assume, step_mp, step_deduct, step_inst_type, step_inst, step_axiom, IsStepOver, premises, sequent_at, are_base, axiom_of, if_connectives, step_gives}
use Rattle.hol_logs.proofs.BaseStands.{begins_with_base}

-- each of the sequents follows over the definitions
abbrev pub AllFollow : List Definition → List Sequent → Type 0
AllFollow ds steps = (i : ℕ) (a : Sequent) → slice_get steps i ≡ Some a → Proves ds a

follows_at : (ds : List Definition) (steps : List Sequent) (i : ℕ) → AllFollow ds steps → i < length steps → Proves ds (sequent_at steps i)
follows_at ds [] i had h = absurd (omega arith)
follows_at ds (a ∷ steps) zero had h = had zero a refl
follows_at ds (a ∷ steps) (suc i) had h = follows_at ds steps i (λ j. had (suc j)) (omega arith)

-- the numbers are those of steps
abbrev pub miss : List Sequent → List ℕ → Bool
miss steps is = list_any (λ i. not (nat_lt i (length steps))) is

there : (i n : ℕ) → not (nat_lt i n) ≡ false → i < n
there i n e = let t : nat_lt i n ≡ true = not-false (nat_lt i n) e in grind (arith, nat_tests)

pub one_there : (ds : List Definition) (steps : List Sequent) (i : ℕ) → AllFollow ds steps → miss steps (i ∷ []) ≡ false → Proves ds (sequent_at steps i)
one_there ds steps i had e = follows_at ds steps i had (there i (length steps) (or_parts (not (nat_lt i (length steps))) false e).0)

two_there : (ds : List Definition) (steps : List Sequent) (i j : ℕ) → AllFollow ds steps → miss steps (i ∷ j ∷ []) ≡ false
    → Proves ds (sequent_at steps i) × Proves ds (sequent_at steps j)
two_there ds steps i j had e =
    let p = or_parts (not (nat_lt i (length steps))) (miss steps (j ∷ [])) e in
    (follows_at ds steps i had (there i (length steps) p.0), one_there ds steps j had p.1)

connectives : (b : Bool) (o : Option Sequent) (c : Sequent) → if_connectives b o ≡ Some c → (b ≡ true) × (o ≡ Some c)
connectives true o c e = (refl, e)
connectives false o c e = cc

axiom_follows : (ds : List Definition) (k : ℕ) (c : Sequent) → are_base 10 (take 10 ds) ≡ true → axiom_of k ≡ Some c → Proves ds c
axiom_follows ds zero c b e = cc
axiom_follows ds (suc k) c b e = axiom_proves ds c (begins_with_base ds b) (k, slice_get_within axioms k c e, get_or_from_slice_get axioms k c c e)

pub step_follows : (ds : List Definition) (steps : List Sequent) (s : LogStep) (c : Sequent) → AllFollow ds steps → IsStepOver (signature_of ds) s → miss steps (premises s) ≡ false
    → step_gives ds steps s ≡ Some c → Proves ds c
step_follows ds steps (step_refl t) c had o m e = refl_step ds t c o e
step_follows ds steps (step_trans i j) c had o m e = let p = two_there ds steps i j had m in trans_step ds (sequent_at steps i) (sequent_at steps j) c p.0 p.1 e
step_follows ds steps (step_comb i j) c had o m e = let p = two_there ds steps i j had m in comb_step ds (sequent_at steps i) (sequent_at steps j) c p.0 p.1 e
step_follows ds steps (step_abs v i) c had o m e = abs_step ds v (sequent_at steps i) c o (one_there ds steps i had m) e
step_follows ds steps (step_beta t) c had o m e = beta_step ds t c o e
step_follows ds steps (step_assume t) c had o m e = assume_step ds t c o e
step_follows ds steps (step_mp i j) c had o m e = let p = two_there ds steps i j had m in eq_mp_step ds (sequent_at steps i) (sequent_at steps j) c p.0 p.1 e
step_follows ds steps (step_deduct i j) c had o m e = let p = two_there ds steps i j had m in deduct_step ds (sequent_at steps i) (sequent_at steps j) c p.0 p.1 e
step_follows ds steps (step_inst_type i s) c had o m e = inst_type_step ds s (sequent_at steps i) c o.2 (one_there ds steps i had m) e
step_follows ds steps (step_inst i s) c had o m e = inst_step ds s (sequent_at steps i) c o.1 (one_there ds steps i had m) e
step_follows ds steps (step_axiom k) c had o m e = let p = connectives (are_base 10 (take 10 ds)) (axiom_of k) c e in axiom_follows ds k c p.0 p.1
