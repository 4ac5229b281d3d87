-- The front of a run, and the lines of one step more.
use Rattle.std.proofs.Common.{◌≡◌, ℕ, zero, suc, ◌+◌, ◌<◌, ◌≤◌, List, [], ◌∷◌, ◌++◌, length, Some, take, refl, sym, ap, ◌∙◌, append_assoc, append-nil, arith, slice_get}
use Rattle.std.proofs.lemmas.List.{length-append}
use Rattle.hol_terms.specs.Definition.{Definition}
use Rattle.hol_terms.specs.Sequent.{Sequent}
use Rattle.hol_terms.specs.declared.defs.Def.{Def}
use Rattle.hol_kernel.specs.State.{State}
use Rattle.hol_kernel.specs.Run.{IsStep, IsRun, run_start, run_rule, run_const, run_type}
use Rattle.hol_kernel.specs.declared.step.Step.{Step}
use Rattle.hol_kernel.specs.declared.step.Step.TheVariants.{Refl, Trans, Comb, Abs, Beta, Assume, Mp, Deduct, InstType, Inst, Axiom, Const, TypeAbs, TypeRep}
use Rattle.proof_log.specs.declared.marks.Mark.{Mark}
use Rattle.proof_log.specs.Lines.{step_lines}
use Rattle.proof_log.specs.Marks.{makes, made_by}
use Rattle.proof_log.specs.Written.{marks_at, steps_from}

-- ---- lists

pub get_last : {A : Type 0} (xs : List A) (x : A) (ys : List A) → slice_get ((xs ++ x ∷ []) ++ ys) (length xs) ≡ Some x
get_last [] x ys = refl
get_last (z ∷ xs) x ys = get_last xs x ys

pub get_front : {A : Type 0} (xs ys : List A) (i : ℕ) → i < length xs → slice_get (xs ++ ys) i ≡ slice_get xs i
get_front [] ys i h = absurd (omega arith)
get_front (x ∷ xs) ys zero h = refl
get_front (x ∷ xs) ys (suc i) h = get_front xs ys i (omega arith)

pub get_taken : {A : Type 0} (xs : List A) (m i : ℕ) → i < m → slice_get (take m xs) i ≡ slice_get xs i
get_taken [] zero i h = absurd (omega arith)
get_taken [] (suc m) i h = refl
get_taken (x ∷ xs) zero i h = absurd (omega arith)
get_taken (x ∷ xs) (suc m) zero h = refl
get_taken (x ∷ xs) (suc m) (suc i) h = get_taken xs m i (omega arith)

-- ---- lines

pub steps_more : (k : State) (ds : List Def) (marks : List Mark) (i : ℕ) (ss : List Step) (s : Step)
    → steps_from k ds marks i (ss ++ s ∷ []) ≡ steps_from k ds marks i ss ++ (step_lines ds s ++ marks_at k marks (suc i + length ss))
steps_more k ds marks i [] s =
    let place : suc i ≡ suc i + 0 = omega arith in
    append_assoc (marks_at k marks i) (step_lines ds s) (marks_at k marks (suc i)) ∙ ap (λ j. marks_at k marks i ++ (step_lines ds s ++ marks_at k marks j)) place
steps_more k ds marks i (t ∷ ss) s =
    let place : suc (suc i) + length ss ≡ suc i + suc (length ss) = omega arith in
    let rest = steps_more k ds marks (suc i) ss s in
    ap (λ ls. marks_at k marks i ++ step_lines ds t ++ ls) rest
    ∙ ap (λ j. marks_at k marks i ++ step_lines ds t ++ (steps_from k ds marks (suc i) ss ++ (step_lines ds s ++ marks_at k marks j))) place
    ∙ sym (append_assoc (marks_at k marks i ++ step_lines ds t) (steps_from k ds marks (suc i) ss) (step_lines ds s ++ marks_at k marks (suc i + suc (length ss))))

-- ---- definitions that steps make

pub made_append : (xs ys : List Step) → made_by (xs ++ ys) ≡ made_by xs + made_by ys
made_append [] ys = omega arith
made_append (x ∷ xs) ys = let rest = made_append xs ys in ap (λ m. makes x + m) rest ∙ three (makes x) (made_by xs) (made_by ys)
  where
    three : (a b c : ℕ) → a + (b + c) ≡ (a + b) + c
    three a b c = omega arith

-- what the front makes, a longer front makes at least
pub made_at_least : (xs ys : List Step) (n : ℕ) → length xs ≤ n → made_by xs ≤ made_by (take n (xs ++ ys))
made_at_least [] ys n h = omega arith
made_at_least (x ∷ xs) ys zero h = absurd (omega arith)
made_at_least (x ∷ xs) ys (suc n) h = let rest = made_at_least xs ys n (omega arith) in more (makes x) (made_by xs) (made_by (take n (xs ++ ys))) rest
  where
    more : (a b c : ℕ) → b ≤ c → a + b ≤ a + c
    more a b c h = omega arith

rule_makes : (k : State) (s : Step) (c : Sequent) → IsStep k s c → makes s ≡ 0
rule_makes k (Refl t) c h = refl
rule_makes k (Trans i j) c h = refl
rule_makes k (Comb i j) c h = refl
rule_makes k (Abs v i) c h = refl
rule_makes k (Beta t) c h = refl
rule_makes k (Assume p) c h = refl
rule_makes k (Mp i j) c h = refl
rule_makes k (Deduct i j) c h = refl
rule_makes k (InstType i s) c h = refl
rule_makes k (Inst i s) c h = refl
rule_makes k (Axiom n) c h = refl
rule_makes k (Const i) c h = let none = h.gives in cc
rule_makes k (TypeAbs i) c h = let none = h.gives in cc
rule_makes k (TypeRep i) c h = refl

pub record Counts (ds : List Def) (ss : List Step) (k : State) : Type 0 where
  pub defs : length ds ≡ length k.defs
  pub made : made_by ss ≡ length k.defs
  pub steps : length k.steps ≡ length ss

pushed : {A B : Type 0} (xs : List A) (x : A) (ys : List B) (y : B) → length xs ≡ length ys → length (xs ++ x ∷ []) ≡ length (ys ++ y ∷ [])
pushed xs x ys y e = let p = length-append xs (x ∷ []) in let q = length-append ys (y ∷ []) in omega arith

two_pushed : {A B : Type 0} (xs : List A) (x v : A) (ys : List B) (y w : B) → length xs ≡ length ys → length (xs ++ x ∷ v ∷ []) ≡ length (ys ++ y ∷ w ∷ [])
two_pushed xs x v ys y w e = let p = length-append xs (x ∷ v ∷ []) in let q = length-append ys (y ∷ w ∷ []) in omega arith

made_none : (ss : List Step) (s : Step) (m : ℕ) → made_by ss ≡ m → makes s ≡ 0 → made_by (ss ++ s ∷ []) ≡ m
made_none ss s m e z = let p = made_append ss (s ∷ []) in omega arith

made_one : {A : Type 0} (ss ts : List Step) (xs : List A) (x : A) → made_by ss ≡ length xs → made_by ts ≡ 1 → made_by (ss ++ ts) ≡ length (xs ++ x ∷ [])
made_one ss ts xs x e z = let p = made_append ss ts in let q = length-append xs (x ∷ []) in omega arith

pub run_counts : (ds : List Def) (ss : List Step) (k : State) → IsRun ds ss k → Counts ds ss k
run_counts ds ss k run_start = record { defs = refl; made = refl; steps = refl }
run_counts ds ss k (run_rule es ts j s c r h) =
    let n = run_counts es ts j r in
    record { defs = n.defs; made = made_none ts s (length j.defs) n.made (rule_makes j s c h); steps = pushed j.steps c ts s n.steps }
run_counts ds ss k (run_const es ts j name t r h) =
    let n = run_counts es ts j r in
    record { defs = pushed es _ j.defs _ n.defs; made = made_one ts (Const (length es) ∷ []) j.defs _ n.made refl; steps = pushed j.steps _ ts _ n.steps }
run_counts ds ss k (run_type es ts j name p t from r h e) =
    let n = run_counts es ts j r in
    record {
      defs = pushed es _ j.defs _ n.defs;
      made = made_one ts (TypeAbs (length es) ∷ TypeRep (length es) ∷ []) j.defs _ n.made refl;
      steps = two_pushed j.steps _ _ ts _ _ n.steps;
    }

-- ---- fronts

-- definitions, steps and a state that the others begin with
pub record IsFront (DS : List Def) (SS : List Step) (K : State) (ds : List Def) (ss : List Step) (k : State) : Type 0 where
  pub more_ds : List Def
  pub more_ss : List Step
  pub more_defs : List Definition
  pub more_steps : List Sequent
  pub ds_are : DS ≡ ds ++ more_ds
  pub ss_are : SS ≡ ss ++ more_ss
  pub defs_are : K.defs ≡ k.defs ++ more_defs
  pub steps_are : K.steps ≡ k.steps ++ more_steps

pub whole_front : (ds : List Def) (ss : List Step) (k : State) → IsFront ds ss k ds ss k
whole_front ds ss k = record {
  more_ds = [];
  more_ss = [];
  more_defs = [];
  more_steps = [];
  ds_are = sym (append-nil ds);
  ss_are = sym (append-nil ss);
  defs_are = sym (append-nil k.defs);
  steps_are = sym (append-nil k.steps);
}

shorter : {A : Type 0} (XS xs es more : List A) → XS ≡ (xs ++ es) ++ more → XS ≡ xs ++ (es ++ more)
shorter XS xs es more e = e ∙ append_assoc xs es more

pub earlier : (DS : List Def) (SS : List Step) (K : State) (ds es : List Def) (ss ts : List Step) (defs xs : List Definition) (steps ys : List Sequent)
    → IsFront DS SS K (ds ++ es) (ss ++ ts) (record { defs = defs ++ xs; steps = steps ++ ys }) → IsFront DS SS K ds ss (record { defs = defs; steps = steps })
earlier DS SS K ds es ss ts defs xs steps ys f = record {
  more_ds = es ++ f.more_ds;
  more_ss = ts ++ f.more_ss;
  more_defs = xs ++ f.more_defs;
  more_steps = ys ++ f.more_steps;
  ds_are = shorter DS ds es f.more_ds f.ds_are;
  ss_are = shorter SS ss ts f.more_ss f.ss_are;
  defs_are = shorter K.defs defs xs f.more_defs f.defs_are;
  steps_are = shorter K.steps steps ys f.more_steps f.steps_are;
}

pub earlier_step : (DS : List Def) (SS : List Step) (K : State) (ds : List Def) (ss ts : List Step) (defs : List Definition) (steps ys : List Sequent)
    → IsFront DS SS K ds (ss ++ ts) (record { defs = defs; steps = steps ++ ys }) → IsFront DS SS K ds ss (record { defs = defs; steps = steps })
earlier_step DS SS K ds ss ts defs steps ys f = record {
  more_ds = f.more_ds;
  more_ss = ts ++ f.more_ss;
  more_defs = f.more_defs;
  more_steps = ys ++ f.more_steps;
  ds_are = f.ds_are;
  ss_are = shorter SS ss ts f.more_ss f.ss_are;
  defs_are = f.defs_are;
  steps_are = shorter K.steps steps ys f.more_steps f.steps_are;
}

-- the definition that a front ends with
pub last_def : (DS : List Def) (SS : List Step) (K : State) (ds : List Def) (d : Def) (ss : List Step) (k : State) → IsFront DS SS K (ds ++ d ∷ []) ss k → slice_get DS (length ds) ≡ Some d
last_def DS SS K ds d ss k f = ap (λ es. slice_get es (length ds)) f.ds_are ∙ get_last ds d f.more_ds
