-- What a kernel's fields keep when a step or a definition is added.
use Rattle.std.proofs.Common.{◌≡◌, ◌⊎◌, inl, inr, ℕ, zero, suc, ◌+◌, List, [], ◌∷◌, ◌++◌, sym, ap, ◌∙◌, subst, slice_get, Some, length, length-append, String, string_bytes, arith}
use Rattle.std.specs.declared.alloc.Global.{Global}
use Rattle.hol_terms.specs.Name.{Name}
use Rattle.hol_terms.specs.Tm.{Tm, tm_comb}
use Rattle.hol_terms.specs.Typing.{tm_type}
use Rattle.hol_terms.specs.TyVars.{own_const}
use Rattle.hol_terms.specs.Definition.{Definition, const_def, type_def, with_def}
use Rattle.hol_terms.specs.DefShape.{definition_of}
use Rattle.hol_terms.specs.Sequent.{Sequent, seq, eq_tm}
use Rattle.hol_terms.specs.Proves.{IsDerivable, AreConservative, IsConservative, IsConstDef, IsTypeDef, sequents_of, abs_rep, rep_abs}
use Rattle.hol_terms.specs.WellFormed.{IsTypeForm}
use Rattle.hol_terms.specs.declared.defs.Def.{Def}
use Rattle.hol_terms.specs.declared.defs.Def.TheVariants.{Const, NewType}
use Rattle.hol_terms.proofs.Defining.{const_derivable}
use Rattle.hol_terms.proofs.TypeDefining.{type_proves_abs, type_proves_rep}
use Rattle.hol_kernel.specs.State.{State, Theorem}
use Rattle.hol_kernel.specs.Run.{IsStep, IsRun, run_rule, run_const, run_type}
use Rattle.hol_kernel.specs.NewType.{IsShownAt, IsNewType}
use Rattle.hol_kernel.specs.Kept.{AreSaid, IsKernel}
use Rattle.hol_kernel.specs.declared.kernel.Kernel.TheInside.{Inside}
use Rattle.hol_kernel.specs.declared.step.Step.{Step}
use Rattle.hol_kernel.specs.declared.step.Step.TheVariants as step
use Rattle.hol_kernel.proofs.Adding.{conservative_push, map-push}
use Rattle.hol_terms.proofs.Weaken.{signature_of-push}
use Rattle.hol_kernel.proofs.Fitting.{type_form}
use Rattle.hol_kernel.proofs.Steps.{slice_get-append, slice_get-after}
use Rattle.hol_kernel.proofs.Sound.{step_proves, run_proves}

-- a list after a push, from the list before it
pub pushed : {X : Type 0} {new old : List X} (start : List X) (x y : X) → new ≡ old ++ x ∷ [] → old ≡ start → x ≡ y → new ≡ start ++ y ∷ []
pushed {X} {new} {old} start x y e f g = e ∙ (λ i. f i ++ g i ∷ [])

pub two_pushed : {X : Type 0} {new old : List X} (start : List X) (x y v w : X) → new ≡ old ++ x ∷ y ∷ [] → old ≡ start → x ≡ v → y ≡ w → new ≡ start ++ v ∷ w ∷ []
two_pushed {X} {new} {old} start x y v w e f p q = e ∙ (λ i. f i ++ p i ∷ q i ∷ [])

-- the sequent of a step is derivable over the kernel's definitions
pub step_derivable : {ds : List Def} {ss : List Step} {k : State} (s : Step) (c : Sequent) → IsRun ds ss k → IsStep k s c → IsDerivable k.defs c
step_derivable {ds} {ss} {k} s c r h =
    let p = run_proves r in
    record { conservative = p.0; proof = step_proves k s c p.0 p.1 h }

-- what the steps said, more steps still say
said_more : {ds : List Definition} {steps : List Sequent} {made : List ℕ} (more : List Sequent) → AreSaid ds steps made → AreSaid ds (steps ++ more) made
said_more {ds} {steps} {made} more h = record {
  count = h.count;
  said = λ i n j d c p q r. slice_get-append steps more (n + j) c (h.said i n j d c p q r);
}

-- at one place in two lists with one more at the end of each
at_both : {X Y : Type 0} (xs : List X) (ys : List Y) (x : X) (y : Y) → length xs ≡ length ys → (i : ℕ) (a : X) (b : Y) → slice_get (xs ++ x ∷ []) i ≡ Some a → slice_get (ys ++ y ∷ []) i ≡ Some b
    → ((slice_get xs i ≡ Some a) × (slice_get ys i ≡ Some b)) ⊎ ((a ≡ x) × (b ≡ y))
at_both [] [] x y n zero a b p q = inr (cc, cc)
at_both [] [] x y n (suc i) a b p q = cc
at_both [] (z ∷ ys) x y n i a b p q = absurd (omega arith)
at_both (z ∷ xs) [] x y n i a b p q = absurd (omega arith)
at_both (z ∷ xs) (w ∷ ys) x y n zero a b p q = inl (p, q)
at_both (z ∷ xs) (w ∷ ys) x y n (suc i) a b p q = at_both xs ys x y (omega arith) i a b p q

-- one definition more, whose sequents the next steps say
said_def : {ds : List Definition} {steps : List Sequent} {made : List ℕ} (d : Definition) → AreSaid ds steps made → AreSaid (ds ++ d ∷ []) (steps ++ sequents_of d) (made ++ length steps ∷ [])
said_def {ds} {steps} {made} d h = record {
  count = omega (arith, h.count, length-append made (length steps ∷ []), length-append ds (d ∷ []));
  said = λ i n j e c p q r. elim (at_both made ds (length steps) d h.count i n e p q) [
    | inl old ↦ slice_get-append steps (sequents_of d) (n + j) c (h.said i n j e c old.0 old.1 r)
    | inr new ↦ subst (λ (m : ℕ). slice_get (steps ++ sequents_of d) (m + j) ≡ Some c) (sym new.0)
        (slice_get-after steps (sequents_of d) j ∙ ap (λ f. slice_get (sequents_of f) j) (sym new.1) ∙ r)
  ];
}

-- the fields after one step more
pub kept_step : (a b : Inside) (s : Step) (c : Sequent) → IsKernel a → IsStep (record { defs = a.history; steps = a.steps.items }) s c
    → b.defs.items ≡ a.defs.items → b.history ≡ a.history → b.sig ≡ a.sig → b.steps.items ≡ a.steps.items ++ c ∷ [] → b.log.items ≡ a.log.items ++ s ∷ [] → b.made.items ≡ a.made.items → IsKernel b
kept_step a b s c h g defs history sig steps log made = record {
  conservative = rw history h.conservative;
  listed = rw (defs, history) h.listed;
  table = rw (sig, history) h.table;
  run = rw (defs, history, steps, log) (run_rule a.defs.items a.log.items (record { defs = a.history; steps = a.steps.items }) s c h.run g);
  said = rw (history, steps, made) (said_more (c ∷ []) h.said);
}

-- the fields after one definition more and the steps that say it
kept_def : (a b : Inside) (d : Def) → IsKernel a → IsConservative a.history (definition_of d) → IsRun b.defs.items b.log.items (record { defs = b.history; steps = b.steps.items })
    → b.defs.items ≡ a.defs.items ++ d ∷ [] → b.history ≡ a.history ++ definition_of d ∷ [] → b.sig ≡ with_def a.sig (definition_of d) → b.steps.items ≡ a.steps.items ++ sequents_of (definition_of d)
    → b.made.items ≡ a.made.items ++ length a.steps.items ∷ [] → IsKernel b
kept_def a b d h g run defs history sig steps made = record {
  conservative = rw history (conservative_push a.history (definition_of d) h.conservative g);
  listed = rw (defs, history) (map-push definition_of a.defs.items d ∙ ap (λ es. es ++ definition_of d ∷ []) h.listed);
  table = rw (sig, history) (ap (λ s. with_def s (definition_of d)) h.table ∙ signature_of-push a.history (definition_of d));
  run = run;
  said = rw (history, steps, made) (said_def (definition_of d) h.said);
}

pub kept_const : (a b : Inside) (name : String Global) (t : Tm) → IsKernel a → IsConstDef a.history (string_bytes name) t
    → b.defs.items ≡ a.defs.items ++ Const name t ∷ [] → b.history ≡ a.history ++ const_def (string_bytes name) t ∷ [] → b.sig ≡ with_def a.sig (const_def (string_bytes name) t)
    → b.steps.items ≡ a.steps.items ++ seq [] (eq_tm (own_const (string_bytes name) (tm_type t)) t) ∷ [] → b.log.items ≡ a.log.items ++ step.Const (length a.defs.items) ∷ []
    → b.made.items ≡ a.made.items ++ length a.steps.items ∷ [] → IsKernel b
kept_const a b name t h g defs history sig steps log made =
    kept_def a b (Const name t) h g (rw (defs, history, steps, log) (run_const a.defs.items a.log.items (record { defs = a.history; steps = a.steps.items }) name t h.run g)) defs history sig steps made

pub kept_type : (a b : Inside) (name : String Global) (p : Tm) (from : ℕ) → IsKernel a → IsTypeDef a.history (string_bytes name) p → IsShownAt a.steps.items from p
    → b.defs.items ≡ a.defs.items ++ NewType name p from ∷ [] → b.history ≡ a.history ++ type_def (string_bytes name) p ∷ [] → b.sig ≡ with_def a.sig (type_def (string_bytes name) p)
    → b.steps.items ≡ a.steps.items ++ seq [] (abs_rep (string_bytes name) p) ∷ seq [] (rep_abs (string_bytes name) p) ∷ []
    → b.log.items ≡ a.log.items ++ step.TypeAbs (length a.defs.items) ∷ step.TypeRep (length a.defs.items) ∷ []
    → b.made.items ≡ a.made.items ++ length a.steps.items ∷ [] → IsKernel b
kept_type a b name p from h g w defs history sig steps log made =
    let k : State = record { defs = a.history; steps = a.steps.items } in
    kept_def a b (NewType name p from) h g (rw (defs, history, steps, log) (run_type a.defs.items a.log.items k name p w.witness from h.run (type_form g) w.shown)) defs history sig steps made

-- a type's definition is conservative where a step shows its predicate inhabited
pub shown_type : (a : Inside) (k : State) (n : Name) (p : Tm) (from : ℕ) → IsKernel a → record { defs = a.history; steps = a.steps.items } ≡ k → IsTypeForm k.defs n p → IsShownAt k.steps from p → IsTypeDef a.history n p
shown_type a k n p from h e form w =
    let f : IsTypeForm a.history n p = subst (λ (s : State). IsTypeForm s.defs n p) (sym e) form in
    let v : IsShownAt a.steps.items from p = subst (λ (s : State). IsShownAt s.steps from p) (sym e) w in
    record {
      named = f.named;
      named_abs = f.named_abs;
      named_rep = f.named_rep;
      closed = f.closed;
      typed = f.typed;
      predicate = f.predicate;
      witness = v.witness;
      inhabited = (run_proves h.run).1 from (seq [] (tm_comb p v.witness)) v.shown;
    }

-- the equation of a new constant is derivable with its definition, and so are those of a new type
pub defined_derivable : {ds : List Definition} (c : Name) (t : Tm) (carried : List Definition) (a : Sequent) → AreConservative ds → IsConstDef ds c t → carried ≡ ds ++ const_def c t ∷ [] → a ≡ seq [] (eq_tm (own_const c (tm_type t)) t) → IsDerivable carried a
defined_derivable {ds} c t carried a h d e f = rw (e, f) (const_derivable ds c t h d)

pub abs_derivable : {ds : List Definition} (n : Name) (p : Tm) (carried : List Definition) (a : Sequent) → AreConservative ds → IsTypeDef ds n p → carried ≡ ds ++ type_def n p ∷ [] → a ≡ seq [] (abs_rep n p) → IsDerivable carried a
abs_derivable {ds} n p carried a h d e f = rw (e, f) (record { conservative = conservative_push ds (type_def n p) h d; proof = type_proves_abs ds n p d })

pub rep_derivable : {ds : List Definition} (n : Name) (p : Tm) (carried : List Definition) (a : Sequent) → AreConservative ds → IsTypeDef ds n p → carried ≡ ds ++ type_def n p ∷ [] → a ≡ seq [] (rep_abs n p) → IsDerivable carried a
rep_derivable {ds} n p carried a h d e f = rw (e, f) (record { conservative = conservative_push ds (type_def n p) h d; proof = type_proves_rep ds n p d })

-- what the definition of a type adds, from the state before it
pub new_type_is : {old k new : State} {abs rep : Theorem} (n : Name) (p : Tm) → old ≡ k → abs ≡ record { defs = old.defs ++ type_def n p ∷ []; sequent = seq [] (abs_rep n p); step = length old.steps }
    → rep ≡ record { defs = old.defs ++ type_def n p ∷ []; sequent = seq [] (rep_abs n p); step = length old.steps + 1 }
    → new ≡ record { defs = old.defs ++ type_def n p ∷ []; steps = old.steps ++ seq [] (abs_rep n p) ∷ seq [] (rep_abs n p) ∷ [] } → IsNewType k n p new abs rep
new_type_is {old} {k} {new} {abs} {rep} n p e f g h = subst (λ (s : State). IsNewType s n p new abs rep) e (record { abs_is = f; rep_is = g; state = h })
