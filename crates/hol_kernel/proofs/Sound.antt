-- Each step of a kernel gives what follows, and a run keeps its definitions conservative.
use Rattle.std.proofs.Common.{All, Contains, ◌≡◌, ℕ, zero, suc, true, List, [], ◌∷◌, ◌++◌, Option, Some, map, refl, sym, ap, ◌∙◌, subst, slice_get, string_bytes}
use Rattle.std.proofs.lemmas.List.Elements.{All-cons, All-nil, All-contains, All-from_recursion}
use Rattle.std.proofs.lemmas.Option.{slice_get_within, get_or_from_slice_get}
use Rattle.hol_terms.specs.Name.{Name}
use Rattle.hol_terms.specs.Ty.{Ty}
use Rattle.hol_terms.specs.Tm.{Tm, tm_free, tm_comb, tm_abs, FreeVar}
use Rattle.hol_terms.specs.Typing.{tm_type, domain_ty, range_ty, fun_ty}
use Rattle.hol_terms.specs.TyVars.{own_const}
use Rattle.hol_terms.specs.Subst.{TySubst, ty_pairs}
use Rattle.hol_terms.specs.Binding.{VarSubst, tm_inst, tm_open, tm_ty_subst}
use Rattle.hol_terms.specs.Signature.{Signature, IsOver}
use Rattle.hol_terms.specs.Definition.{Definition, const_def, type_def, bool_ty, signature_of}
use Rattle.hol_terms.specs.Sequent.{Sequent, seq, eq_tm, IsEq, IsFormula, left_of, argument}
use Rattle.hol_terms.specs.Rules.{same_ty, lambda, without, some_pair, refl_rule, trans_rule, comb_rule, abs_rule, beta_rule, assume_rule, eq_mp_rule, deduct_rule, inst_type_rule, inst_rule}
use Rattle.hol_terms.specs.Logic.{axioms, axiom_1, axiom_2, axiom_3}
use Rattle.hol_terms.specs.Base.{base, base_definitions}
use Rattle.hol_terms.specs.Proves.{AreTypesOver, AreOver, IsPrefix, IsTypedOver, Proves, by_refl, by_trans, by_comb, by_abs, by_beta, by_assume, by_eq_mp, by_deduct, by_inst_type, by_inst, by_axiom, AreConservative, abs_rep, rep_abs}
use Rattle.hol_terms.specs.declared.defs.Def.{Def}
use Rattle.hol_terms.proofs.BaseOpened.{opened_bases}
use Rattle.hol_terms.proofs.BaseTyped.{type_def_at}
use Rattle.hol_terms.proofs.Bound.{IsOver-bind, IsOver-HasAt, IsOver-open}
use Rattle.hol_terms.proofs.Checked.{is_over, same_ty-is, IsOver-checked}
use Rattle.hol_terms.proofs.Defining.{const_proves}
use Rattle.hol_terms.proofs.InstLemmas.{IsOver-inst, formulas_inst}
use Rattle.hol_terms.proofs.KeptTypes.{tm_type-bind, tm_type-inst}
use Rattle.hol_terms.proofs.LooseLemmas.{tm_type-open}
use Rattle.hol_terms.proofs.TypeDefining.{type_proves}
use Rattle.hol_terms.proofs.TypeInst.{formula_inst_type, formulas_inst_type}
use Rattle.hol_terms.proofs.Typed.{eq_over, eq_sides, no_hyps}
use Rattle.hol_terms.proofs.Weaken.{extends, IsOver-extend, Proves-append, Proves-typed, AreConservativeAfter-push}
use Rattle.hol_kernel.specs.State.{State}
use Rattle.hol_kernel.specs.declared.step.Step.{Step}
use Rattle.hol_kernel.specs.declared.step.Step.TheVariants.{Refl, Trans, Comb, Abs, Beta, Assume, Mp, Deduct, InstType, Inst, Axiom, Const, TypeAbs, TypeRep}
use Rattle.hol_kernel.specs.Run.{from_one, from_two, axiom_at, IsStep, IsRun, run_start, run_rule, run_const, run_type}
use Rattle.hol_terms.proofs.Same.{same-is}
use Rattle.hol_kernel.proofs.Guards.{some_is, both_parts, passed, keeps, premise}
use Rattle.hol_kernel.proofs.Textbook.{beta_only}
use Rattle.hol_kernel.proofs.Hyps.{All-union, All-without}

-- the sides of an equation that is well typed
sides : (ds : List Definition) (a : Sequent) → IsTypedOver ds a → IsEq a.concl
    → IsOver (signature_of ds) [] (left_of a.concl) × IsOver (signature_of ds) [] (argument a.concl) × (tm_type (left_of a.concl) ≡ tm_type (argument a.concl))
sides ds a w e = eq_sides [] (left_of a.concl) (argument a.concl) (subst (IsOver (signature_of ds) []) e w.concl_is.0)

pub refl_step : (ds : List Definition) (t : Tm) (c : Sequent) → IsOver (signature_of ds) [] t → refl_rule t ≡ Some c → Proves ds c
refl_step ds t c o r =
    by_refl t c r (subst (IsTypedOver ds) (some_is _ c r) (no_hyps (signature_of ds) (eq_tm t t) (eq_over ds [] t t o o refl, refl)))

pub trans_step : (ds : List Definition) (a b c : Sequent) → Proves ds a → Proves ds b → trans_rule a b ≡ Some c → Proves ds c
trans_step ds a b c h g r =
    let formula : Tm → Type 0 = IsFormula (signature_of ds) in
    let v = Proves-typed h in
    let w = Proves-typed g in
    let p = passed _ _ c r in
    let first = both_parts _ _ p.0 in
    let second = both_parts _ _ first.1 in
    let s = sides ds a v (same-is _ _ first.0) in
    let u = sides ds b w (same-is _ _ second.0) in
    let middle = same-is (argument a.concl) (left_of b.concl) second.1 in
    by_trans a b c h g r (subst (IsTypedOver ds) p.1 (record {
      hyps_are = All-union formula a.hyps b.hyps v.hyps_are w.hyps_are;
      concl_is = (eq_over ds [] (left_of a.concl) (argument b.concl) s.0 u.1 (s.2 ∙ ap tm_type middle ∙ u.2), refl);
    }))

pub comb_step : (ds : List Definition) (a b c : Sequent) → Proves ds a → Proves ds b → comb_rule a b ≡ Some c → Proves ds c
comb_step ds a b c h g r =
    let formula : Tm → Type 0 = IsFormula (signature_of ds) in
    let v = Proves-typed h in
    let w = Proves-typed g in
    let p = passed _ _ c r in
    let first = both_parts _ _ p.0 in
    let second = both_parts _ _ first.1 in
    let s = sides ds a v (same-is _ _ first.0) in
    let u = sides ds b w (same-is _ _ second.0) in
    let takes = same_ty-is (tm_type (left_of a.concl)) (fun_ty (tm_type (left_of b.concl)) (range_ty (tm_type (left_of a.concl)))) second.1 in
    let left : IsOver (signature_of ds) [] (tm_comb (left_of a.concl) (left_of b.concl)) = (s.0, u.0, takes) in
    let right : IsOver (signature_of ds) [] (tm_comb (argument a.concl) (argument b.concl)) = (s.1, u.1, sym s.2 ∙ takes ∙ (λ i. fun_ty (u.2 i) (range_ty (s.2 i)))) in
    by_comb a b c h g r (subst (IsTypedOver ds) p.1 (record {
      hyps_are = All-union formula a.hyps b.hyps v.hyps_are w.hyps_are;
      concl_is = (eq_over ds [] (tm_comb (left_of a.concl) (left_of b.concl)) (tm_comb (argument a.concl) (argument b.concl)) left right (ap range_ty s.2), refl);
    }))

lambda_type : (v : FreeVar) (t : Tm) → tm_type (lambda v t) ≡ fun_ty v.ty (tm_type t)
lambda_type v t = ap (λ u. fun_ty v.ty u) (tm_type-bind 0 v t)

pub abs_step : (ds : List Definition) (v : FreeVar) (a c : Sequent) → IsOver (signature_of ds) [] (tm_free v) → Proves ds a → abs_rule v a ≡ Some c → Proves ds c
abs_step ds v a c o h r =
    let sig = signature_of ds in
    let w = Proves-typed h in
    let p = passed _ _ c r in
    let s = sides ds a w (same-is _ _ (both_parts _ _ p.0).0) in
    let left : IsOver sig [] (lambda v (left_of a.concl)) = (o.1, IsOver-bind sig [] v (left_of a.concl) s.0) in
    let right : IsOver sig [] (lambda v (argument a.concl)) = (o.1, IsOver-bind sig [] v (argument a.concl) s.1) in
    let types = lambda_type v (left_of a.concl) ∙ ap (λ u. fun_ty v.ty u) s.2 ∙ sym (lambda_type v (argument a.concl)) in
    by_abs v a c o h r (subst (IsTypedOver ds) p.1 (record {
      hyps_are = w.hyps_are;
      concl_is = (eq_over ds [] (lambda v (left_of a.concl)) (lambda v (argument a.concl)) left right types, refl);
    }))

-- an abstraction at a variable comes to a term of the same type
redex_over : (s : Signature) (a : Ty) (b : Tm) (v : FreeVar) → IsOver s [] (tm_comb (tm_abs a b) (tm_free v)) → IsOver s [] (tm_open 0 v b) × (tm_type b ≡ tm_type (tm_open 0 v b))
redex_over s a b v o =
    let below = subst (λ (u : Ty). IsOver s (u ∷ []) b) (ap domain_ty o.2) o.0.1 in
    (IsOver-open s [] v b o.1 below, sym (tm_type-open 0 v b (IsOver-HasAt s [] v.ty b below)))

pub beta_step : (ds : List Definition) (t : Tm) (c : Sequent) → IsOver (signature_of ds) [] t → beta_rule t ≡ Some c → Proves ds c
beta_step ds t c o r =
    let (a, b, v, is, free, said) = beta_only t c r in
    let u = redex_over (signature_of ds) a b v (subst (IsOver (signature_of ds) []) is o) in
    by_beta t c r (subst (IsTypedOver ds) (sym said) (no_hyps (signature_of ds) (eq_tm t (tm_open 0 v b)) (eq_over ds [] t (tm_open 0 v b) o u.0 (ap tm_type is ∙ u.1), refl)))

pub assume_step : (ds : List Definition) (t : Tm) (c : Sequent) → IsOver (signature_of ds) [] t → assume_rule t ≡ Some c → Proves ds c
assume_step ds t c o r =
    let formula : Tm → Type 0 = IsFormula (signature_of ds) in
    let p = passed _ _ c r in
    let is : formula t = (o, same_ty-is (tm_type t) bool_ty p.0) in
    by_assume t c r (subst (IsTypedOver ds) p.1 (record { hyps_are = All-cons formula t [] is (All-nil formula); concl_is = is }))

pub eq_mp_step : (ds : List Definition) (a b c : Sequent) → Proves ds a → Proves ds b → eq_mp_rule a b ≡ Some c → Proves ds c
eq_mp_step ds a b c h g r =
    let formula : Tm → Type 0 = IsFormula (signature_of ds) in
    let v = Proves-typed h in
    let w = Proves-typed g in
    let p = passed _ _ c r in
    let first = both_parts _ _ p.0 in
    let s = sides ds a v (same-is _ _ first.0) in
    let fits = same-is (left_of a.concl) b.concl first.1 in
    by_eq_mp a b c h g r (subst (IsTypedOver ds) p.1 (record {
      hyps_are = All-union formula a.hyps b.hyps v.hyps_are w.hyps_are;
      concl_is = (s.1, sym s.2 ∙ ap tm_type fits ∙ w.concl_is.1);
    }))

pub deduct_step : (ds : List Definition) (a b c : Sequent) → Proves ds a → Proves ds b → deduct_rule a b ≡ Some c → Proves ds c
deduct_step ds a b c h g r =
    let formula : Tm → Type 0 = IsFormula (signature_of ds) in
    let v = Proves-typed h in
    let w = Proves-typed g in
    by_deduct a b c h g r (subst (IsTypedOver ds) (some_is _ c r) (record {
      hyps_are = All-union formula (without b.concl a.hyps) (without a.concl b.hyps) (All-without formula b.concl a.hyps v.hyps_are) (All-without formula a.concl b.hyps w.hyps_are);
      concl_is = (eq_over ds [] a.concl b.concl v.concl_is.0 w.concl_is.0 (v.concl_is.1 ∙ sym w.concl_is.1), refl);
    }))

pub inst_type_step : (ds : List Definition) (s : TySubst) (a c : Sequent) → AreTypesOver (signature_of ds) s → Proves ds a → inst_type_rule s a ≡ Some c → Proves ds c
inst_type_step ds s a c o h r =
    let sig = signature_of ds in
    let w = Proves-typed h in
    by_inst_type s a c o h r (subst (IsTypedOver ds) (passed _ _ c r).1 (record {
      hyps_are = All-union (IsFormula sig) (map (tm_ty_subst s) a.hyps) [] (formulas_inst_type sig s a.hyps o w.hyps_are) (All-nil (IsFormula sig));
      concl_is = formula_inst_type sig s a.concl o w.concl_is;
    }))

pub inst_step : (ds : List Definition) (s : VarSubst) (a c : Sequent) → AreOver (signature_of ds) s → Proves ds a → inst_rule s a ≡ Some c → Proves ds c
inst_step ds s a c o h r =
    let sig = signature_of ds in
    let w = Proves-typed h in
    let p = passed _ _ c r in
    let k = keeps s (both_parts _ _ (both_parts (some_pair s) _ p.0).1).1 in
    by_inst s a c o h r (subst (IsTypedOver ds) p.1 (record {
      hyps_are = All-union (IsFormula sig) (map (tm_inst s) a.hyps) [] (formulas_inst sig s a.hyps o k w.hyps_are) (All-nil (IsFormula sig));
      concl_is = (IsOver-inst sig [] s a.concl o k w.concl_is.0, tm_type-inst s a.concl k ∙ w.concl_is.1);
    }))

-- what passes the test of typing over the connectives' definitions is well typed over them
checked_typed : (p : Tm) → is_over (signature_of (base 10)) [] p ≡ true → tm_type p ≡ bool_ty → IsTypedOver (base 10) (seq [] p)
checked_typed p o t = no_hyps (signature_of (base 10)) p (IsOver-checked (signature_of (base 10)) [] p o, t)

axioms_typed : All (IsTypedOver (base 10)) axioms
unfolding opened_bases base_definitions same_ty
axioms_typed = All-from_recursion (IsTypedOver (base 10)) axioms (checked_typed axiom_1 refl refl, (checked_typed axiom_2 refl refl, (checked_typed axiom_3 refl refl, tt)))

typed_over_more : (ds es : List Definition) (a : Sequent) → IsTypedOver ds a → IsTypedOver (ds ++ es) a
typed_over_more ds es a w = record {
  hyps_are = λ k d l. (IsOver-extend (extends ds es) [] _ (w.hyps_are k d l).0, (w.hyps_are k d l).1);
  concl_is = (IsOver-extend (extends ds es) [] a.concl w.concl_is.0, w.concl_is.1);
}

pub axiom_proves : (ds : List Definition) (a : Sequent) → IsPrefix (base 10) ds → Contains axioms a → Proves ds a
axiom_proves ds a b m =
    let typed = typed_over_more (base 10) b.0 a (All-contains (IsTypedOver (base 10)) axioms a axioms_typed m) in
    by_axiom a b m (subst (λ (fs : List Definition). IsTypedOver fs a) (sym b.1) typed)

axiom_step : (ds : List Definition) (n : ℕ) (c : Sequent) → IsPrefix (base 10) ds → axiom_at n ≡ Some c → Proves ds c
axiom_step ds zero c b e = cc
axiom_step ds (suc n) c b e = axiom_proves ds c b (n, slice_get_within axioms n c e, get_or_from_slice_get axioms n c c e)

-- what a rule with one premise, or with two, needs and gives
from_one_proves : (ds : List Definition) (so_far : List Sequent) (i : ℕ) (rule : Sequent → Option Sequent) (c : Sequent)
    → ((j : ℕ) (a : Sequent) → slice_get so_far j ≡ Some a → Proves ds a) → ((a : Sequent) → Proves ds a → rule a ≡ Some c → Proves ds c)
    → from_one so_far i rule ≡ Some c → Proves ds c
from_one_proves ds so_far i rule c had step e = let p = premise (slice_get so_far i) rule c e in step p.0 (had i p.0 p.1) p.2

from_two_proves : (ds : List Definition) (so_far : List Sequent) (i j : ℕ) (rule : Sequent → Sequent → Option Sequent) (c : Sequent)
    → ((n : ℕ) (a : Sequent) → slice_get so_far n ≡ Some a → Proves ds a) → ((a b : Sequent) → Proves ds a → Proves ds b → rule a b ≡ Some c → Proves ds c)
    → from_two so_far i j rule ≡ Some c → Proves ds c
from_two_proves ds so_far i j rule c had step e =
    from_one_proves ds so_far i (λ a. from_one so_far j (rule a)) c had (λ a h f. from_one_proves ds so_far j (rule a) c had (λ b g r. step a b h g r) f) e

pub step_proves : (k : State) (s : Step) (c : Sequent) → AreConservative k.defs → ((i : ℕ) (a : Sequent) → slice_get k.steps i ≡ Some a → Proves k.defs a) → IsStep k s c → Proves k.defs c
step_proves k (Refl t) c h had s = refl_step k.defs t c s.over s.gives
step_proves k (Trans i j) c h had s = from_two_proves k.defs k.steps i j trans_rule c had (λ a b p q r. trans_step k.defs a b c p q r) s.gives
step_proves k (Comb i j) c h had s = from_two_proves k.defs k.steps i j comb_rule c had (λ a b p q r. comb_step k.defs a b c p q r) s.gives
step_proves k (Abs v i) c h had s = from_one_proves k.defs k.steps i (abs_rule v) c had (λ a p r. abs_step k.defs v a c s.over p r) s.gives
step_proves k (Beta t) c h had s = beta_step k.defs t c s.over s.gives
step_proves k (Assume t) c h had s = assume_step k.defs t c s.over s.gives
step_proves k (Mp i j) c h had s = from_two_proves k.defs k.steps i j eq_mp_rule c had (λ a b p q r. eq_mp_step k.defs a b c p q r) s.gives
step_proves k (Deduct i j) c h had s = from_two_proves k.defs k.steps i j deduct_rule c had (λ a b p q r. deduct_step k.defs a b c p q r) s.gives
step_proves k (InstType i t) c h had s = from_one_proves k.defs k.steps i (inst_type_rule (ty_pairs t.items)) c had (λ a p r. inst_type_step k.defs (ty_pairs t.items) a c s.over p r) s.gives
step_proves k (Inst i t) c h had s = from_one_proves k.defs k.steps i (inst_rule t.items) c had (λ a p r. inst_step k.defs t.items a c s.over p r) s.gives
step_proves k (Axiom n) c h had s = axiom_step k.defs n c s.over s.gives
step_proves k (Const i) c h had s = let e = s.gives in cc
step_proves k (TypeAbs i) c h had s = let e = s.gives in cc
step_proves k (TypeRep i) c h had s = let e = s.gives in cc

-- what the steps before and the new ones give
joined : (ds : List Definition) (old new : List Sequent) → ((i : ℕ) (a : Sequent) → slice_get old i ≡ Some a → Proves ds a) → ((i : ℕ) (a : Sequent) → slice_get new i ≡ Some a → Proves ds a)
    → (i : ℕ) (a : Sequent) → slice_get (old ++ new) i ≡ Some a → Proves ds a
joined ds [] new f g i a e = g i a e
joined ds (b ∷ old) new f g zero a e = f zero a e
joined ds (b ∷ old) new f g (suc i) a e = joined ds old new (λ j. f (suc j)) g i a e

only : (ds : List Definition) (c : Sequent) → Proves ds c → (i : ℕ) (a : Sequent) → slice_get (c ∷ []) i ≡ Some a → Proves ds a
only ds c p zero a e = subst (Proves ds) (some_is c a e) p
only ds c p (suc i) a e = cc

pub run_proves : {ds : List Def} {ss : List Step} {k : State} → IsRun ds ss k → AreConservative k.defs × ((i : ℕ) (a : Sequent) → slice_get k.steps i ≡ Some a → Proves k.defs a)
run_proves run_start = (tt, λ i a e. cc)
run_proves (run_rule ds ss k s c r is) =
    let before = run_proves r in
    (before.0, joined k.defs k.steps (c ∷ []) before.1 (only k.defs c (step_proves k s c before.0 before.1 is)))
run_proves (run_const ds ss k name t r is) =
    let before = run_proves r in
    let d : Definition = const_def (string_bytes name) t in
    let says : Sequent = seq [] (eq_tm (own_const (string_bytes name) (tm_type t)) t) in (
      AreConservativeAfter-push [] k.defs d before.0 is,
      joined (k.defs ++ d ∷ []) k.steps (says ∷ []) (λ i a e. Proves-append (d ∷ []) (before.1 i a e)) (only (k.defs ++ d ∷ []) says (const_proves k.defs (string_bytes name) t is)),
    )
run_proves (run_type ds ss k name p t from r is w) =
    let before = run_proves r in
    let n : Name = string_bytes name in
    let d : Definition = type_def n p in
    let fit = type_def_at k.defs n p t is (before.1 from (seq [] (tm_comb p t)) w) in
    let says = type_proves k.defs n p fit in
    let new = joined (k.defs ++ d ∷ []) (seq [] (abs_rep n p) ∷ []) (seq [] (rep_abs n p) ∷ []) (only (k.defs ++ d ∷ []) (seq [] (abs_rep n p)) says.0) (only (k.defs ++ d ∷ []) (seq [] (rep_abs n p)) says.1) in
    (AreConservativeAfter-push [] k.defs d before.0 fit, joined (k.defs ++ d ∷ []) k.steps (seq [] (abs_rep n p) ∷ seq [] (rep_abs n p) ∷ []) (λ i a e. Proves-append (d ∷ []) (before.1 i a e)) new)
