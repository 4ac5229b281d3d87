-- Laws of derivability.
use Rattle.std.proofs.Common.{◌≡◌, ◌≢◌, ℕ, true, List, [], ◌∷◌, ◌++◌, Some, Contains, slice_get, map, refl, sym, subst}
use Rattle.hol_terms.specs.Name.{Name}
use Rattle.hol_terms.specs.Tm.{Tm, tm_free, tm_comb, FreeVar}
use Rattle.hol_terms.specs.Typing.{tm_type}
use Rattle.hol_terms.specs.Takes.{Takes}
use Rattle.hol_terms.specs.Keeps.{KeepsTypes}
use Rattle.hol_terms.specs.Subst.{TySubst}
use Rattle.hol_terms.specs.Binding.{VarSubst, tm_inst, tm_ty_subst}
use Rattle.hol_terms.specs.Signature.{Signature, IsOver}
use Rattle.hol_terms.specs.Definition.{Definition, type_def, bool_ty, signature_of}
use Rattle.hol_terms.specs.Sequent.{Sequent, seq, eq_tm, union}
use Rattle.hol_terms.specs.Rules.{lambda, without, free_in_none, are_distinct_types, are_distinct_vars, beta_rule}
use Rattle.hol_terms.specs.Logic.{axioms}
use Rattle.hol_terms.specs.Base.{base}
use Rattle.hol_terms.specs.Proves.{AreTypesOver, AreOver, Proves, IsPrefix, IsTypeDef, AreConservative, IsDerivable, abs_rep, rep_abs}
use Rattle.hol_terms.specs.declared.defs.Def.{Def}
use Rattle.hol_terms.proofs.Bound.{IsOver-bind}
use Rattle.hol_terms.proofs.InstLemmas.{IsOver-closed}
use Rattle.hol_terms.proofs.TypeDefining.{type_proves}
use Rattle.hol_terms.proofs.Weaken.{Proves-append, AreConservativeAfter-push}
use Rattle.hol_kernel.specs.State.{State}
use Rattle.hol_kernel.specs.Run.{IsRun}
use Rattle.hol_kernel.specs.declared.step.Step.{Step}
use Rattle.hol_kernel.proofs.Sound.{refl_step, trans_step, comb_step, abs_step, beta_step, assume_step, eq_mp_step, deduct_step, inst_type_step, inst_step, axiom_proves, run_proves}
use Rattle.hol_kernel.proofs.Textbook.{trans_gives, comb_gives, abs_gives, beta_same, assume_gives, eq_mp_gives, inst_type_gives, inst_gives}

pub derivable_over : (ds es : List Definition) (a : Sequent) → IsPrefix ds es → AreConservative es → IsDerivable ds a → IsDerivable es a
derivable_over ds es a p c d = record { conservative = c; proof = subst (λ (fs : List Definition). Proves fs a) (sym p.1) (Proves-append p.0 d.proof) }

pub refl_derives : (ds : List Definition) (t : Tm) → AreConservative ds → IsOver (signature_of ds) [] t → IsDerivable ds (seq [] (eq_tm t t))
refl_derives ds t c o = record { conservative = c; proof = refl_step ds t (seq [] (eq_tm t t)) o refl }

pub trans_derives : (ds : List Definition) (A B : List Tm) (s t u : Tm) → IsDerivable ds (seq A (eq_tm s t)) → IsDerivable ds (seq B (eq_tm t u)) → IsDerivable ds (seq (union A B) (eq_tm s u))
trans_derives ds A B s t u h g = record { conservative = h.conservative; proof = trans_step ds (seq A (eq_tm s t)) (seq B (eq_tm t u)) (seq (union A B) (eq_tm s u)) h.proof g.proof (trans_gives A B s t u) }

pub comb_derives : (ds : List Definition) (A B : List Tm) (f g x y : Tm) → Takes f x → IsDerivable ds (seq A (eq_tm f g)) → IsDerivable ds (seq B (eq_tm x y))
    → IsDerivable ds (seq (union A B) (eq_tm (tm_comb f x) (tm_comb g y)))
comb_derives ds A B f g x y t h k = record {
  conservative = h.conservative;
  proof = comb_step ds (seq A (eq_tm f g)) (seq B (eq_tm x y)) (seq (union A B) (eq_tm (tm_comb f x) (tm_comb g y))) h.proof k.proof (comb_gives A B f g x y t);
}

pub abs_derives : (ds : List Definition) (A : List Tm) (v : FreeVar) (s t : Tm) → IsOver (signature_of ds) [] (tm_free v) → free_in_none v A ≡ true → IsDerivable ds (seq A (eq_tm s t))
    → IsDerivable ds (seq A (eq_tm (lambda v s) (lambda v t)))
abs_derives ds A v s t o f h = record { conservative = h.conservative; proof = abs_step ds v (seq A (eq_tm s t)) (seq A (eq_tm (lambda v s) (lambda v t))) o h.proof (abs_gives A v s t f) }

pub beta_over : (s : Signature) (v : FreeVar) (t : Tm) → IsOver s [] t → beta_rule (tm_comb (lambda v t) (tm_free v)) ≡ Some (seq [] (eq_tm (tm_comb (lambda v t) (tm_free v)) t))
beta_over s v t o = beta_same v t (IsOver-closed s [] t o)

pub beta_derives : (ds : List Definition) (v : FreeVar) (t : Tm) → AreConservative ds → IsOver (signature_of ds) [] (tm_free v) → IsOver (signature_of ds) [] t
    → IsDerivable ds (seq [] (eq_tm (tm_comb (lambda v t) (tm_free v)) t))
beta_derives ds v t c o h =
    let over : IsOver (signature_of ds) [] (tm_comb (lambda v t) (tm_free v)) = ((o.1, IsOver-bind (signature_of ds) [] v t h), o, refl) in
    record { conservative = c; proof = beta_step ds (tm_comb (lambda v t) (tm_free v)) (seq [] (eq_tm (tm_comb (lambda v t) (tm_free v)) t)) over (beta_over (signature_of ds) v t h) }

pub assume_derives : (ds : List Definition) (p : Tm) → AreConservative ds → IsOver (signature_of ds) [] p → tm_type p ≡ bool_ty → IsDerivable ds (seq (p ∷ []) p)
assume_derives ds p c o t = record { conservative = c; proof = assume_step ds p (seq (p ∷ []) p) o (assume_gives p t) }

pub eq_mp_derives : (ds : List Definition) (A B : List Tm) (p q : Tm) → IsDerivable ds (seq A (eq_tm p q)) → IsDerivable ds (seq B p) → IsDerivable ds (seq (union A B) q)
eq_mp_derives ds A B p q h g = record { conservative = h.conservative; proof = eq_mp_step ds (seq A (eq_tm p q)) (seq B p) (seq (union A B) q) h.proof g.proof (eq_mp_gives A B p q) }

pub deduct_derives : (ds : List Definition) (A B : List Tm) (p q : Tm) → IsDerivable ds (seq A p) → IsDerivable ds (seq B q) → IsDerivable ds (seq (union (without q A) (without p B)) (eq_tm p q))
deduct_derives ds A B p q h g = record { conservative = h.conservative; proof = deduct_step ds (seq A p) (seq B q) (seq (union (without q A) (without p B)) (eq_tm p q)) h.proof g.proof refl }

pub inst_type_derives : (ds : List Definition) (s : TySubst) (A : List Tm) (p : Tm) → AreTypesOver (signature_of ds) s → s ≢ [] → are_distinct_types s ≡ true → IsDerivable ds (seq A p)
    → IsDerivable ds (seq (union (map (tm_ty_subst s) A) []) (tm_ty_subst s p))
inst_type_derives ds s A p o n d h = record {
  conservative = h.conservative;
  proof = inst_type_step ds s (seq A p) (seq (union (map (tm_ty_subst s) A) []) (tm_ty_subst s p)) o h.proof (inst_type_gives s A p n d);
}

pub inst_derives : (ds : List Definition) (s : VarSubst) (A : List Tm) (p : Tm) → AreOver (signature_of ds) s → s ≢ [] → are_distinct_vars s ≡ true → KeepsTypes s → IsDerivable ds (seq A p)
    → IsDerivable ds (seq (union (map (tm_inst s) A) []) (tm_inst s p))
inst_derives ds s A p o n d k h = record {
  conservative = h.conservative;
  proof = inst_step ds s (seq A p) (seq (union (map (tm_inst s) A) []) (tm_inst s p)) o h.proof (inst_gives s A p n d k);
}

pub axiom_derives : (ds : List Definition) (a : Sequent) → AreConservative ds → IsPrefix (base 10) ds → Contains axioms a → IsDerivable ds a
axiom_derives ds a c b m = record { conservative = c; proof = axiom_proves ds a b m }

pub type_derives : (ds : List Definition) (n : Name) (p : Tm) → AreConservative ds → IsTypeDef ds n p
    → IsDerivable (ds ++ type_def n p ∷ []) (seq [] (abs_rep n p)) × IsDerivable (ds ++ type_def n p ∷ []) (seq [] (rep_abs n p))
type_derives ds n p c d =
    let more = AreConservativeAfter-push [] ds (type_def n p) c d in
    let says = type_proves ds n p d in
    (record { conservative = more; proof = says.0 }, record { conservative = more; proof = says.1 })

pub run_derives : (ds : List Def) (ss : List Step) (k : State) (i : ℕ) (a : Sequent) → IsRun ds ss k → slice_get k.steps i ≡ Some a → IsDerivable k.defs a
run_derives ds ss k i a r e = let p = run_proves r in record { conservative = p.0; proof = p.1 i a e }
