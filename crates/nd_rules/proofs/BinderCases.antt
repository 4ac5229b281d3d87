-- Quantified formulas, and what holds of a case.
use Rattle.std.proofs.Common.{◌≡◌, true, false, Bool, List, [], ◌∷◌, refl, ap, sym, ◌∙◌, subst}
use Rattle.hol_terms.specs.Ty.{Ty}
use Rattle.hol_terms.specs.Tm.{Tm, tm_free, tm_comb, tm_abs, FreeVar}
use Rattle.hol_terms.specs.Typing.{tm_type, range_ty}
use Rattle.hol_terms.specs.Notation.{◌⇒◌}
use Rattle.hol_terms.specs.Opening.{body_of}
use Rattle.hol_terms.specs.Binding.{tm_bind, tm_inst, has_free}
use Rattle.hol_terms.specs.Signature.{Signature, IsOver}
use Rattle.hol_terms.specs.Definition.{Definition, bool_ty, signature_of}
use Rattle.hol_terms.specs.Sequent.{argument}
use Rattle.hol_terms.specs.Rules.{function, lambda, no}
use Rattle.hol_terms.specs.Logic.{const_all, const_ex}
use Rattle.hol_terms.proofs.Same.{same-is}
use Rattle.hol_terms.proofs.Bound.{IsOver-bind}
use Rattle.hol_terms.proofs.InstLemmas.{IsOver-closed}
use Rattle.hol_terms.proofs.KeptTypes.{tm_type-bind, tm_type-inst}
use Rattle.hol_kernel.specs.State.{State, Grows}
use Rattle.hol_conv.specs.Reduction.{put, reduct}
use Rattle.hol_conv.proofs.Contracting.{none_right}
use Rattle.nd_rules.specs.Shapes.{IsQuantified, IsPredicate}
use Rattle.nd_rules.specs.Binders.{is_all, is_ex, case_of}
use Rattle.nd_rules.proofs.BinderLemmas.{filled_inst}

quantified : (a : Ty) (q s : Tm) → tm_type q ≡ (a ⇒ bool_ty) ⇒ bool_ty → s ≡ tm_comb q (tm_abs a (body_of (argument s))) → IsQuantified a s
quantified a q s t e = record {
  applied = subst (λ r. r ≡ tm_comb (function r) (argument r)) (sym e) refl;
  abstraction = ap argument e;
  typed = ap (λ r. tm_type (function r)) e ∙ t;
}

pub all_quantified : (a : Ty) (s p : Tm) → is_all a s ≡ true → p ≡ s → IsQuantified a p
all_quantified a s p h e = subst (IsQuantified a) (sym e) (quantified a (const_all a) s refl (same-is s (tm_comb (const_all a) (tm_abs a (body_of (argument s)))) h))

pub ex_quantified : (a : Ty) (s p : Tm) → is_ex a s ≡ true → p ≡ s → IsQuantified a p
ex_quantified a s p h e = subst (IsQuantified a) (sym e) (quantified a (const_ex a) s refl (same-is s (tm_comb (const_ex a) (tm_abs a (body_of (argument s)))) h))

-- the formula over its predicate
applied_to : (q s r p : Tm) → s ≡ tm_comb q r → p ≡ argument s → s ≡ tm_comb q p
applied_to q s r p e d = e ∙ ap (tm_comb q) (sym (d ∙ ap argument e))

pub all_is : (a : Ty) (s p : Tm) → is_all a s ≡ true → p ≡ argument s → s ≡ tm_comb (const_all a) p
all_is a s p h d = applied_to (const_all a) s (tm_abs a (body_of (argument s))) p (same-is s (tm_comb (const_all a) (tm_abs a (body_of (argument s)))) h) d

pub ex_is : (a : Ty) (s p : Tm) → is_ex a s ≡ true → p ≡ argument s → s ≡ tm_comb (const_ex a) p
ex_is a s p h d = applied_to (const_ex a) s (tm_abs a (body_of (argument s))) p (same-is s (tm_comb (const_ex a) (tm_abs a (body_of (argument s)))) h) d

-- what the predicate's case is
pub case_is : {sig : Signature} {a : Ty} (s p t : Tm) → IsPredicate sig a p → p ≡ argument s → reduct p t ≡ case_of s t
case_is {sig} {a} s p t h e = ap (λ q. reduct q t) h.is ∙ ap (λ q. put 0 t (body_of q)) e

pub applied_over : (sig : Signature) (p t : Tm) → IsPredicate sig (tm_type t) p → IsOver sig [] t → IsOver sig [] (tm_comb p t)
applied_over sig p t h o = (h.over, o, h.typed ∙ ap (λ b. tm_type t ⇒ range_ty b) (sym h.typed))

pub is_false : (b : Bool) → no b ≡ true → b ≡ false
is_false true d = sym d
is_false false d = refl

pub not_in : (v : FreeVar) (s q p : Tm) → no (has_free v s) ≡ true → s ≡ tm_comb q p → has_free v p ≡ false
not_in v s q p h e = none_right (has_free v q) _ (ap (has_free v) (sym e) ∙ is_false (has_free v s) h)

-- the context of a substitution
pub context_is : (sig : Signature) (v : FreeVar) (t u f : Tm) → IsOver sig [] (tm_free v) → IsOver sig [] t → tm_type t ≡ bool_ty → tm_type u ≡ v.ty → f ≡ lambda v t → IsPredicate sig (tm_type u) f
context_is sig v t u f o h b e d = record {
  is = subst (λ g. g ≡ tm_abs (tm_type u) (body_of g)) (sym d) (ap (λ a. tm_abs a (tm_bind 0 v t)) (sym e));
  over = subst (IsOver sig []) (sym d) (o.1, IsOver-bind sig [] v t h);
  typed = ap tm_type d ∙ (λ i. sym e i ⇒ (tm_type-bind 0 v t ∙ b) i);
}

pub context_case : (sig : Signature) (v : FreeVar) (t u f : Tm) → IsOver sig [] t → IsOver sig [] u → f ≡ lambda v t → reduct f u ≡ tm_inst ((v, u) ∷ []) t
context_case sig v t u f h o d = ap (λ g. reduct g u) d ∙ filled_inst 0 v u t (IsOver-closed sig [] u o) (IsOver-closed sig [] t h)

pub inst_bool : (v : FreeVar) (s t p : Tm) → tm_type s ≡ v.ty → p ≡ tm_inst ((v, s) ∷ []) t → tm_type p ≡ bool_ty → tm_type t ≡ bool_ty
inst_bool v s t p e d b = sym (tm_type-inst ((v, s) ∷ []) t (e, tt)) ∙ ap tm_type (sym d) ∙ b

pub predicate_grows : {a : Ty} {p : Tm} (k l : State) → IsPredicate (signature_of k.defs) a p → Grows k l → IsPredicate (signature_of l.defs) a p
predicate_grows {a} {p} k l h g = subst (λ (ds : List Definition). IsPredicate (signature_of ds) a p) (sym g.defs) h
