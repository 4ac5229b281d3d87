-- What the rules' tests tell, and what their tables need.
use Rattle.std.proofs.Common.{◌≡◌, true, false, Bool, List, [], Some, refl, ap, sym, ◌∙◌, subst}
use Rattle.hol_terms.specs.Ty.{Ty}
use Rattle.hol_terms.specs.Tm.{Tm, tm_comb, tm_abs}
use Rattle.hol_terms.specs.Opening.{body_of}
use Rattle.hol_terms.specs.Typing.{tm_type, domain_ty, range_ty}
use Rattle.hol_terms.specs.Signature.{Signature, IsOver}
use Rattle.hol_terms.specs.Definition.{bool_ty, signature_of}
use Rattle.hol_terms.specs.Sequent.{Sequent, IsEq, seq, union, eq_tm, left_of, argument}
use Rattle.hol_terms.specs.Rules.{both, same, same_ty, function, is_equation, without}
use Rattle.hol_terms.specs.Logic.{const_T, const_F}
use Rattle.hol_terms.specs.Proves.{IsDerivable}
use Rattle.hol_terms.proofs.Same.{same-is, same_ty-from}
use Rattle.std.specs.Cmp.{tied_itself}
use Rattle.std.specs.declared.cmp.Ordering.TheVariants.{Equal}
use Rattle.hol_terms.specs.Subst.{ty_cmp}
use Rattle.hol_terms.proofs.TotalOrder.{ty_cmp_total}
use Rattle.hol_terms.proofs.Typed.{eq_sides}
use Rattle.hol_kernel.specs.State.{State, Theorem, Has}
use Rattle.kernel_lines.proofs.Given.{over_none, over_more, had_none, had_more, grows_on, base_grows, had_grows, over_grows, concl_bool}
use Rattle.kernel_lines.proofs.Over.{concl_over}
use Rattle.hol_kernel.specs.Ascending.{Ascends}
use Rattle.hol_kernel.proofs.Ascending.{without_ascends}
use Rattle.nd_rules.proofs.Hypotheses.{joined}
use Rattle.nd_rules.proofs.Keeping.{rules_grow, rules_base}
use Rattle.nd_rules.specs.Shapes.{IsUnary, IsBinary, IsOperand, AreOperands, AreSides, IsQuantified, IsPredicate}
use Rattle.nd_rules.specs.Connectives.{conj_tm, disj_tm, imp_tm, not_tm, is_conj, is_disj, is_imp}

pub ruleset rule_lemmas = (over_none, over_more, had_none, had_more, grows_on, base_grows, had_grows, over_grows, rules_grow, rules_base)

pub same_ty_refl : (t : Ty) → same_ty t t ≡ true
same_ty_refl t = same_ty-from t t refl

pub both_left : (a b : Bool) → both a b ≡ true → a ≡ true
both_left true b e = refl
both_left false b e = cc

pub both_right : (a b : Bool) → both a b ≡ true → b ≡ true
both_right true b e = e
both_right false b e = cc

-- conclusions of a shape
pub conj_shape : (p : Tm) → is_conj p ≡ true → IsBinary p
conj_shape p h = subst IsBinary (sym (same-is p (conj_tm (left_of p) (argument p)) h)) (record { applied = refl; typed = refl })

pub disj_shape : (p : Tm) → is_disj p ≡ true → IsBinary p
disj_shape p h = subst IsBinary (sym (same-is p (disj_tm (left_of p) (argument p)) h)) (record { applied = refl; typed = refl })

pub imp_shape : (p : Tm) → is_imp p ≡ true → IsBinary p
imp_shape p h = subst IsBinary (sym (same-is p (imp_tm (left_of p) (argument p)) h)) (record { applied = refl; typed = refl })

pub imp_false_shape : (p : Tm) → same p (imp_tm (left_of p) const_F) ≡ true → IsBinary p
imp_false_shape p h = subst IsBinary (sym (same-is p (imp_tm (left_of p) const_F) h)) (record { applied = refl; typed = refl })

pub not_shape : (p : Tm) → same p (not_tm (argument p)) ≡ true → IsUnary p
not_shape p h = subst IsUnary (sym (same-is p (not_tm (argument p)) h)) (record { applied = refl; typed = refl })

pub is_true_shape : (p : Tm) → same p (eq_tm (left_of p) const_T) ≡ true → IsEq p
is_true_shape p h = subst IsEq (sym (same-is p (eq_tm (left_of p) const_T) h)) refl

pub binary_applied : (p : Tm) → IsBinary p → p ≡ tm_comb (function p) (argument p)
binary_applied p b = subst (λ t. t ≡ tm_comb (function t) (argument t)) (sym b.applied) refl

-- the parts of formulas
pub operands_are : (k : State) (a : Theorem) (s t : Tm) → Has k a → IsDerivable a.defs a.sequent → IsBinary a.sequent.concl → s ≡ left_of a.sequent.concl → t ≡ argument a.sequent.concl
    → AreOperands (signature_of k.defs) a.sequent.concl s t
operands_are k a s t h d b e f =
    let sig = signature_of k.defs in
    let p = a.sequent.concl in
    let o : IsOver sig [] (tm_comb (tm_comb (function (function p)) (left_of p)) (argument p)) = subst (IsOver sig []) b.applied (concl_over k a h d) in
    record {
      first = e;
      second = f;
      over_first = subst (IsOver sig []) (sym e) o.0.1;
      over_second = subst (IsOver sig []) (sym f) o.1;
      boolean_first = ap tm_type e ∙ (sym (ap domain_ty o.0.2) ∙ ap domain_ty b.typed);
      boolean_second = ap tm_type f ∙ (sym (ap domain_ty o.2) ∙ ap (λ t. domain_ty (range_ty t)) b.typed);
    }

pub operand_is : (k : State) (a : Theorem) (s : Tm) → Has k a → IsDerivable a.defs a.sequent → IsUnary a.sequent.concl → s ≡ argument a.sequent.concl
    → IsOperand (signature_of k.defs) a.sequent.concl s
operand_is k a s h d b e =
    let sig = signature_of k.defs in
    let p = a.sequent.concl in
    let o : IsOver sig [] (tm_comb (function p) (argument p)) = subst (IsOver sig []) b.applied (concl_over k a h d) in
    record { is = e; over = subst (IsOver sig []) (sym e) o.1; boolean = ap tm_type e ∙ (sym (ap domain_ty o.2) ∙ ap domain_ty b.typed) }

pub sides_are : (k : State) (a : Theorem) (s t : Tm) → Has k a → IsDerivable a.defs a.sequent → IsEq a.sequent.concl → s ≡ left_of a.sequent.concl → t ≡ argument a.sequent.concl
    → AreSides (signature_of k.defs) a.sequent.concl s t
sides_are k a s t h d b e f =
    let sig = signature_of k.defs in
    let p = a.sequent.concl in
    let o = eq_sides [] (left_of p) (argument p) (subst (IsOver sig []) b (concl_over k a h d)) in
    record {
      first = e;
      second = f;
      over_first = subst (IsOver sig []) (sym e) o.0;
      over_second = subst (IsOver sig []) (sym f) o.1;
      typed = ap tm_type f ∙ (sym o.2 ∙ sym (ap tm_type e));
    }

pub predicate_is : {sig : Signature} {a : Ty} (e p : Tm) → IsOver sig [] e → IsQuantified a e → p ≡ argument e → IsPredicate sig a p
predicate_is {sig} {a} e p h q d =
    let o : IsOver sig [] (tm_comb (function e) (argument e)) = subst (IsOver sig []) q.applied h in
    record {
      is = subst (λ t. t ≡ tm_abs a (body_of t)) (sym d) q.abstraction;
      over = subst (IsOver sig []) (sym d) o.1;
      typed = ap tm_type d ∙ (sym (ap domain_ty o.2) ∙ ap domain_ty q.typed);
    }

-- the conclusion over its parts
pub conj_is : (p s t : Tm) → is_conj p ≡ true → s ≡ left_of p → t ≡ argument p → p ≡ conj_tm s t
conj_is p s t h e f = same-is p (conj_tm (left_of p) (argument p)) h ∙ (λ i. conj_tm (sym e i) (sym f i))

pub disj_is : (p s t : Tm) → is_disj p ≡ true → s ≡ left_of p → t ≡ argument p → p ≡ disj_tm s t
disj_is p s t h e f = same-is p (disj_tm (left_of p) (argument p)) h ∙ (λ i. disj_tm (sym e i) (sym f i))

pub imp_is : (p s t : Tm) → is_imp p ≡ true → s ≡ left_of p → t ≡ argument p → p ≡ imp_tm s t
imp_is p s t h e f = same-is p (imp_tm (left_of p) (argument p)) h ∙ (λ i. imp_tm (sym e i) (sym f i))

pub imp_false_is : (p s : Tm) → same p (imp_tm (left_of p) const_F) ≡ true → s ≡ left_of p → p ≡ imp_tm s const_F
imp_false_is p s h e = same-is p (imp_tm (left_of p) const_F) h ∙ (λ i. imp_tm (sym e i) const_F)

pub not_is : (p s : Tm) → same p (not_tm (argument p)) ≡ true → s ≡ argument p → p ≡ not_tm s
not_is p s h e = same-is p (not_tm (argument p)) h ∙ (λ i. not_tm (sym e i))

pub eq_is : (p s t : Tm) → is_equation p ≡ true → s ≡ left_of p → t ≡ argument p → p ≡ eq_tm s t
eq_is p s t h e f = same-is p (eq_tm (left_of p) (argument p)) h ∙ (λ i. eq_tm (sym e i) (sym f i))

pub is_true_is : (p s : Tm) → same p (eq_tm (left_of p) const_T) ≡ true → s ≡ left_of p → p ≡ eq_tm s const_T
is_true_is p s h e = same-is p (eq_tm (left_of p) const_T) h ∙ (λ i. eq_tm (sym e i) const_T)

pub is_true_boolean : (p s t : Tm) → same p (eq_tm (left_of p) const_T) ≡ true → t ≡ argument p → tm_type t ≡ tm_type s → tm_type s ≡ bool_ty
is_true_boolean p s t h e f = sym f ∙ (ap tm_type e ∙ ap (λ u. tm_type (argument u)) (same-is p (eq_tm (left_of p) const_T) h))

pub ty_self : (t : Ty) → ty_cmp t t ≡ Equal
ty_self t = tied_itself ty_cmp_total t

pub some_is : (a b : Sequent) → Some a ≡ Some b → a ≡ b
some_is a b e = cc

-- what a theorem `A |- p = (p /\ r)` says
pub eq_conj : {p q r s : Tm} {hs : List Tm} (a : Sequent) → a ≡ seq hs (eq_tm p (conj_tm p r)) → p ≡ q → r ≡ s → a.concl ≡ eq_tm q (conj_tm q s)
eq_conj {p} {q} {r} {s} {hs} a e f g = ap (λ (b : Sequent). b.concl) e ∙ (λ i. eq_tm (f i) (conj_tm (f i) (g i)))

-- the hypotheses of all three
pub cases_joined : {p q r : Tm} {s t : Tm} (a b c th one other : Sequent) → Ascends a.hyps → Ascends c.hyps
    → one ≡ seq (without p b.hyps) s → other ≡ seq (without q c.hyps) t → th ≡ seq (union (union one.hyps other.hyps) a.hyps) r → p ≡ left_of a.concl → q ≡ argument a.concl → b.concl ≡ r
    → th ≡ seq (union (union a.hyps (without (left_of a.concl) b.hyps)) (without (argument a.concl) c.hyps)) b.concl
cases_joined {p} {q} {r} {s} {t} a b c th one other ha hc d e f g h k =
    f ∙ ((λ i. seq (union (union (d i).hyps (e i).hyps) a.hyps) (sym k i))
    ∙ (ap (λ hs. seq hs b.concl) (joined a.hyps (without p b.hyps) (without q c.hyps) ha (without_ascends q c.hyps hc))
    ∙ (λ i. seq (union (union a.hyps (without (g i) b.hyps)) (without (h i) c.hyps)) b.concl)))
