-- What the kernel's rules give on the way of a rewrite.
use Rattle.std.proofs.Common.{◌≡◌, List, [], ◌∷◌, Some, IsSome, refl, ap, sym, ◌∙◌, subst, codes}
use Rattle.hol_terms.specs.Ty.{Ty}
use Rattle.hol_terms.specs.Tm.{Tm, tm_free, tm_const, tm_comb, tm_abs, FreeVar}
use Rattle.hol_terms.specs.Typing.{tm_type, fun_ty}
use Rattle.hol_terms.specs.Takes.{Takes}
use Rattle.hol_terms.specs.Binding.{tm_bind}
use Rattle.hol_terms.specs.Loose.{IsClosedAt}
use Rattle.hol_terms.specs.Signature.{IsOver}
use Rattle.hol_terms.specs.Definition.{Definition, signature_of, eq_ty, bool_ty}
use Rattle.hol_terms.specs.Sequent.{Sequent, seq, eq_tm, left_of, argument, IsEq}
use Rattle.hol_terms.specs.Rules.{same, comb_rule, eq_mp_rule}
use Rattle.hol_terms.specs.Proves.{Proves, IsDerivable}
use Rattle.hol_terms.proofs.Same.{same_refl, same_ty-from}
use Rattle.hol_terms.proofs.Weaken.{Proves-append, Proves-typed}
use Rattle.hol_terms.proofs.Typed.{eq_over, eq_sides}
use Rattle.hol_terms.proofs.InstLemmas.{IsOver-closed}
use Rattle.hol_terms.proofs.Bound.{IsOver-bind}
use Rattle.hol_kernel.specs.State.{State, Theorem, Has}
use Rattle.hol_conv.specs.Reduction.{reduct}
use Rattle.hol_conv.specs.Conv.{IsPlain, IsEquationOf}
use Rattle.hol_conv.specs.Rewriting.{Sides, filled}
use Rattle.hol_conv.proofs.RuleLemmas.{given, some_of, comb_eqs}

pub sides : (k : State) (a : Theorem) → Has k a → IsDerivable a.defs a.sequent → IsEq a.sequent.concl → Sides k a
sides k a h d e =
    let moved : Proves k.defs a.sequent = subst (λ (ds : List Definition). Proves ds a.sequent) (sym h.older.1) (Proves-append h.older.0 d.proof) in
    let s = eq_sides [] (left_of a.sequent.concl) (argument a.sequent.concl) (subst (IsOver (signature_of k.defs) []) e (Proves-typed moved).concl_is.0) in
    record { left = s.0; right = s.1; types = s.2 }

pub plain_is : (a : Theorem) → IsPlain a → IsEq a.sequent.concl
plain_is a p = ap (λ (s : Sequent). s.concl) p

abbrev pub equals : Ty → Tm
equals t = tm_const (codes "eq") (t ∷ []) (eq_ty t)

pub equals_over : (ds : List Definition) (s : Tm) → IsOver (signature_of ds) [] s → IsOver (signature_of ds) [] (equals (tm_type s))
equals_over ds s h = (eq_over ds [] s s h h refl).0.0

-- behind an equation without hypotheses
pub comb_hyps : (f l r : Tm) (a : Sequent) → a ≡ seq a.hyps (eq_tm l r) → Takes f l → comb_rule (seq [] (eq_tm f f)) a ≡ Some (seq a.hyps (eq_tm (tm_comb f l) (tm_comb f r)))
comb_hyps f l r a e h = ap (comb_rule (seq [] (eq_tm f f))) e ∙ rw (same_refl (eq_tm f f), same_refl (eq_tm l r), same_ty-from _ _ h) refl

pub eq_mp_hyps : (p q : Tm) (a b : Sequent) → a ≡ seq [] (eq_tm p q) → b ≡ seq b.hyps p → eq_mp_rule a b ≡ Some (seq b.hyps q)
eq_mp_hyps p q a b e d = (λ i. eq_mp_rule (e i) (d i)) ∙ rw (same_refl (eq_tm p q), same_refl p) refl

-- both sides of an equation of equations
half_is : (a : Theorem) (e : Tm) → IsPlain a → e ≡ equals (tm_type (left_of a.sequent.concl))
    → comb_rule (seq [] (eq_tm e e)) a.sequent ≡ Some (seq [] (eq_tm (tm_comb e (left_of a.sequent.concl)) (tm_comb e (argument a.sequent.concl))))
half_is a e p d =
    let l = left_of a.sequent.concl in
    ap (comb_rule (seq [] (eq_tm e e))) p ∙ comb_eqs e e l (argument a.sequent.concl) (subst (λ f. Takes f l) (sym d) refl)

pub half_fits : (a : Theorem) (e : Tm) → IsPlain a → e ≡ equals (tm_type (left_of a.sequent.concl)) → IsSome (comb_rule (seq [] (eq_tm e e)) a.sequent)
half_fits a e p d = some_of (half_is a e p d)

whole_is : (a b half : Theorem) (e : Tm) → IsPlain a → IsPlain b → e ≡ equals (tm_type (left_of a.sequent.concl))
    → tm_type (left_of a.sequent.concl) ≡ tm_type (left_of b.sequent.concl) → tm_type (left_of a.sequent.concl) ≡ tm_type (argument a.sequent.concl)
    → comb_rule (seq [] (eq_tm e e)) a.sequent ≡ Some half.sequent
    → comb_rule half.sequent b.sequent ≡ Some (seq [] (eq_tm (eq_tm (left_of a.sequent.concl) (left_of b.sequent.concl)) (eq_tm (argument a.sequent.concl) (argument b.sequent.concl))))
whole_is a b half e p q d t u h =
    let s = left_of a.sequent.concl in
    let v = argument a.sequent.concl in
    let x = left_of b.sequent.concl in
    let w = argument b.sequent.concl in
    let k : half.sequent ≡ seq [] (eq_tm (tm_comb (equals (tm_type s)) s) (tm_comb (equals (tm_type s)) v)) = given (half_is a e p d) h ∙ ap (λ f. seq [] (eq_tm (tm_comb f s) (tm_comb f v))) d in
    (λ i. comb_rule (k i) (q i)) ∙ comb_eqs (tm_comb (equals (tm_type s)) s) (tm_comb (equals (tm_type s)) v) x w (ap (λ r. fun_ty r bool_ty) t)
    ∙ ap (λ r. Some (seq [] (eq_tm (eq_tm s x) (tm_comb (tm_comb (equals r) v) w)))) u

pub whole_fits : (a b half : Theorem) (e : Tm) → IsPlain a → IsPlain b → e ≡ equals (tm_type (left_of a.sequent.concl))
    → tm_type (left_of a.sequent.concl) ≡ tm_type (left_of b.sequent.concl) → tm_type (left_of a.sequent.concl) ≡ tm_type (argument a.sequent.concl)
    → comb_rule (seq [] (eq_tm e e)) a.sequent ≡ Some half.sequent → IsSome (comb_rule half.sequent b.sequent)
whole_fits a b half e p q d t u h = some_of (whole_is a b half e p q d t u h)

pub whole_gives : (a b half th : Theorem) (e : Tm) → IsPlain a → IsPlain b → e ≡ equals (tm_type (left_of a.sequent.concl))
    → tm_type (left_of a.sequent.concl) ≡ tm_type (left_of b.sequent.concl) → tm_type (left_of a.sequent.concl) ≡ tm_type (argument a.sequent.concl)
    → comb_rule (seq [] (eq_tm e e)) a.sequent ≡ Some half.sequent → comb_rule half.sequent b.sequent ≡ Some th.sequent
    → IsEquationOf (eq_tm (left_of a.sequent.concl) (left_of b.sequent.concl)) (eq_tm (argument a.sequent.concl) (argument b.sequent.concl)) th
whole_gives a b half th e p q d t u h g = given (whole_is a b half e p q d t u h) g

-- the abstraction over the place, at a term
pub context_over : (k : State) (f u c : Tm) (v : FreeVar) → f ≡ tm_abs v.ty (tm_bind 0 v c) → IsOver (signature_of k.defs) [] c → IsOver (signature_of k.defs) [] (tm_free v) → IsOver (signature_of k.defs) [] u
    → v.ty ≡ tm_type u → IsOver (signature_of k.defs) [] (tm_comb f u)
context_over k f u c v e h o g t =
    let sig = signature_of k.defs in
    let over : IsOver sig [] (tm_abs v.ty (tm_bind 0 v c)) = (o.1, IsOver-bind sig [] v c h) in
    subst (λ a. IsOver sig [] (tm_comb a u)) (sym e) (over, g, ap (λ a. fun_ty a (tm_type (tm_bind 0 v c))) t)

pub context_closed : (k : State) (c : Tm) → IsOver (signature_of k.defs) [] c → IsClosedAt 0 c
context_closed k c h = IsOver-closed (signature_of k.defs) [] c h

pub over_after : (k new : State) (t : Tm) → new.defs ≡ k.defs → IsOver (signature_of k.defs) [] t → IsOver (signature_of new.defs) [] t
over_after k new t e h = subst (λ (ds : List Definition). IsOver (signature_of ds) [] t) (sym e) h

-- the equation in the context
pub applied_fits : (k : State) (a : Theorem) (f : Tm) → IsEq a.sequent.concl → IsOver (signature_of k.defs) [] (tm_comb f (left_of a.sequent.concl)) → IsSome (comb_rule (seq [] (eq_tm f f)) a.sequent)
applied_fits k a f e h = some_of (comb_hyps f (left_of a.sequent.concl) (argument a.sequent.concl) a.sequent (ap (seq a.sequent.hyps) e) h.2)

applied_is : (k : State) (a applied : Theorem) (f : Tm) → IsEq a.sequent.concl → IsOver (signature_of k.defs) [] (tm_comb f (left_of a.sequent.concl)) → comb_rule (seq [] (eq_tm f f)) a.sequent ≡ Some applied.sequent
    → applied.sequent ≡ seq a.sequent.hyps (eq_tm (tm_comb f (left_of a.sequent.concl)) (tm_comb f (argument a.sequent.concl)))
applied_is k a applied f e h g = given (comb_hyps f (left_of a.sequent.concl) (argument a.sequent.concl) a.sequent (ap (seq a.sequent.hyps) e) h.2) g

under_is : (k : State) (a same applied : Theorem) (f q : Tm) → IsEq a.sequent.concl → IsOver (signature_of k.defs) [] (tm_comb f (left_of a.sequent.concl)) → comb_rule (seq [] (eq_tm f f)) a.sequent ≡ Some applied.sequent
    → IsEquationOf (eq_tm (tm_comb f (left_of a.sequent.concl)) (tm_comb f (argument a.sequent.concl))) q same → eq_mp_rule same.sequent applied.sequent ≡ Some (seq a.sequent.hyps q)
under_is k a same applied f q e h g s =
    let p = eq_tm (tm_comb f (left_of a.sequent.concl)) (tm_comb f (argument a.sequent.concl)) in
    let d = applied_is k a applied f e h g in
    (λ i. eq_mp_rule (s i) (d i)) ∙ eq_mp_hyps p q (seq [] (eq_tm p q)) (seq a.sequent.hyps p) refl refl

pub under_fits : (k : State) (a same applied : Theorem) (f q : Tm) → IsEq a.sequent.concl → IsOver (signature_of k.defs) [] (tm_comb f (left_of a.sequent.concl)) → comb_rule (seq [] (eq_tm f f)) a.sequent ≡ Some applied.sequent
    → IsEquationOf (eq_tm (tm_comb f (left_of a.sequent.concl)) (tm_comb f (argument a.sequent.concl))) q same → IsSome (eq_mp_rule same.sequent applied.sequent)
under_fits k a same applied f q e h g s = some_of (under_is k a same applied f q e h g s)

pub under_gives : (k : State) (a same applied th : Theorem) (f q : Tm) → IsEq a.sequent.concl → IsOver (signature_of k.defs) [] (tm_comb f (left_of a.sequent.concl)) → comb_rule (seq [] (eq_tm f f)) a.sequent ≡ Some applied.sequent
    → IsEquationOf (eq_tm (tm_comb f (left_of a.sequent.concl)) (tm_comb f (argument a.sequent.concl))) q same → eq_mp_rule same.sequent applied.sequent ≡ Some th.sequent → th.sequent ≡ seq a.sequent.hyps q
under_gives k a same applied th f q e h g s r = given (under_is k a same applied f q e h g s) r

pub filled_is : (f c : Tm) (v : FreeVar) (l r : Tm) → f ≡ tm_abs v.ty (tm_bind 0 v c) → eq_tm (reduct f l) (reduct f r) ≡ eq_tm (filled v l c) (filled v r c)
filled_is f c v l r e = ap (λ g. eq_tm (reduct g l) (reduct g r)) e
