-- Contraction after contraction.
use Rattle.std.proofs.Common.{◌≡◌, ℕ, zero, suc, ◌+◌, ◌-◌, ◌<◌, ◌≤◌, arith, List, [], Some, None, IsSome, refl, ap, sym, ◌∙◌, subst}
use Rattle.hol_terms.specs.Tm.{Tm}
use Rattle.hol_terms.specs.Signature.{IsOver}
use Rattle.hol_terms.specs.Definition.{Definition, signature_of}
use Rattle.hol_terms.specs.Sequent.{Sequent, seq, eq_tm, left_of, argument}
use Rattle.hol_terms.specs.Rules.{trans_rule, refl_rule}
use Rattle.hol_terms.specs.Proves.{Proves, IsDerivable}
use Rattle.hol_terms.proofs.Same.{same_refl}
use Rattle.hol_terms.proofs.Weaken.{Proves-append, Proves-typed}
use Rattle.hol_terms.proofs.Typed.{eq_sides}
use Rattle.hol_kernel.specs.State.{State, Theorem, Has}
use Rattle.hol_conv.specs.Reduction.{contracted, beta_steps}
use Rattle.hol_conv.specs.Conv.{Contracts, IsEquationOf, IsPlain, StepsOn, Reaches}
use Rattle.hol_conv.proofs.RuleLemmas.{given, some_of}

pub trans_eqs : (s t u : Tm) → trans_rule (seq [] (eq_tm s t)) (seq [] (eq_tm t u)) ≡ Some (seq [] (eq_tm s u))
trans_eqs s t u = rw (same_refl (eq_tm s t), same_refl (eq_tm t u), same_refl t) refl

-- the right side of an equation that the kernel has
pub right_over : (k : State) (a : Theorem) (t : Tm) → Has k a → IsDerivable a.defs a.sequent → IsPlain a → t ≡ argument a.sequent.concl → IsOver (signature_of k.defs) [] t
right_over k a t h d p e =
    let moved : Proves k.defs a.sequent = subst (λ (ds : List Definition). Proves ds a.sequent) (sym h.older.1) (Proves-append h.older.0 d.proof) in
    let l = left_of a.sequent.concl in
    let r = argument a.sequent.concl in
    subst (IsOver (signature_of k.defs) []) (sym e) (eq_sides [] l r (subst (λ (s : Sequent). IsOver (signature_of k.defs) [] s.concl) p (Proves-typed moved).concl_is.0)).1

on_is : (a next : Theorem) → IsPlain a → (s : Contracts (argument a.sequent.concl) next) → trans_rule a.sequent next.sequent ≡ Some (seq [] (eq_tm (left_of a.sequent.concl) s.to))
on_is a next p s = (λ i. trans_rule (p i) (s.exact i)) ∙ trans_eqs (left_of a.sequent.concl) (argument a.sequent.concl) s.to

pub on_fits : (a next : Theorem) → IsPlain a → Contracts (argument a.sequent.concl) next → IsSome (trans_rule a.sequent next.sequent)
on_fits a next p s = some_of (on_is a next p s)

pub steps_on : (a next th : Theorem) → IsPlain a → Contracts (argument a.sequent.concl) next → trans_rule a.sequent next.sequent ≡ Some th.sequent → StepsOn a th
steps_on a next th p s e = record { to = s.to; step = s.step; exact = given (on_is a next p s) e }

pub reached_plain : (t : Tm) (all left : ℕ) (th : Theorem) → Reaches t all left th → IsPlain th
reached_plain t all left th r = r.exact ∙ sym (ap (λ (a : Sequent). seq [] (eq_tm (left_of a.concl) (argument a.concl))) r.exact)

pub reach_start : (t : Tm) (all : ℕ) (th : Theorem) → refl_rule t ≡ Some th.sequent → Reaches t all (all - 0) th
reach_start t all th e = record { to = t; exact = given refl e; rest = ap (λ n. beta_steps n t) (nothing all) }
  where
    nothing : (n : ℕ) → n - 0 ≡ n
    nothing n = omega arith

-- the side that is reached, with n contractions left
at_none : (n : ℕ) (u : Tm) → contracted u ≡ None → beta_steps n u ≡ u
at_none zero u e = refl
at_none (suc n) u e = rw (e) refl

at_some : (n : ℕ) (u w : Tm) → contracted u ≡ Some w → beta_steps (suc n) u ≡ beta_steps n w
at_some n u w e = rw (e) refl

pub reach_on : (t : Tm) (all i : ℕ) (th next : Theorem) → i < all → Reaches t all (all - i) th → StepsOn th next → Reaches t all (all - (i + 1)) next
reach_on t all i th next l r s =
    let c = ap (λ (a : Sequent). a.concl) r.exact in
    let step : contracted r.to ≡ Some s.to = ap (λ p. contracted (argument p)) (sym c) ∙ s.step in
    let fewer : suc (all - (i + 1)) ≡ all - i = omega arith in
    record {
      to = s.to;
      exact = s.exact ∙ ap (λ p. seq [] (eq_tm (left_of p) s.to)) c;
      rest = sym (at_some (all - (i + 1)) r.to s.to step) ∙ ap (λ n. beta_steps n r.to) fewer ∙ r.rest;
    }

pub reach_none : (t : Tm) (all left : ℕ) (th : Theorem) → Reaches t all left th → contracted (argument th.sequent.concl) ≡ None → IsEquationOf t (beta_steps all t) th
reach_none t all left th r e =
    let c = ap (λ (a : Sequent). a.concl) r.exact in
    r.exact ∙ ap (λ u. seq [] (eq_tm t u)) (sym (at_none left r.to (ap (λ p. contracted (argument p)) (sym c) ∙ e)) ∙ r.rest)

pub reach_end : (t : Tm) (all i : ℕ) (th : Theorem) → all ≤ i → Reaches t all (all - i) th → IsEquationOf t (beta_steps all t) th
reach_end t all i th l r =
    let none : all - i ≡ 0 = omega arith in
    r.exact ∙ ap (λ u. seq [] (eq_tm t u)) (ap (λ n. beta_steps n r.to) (sym none) ∙ r.rest)
