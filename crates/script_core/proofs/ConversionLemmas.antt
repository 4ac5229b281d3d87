-- What the partial functions of the conversions say, in the words of the conversions' contracts.
use Rattle.std.proofs.Common.{◌≡◌, ℕ, ◌+◌, ◌<◌, refl, sym, ap, ◌∙◌, subst, arith, true, false, Bool, [], List, Option, Some, None, IsSome}
use Rattle.std.proofs.lemmas.Bool.{ltb-true}
use Rattle.hol_terms.specs.Tm.{Tm, tm_index, tm_free, tm_const, tm_comb, tm_abs}
use Rattle.hol_terms.specs.Loose.{IsClosedAt}
use Rattle.hol_terms.specs.Signature.{IsOver}
use Rattle.hol_terms.specs.Definition.{signature_of}
use Rattle.hol_terms.specs.Proves.{IsDerivable}
use Rattle.hol_terms.specs.Sequent.{Sequent, seq, eq_tm, left_of, argument, IsEq}
use Rattle.hol_terms.specs.Rules.{same, both, if_so, is_equation, is_abstraction, function, eq_mp_rule}
use Rattle.hol_terms.specs.Replacing.{subterm_at, replaced, replaced_at}
use Rattle.hol_terms.proofs.Same.{same-is, same_refl}
use Rattle.hol_kernel.specs.State.{State, Theorem, Has}
use Rattle.hol_kernel.proofs.Guards.{both_parts}
use Rattle.kernel_lines.proofs.Had.{if_true, if_some}
use Rattle.kernel_lines.proofs.Over.{concl_over}
use Rattle.hol_conv.specs.Conv.{IsRedex, IsEquationOf}
use Rattle.hol_conv.specs.Reduction.{reduct, beta_steps}
use Rattle.hol_conv.specs.Eta.{expanded, applied_in, IsEtaRedex}
use Rattle.hol_conv.specs.Rewriting.{rewriting_hyps}
use Rattle.script_core.specs.Conversions.{is_application, is_closed_at, most_steps, normal, beta_conv_rule, eta_conv_rule, beta_norm_rule, norm_rule, rewrite_all_rule, is_there, rewrite_at_rule}

-- a guarded result is what a theorem has
given_as : (b : Bool) (a c : Sequent) → IsSome (if_so b a) → c ≡ a → if_so b a ≡ Some c
given_as b a c h e = if_some b a h ∙ ap Some (sym e)

redex_of : (t : Tm) → is_application t ≡ true → is_abstraction (function t) ≡ true → IsRedex t
redex_of (tm_index i t) h g = cc
redex_of (tm_free v) h g = cc
redex_of (tm_const c ts t) h g = cc
redex_of (tm_comb f x) h g = record { applied = refl; abstraction = g }
redex_of (tm_abs t b) h g = cc

pub redex_is : (t : Tm) → IsSome (beta_conv_rule t) → IsRedex t
redex_is t h =
    let g = both_parts _ _ (if_true _ (seq [] (eq_tm t (reduct (function t) (argument t)))) h) in
    redex_of t g.0 g.1

pub redex_gives : (t : Tm) (a : Sequent) → IsSome (beta_conv_rule t) → a ≡ seq [] (eq_tm t (reduct (function t) (argument t))) → beta_conv_rule t ≡ Some a
redex_gives t a h e = given_as _ _ _ h e

closed_is : (k : ℕ) (t : Tm) → is_closed_at k t ≡ true → IsClosedAt k t
closed_is k (tm_index i t) h = ltb-true i k h
closed_is k (tm_free v) h = tt
closed_is k (tm_const c ts t) h = tt
closed_is k (tm_comb f x) h = let g = both_parts (is_closed_at k f) (is_closed_at k x) h in (closed_is k f g.0, closed_is k x g.1)
closed_is k (tm_abs t b) h = closed_is (k + 1) b h

pub eta_is : (t : Tm) → IsSome (eta_conv_rule t) → IsEtaRedex t
eta_is t h =
    let g = both_parts (same t (expanded (applied_in t))) (is_closed_at 0 (applied_in t)) (if_true _ (seq [] (eq_tm t (applied_in t))) h) in
    record { shape = same-is _ _ g.0; closed = closed_is 0 (applied_in t) g.1 }

pub eta_gives : (t : Tm) (a : Sequent) → IsSome (eta_conv_rule t) → a ≡ seq [] (eq_tm t (applied_in t)) → eta_conv_rule t ≡ Some a
eta_gives t a h e = given_as _ _ _ h e

pub norm_gives : (t : Tm) (n : ℕ) (a : Sequent) → n ≡ most_steps → a ≡ seq [] (eq_tm t (beta_steps n t)) → beta_norm_rule t ≡ Some a
norm_gives t n a d e = ap (λ m. Some (seq [] (eq_tm t (beta_steps m t)))) (sym d) ∙ ap Some (sym e)

pub concl_typed : (k : State) (th : Theorem) (t : Tm) → Has k th → IsDerivable th.defs th.sequent → t ≡ th.sequent.concl → IsOver (signature_of k.defs) [] t
concl_typed k th t h d e = subst (IsOver (signature_of k.defs) []) (sym e) (concl_over k th h d)

of_equation : (a : Sequent) (u : Tm) → eq_mp_rule (seq [] (eq_tm a.concl u)) a ≡ Some (seq a.hyps u)
of_equation a u = rw (same_refl (eq_tm a.concl u), same_refl a.concl) refl

some_same : (a b : Sequent) → Some a ≡ Some b → a ≡ b
some_same a b e = cc

by_norm : (a e : Sequent) (t : Tm) → t ≡ a.concl → beta_norm_rule t ≡ Some e → eq_mp_rule e a ≡ norm_rule a
by_norm a e t d h =
    let g : e ≡ seq [] (eq_tm a.concl (normal a.concl)) = sym (some_same _ _ h) ∙ ap (λ s. seq [] (eq_tm s (normal s))) d in
    ap (λ b. eq_mp_rule b a) g ∙ of_equation a (normal a.concl)

pub normed_fits : (a e : Sequent) (t : Tm) → t ≡ a.concl → beta_norm_rule t ≡ Some e → IsSome (eq_mp_rule e a)
normed_fits a e t d h = subst IsSome (sym (by_norm a e t d h)) refl

pub normed_gives : (a e c : Sequent) (t : Tm) → t ≡ a.concl → beta_norm_rule t ≡ Some e → eq_mp_rule e a ≡ Some c → norm_rule a ≡ Some c
normed_gives a e c t d h g = sym (by_norm a e t d h) ∙ g

pub equation_is : (t : Tm) (a : Sequent) → IsSome (rewrite_all_rule t a) → IsEq a.concl
equation_is t a h = same-is _ _ (if_true (is_equation a.concl) (seq (rewriting_hyps t a) (eq_tm t (replaced (left_of a.concl) (argument a.concl) t))) h)

pub rewritten_gives : (t : Tm) (a c : Sequent) → IsSome (rewrite_all_rule t a) → c ≡ seq (rewriting_hyps t a) (eq_tm t (replaced (left_of a.concl) (argument a.concl) t)) → rewrite_all_rule t a ≡ Some c
rewritten_gives t a c h e = given_as _ _ _ h e

there_is : (o : Option Tm) (t : Tm) → is_there o t ≡ true → o ≡ Some t
there_is None t h = cc
there_is (Some s) t h = ap Some (same-is s t h)

at_parts : (path : List ℕ) (t : Tm) (a : Sequent) → IsSome (rewrite_at_rule path t a) → (is_equation a.concl ≡ true) × (is_there (subterm_at path t) (left_of a.concl) ≡ true)
at_parts path t a h = both_parts _ _ (if_true _ (seq a.hyps (eq_tm t (replaced_at path (argument a.concl) t))) h)

pub at_equation : (path : List ℕ) (t : Tm) (a : Sequent) → IsSome (rewrite_at_rule path t a) → IsEq a.concl
at_equation path t a h = same-is _ _ (at_parts path t a h).0

pub at_place : (path : List ℕ) (t : Tm) (a : Sequent) → IsSome (rewrite_at_rule path t a) → subterm_at path t ≡ Some (left_of a.concl)
at_place path t a h = there_is _ _ (at_parts path t a h).1

pub at_gives : (path : List ℕ) (t : Tm) (a c : Sequent) → IsSome (rewrite_at_rule path t a) → c ≡ seq a.hyps (eq_tm t (replaced_at path (argument a.concl) t)) → rewrite_at_rule path t a ≡ Some c
at_gives path t a c h e = given_as _ _ _ h e

pub ruleset redex_lemmas = (redex_is, redex_gives)

pub ruleset eta_lemmas = (eta_is, eta_gives)

pub ruleset norm_lemmas = (norm_gives, concl_typed, normed_fits, normed_gives)

pub ruleset rewriting_lemmas = (equation_is, rewritten_gives, at_equation, at_place, at_gives)
