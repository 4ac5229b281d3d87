-- What the kernel's rules give of equations without hypotheses.
use Rattle.std.proofs.Common.{◌≡◌, true, false, [], ◌∷◌, Option, Some, None, refl, ap, sym, ◌∙◌, IsSome}
use Rattle.hol_terms.specs.Tm.{Tm, tm_index, tm_free, tm_const, tm_comb, tm_abs, FreeVar}
use Rattle.hol_terms.specs.Typing.{tm_type}
use Rattle.hol_terms.specs.Takes.{Takes}
use Rattle.hol_terms.specs.Binding.{tm_inst, tm_open, has_free, VarSubst}
use Rattle.hol_terms.specs.Loose.{IsClosedAt}
use Rattle.hol_terms.specs.Opening.{body_of}
use Rattle.hol_terms.specs.Sequent.{Sequent, seq, eq_tm}
use Rattle.hol_terms.specs.Rules.{comb_rule, abs_rule, beta_rule, inst_rule, lambda, is_abstraction}
use Rattle.hol_terms.proofs.Same.{same_refl, same_ty-from}
use Rattle.hol_terms.proofs.Opened.{var_self, inst_open}
use Rattle.hol_kernel.specs.State.{State, Grows}
use Rattle.hol_conv.specs.Reduction.{reduct, put}
use Rattle.hol_conv.proofs.Contracting.{inst_absent, put_closed}

pub comb_eqs : (f g x y : Tm) → Takes f x → comb_rule (seq [] (eq_tm f g)) (seq [] (eq_tm x y)) ≡ Some (seq [] (eq_tm (tm_comb f x) (tm_comb g y)))
comb_eqs f g x y h = rw (same_refl (eq_tm f g), same_refl (eq_tm x y), same_ty-from _ _ h) refl

pub abs_eqs : (v : FreeVar) (s t : Tm) → abs_rule v (seq [] (eq_tm s t)) ≡ Some (seq [] (eq_tm (lambda v s) (lambda v t)))
abs_eqs v s t = rw (same_refl (eq_tm s t)) refl

pub beta_eqs : (v : FreeVar) (f : Tm) → is_abstraction f ≡ true → has_free v f ≡ false
    → beta_rule (tm_comb f (tm_free v)) ≡ Some (seq [] (eq_tm (tm_comb f (tm_free v)) (tm_open 0 v (body_of f))))
beta_eqs v f a h = rw (a, h) refl

pub inst_eqs : (v : FreeVar) (u p : Tm) → tm_type u ≡ v.ty → inst_rule ((v, u) ∷ []) (seq [] p) ≡ Some (seq [] (tm_inst ((v, u) ∷ []) p))
inst_eqs v u p e = rw (same_ty-from _ _ e) refl

-- the general equation at an argument
pub applied : (v : FreeVar) (u f : Tm) → is_abstraction f ≡ true → has_free v f ≡ false → IsClosedAt 0 f → IsClosedAt 0 u
    → tm_inst ((v, u) ∷ []) (eq_tm (tm_comb f (tm_free v)) (tm_open 0 v (body_of f))) ≡ eq_tm (tm_comb f u) (reduct f u)
applied v u (tm_abs t b) a h c d =
    let e : tm_inst ((v, u) ∷ []) (tm_abs t b) ≡ tm_abs t b = inst_absent v u (tm_abs t b) h in
    let r : tm_inst ((v, u) ∷ []) (tm_open 0 v b) ≡ put 0 u b = inst_open 0 v u b h ∙ put_closed 0 u b d c in
    rw (e, r, var_self v) refl
applied v u (tm_index i t) a h c d = cc
applied v u (tm_free w) a h c d = cc
applied v u (tm_const e ts t) a h c d = cc
applied v u (tm_comb f x) a h c d = cc

abbrev sequent_or : Sequent → Option Sequent → Sequent
sequent_or a None = a
sequent_or a (Some b) = b

-- what a rule gives is what it is computed to give
pub given : {a b : Sequent} {r : Option Sequent} → r ≡ Some a → r ≡ Some b → b ≡ a
given {a} {b} {r} e d = ap (sequent_or a) (sym d ∙ e)

pub some_of : {r : Option Sequent} {a : Sequent} → r ≡ Some a → IsSome r
some_of {r} {a} e = rw (e) refl

pub beta_gives : (v : FreeVar) (f t : Tm) (a : Sequent) → t ≡ tm_comb f (tm_free v) → is_abstraction f ≡ true → has_free v f ≡ false → beta_rule t ≡ Some a
    → a ≡ seq [] (eq_tm (tm_comb f (tm_free v)) (tm_open 0 v (body_of f)))
beta_gives v f t a e b h d = given (ap beta_rule e ∙ beta_eqs v f b h) d

inst_is : (s : VarSubst) (a : Sequent) (v : FreeVar) (u p : Tm) → s ≡ (v, u) ∷ [] → a ≡ seq [] p → tm_type u ≡ v.ty → inst_rule s a ≡ Some (seq [] (tm_inst ((v, u) ∷ []) p))
inst_is s a v u p e d h = (λ i. inst_rule (e i) (d i)) ∙ inst_eqs v u p h

pub inst_fits : (s : VarSubst) (a : Sequent) (v : FreeVar) (u p : Tm) → s ≡ (v, u) ∷ [] → a ≡ seq [] p → tm_type u ≡ v.ty → IsSome (inst_rule s a)
inst_fits s a v u p e d h = some_of (inst_is s a v u p e d h)

pub inst_gives : (s : VarSubst) (a b : Sequent) (v : FreeVar) (u p : Tm) → s ≡ (v, u) ∷ [] → a ≡ seq [] p → tm_type u ≡ v.ty → inst_rule s a ≡ Some b → b ≡ seq [] (tm_inst ((v, u) ∷ []) p)
inst_gives s a b v u p e d h g = given (inst_is s a v u p e d h) g

pub grows_on : {a b c : State} → Grows a b → Grows b c → Grows a c
grows_on {a} {b} {c} g h = record {
  defs = h.defs ∙ g.defs;
  steps = λ i s e. h.steps i s (g.steps i s e);
  keeps = λ th e. h.keeps th (g.keeps th e);
}

pub ruleset grows_lemmas = (grows_on)
