-- What the rules' conditions say, and the types that follow.
use Rattle.std.proofs.Common.{◌≡◌, Bool, true, false, [], List, IsSome, refl, sym, ap, ◌∙◌, subst}
use Rattle.hol_terms.specs.Tm.{Tm, tm_free, tm_comb, tm_abs, FreeVar}
use Rattle.hol_terms.specs.Typing.{tm_type, fun_ty, range_ty, domain_ty}
use Rattle.hol_terms.specs.Takes.{Takes}
use Rattle.hol_terms.specs.Binding.{VarSubst, tm_open}
use Rattle.hol_terms.specs.Opening.{IsAbsOf, body_of}
use Rattle.hol_terms.specs.Keeps.{KeepsTypes}
use Rattle.hol_terms.specs.Loose.{HasAt, IsClosedAt}
use Rattle.hol_terms.specs.Signature.{Signature, IsOver}
use Rattle.hol_terms.specs.Definition.{Definition, signature_of}
use Rattle.hol_terms.specs.Sequent.{Sequent, IsEq, left_of, argument}
use Rattle.hol_terms.specs.Rules.{if_so, trans_rule, comb_rule, abs_rule, beta_rule, eq_mp_rule, inst_rule, lambda, function, variable, is_abstraction}
use Rattle.hol_terms.specs.Proves.{IsDerivable}
use Rattle.hol_terms.proofs.Same.{same-is}
use Rattle.hol_terms.proofs.Checked.{same_ty-is}
use Rattle.hol_terms.proofs.KeptTypes.{tm_type-bind}
use Rattle.hol_terms.proofs.LooseLemmas.{tm_type-open}
use Rattle.hol_terms.proofs.Bound.{IsOver-HasAt}
use Rattle.hol_terms.proofs.InstLemmas.{IsOver-closed, AreOver-closed}
use Rattle.hol_terms.proofs.Typed.{eq_sides}
use Rattle.hol_terms.proofs.Weaken.{Proves-typed}
use Rattle.hol_kernel.proofs.Guards.{both_parts, keeps}

if_true : {A : Type 0} (b : Bool) (x : A) → IsSome (if_so b x) → b ≡ true
if_true true x h = refl
if_true false x h = cc

pub record Trans (a b : Sequent) : Type 0 where
  pub eq_a : IsEq a.concl
  pub eq_b : IsEq b.concl
  pub middle : argument a.concl ≡ left_of b.concl

pub trans_fits : (a b : Sequent) → IsSome (trans_rule a b) → Trans a b
trans_fits a b h =
    let t = both_parts _ _ (if_true _ _ h) in
    let u = both_parts _ _ t.1 in
    record { eq_a = same-is _ _ t.0; eq_b = same-is _ _ u.0; middle = same-is _ _ u.1 }

pub record Comb (a b : Sequent) : Type 0 where
  pub eq_a : IsEq a.concl
  pub eq_b : IsEq b.concl
  pub takes : Takes (left_of a.concl) (left_of b.concl)

pub comb_fits : (a b : Sequent) → IsSome (comb_rule a b) → Comb a b
comb_fits a b h =
    let t = both_parts _ _ (if_true _ _ h) in
    let u = both_parts _ _ t.1 in
    record { eq_a = same-is _ _ t.0; eq_b = same-is _ _ u.0; takes = same_ty-is _ _ u.1 }

pub abs_fits : (v : FreeVar) (a : Sequent) → IsSome (abs_rule v a) → IsEq a.concl
abs_fits v a h = same-is _ _ (both_parts _ _ (if_true _ _ h)).0

pub eq_mp_fits : (a b : Sequent) → IsSome (eq_mp_rule a b) → IsEq a.concl
eq_mp_fits a b h = same-is _ _ (both_parts _ _ (if_true _ _ h)).0

pub inst_fits : (s : VarSubst) (a : Sequent) → IsSome (inst_rule s a) → KeepsTypes s
inst_fits s a h = keeps s (both_parts _ _ (both_parts _ _ (if_true _ _ h)).1).1

-- the sides of a derived equation have no loose index and one type
record Sides (p : Tm) : Type 0 where
  left : IsClosedAt 0 (left_of p)
  right : IsClosedAt 0 (argument p)
  types : tm_type (left_of p) ≡ tm_type (argument p)

sides : (ds : List Definition) (a : Sequent) → IsDerivable ds a → IsEq a.concl → Sides a.concl
sides ds a d e =
    let sig = signature_of ds in
    let s = eq_sides [] (left_of a.concl) (argument a.concl) (subst (λ (p : Tm). IsOver sig [] p) e (Proves-typed d.proof).concl_is.0) in
    record { left = IsOver-closed sig [] (left_of a.concl) s.0; right = IsOver-closed sig [] (argument a.concl) s.1; types = s.2 }

pub trans_types : (ds es : List Definition) (a b : Sequent) → IsDerivable ds a → IsDerivable es b → IsSome (trans_rule a b) → tm_type (left_of a.concl) ≡ tm_type (argument b.concl)
trans_types ds es a b h g f =
    let t = trans_fits a b f in
    (sides ds a h t.eq_a).types ∙ ap tm_type t.middle ∙ (sides es b g t.eq_b).types

pub comb_takes : (ds es : List Definition) (a b : Sequent) → IsDerivable ds a → IsDerivable es b → IsSome (comb_rule a b) → Takes (argument a.concl) (argument b.concl)
comb_takes ds es a b h g f =
    let t = comb_fits a b f in
    let s = (sides ds a h t.eq_a).types in
    let u = (sides es b g t.eq_b).types in
    sym s ∙ t.takes ∙ (λ i. fun_ty (u i) (range_ty (s i)))

pub comb_types : (ds : List Definition) (a b : Sequent) → IsDerivable ds a → IsSome (comb_rule a b) → range_ty (tm_type (left_of a.concl)) ≡ range_ty (tm_type (argument a.concl))
comb_types ds a b h f = ap range_ty (sides ds a h (comb_fits a b f).eq_a).types

pub abs_left : (ds : List Definition) (v : FreeVar) (a : Sequent) → IsDerivable ds a → IsSome (abs_rule v a) → IsClosedAt 0 (left_of a.concl)
abs_left ds v a d f = (sides ds a d (abs_fits v a f)).left

pub abs_right : (ds : List Definition) (v : FreeVar) (a : Sequent) → IsDerivable ds a → IsSome (abs_rule v a) → IsClosedAt 0 (argument a.concl)
abs_right ds v a d f = (sides ds a d (abs_fits v a f)).right

pub abs_types : (ds : List Definition) (v : FreeVar) (a : Sequent) → IsDerivable ds a → IsSome (abs_rule v a) → tm_type (lambda v (left_of a.concl)) ≡ tm_type (lambda v (argument a.concl))
abs_types ds v a d f = ap (λ u. fun_ty v.ty u) (tm_type-bind 0 v (left_of a.concl) ∙ (sides ds a d (abs_fits v a f)).types ∙ sym (tm_type-bind 0 v (argument a.concl)))

pub deduct_types : (ds es : List Definition) (a b : Sequent) → IsDerivable ds a → IsDerivable es b → tm_type a.concl ≡ tm_type b.concl
deduct_types ds es a b h g = (Proves-typed h.proof).concl_is.1 ∙ sym (Proves-typed g.proof).concl_is.1

-- an abstraction that takes the variable is over the variable's type
pub opens : (f x : Tm) (v : FreeVar) → is_abstraction f ≡ true → x ≡ tm_free v → Takes f x → IsAbsOf v.ty f
opens (tm_abs a b) x v e g h = ap (λ t. tm_abs t b) (ap domain_ty h ∙ ap tm_type g)
opens _ x v e g h = cc

pub beta_types : (sig : Signature) (t : Tm) → IsOver sig [] t → IsSome (beta_rule t) → tm_type t ≡ tm_type (tm_open 0 (variable (argument t)) (body_of (function t)))
beta_types sig (tm_comb (tm_abs a b) (tm_free v)) o h = sym (tm_type-open 0 v b (subst (λ u. HasAt 0 u b) (ap domain_ty o.2) (IsOver-HasAt sig [] a b o.0.1)))
beta_types sig _ o h = cc

pub ruleset trans_lemmas = (trans_fits, trans_types)

pub ruleset comb_lemmas = (comb_fits, comb_takes, comb_types)

pub ruleset abs_lemmas = (abs_fits, abs_left, abs_right, abs_types)

pub ruleset beta_lemmas = (beta_types)

pub ruleset opening_lemmas = (opens)

pub ruleset eq_mp_lemmas = (eq_mp_fits)

pub ruleset deduct_lemmas = (deduct_types)

pub ruleset inst_lemmas = (inst_fits, AreOver-closed)
