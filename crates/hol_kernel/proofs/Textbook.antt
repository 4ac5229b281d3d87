-- The rules on sequents of their forms, and the forms of what a rule was given.
use Rattle.std.proofs.Common.{◌≢◌, nat_eq, eq-eqb, arith, ◌≡◌, ℕ, ◌+◌, Bool, true, false, cond, List, [], ◌∷◌, Some, map, refl, sym, ap, ◌∙◌}
use Rattle.hol_terms.specs.Ty.{Ty}
use Rattle.hol_terms.specs.Tm.{Tm, tm_index, tm_free, tm_const, tm_comb, tm_abs, FreeVar}
use Rattle.hol_terms.specs.Typing.{tm_type}
use Rattle.hol_terms.specs.Takes.{Takes}
use Rattle.hol_terms.specs.Loose.{IsClosedAt}
use Rattle.hol_terms.specs.Keeps.{KeepsTypes}
use Rattle.hol_terms.specs.Subst.{TySubst}
use Rattle.hol_terms.specs.Binding.{VarSubst, tm_inst, tm_bind, tm_open, tm_ty_subst, has_free, var_eq}
use Rattle.hol_terms.specs.Definition.{bool_ty}
use Rattle.hol_terms.specs.Sequent.{Sequent, seq, eq_tm, left_of, argument, union}
use Rattle.hol_terms.specs.Rules.{some_pair, lambda, free_in_none, are_distinct_types, are_distinct_vars, keeps_types, is_abstraction, is_variable, function, trans_rule, comb_rule, abs_rule, beta_rule, assume_rule, eq_mp_rule, inst_type_rule, inst_rule}
use Rattle.std.proofs.lemmas.Bool.Decides.{nat_tests}
use Rattle.hol_terms.proofs.Checked.{same_ty-is}
use Rattle.hol_terms.proofs.Order.{var_eq-same}
use Rattle.hol_terms.proofs.Same.{same-is, same_refl, same_ty-from}
use Rattle.hol_kernel.proofs.Guards.{no_is, both_parts, passed, keeps}

pub trans_gives : (A B : List Tm) (s t u : Tm) → trans_rule (seq A (eq_tm s t)) (seq B (eq_tm t u)) ≡ Some (seq (union A B) (eq_tm s u))
trans_gives A B s t u = rw (same_refl (eq_tm s t), same_refl (eq_tm t u), same_refl t) refl

pub trans_only : (a b c : Sequent) → trans_rule a b ≡ Some c → (s : Tm) × (t : Tm) × (u : Tm) × (a.concl ≡ eq_tm s t) × (b.concl ≡ eq_tm t u) × (c ≡ seq (union a.hyps b.hyps) (eq_tm s u))
trans_only a b c r =
    let p = passed _ _ c r in
    let first = both_parts _ _ p.0 in
    let second = both_parts _ _ first.1 in
    let middle = same-is (argument a.concl) (left_of b.concl) second.1 in
    (left_of a.concl, argument a.concl, argument b.concl, same-is _ _ first.0, same-is _ _ second.0 ∙ ap (λ t. eq_tm t (argument b.concl)) (sym middle), sym p.1)

pub comb_gives : (A B : List Tm) (f g x y : Tm) → Takes f x → comb_rule (seq A (eq_tm f g)) (seq B (eq_tm x y)) ≡ Some (seq (union A B) (eq_tm (tm_comb f x) (tm_comb g y)))
comb_gives A B f g x y h = rw (same_refl (eq_tm f g), same_refl (eq_tm x y), same_ty-from _ _ h) refl

pub comb_only : (a b c : Sequent) → comb_rule a b ≡ Some c
    → (f : Tm) × (g : Tm) × (x : Tm) × (y : Tm) × (a.concl ≡ eq_tm f g) × (b.concl ≡ eq_tm x y) × Takes f x × (c ≡ seq (union a.hyps b.hyps) (eq_tm (tm_comb f x) (tm_comb g y)))
comb_only a b c r =
    let p = passed _ _ c r in
    let first = both_parts _ _ p.0 in
    let second = both_parts _ _ first.1 in
    (left_of a.concl, argument a.concl, left_of b.concl, argument b.concl, same-is _ _ first.0, same-is _ _ second.0, same_ty-is _ _ second.1, sym p.1)

pub abs_gives : (A : List Tm) (v : FreeVar) (s t : Tm) → free_in_none v A ≡ true → abs_rule v (seq A (eq_tm s t)) ≡ Some (seq A (eq_tm (lambda v s) (lambda v t)))
abs_gives A v s t h = rw (same_refl (eq_tm s t), h) refl

pub abs_only : (v : FreeVar) (a c : Sequent) → abs_rule v a ≡ Some c → (s : Tm) × (t : Tm) × (a.concl ≡ eq_tm s t) × (free_in_none v a.hyps ≡ true) × (c ≡ seq a.hyps (eq_tm (lambda v s) (lambda v t)))
abs_only v a c r =
    let p = passed _ _ c r in
    let both = both_parts _ _ p.0 in
    (left_of a.concl, argument a.concl, same-is _ _ both.0, both.1, sym p.1)

pub beta_gives : (a : Ty) (b : Tm) (v : FreeVar) → has_free v b ≡ false → beta_rule (tm_comb (tm_abs a b) (tm_free v)) ≡ Some (seq [] (eq_tm (tm_comb (tm_abs a b) (tm_free v)) (tm_open 0 v b)))
beta_gives a b v h = rw h refl

-- an abstraction that is applied to a variable
record IsRedex (t : Tm) : Type 0 where
  binder : Ty
  body : Tm
  name : FreeVar
  is : t ≡ tm_comb (tm_abs binder body) (tm_free name)

redex : (t : Tm) → is_abstraction (function t) ≡ true → is_variable (argument t) ≡ true → IsRedex t
redex (tm_index i t) p q = cc
redex (tm_free v) p q = cc
redex (tm_const c ts t) p q = cc
redex (tm_abs t b) p q = cc
redex (tm_comb (tm_index i t) x) p q = cc
redex (tm_comb (tm_free v) x) p q = cc
redex (tm_comb (tm_const c ts t) x) p q = cc
redex (tm_comb (tm_comb f y) x) p q = cc
redex (tm_comb (tm_abs a b) (tm_index i t)) p q = cc
redex (tm_comb (tm_abs a b) (tm_const c ts t)) p q = cc
redex (tm_comb (tm_abs a b) (tm_comb f y)) p q = cc
redex (tm_comb (tm_abs a b) (tm_abs t c)) p q = cc
redex (tm_comb (tm_abs a b) (tm_free v)) p q = record { binder = a; body = b; name = v; is = refl }

beta_of : (t : Tm) (c : Sequent) → IsRedex t → beta_rule t ≡ Some c → (a : Ty) × (b : Tm) × (v : FreeVar) × (t ≡ tm_comb (tm_abs a b) (tm_free v)) × (has_free v b ≡ false) × (c ≡ seq [] (eq_tm t (tm_open 0 v b)))
beta_of t c x r =
    let f : beta_rule (tm_comb (tm_abs x.binder x.body) (tm_free x.name)) ≡ Some c = ap beta_rule (sym x.is) ∙ r in
    let p = passed _ _ c f in
    (x.binder, x.body, x.name, x.is, no_is (has_free x.name x.body) p.0, sym p.1 ∙ ap (λ u. seq [] (eq_tm u (tm_open 0 x.name x.body))) (sym x.is))

pub beta_only : (t : Tm) (c : Sequent) → beta_rule t ≡ Some c → (a : Ty) × (b : Tm) × (v : FreeVar) × (t ≡ tm_comb (tm_abs a b) (tm_free v)) × (has_free v b ≡ false) × (c ≡ seq [] (eq_tm t (tm_open 0 v b)))
beta_only t c r =
    let first = both_parts _ _ (passed _ _ c r).0 in
    beta_of t c (redex t first.0 (both_parts _ _ first.1).0) r

-- binding a variable, and opening with it again
open_bind : (k : ℕ) (v : FreeVar) (t : Tm) → IsClosedAt k t → tm_open k v (tm_bind k v t) ≡ t
open_bind k v (tm_index i t) h = let n : nat_eq i k ≡ false = grind (arith, nat_tests) in rw n refl
open_bind k v (tm_free w) h = at (var_eq v w) refl
  where
    at : (b : Bool) → var_eq v w ≡ b → tm_open k v (cond b (tm_index k w.ty) (tm_free w)) ≡ tm_free w
    at true e = rw (eq-eqb k k refl) (ap tm_free (var_eq-same v w e))
    at false e = refl
open_bind k v (tm_const c ts t) h = refl
open_bind k v (tm_comb f x) h = λ i. tm_comb (open_bind k v f h.0 i) (open_bind k v x h.1 i)
open_bind k v (tm_abs t b) h = ap (λ c. tm_abs t c) (open_bind (k + 1) v b h)

bound_not_free : (k : ℕ) (v : FreeVar) (t : Tm) → has_free v (tm_bind k v t) ≡ false
bound_not_free k v (tm_index i t) = refl
bound_not_free k v (tm_free w) = at (var_eq v w) refl
  where
    at : (b : Bool) → var_eq v w ≡ b → has_free v (cond b (tm_index k w.ty) (tm_free w)) ≡ false
    at true e = refl
    at false e = e
bound_not_free k v (tm_const c ts t) = refl
bound_not_free k v (tm_comb f x) = rw (bound_not_free k v f, bound_not_free k v x) refl
bound_not_free k v (tm_abs t b) = bound_not_free (k + 1) v b

pub beta_same : (v : FreeVar) (t : Tm) → IsClosedAt 0 t → beta_rule (tm_comb (lambda v t) (tm_free v)) ≡ Some (seq [] (eq_tm (tm_comb (lambda v t) (tm_free v)) t))
beta_same v t h = beta_gives v.ty (tm_bind 0 v t) v (bound_not_free 0 v t) ∙ ap (λ u. Some (seq [] (eq_tm (tm_comb (lambda v t) (tm_free v)) u))) (open_bind 0 v t h)

pub assume_gives : (p : Tm) → tm_type p ≡ bool_ty → assume_rule p ≡ Some (seq (p ∷ []) p)
assume_gives p h = rw (same_ty-from _ _ h) refl

pub assume_only : (p : Tm) (c : Sequent) → assume_rule p ≡ Some c → (tm_type p ≡ bool_ty) × (c ≡ seq (p ∷ []) p)
assume_only p c r = let q = passed _ _ c r in (same_ty-is _ _ q.0, sym q.1)

pub eq_mp_gives : (A B : List Tm) (p q : Tm) → eq_mp_rule (seq A (eq_tm p q)) (seq B p) ≡ Some (seq (union A B) q)
eq_mp_gives A B p q = rw (same_refl (eq_tm p q), same_refl p) refl

pub eq_mp_only : (a b c : Sequent) → eq_mp_rule a b ≡ Some c → (q : Tm) × (a.concl ≡ eq_tm b.concl q) × (c ≡ seq (union a.hyps b.hyps) q)
eq_mp_only a b c r =
    let p = passed _ _ c r in
    let both = both_parts _ _ p.0 in
    (argument a.concl, same-is _ _ both.0 ∙ ap (λ t. eq_tm t (argument a.concl)) (same-is _ _ both.1), sym p.1)

pub inst_type_gives : (s : TySubst) (A : List Tm) (p : Tm) → s ≢ [] → are_distinct_types s ≡ true → inst_type_rule s (seq A p) ≡ Some (seq (union (map (tm_ty_subst s) A) []) (tm_ty_subst s p))
inst_type_gives [] A p n d = absurd (n refl)
inst_type_gives (x ∷ s) A p n d = rw d refl

some_there : {X : Type 0} (xs : List X) → some_pair xs ≡ true → xs ≢ []
some_there [] e = cc
some_there (x ∷ xs) e = λ f. cc

pub inst_type_only : (s : TySubst) (a c : Sequent) → inst_type_rule s a ≡ Some c → (s ≢ []) × (are_distinct_types s ≡ true) × (c ≡ seq (union (map (tm_ty_subst s) a.hyps) []) (tm_ty_subst s a.concl))
inst_type_only s a c r =
    let p = passed _ _ c r in
    let both = both_parts _ _ p.0 in
    (some_there s both.0, both.1, sym p.1)

kept : (s : VarSubst) → KeepsTypes s → keeps_types s ≡ true
kept [] k = refl
kept (p ∷ s) k = rw (same_ty-from _ _ k.0, kept s k.1) refl

pub inst_gives : (s : VarSubst) (A : List Tm) (p : Tm) → s ≢ [] → are_distinct_vars s ≡ true → KeepsTypes s → inst_rule s (seq A p) ≡ Some (seq (union (map (tm_inst s) A) []) (tm_inst s p))
inst_gives [] A p n d k = absurd (n refl)
inst_gives (x ∷ s) A p n d k = rw (d, kept (x ∷ s) k) refl

pub inst_only : (s : VarSubst) (a c : Sequent) → inst_rule s a ≡ Some c → (s ≢ []) × (are_distinct_vars s ≡ true) × KeepsTypes s × (c ≡ seq (union (map (tm_inst s) a.hyps) []) (tm_inst s a.concl))
inst_only s a c r =
    let p = passed _ _ c r in
    let first = both_parts _ _ p.0 in
    let second = both_parts _ _ first.1 in
    (some_there s first.0, second.0, keeps s second.1, sym p.1)
