-- What a rule gives concludes a boolean term, where what it is given does.
use Rattle.std.proofs.Common.{◌≡◌, Bool, true, false, [], ◌∷◌, Some, refl, sym, ap, ◌∙◌}
use Rattle.hol_terms.specs.Tm.{Tm, FreeVar, tm_comb}
use Rattle.hol_terms.specs.Typing.{tm_type}
use Rattle.hol_terms.specs.Subst.{TySubst, ty_subst}
use Rattle.hol_terms.specs.Binding.{VarSubst, tm_ty_subst}
use Rattle.hol_terms.specs.Keeps.{KeepsTypes}
use Rattle.hol_terms.specs.Definition.{bool_ty}
use Rattle.hol_terms.specs.Sequent.{Sequent, seq, eq_tm, left_of, argument, union}
use Rattle.hol_terms.specs.Rules.{both, if_so, same, same_ty, is_equation, keeps_types, some_pair, are_distinct_vars, are_distinct_types, refl_rule, trans_rule, comb_rule, abs_rule, beta_rule, assume_rule, eq_mp_rule, deduct_rule, inst_type_rule, inst_rule}
use Rattle.hol_terms.proofs.Same.{same-is}
use Rattle.hol_terms.proofs.Checked.{same_ty-is}
use Rattle.hol_terms.proofs.KeptTypes.{tm_type-inst}

-- the sequent concludes a boolean term
abbrev pub IsBoolean : Sequent → Type 0
IsBoolean a = tm_type a.concl ≡ bool_ty

some_is : {A : Type 0} (x y : A) → Some x ≡ Some y → x ≡ y
some_is x y e = cc

given : (x c : Sequent) → Some x ≡ Some c → IsBoolean x → IsBoolean c
given x c e h = ap (λ (a : Sequent). tm_type a.concl) (sym (some_is x c e)) ∙ h

passed : (b : Bool) (x c : Sequent) → if_so b x ≡ Some c → (b ≡ true) × (x ≡ c)
passed true x c e = (refl, some_is x c e)
passed false x c e = cc

given_if : (b : Bool) (x c : Sequent) → if_so b x ≡ Some c → IsBoolean x → IsBoolean c
given_if b x c e h = ap (λ (a : Sequent). tm_type a.concl) (sym (passed b x c e).1) ∙ h

parts : (a b : Bool) → both a b ≡ true → (a ≡ true) × (b ≡ true)
parts true b e = (refl, e)
parts false b e = cc

pub refl_boolean : (t : Tm) (c : Sequent) → refl_rule t ≡ Some c → IsBoolean c
refl_boolean t c e = given (seq [] (eq_tm t t)) c e refl

pub trans_boolean : (a b c : Sequent) → trans_rule a b ≡ Some c → IsBoolean c
trans_boolean a b c e = given_if _ (seq (union a.hyps b.hyps) (eq_tm (left_of a.concl) (argument b.concl))) c e refl

pub comb_boolean : (a b c : Sequent) → comb_rule a b ≡ Some c → IsBoolean c
comb_boolean a b c e = given_if _ (seq (union a.hyps b.hyps) (eq_tm (tm_comb (left_of a.concl) (left_of b.concl)) (tm_comb (argument a.concl) (argument b.concl)))) c e refl

pub abs_boolean : (v : FreeVar) (a c : Sequent) → abs_rule v a ≡ Some c → IsBoolean c
abs_boolean v a c e = given_if _ _ c e refl

pub beta_boolean : (t : Tm) (c : Sequent) → beta_rule t ≡ Some c → IsBoolean c
beta_boolean t c e = given_if _ _ c e refl

pub assume_boolean : (p : Tm) (c : Sequent) → assume_rule p ≡ Some c → IsBoolean c
assume_boolean p c e = given_if (same_ty (tm_type p) bool_ty) (seq (p ∷ []) p) c e (same_ty-is (tm_type p) bool_ty (passed (same_ty (tm_type p) bool_ty) (seq (p ∷ []) p) c e).0)

pub deduct_boolean : (a b c : Sequent) → deduct_rule a b ≡ Some c → IsBoolean c
deduct_boolean a b c e = given _ c e refl

-- the sides of an equation have one type
pub mp_boolean : (a b c : Sequent) (l r : Tm) → a.concl ≡ eq_tm l r → tm_type r ≡ tm_type l → IsBoolean b → eq_mp_rule a b ≡ Some c → IsBoolean c
mp_boolean a b c l r s h i e =
    let p = passed (both (is_equation a.concl) (same (left_of a.concl) b.concl)) (seq (union a.hyps b.hyps) (argument a.concl)) c e in
    let q = parts (is_equation a.concl) (same (left_of a.concl) b.concl) p.0 in
    let left : l ≡ b.concl = ap left_of (sym s) ∙ same-is (left_of a.concl) b.concl q.1 in
    let right : r ≡ c.concl = ap argument (sym s) ∙ ap (λ (x : Sequent). x.concl) p.1 in
    ap tm_type (sym right) ∙ h ∙ ap tm_type left ∙ i

keeps : (s : VarSubst) → keeps_types s ≡ true → KeepsTypes s
keeps [] e = tt
keeps (p ∷ s) e = let k = parts (same_ty (tm_type p.1) p.0.ty) (keeps_types s) e in (same_ty-is _ _ k.0, keeps s k.1)

pub inst_boolean : (s : VarSubst) (a c : Sequent) → IsBoolean a → inst_rule s a ≡ Some c → IsBoolean c
inst_boolean s a c i e =
    let p = passed (both (some_pair s) (both (are_distinct_vars s) (keeps_types s))) _ c e in
    let q = parts (some_pair s) (both (are_distinct_vars s) (keeps_types s)) p.0 in
    let k = parts (are_distinct_vars s) (keeps_types s) q.1 in
    ap (λ (x : Sequent). tm_type x.concl) (sym p.1) ∙ tm_type-inst s a.concl (keeps s k.1) ∙ i

pub inst_type_boolean : (s : TySubst) (a c : Sequent) → IsBoolean a → tm_type (tm_ty_subst s a.concl) ≡ ty_subst s (tm_type a.concl) → inst_type_rule s a ≡ Some c → IsBoolean c
inst_type_boolean s a c i k e =
    let p = passed (both (some_pair s) (are_distinct_types s)) _ c e in
    ap (λ (x : Sequent). tm_type x.concl) (sym p.1) ∙ k ∙ ap (ty_subst s) i
