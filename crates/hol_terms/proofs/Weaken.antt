-- What is derivable over a list of definitions is derivable over each longer one, and every sequent that follows is well typed.
use Rattle.std.proofs.Common.{◌≡◌, ℕ, Bool, true, false, List, [], ◌∷◌, ◌++◌, cond, Some, bytes_eq, sym, ap, ◌∙◌, append_assoc, append-nil, subst}
use Rattle.std.specs.List.{flat_map}
use Rattle.std.proofs.lemmas.Grind.{flat_map-append}
use Rattle.std.proofs.lemmas.List.Elements.{Contains-append_left}
use Rattle.hol_terms.specs.Name.{Name}
use Rattle.hol_terms.specs.Ty.{Ty, ty_var, ty_app, Tys, no_tys, more_tys, tys}
use Rattle.hol_terms.specs.Tm.{Tm, tm_index, tm_free, tm_const, tm_comb, tm_abs}
use Rattle.hol_terms.specs.Subst.{TySubst}
use Rattle.hol_terms.specs.Binding.{VarSubst}
use Rattle.hol_terms.specs.Signature.{Signature, entry_at, arity_of, generic_of, tys_count, IsTyOver, AreTysOver, IsOver}
use Rattle.hol_terms.specs.Definition.{Definition, types_of, consts_of, with_def, signature_of, start}
use Rattle.hol_terms.specs.Sequent.{Sequent, IsTyped}
use Rattle.hol_terms.specs.Base.{base}
use Rattle.hol_terms.specs.Proves.{AreTypesOver, AreOver, IsPrefix, IsTypedOver, Proves, by_refl, by_trans, by_comb, by_abs, by_beta, by_assume, by_eq_mp, by_deduct, by_inst_type, by_inst, by_axiom, by_definition, IsConservative, AreConservativeAfter}

-- the second signature has what the first has
pub record Extends (s t : Signature) : Type 0 where
  pub types : (n : Name) (k : ℕ) → arity_of s n ≡ Some k → arity_of t n ≡ Some k
  pub consts : (c : Name) (g : Ty) → generic_of s c ≡ Some g → generic_of t c ≡ Some g

pub entry_at-append : {A : Type 0} (es fs : List (Name × A)) (n : Name) (x : A) → entry_at es n ≡ Some x → entry_at (es ++ fs) n ≡ Some x
entry_at-append [] fs n x e = cc
entry_at-append (p ∷ es) fs n x e = at (bytes_eq p.0 n) (entry_at-append es fs n x) e
  where
    at : (b : Bool) → (entry_at es n ≡ Some x → entry_at (es ++ fs) n ≡ Some x) → cond b (Some p.1) (entry_at es n) ≡ Some x → cond b (Some p.1) (entry_at (es ++ fs) n) ≡ Some x
    at true f h = h
    at false f h = f h

pub types-append : (ds es : List Definition) → (signature_of (ds ++ es)).types ≡ (signature_of ds).types ++ flat_map types_of es
types-append ds es = ap (λ ns. start.types ++ ns) (flat_map-append types_of ds es) ∙ sym (append_assoc start.types (flat_map types_of ds) (flat_map types_of es))

pub consts-append : (ds es : List Definition) → (signature_of (ds ++ es)).consts ≡ (signature_of ds).consts ++ flat_map consts_of es
consts-append ds es = ap (λ ns. start.consts ++ ns) (flat_map-append consts_of ds es) ∙ sym (append_assoc start.consts (flat_map consts_of ds) (flat_map consts_of es))

-- the signature of one definition more
pub signature_of-push : (ds : List Definition) (d : Definition) → with_def (signature_of ds) d ≡ signature_of (ds ++ d ∷ [])
signature_of-push ds d =
    let t : (signature_of ds).types ++ types_of d ≡ (signature_of (ds ++ d ∷ [])).types = ap (λ ns. (signature_of ds).types ++ ns) (sym (append-nil (types_of d))) ∙ sym (types-append ds (d ∷ [])) in
    let c : (signature_of ds).consts ++ consts_of d ≡ (signature_of (ds ++ d ∷ [])).consts = ap (λ ns. (signature_of ds).consts ++ ns) (sym (append-nil (consts_of d))) ∙ sym (consts-append ds (d ∷ [])) in
    λ i. record { types = t i; consts = c i }

pub extends : (ds es : List Definition) → Extends (signature_of ds) (signature_of (ds ++ es))
extends ds es = record {
  types = λ n k e. subst (λ (ns : List (Name × ℕ)). entry_at ns n ≡ Some k) (sym (types-append ds es)) (entry_at-append (signature_of ds).types (flat_map types_of es) n k e);
  consts = λ c g e. subst (λ (ns : List (Name × Ty)). entry_at ns c ≡ Some g) (sym (consts-append ds es)) (entry_at-append (signature_of ds).consts (flat_map consts_of es) c g e);
}

mutual
  pub IsTyOver-extend : {s t : Signature} → Extends s t → (u : Ty) → IsTyOver s u → IsTyOver t u
  IsTyOver-extend x (ty_var n) h = h
  IsTyOver-extend x (ty_app n ts) h = (x.types n (tys_count ts) h.0, AreTysOver-extend x ts h.1)

  pub AreTysOver-extend : {s t : Signature} → Extends s t → (ts : Tys) → AreTysOver s ts → AreTysOver t ts
  AreTysOver-extend x no_tys h = tt
  AreTysOver-extend x (more_tys u ts) h = (IsTyOver-extend x u h.0, AreTysOver-extend x ts h.1)

pub IsOver-extend : {s t : Signature} → Extends s t → (bound : List Ty) (u : Tm) → IsOver s bound u → IsOver t bound u
IsOver-extend x bound (tm_index i u) h = (h.0, IsTyOver-extend x u h.1)
IsOver-extend x bound (tm_free v) h = (h.0, IsTyOver-extend x v.ty h.1)
IsOver-extend x bound (tm_const c ts u) h =
    record { generic = h.generic; known = x.consts c h.generic h.known; as_many = h.as_many; instance = h.instance; over = AreTysOver-extend x (tys ts) h.over; ty_over = IsTyOver-extend x u h.ty_over }
IsOver-extend x bound (tm_comb f a) h = (IsOver-extend x bound f h.0, IsOver-extend x bound a h.1, h.2)
IsOver-extend x bound (tm_abs u b) h = (IsTyOver-extend x u h.0, IsOver-extend x (u ∷ bound) b h.1)

IsTyped-extend : {s t : Signature} → Extends s t → (a : Sequent) → IsTyped s a → IsTyped t a
IsTyped-extend x a h = record {
  hyps_are = λ k d l. (IsOver-extend x [] _ (h.hyps_are k d l).0, (h.hyps_are k d l).1);
  concl_is = (IsOver-extend x [] a.concl h.concl_is.0, h.concl_is.1);
}

AreTypesOver-extend : {s t : Signature} → Extends s t → (ps : TySubst) → AreTypesOver s ps → AreTypesOver t ps
AreTypesOver-extend x [] h = tt
AreTypesOver-extend x (p ∷ ps) h = (IsTyOver-extend x p.1 h.0, AreTypesOver-extend x ps h.1)

AreOver-extend : {s t : Signature} → Extends s t → (ps : VarSubst) → AreOver s ps → AreOver t ps
AreOver-extend x [] h = tt
AreOver-extend x (p ∷ ps) h = (IsOver-extend x [] (tm_free p.0) h.0, IsOver-extend x [] p.1 h.1, AreOver-extend x ps h.2)

IsPrefix-append : (bs ds es : List Definition) → IsPrefix bs ds → IsPrefix bs (ds ++ es)
IsPrefix-append bs ds es h = (h.0 ++ es, ap (λ fs. fs ++ es) h.1 ∙ append_assoc bs h.0 es)

IsTypedOver-append : (ds es : List Definition) (a : Sequent) → IsTypedOver ds a → IsTypedOver (ds ++ es) a
IsTypedOver-append ds es a w = IsTyped-extend (extends ds es) a w

-- weakening
pub Proves-append : {ds : List Definition} (es : List Definition) {a : Sequent} → Proves ds a → Proves (ds ++ es) a
Proves-append {ds} es (by_refl t c r w) = by_refl t c r (IsTypedOver-append ds es c w)
Proves-append {ds} es (by_trans a b c h g r w) = by_trans a b c (Proves-append es h) (Proves-append es g) r (IsTypedOver-append ds es c w)
Proves-append {ds} es (by_comb a b c h g r w) = by_comb a b c (Proves-append es h) (Proves-append es g) r (IsTypedOver-append ds es c w)
Proves-append {ds} es (by_abs v a c o h r w) = by_abs v a c (IsOver-extend (extends ds es) [] (tm_free v) o) (Proves-append es h) r (IsTypedOver-append ds es c w)
Proves-append {ds} es (by_beta t c r w) = by_beta t c r (IsTypedOver-append ds es c w)
Proves-append {ds} es (by_assume p c r w) = by_assume p c r (IsTypedOver-append ds es c w)
Proves-append {ds} es (by_eq_mp a b c h g r w) = by_eq_mp a b c (Proves-append es h) (Proves-append es g) r (IsTypedOver-append ds es c w)
Proves-append {ds} es (by_deduct a b c h g r w) = by_deduct a b c (Proves-append es h) (Proves-append es g) r (IsTypedOver-append ds es c w)
Proves-append {ds} es (by_inst_type s a c o h r w) = by_inst_type s a c (AreTypesOver-extend (extends ds es) s o) (Proves-append es h) r (IsTypedOver-append ds es c w)
Proves-append {ds} es (by_inst s a c o h r w) = by_inst s a c (AreOver-extend (extends ds es) s o) (Proves-append es h) r (IsTypedOver-append ds es c w)
Proves-append {ds} es (by_axiom c b m w) = by_axiom c (IsPrefix-append (base 10) ds es b) m (IsTypedOver-append ds es c w)
Proves-append {ds} es (by_definition d c m n w) = by_definition d c (Contains-append_left ds es d m) n (IsTypedOver-append ds es c w)

pub Proves-typed : {ds : List Definition} {a : Sequent} → Proves ds a → IsTypedOver ds a
Proves-typed (by_refl t c r w) = w
Proves-typed (by_trans a b c h g r w) = w
Proves-typed (by_comb a b c h g r w) = w
Proves-typed (by_abs v a c o h r w) = w
Proves-typed (by_beta t c r w) = w
Proves-typed (by_assume p c r w) = w
Proves-typed (by_eq_mp a b c h g r w) = w
Proves-typed (by_deduct a b c h g r w) = w
Proves-typed (by_inst_type s a c o h r w) = w
Proves-typed (by_inst s a c o h r w) = w
Proves-typed (by_axiom c b m w) = w
Proves-typed (by_definition d c m n w) = w

-- one more definition that is conservative
pub AreConservativeAfter-push : (before ds : List Definition) (d : Definition) → AreConservativeAfter before ds → IsConservative (before ++ ds) d → AreConservativeAfter before (ds ++ d ∷ [])
AreConservativeAfter-push before [] d h c = (subst (λ es. IsConservative es d) (append-nil before) c, tt)
AreConservativeAfter-push before (e ∷ ds) d h c =
    (h.0, AreConservativeAfter-push (before ++ e ∷ []) ds d h.1 (subst (λ es. IsConservative es d) (sym (append_assoc before (e ∷ []) ds)) c))
