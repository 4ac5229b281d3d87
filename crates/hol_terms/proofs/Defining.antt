-- A new constant: its equation follows, and the definitions stay conservative.
use Rattle.std.proofs.Common.{◌≡◌, List, [], ◌∷◌, ◌++◌, cond, Bool, true, false, Some, None, refl, ap, sym, ◌∙◌, arith, bytes_eq, subst, not, ◌&&◌}
use Rattle.std.specs.List.{list_any}
use Rattle.std.specs.Ordering.{is_eq}
use Rattle.std.proofs.lemmas.List.Elements.{Contains-append_right}
use Rattle.std.proofs.lemmas.Map.Text.{is_eq-slice_cmp}
use Rattle.hol_terms.specs.Name.{Name, is_segment, is_name, is_numbered}
use Rattle.hol_terms.specs.Ty.{Ty, ty_var, ty_app, Tys, no_tys, more_tys, tys}
use Rattle.hol_terms.specs.Tm.{Tm}
use Rattle.hol_terms.specs.Subst.{ty_lookup, ty_subst, tys_subst, ty_cmp, name_cmp}
use Rattle.hol_terms.specs.Typing.{tm_type}
use Rattle.hol_terms.specs.TyVars.{ty_vars, tys_vars, pairs_of, own_const}
use Rattle.hol_terms.specs.Signature.{Signature, entry_at, generic_of, is_new, IsTyOver, AreTysOver, IsOver, may_introduce}
use Rattle.hol_terms.specs.Definition.{Definition, const_def, signature_of}
use Rattle.hol_terms.specs.Sequent.{seq, eq_tm}
use Rattle.hol_terms.specs.Proves.{Proves, by_definition, IsConstDef, AreConservative, IsDerivable}
use Rattle.hol_terms.proofs.Order.{name_cmp-same, is_eq-same}
use Rattle.hol_terms.proofs.Tables.{same_bytes, new_const_name, and_right}
use Rattle.hol_terms.proofs.Weaken.{extends, consts-append, IsOver-extend, IsTyOver-extend, AreConservativeAfter-push}
use Rattle.hol_terms.proofs.Typed.{IsOver-type, eq_over, no_hyps}

pub entry_at-last : {A : Type 0} (es fs : List (Name × A)) (n : Name) (x : A) → entry_at es n ≡ None → entry_at (es ++ (n, x) ∷ fs) n ≡ Some x
entry_at-last [] fs n x e = rw (same_bytes n) refl
entry_at-last (p ∷ es) fs n x e = at (bytes_eq p.0 n) (entry_at-last es fs n x) e
  where
    at : (b : Bool) → (entry_at es n ≡ None → entry_at (es ++ (n, x) ∷ fs) n ≡ Some x) → cond b (Some p.1) (entry_at es n) ≡ None → cond b (Some p.1) (entry_at (es ++ (n, x) ∷ fs) n) ≡ Some x
    at true f h = cc
    at false f h = f h

pub generic_of-new : (ds : List Definition) (c : Name) (t : Tm) → generic_of (signature_of ds) c ≡ None → generic_of (signature_of (ds ++ const_def c t ∷ [])) c ≡ Some (tm_type t)
generic_of-new ds c t e =
    subst (λ (es : List (Name × Ty)). entry_at es c ≡ Some (tm_type t)) (sym (consts-append ds (const_def c t ∷ []))) (entry_at-last (signature_of ds).consts [] c (tm_type t) e)

-- lists of type variables that are segments
abbrev pub AreVars : List Ty → Type 0
AreVars [] = Unit {0}
AreVars (ty_var n ∷ vs) = (is_segment n ≡ true) × AreVars vs
AreVars (ty_app n ts ∷ vs) = ⊥

AreVars-push : (vs : List Ty) (n : Name) → is_segment n ≡ true → AreVars vs → AreVars (vs ++ ty_var n ∷ [])
AreVars-push [] n g h = (g, tt)
AreVars-push (ty_var m ∷ vs) n g h = (h.0, AreVars-push vs n g h.1)
AreVars-push (ty_app m ts ∷ vs) n g h = absurd h

AreVars-with : (b : Bool) (vs : List Ty) (n : Name) → is_segment n ≡ true → AreVars vs → AreVars (cond b vs (vs ++ ty_var n ∷ []))
AreVars-with true vs n g h = h
AreVars-with false vs n g h = AreVars-push vs n g h

mutual
  pub AreVars-ty_vars : (s : Signature) (t : Ty) (vs : List Ty) → IsTyOver s t → AreVars vs → AreVars (ty_vars t vs)
  AreVars-ty_vars s (ty_var n) vs o h = AreVars-with (list_any (λ u. is_eq (ty_cmp u (ty_var n))) vs) vs n o h
  AreVars-ty_vars s (ty_app n ts) vs o h = AreVars-tys_vars s ts vs o.1 h

  pub AreVars-tys_vars : (s : Signature) (ts : Tys) (vs : List Ty) → AreTysOver s ts → AreVars vs → AreVars (tys_vars ts vs)
  AreVars-tys_vars s no_tys vs o h = h
  AreVars-tys_vars s (more_tys t ts) vs o h = AreVars-tys_vars s ts (ty_vars t vs) o.1 (AreVars-ty_vars s t vs o.0 h)

pub vars_over : (s : Signature) (vs : List Ty) → AreVars vs → AreTysOver s (tys vs)
vars_over s [] h = tt
vars_over s (ty_var n ∷ vs) h = (h.0, vars_over s vs h.1)
vars_over s (ty_app n ts ∷ vs) h = absurd h

lookup_own : (vs : List Ty) (n : Name) → AreVars vs → ty_lookup (pairs_of vs vs) n ≡ ty_var n
lookup_own [] n h = refl
lookup_own (ty_app m ts ∷ vs) n h = absurd h
lookup_own (ty_var m ∷ vs) n h = at (lookup_own vs n h.1) (bytes_eq m n) refl
  where
    at : ty_lookup (pairs_of vs vs) n ≡ ty_var n → (b : Bool) → bytes_eq m n ≡ b → cond b (ty_var m) (ty_lookup (pairs_of vs vs) n) ≡ ty_var n
    at r true e = ap ty_var (name_cmp-same m n (is_eq-same (name_cmp m n) (is_eq-slice_cmp m n ∙ e)))
    at r false e = r

mutual
  subst_own : (vs : List Ty) (t : Ty) → AreVars vs → ty_subst (pairs_of vs vs) t ≡ t
  subst_own vs (ty_var n) h = lookup_own vs n h
  subst_own vs (ty_app n ts) h = ap (λ us. ty_app n us) (substs_own vs ts h)

  substs_own : (vs : List Ty) (ts : Tys) → AreVars vs → tys_subst (pairs_of vs vs) ts ≡ ts
  substs_own vs no_tys h = refl
  substs_own vs (more_tys t ts) h = λ i. more_tys (subst_own vs t h i) (substs_own vs ts h i)

-- a constant at its generic type's own variables
pub own_const_over : (s : Signature) (c : Name) (g : Ty) → generic_of s c ≡ Some g → IsTyOver s g → IsOver s [] (own_const c g)
own_const_over s c g k o =
    let vars : AreVars (ty_vars g []) = AreVars-ty_vars s g [] o tt in
    record { generic = g; known = k; as_many = refl; instance = sym (subst_own (ty_vars g []) g vars); over = vars_over s (ty_vars g []) vars; ty_over = o }

pub may_introduce-new : (s : Signature) (n : Name) → may_introduce s n ≡ true → is_new s n ≡ true
may_introduce-new s n e = and_right (is_name n && not (is_numbered n)) (is_new s n) e

pub const_proves : (ds : List Definition) (c : Name) (t : Tm) → IsConstDef ds c t → Proves (ds ++ const_def c t ∷ []) (seq [] (eq_tm (own_const c (tm_type t)) t))
const_proves ds c t h =
    let es : List Definition = ds ++ const_def c t ∷ [] in
    let new = new_const_name (signature_of ds) c (may_introduce-new (signature_of ds) c h.named) in
    let over : IsOver (signature_of es) [] t = IsOver-extend (extends ds (const_def c t ∷ [])) [] t h.typed in
    let ty_over : IsTyOver (signature_of es) (tm_type t) = IsTyOver-extend (extends ds (const_def c t ∷ [])) (tm_type t) (IsOver-type (signature_of ds) refl [] t h.typed) in
    let known = own_const_over (signature_of es) c (tm_type t) (generic_of-new ds c t new) ty_over in
    by_definition (const_def c t) _ (Contains-append_right ds (const_def c t ∷ []) (const_def c t) (0, omega arith, refl)) (0, omega arith, refl)
    (no_hyps (signature_of es) _ (eq_over es [] (own_const c (tm_type t)) t known over refl, refl))

pub const_conservative : (ds : List Definition) (c : Name) (t : Tm) → AreConservative ds → IsConstDef ds c t → AreConservative (ds ++ const_def c t ∷ [])
const_conservative ds c t h d = AreConservativeAfter-push [] ds (const_def c t) h d

pub const_derivable : (ds : List Definition) (c : Name) (t : Tm) → AreConservative ds → IsConstDef ds c t
    → IsDerivable (ds ++ const_def c t ∷ []) (seq [] (eq_tm (own_const c (tm_type t)) t))
const_derivable ds c t h d = record { conservative = const_conservative ds c t h d; proof = const_proves ds c t d }
