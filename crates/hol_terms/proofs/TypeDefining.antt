-- A new type: its two equations follow, and the definitions stay conservative.
use Rattle.std.proofs.Common.{◌≡◌, ℕ, suc, List, [], ◌∷◌, ◌++◌, Some, length, append_assoc, refl, ap, sym, ◌∙◌, arith, subst}
use Rattle.std.proofs.lemmas.List.Elements.{Contains-append_right}
use Rattle.hol_terms.specs.Name.{Name, dot_abs, dot_rep}
use Rattle.hol_terms.specs.Ty.{Ty, tys}
use Rattle.hol_terms.specs.Tm.{Tm, tm_index, tm_free, tm_const, tm_comb, tm_abs}
use Rattle.hol_terms.specs.Typing.{tm_type, domain_ty, range_ty, fun_ty}
use Rattle.hol_terms.specs.TyVars.{ty_vars, tm_ty_vars}
use Rattle.hol_terms.specs.Signature.{Signature, entry_at, arity_of, generic_of, tys_count, IsTyOver, IsOver}
use Rattle.hol_terms.specs.Definition.{Definition, type_def, new_type, abs_ty, rep_ty, signature_of}
use Rattle.hol_terms.specs.Sequent.{seq, eq_tm}
use Rattle.hol_terms.specs.Proves.{Proves, by_definition, IsTypeDef, abs_const, rep_const, new_var, old_var, abs_rep, rep_abs}
use Rattle.hol_terms.proofs.AsciiNames.{is_name_from_ascii}
use Rattle.hol_terms.proofs.Tables.{new_type_name, new_const_name, entry_at-push, abs_is_not_rep}
use Rattle.hol_terms.proofs.Weaken.{extends, types-append, consts-append, IsOver-extend}
use Rattle.hol_terms.proofs.Typed.{IsOver-type, eq_over, no_hyps}
use Rattle.hol_terms.proofs.Defining.{AreVars, AreVars-ty_vars, AreVars-tys_vars, vars_over, entry_at-last, own_const_over, may_introduce-new}

AreVars-tm : (s : Signature) (bound : List Ty) (t : Tm) (vs : List Ty) → IsOver s bound t → AreVars vs → AreVars (tm_ty_vars t vs)
AreVars-tm s bound (tm_index i u) vs o h = h
AreVars-tm s bound (tm_free v) vs o h = AreVars-ty_vars s v.ty vs o.1 h
AreVars-tm s bound (tm_const c ts u) vs o h = AreVars-tys_vars s (tys ts) vs o.over h
AreVars-tm s bound (tm_comb f x) vs o h = AreVars-tm s bound x (tm_ty_vars f vs) o.1 (AreVars-tm s bound f vs o.0 h)
AreVars-tm s bound (tm_abs u b) vs o h = AreVars-tm s (u ∷ bound) b (ty_vars u vs) o.1 (AreVars-ty_vars s u vs o.0 h)

tys_count-tys : (ts : List Ty) → tys_count (tys ts) ≡ length ts
tys_count-tys [] = refl
tys_count-tys (t ∷ ts) = ap suc (tys_count-tys ts)

abbrev after : List Definition → Name → Tm → List Definition
after ds n p = ds ++ type_def n p ∷ []

type_known : (ds : List Definition) (n : Name) (p : Tm) → IsTypeDef ds n p → arity_of (signature_of (after ds n p)) n ≡ Some (length (tm_ty_vars p []))
type_known ds n p h =
    let new = new_type_name (signature_of ds) n (may_introduce-new (signature_of ds) n h.named) in
    subst (λ (es : List (Name × ℕ)). entry_at es n ≡ Some (length (tm_ty_vars p []))) (sym (types-append ds (type_def n p ∷ []))) (entry_at-last (signature_of ds).types [] n (length (tm_ty_vars p [])) new)

abs_known : (ds : List Definition) (n : Name) (p : Tm) → IsTypeDef ds n p → generic_of (signature_of (after ds n p)) (dot_abs n) ≡ Some (abs_ty n p)
abs_known ds n p h =
    let new = new_const_name (signature_of ds) (dot_abs n) (may_introduce-new (signature_of ds) (dot_abs n) h.named_abs) in
    subst (λ (es : List (Name × Ty)). entry_at es (dot_abs n) ≡ Some (abs_ty n p)) (sym (consts-append ds (type_def n p ∷ [])))
    (entry_at-last (signature_of ds).consts ((dot_rep n, rep_ty n p) ∷ []) (dot_abs n) (abs_ty n p) new)

rep_known : (ds : List Definition) (n : Name) (p : Tm) → IsTypeDef ds n p → generic_of (signature_of (after ds n p)) (dot_rep n) ≡ Some (rep_ty n p)
rep_known ds n p h =
    let new = new_const_name (signature_of ds) (dot_rep n) (may_introduce-new (signature_of ds) (dot_rep n) h.named_rep) in
    let apart = entry_at-push (signature_of ds).consts (dot_rep n) (dot_abs n) (abs_ty n p) (abs_is_not_rep n) new in
    let both : (signature_of (after ds n p)).consts ≡ ((signature_of ds).consts ++ (dot_abs n, abs_ty n p) ∷ []) ++ (dot_rep n, rep_ty n p) ∷ [] =
    consts-append ds (type_def n p ∷ []) ∙ sym (append_assoc (signature_of ds).consts ((dot_abs n, abs_ty n p) ∷ []) ((dot_rep n, rep_ty n p) ∷ [])) in
    subst (λ (es : List (Name × Ty)). entry_at es (dot_rep n) ≡ Some (rep_ty n p)) (sym both)
    (entry_at-last ((signature_of ds).consts ++ (dot_abs n, abs_ty n p) ∷ []) [] (dot_rep n) (rep_ty n p) apart)

-- what the two equations are made of is well typed
record Parts (s : Signature) (n : Name) (p : Tm) : Type 0 where
  pred : IsOver s [] p
  abs : IsOver s [] (abs_const n p)
  rep : IsOver s [] (rep_const n p)
  new : IsOver s [] (new_var n p)
  old : IsOver s [] (old_var p)

parts : (ds : List Definition) (n : Name) (p : Tm) → IsTypeDef ds n p → Parts (signature_of (after ds n p)) n p
parts ds n p h =
    let s = signature_of (after ds n p) in
    let pred : IsOver s [] p = IsOver-extend (extends ds (type_def n p ∷ [])) [] p h.typed in
    let old : IsTyOver s (domain_ty (tm_type p)) = (subst (IsTyOver s) h.predicate (IsOver-type s refl [] p pred)).1.0 in
    let new : IsTyOver s (new_type n p) =
    (type_known ds n p h ∙ ap Some (sym (tys_count-tys (tm_ty_vars p []))), vars_over s (tm_ty_vars p []) (AreVars-tm s [] p [] pred tt)) in
    record {
      pred = pred;
      abs = own_const_over s (dot_abs n) (abs_ty n p) (abs_known ds n p h) (refl, (old, (new, tt)));
      rep = own_const_over s (dot_rep n) (rep_ty n p) (rep_known ds n p h) (refl, (new, (old, tt)));
      new = (is_name_from_ascii (97 ∷ []) refl, new);
      old = (is_name_from_ascii (114 ∷ []) refl, old);
    }

abs_rep_over : (ds : List Definition) (n : Name) (p : Tm) → IsTypeDef ds n p → IsOver (signature_of (after ds n p)) [] (abs_rep n p)
abs_rep_over ds n p h =
    let o = parts ds n p h in
    eq_over (after ds n p) [] (tm_comb (abs_const n p) (tm_comb (rep_const n p) (new_var n p))) (new_var n p) (o.abs, (o.rep, o.new, refl), refl) o.new refl

rep_abs_over : (ds : List Definition) (n : Name) (p : Tm) → IsTypeDef ds n p → IsOver (signature_of (after ds n p)) [] (rep_abs n p)
rep_abs_over ds n p h =
    let o = parts ds n p h in
    let es : List Definition = after ds n p in
    let there = tm_comb (rep_const n p) (tm_comb (abs_const n p) (old_var p)) in
    let range = ap range_ty h.predicate in
    let holds : IsOver (signature_of es) [] (tm_comb p (old_var p)) = (o.pred, o.old, h.predicate ∙ ap (fun_ty (domain_ty (tm_type p))) (sym range)) in
    let back : IsOver (signature_of es) [] (eq_tm there (old_var p)) = eq_over es [] there (old_var p) (o.rep, (o.abs, o.old, refl), refl) o.old refl in
    eq_over es [] (tm_comb p (old_var p)) (eq_tm there (old_var p)) holds back range

-- both equations follow
pub type_proves_abs : (ds : List Definition) (n : Name) (p : Tm) → IsTypeDef ds n p → Proves (ds ++ type_def n p ∷ []) (seq [] (abs_rep n p))
type_proves_abs ds n p h =
    let es : List Definition = after ds n p in
    by_definition (type_def n p) _ (Contains-append_right ds (type_def n p ∷ []) (type_def n p) (0, omega arith, refl)) (0, omega arith, refl)
    (no_hyps (signature_of es) (abs_rep n p) (abs_rep_over ds n p h, refl))

pub type_proves_rep : (ds : List Definition) (n : Name) (p : Tm) → IsTypeDef ds n p → Proves (ds ++ type_def n p ∷ []) (seq [] (rep_abs n p))
type_proves_rep ds n p h =
    let es : List Definition = after ds n p in
    by_definition (type_def n p) _ (Contains-append_right ds (type_def n p ∷ []) (type_def n p) (0, omega arith, refl)) (1, omega arith, refl)
    (no_hyps (signature_of es) (rep_abs n p) (rep_abs_over ds n p h, refl))

pub type_proves : (ds : List Definition) (n : Name) (p : Tm) → IsTypeDef ds n p
    → Proves (ds ++ type_def n p ∷ []) (seq [] (abs_rep n p)) × Proves (ds ++ type_def n p ∷ []) (seq [] (rep_abs n p))
type_proves ds n p h = (type_proves_abs ds n p h, type_proves_rep ds n p h)
