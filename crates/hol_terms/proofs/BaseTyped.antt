-- Each base definition is well formed after those before it.
use Rattle.std.proofs.Common.{◌≡◌, ℕ, zero, suc, Bool, true, not, ◌&&◌, List, [], ◌∷◌, ◌++◌, take, Some, refl, ap, sym, ◌∙◌, subst}
use Rattle.std.specs.Prelude.{slice_get}
use Rattle.std.proofs.lemmas.Bool.{and_parts, and_from, not-true}
use Rattle.hol_terms.specs.Name.{Name, is_numbered, dot_abs, dot_rep}
use Rattle.hol_terms.specs.Sequent.{seq}
use Rattle.hol_terms.specs.Tm.{Tm, tm_comb}
use Rattle.hol_terms.specs.Typing.{tm_type, domain_ty, fun_ty}
use Rattle.hol_terms.specs.TyVars.{tm_within}
use Rattle.hol_terms.specs.Signature.{Signature, is_new, may_introduce}
use Rattle.hol_terms.specs.Definition.{Definition, const_def, type_def, bool_ty, signature_of, has_frees}
use Rattle.hol_terms.specs.Rules.{same_ty}
use Rattle.hol_terms.specs.Proves.{IsConstDef, IsTypeDef, AreConservative, Proves}
use Rattle.hol_terms.specs.Base.{base, base_definitions}
use Rattle.hol_terms.specs.WellFormed.{IsTypeForm, IsWellFormed}
use Rattle.hol_terms.proofs.AsciiNames.{is_ascii_name, is_name_from_ascii}
use Rattle.hol_terms.proofs.Checked.{is_over, same_ty-is, IsOver-checked}
use Rattle.hol_terms.proofs.BaseOpened.{opened_bases}

abbrev may_add : Signature → Name → Bool
may_add s n = is_ascii_name n && not (is_numbered n) && is_new s n

abbrev is_const_def : Signature → Name → Tm → Bool
is_const_def s c t = may_add s c && (not (has_frees t) && (tm_within t (tm_type t) && is_over s [] t))

abbrev is_type_form : Signature → Name → Tm → Bool
is_type_form s n p =
    may_add s n && (may_add s (dot_abs n) && (may_add s (dot_rep n) && (not (has_frees p) && (is_over s [] p && same_ty (tm_type p) (fun_ty (domain_ty (tm_type p)) bool_ty)))))

abbrev is_well_formed : List Definition → Definition → Bool
is_well_formed ds (const_def c t) = is_const_def (signature_of ds) c t
is_well_formed ds (type_def n p) = is_type_form (signature_of ds) n p

abbrev are_well_formed : List Definition → List Definition → Bool
are_well_formed before [] = true
are_well_formed before (d ∷ ds) = is_well_formed before d && are_well_formed (before ++ d ∷ []) ds

may_introduce_from : (s : Signature) (n : Name) → may_add s n ≡ true → may_introduce s n ≡ true
may_introduce_from s n h =
    let p = and_parts (is_ascii_name n && not (is_numbered n)) (is_new s n) h in
    let q = and_parts (is_ascii_name n) (not (is_numbered n)) p.0 in
    and_from _ _ (and_from _ _ (is_name_from_ascii n q.0) q.1) p.1

well_formed : (ds : List Definition) (d : Definition) → is_well_formed ds d ≡ true → IsWellFormed ds d
well_formed ds (const_def c t) h =
    let s = signature_of ds in
    let p = and_parts (may_add s c) (not (has_frees t) && (tm_within t (tm_type t) && is_over s [] t)) h in
    let q = and_parts (not (has_frees t)) (tm_within t (tm_type t) && is_over s [] t) p.1 in
    let r = and_parts (tm_within t (tm_type t)) (is_over s [] t) q.1 in
    record { named = may_introduce_from s c p.0; closed = not-true (has_frees t) q.0; covered = r.0; typed = IsOver-checked s [] t r.1 }
well_formed ds (type_def n p) h =
    let s = signature_of ds in
    let into = same_ty (tm_type p) (fun_ty (domain_ty (tm_type p)) bool_ty) in
    let a = and_parts (may_add s n) (may_add s (dot_abs n) && (may_add s (dot_rep n) && (not (has_frees p) && (is_over s [] p && into)))) h in
    let b = and_parts (may_add s (dot_abs n)) (may_add s (dot_rep n) && (not (has_frees p) && (is_over s [] p && into))) a.1 in
    let c = and_parts (may_add s (dot_rep n)) (not (has_frees p) && (is_over s [] p && into)) b.1 in
    let d = and_parts (not (has_frees p)) (is_over s [] p && into) c.1 in
    let e = and_parts (is_over s [] p) into d.1 in
    record {
      named = may_introduce_from s n a.0;
      named_abs = may_introduce_from s (dot_abs n) b.0;
      named_rep = may_introduce_from s (dot_rep n) c.0;
      closed = not-true (has_frees p) d.0;
      typed = IsOver-checked s [] p e.0;
      predicate = same_ty-is (tm_type p) (fun_ty (domain_ty (tm_type p)) bool_ty) e.1;
    }

append_take : (before ds : List Definition) (d : Definition) (k : ℕ) → (before ++ d ∷ []) ++ take k ds ≡ before ++ take (suc k) (d ∷ ds)
append_take [] ds d k = refl
append_take (e ∷ es) ds d k = ap (λ (fs : List Definition). e ∷ fs) (append_take es ds d k)

some_is : (x y : Definition) → Some x ≡ Some y → x ≡ y
some_is x y e = cc

append_nil : (ds : List Definition) → ds ≡ ds ++ []
append_nil [] = refl
append_nil (d ∷ ds) = ap (λ (es : List Definition). d ∷ es) (append_nil ds)

well_formed_at : (before ds : List Definition) (k : ℕ) (d : Definition) → are_well_formed before ds ≡ true → slice_get ds k ≡ Some d
    → IsWellFormed (before ++ take k ds) d
well_formed_at before [] k d h e = cc
well_formed_at before (x ∷ ds) zero d h e =
    let p = and_parts (is_well_formed before x) (are_well_formed (before ++ x ∷ []) ds) h in
    subst (λ es. IsWellFormed es d) (append_nil before) (subst (IsWellFormed before) (some_is x d e) (well_formed before x p.0))
well_formed_at before (x ∷ ds) (suc k) d h e =
    let p = and_parts (is_well_formed before x) (are_well_formed (before ++ x ∷ []) ds) h in
    subst (λ es. IsWellFormed es d) (append_take before ds x k) (well_formed_at (before ++ x ∷ []) ds k d p.1 e)

base_passes : are_well_formed [] base_definitions ≡ true
unfolding opened_bases base_definitions same_ty
base_passes = refl

pub base_well_formed : (k : ℕ) (d : Definition) → slice_get base_definitions k ≡ Some d → IsWellFormed (base k) d
base_well_formed k d e = well_formed_at [] base_definitions k d base_passes e

pub base_conservative : AreConservative (base 10)
unfolding opened_bases base_definitions
base_conservative = (
  base_well_formed 0 _ refl,
  (
    base_well_formed 1 _ refl,
    (
      base_well_formed 2 _ refl,
      (
        base_well_formed 3 _ refl,
        (
          base_well_formed 4 _ refl,
          (base_well_formed 5 _ refl, (base_well_formed 6 _ refl, (base_well_formed 7 _ refl, (base_well_formed 8 _ refl, (base_well_formed 9 _ refl, tt))))),
        ),
      ),
    ),
  ),
)

-- what is built as a base constant may be defined after those before it
pub const_def_at : (k : ℕ) (d : Definition) (c : Name) (t : Tm) → slice_get base_definitions k ≡ Some d → const_def c t ≡ d → IsConstDef (base k) c t
const_def_at k d c t e same = base_well_formed k (const_def c t) (e ∙ ap Some (sym same))

-- a base type may be defined once its predicate is shown to hold of some term
pub type_def_at : (ds : List Definition) (n : Name) (p w : Tm) → IsTypeForm ds n p → Proves ds (seq [] (tm_comb p w)) → IsTypeDef ds n p
type_def_at ds n p w f h = record {
  named = f.named;
  named_abs = f.named_abs;
  named_rep = f.named_rep;
  closed = f.closed;
  typed = f.typed;
  predicate = f.predicate;
  witness = w;
  inhabited = h;
}
