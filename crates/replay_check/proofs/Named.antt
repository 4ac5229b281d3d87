-- Definitions that are not unfit are called by names, and so canonical text reads back over them.
use Rattle.std.proofs.Common.{◌≡◌, inl, inr, ◌≤◌, ℕ, Bool, true, false, cond, not, ◌&&◌, List, [], ◌∷◌, ◌++◌, Some, bytes_eq, codes, refl, sym, ◌∙◌, subst}
use Rattle.std.specs.List.{flat_map}
use Rattle.std.proofs.lemmas.Bool.{and_parts, not-true}
use Rattle.std.proofs.lemmas.Slice.Eq.{bytes_eq-Decides}
use Rattle.hol_terms.specs.Name.{Name, is_name, is_numbered, dot_abs, dot_rep}
use Rattle.hol_terms.specs.Ty.{Ty}
use Rattle.hol_terms.specs.Tm.{Tm}
use Rattle.hol_terms.specs.Signature.{Signature, entry_at, generic_of, is_new, may_introduce}
use Rattle.hol_terms.specs.TypeNames.{may_introduce_type}
use Rattle.hol_terms.specs.Definition.{Definition, const_def, type_def, types_of, consts_of, signature_of}
use Rattle.hol_terms.specs.Base.{base, base_definitions}
use Rattle.hol_terms.specs.ReadsBack.{ReadsBack, signed}
use Rattle.hol_terms.proofs.AsciiNames.{is_name_from_ascii}
use Rattle.hol_terms.proofs.BaseOpened.{opened_bases}
use Rattle.hol_terms.proofs.Weaken.{Extends, extends, types-append, consts-append}
use Rattle.hol_logs.proofs.Standing.{Stands, about_ten}
use Rattle.replay_check.specs.Named.{AllEntries, IsTypeNamed, IsConstantNamed, AreNamed}

entries_append : {A : Type 0} (P : Name → A → Type 0) (es fs : List (Name × A)) → AllEntries P es → AllEntries P fs → AllEntries P (es ++ fs)
entries_append P [] fs h g = g
entries_append P (e ∷ es) fs h g = (h.0, entries_append P es fs h.1 g)

some_is : {A : Type 0} (x y : A) → Some x ≡ Some y → x ≡ y
some_is x y e = cc

entries_found : {A : Type 0} (P : Name → A → Type 0) (es : List (Name × A)) (n : Name) (x : A) → AllEntries P es → entry_at es n ≡ Some x → P n x
entries_found P [] n x h e = cc
entries_found {A} P (p ∷ es) n x h e = at (bytes_eq p.0 n) refl (entries_found P es n x h.1) e
  where
    at : (b : Bool) → bytes_eq p.0 n ≡ b → (entry_at es n ≡ Some x → P n x) → cond b (Some p.1) (entry_at es n) ≡ Some x → P n x
    at true s f g = subst (λ (m : Name). P m x) ((bytes_eq-Decides p.0 n).0 s) (subst (P p.0) (some_is p.1 x g) h.0)
    at false s f g = f g

pub start_named : AreNamed (signature_of [])
start_named = record {
  types = (is_name_from_ascii (codes "bool") refl, (is_name_from_ascii (codes "fun") refl, (is_name_from_ascii (codes "ind") refl, tt)));
  constants = ((is_name_from_ascii (codes "eq") refl, refl), ((is_name_from_ascii (codes "some") refl, refl), tt));
}

introduced : (s : Signature) (n : Name) → may_introduce s n ≡ true → (is_name n ≡ true) × (is_numbered n ≡ false)
introduced s n h =
    let p = and_parts (is_name n && not (is_numbered n)) (is_new s n) h in
    let q = and_parts (is_name n) (not (is_numbered n)) p.0 in
    (q.0, not-true (is_numbered n) q.1)

more_named : (ds : List Definition) (d : Definition) → AreNamed (signature_of ds) → AllEntries IsTypeNamed (flat_map types_of (d ∷ [])) → AllEntries IsConstantNamed (flat_map consts_of (d ∷ []))
    → AreNamed (signature_of (ds ++ d ∷ []))
more_named ds d h t c = record {
  types = subst (AllEntries IsTypeNamed) (sym (types-append ds (d ∷ []))) (entries_append IsTypeNamed (signature_of ds).types (flat_map types_of (d ∷ [])) h.types t);
  constants = subst (AllEntries IsConstantNamed) (sym (consts-append ds (d ∷ []))) (entries_append IsConstantNamed (signature_of ds).consts (flat_map consts_of (d ∷ [])) h.constants c);
}

pub constant_named : (ds : List Definition) (c : Name) (t : Tm) → may_introduce (signature_of ds) c ≡ true → AreNamed (signature_of ds) → AreNamed (signature_of (ds ++ const_def c t ∷ []))
constant_named ds c t m h = more_named ds (const_def c t) h tt (introduced (signature_of ds) c m, tt)

pub type_named : (ds : List Definition) (n : Name) (p : Tm) → may_introduce_type (signature_of ds) n ≡ true → AreNamed (signature_of ds) → AreNamed (signature_of (ds ++ type_def n p ∷ []))
type_named ds n p m h =
    let s = signature_of ds in
    let a = and_parts (may_introduce s n && may_introduce s (dot_abs n)) (may_introduce s (dot_rep n)) m in
    let b = and_parts (may_introduce s n) (may_introduce s (dot_abs n)) a.0 in
    more_named ds (type_def n p) h ((introduced s n b.0).0, tt) (introduced s (dot_abs n) b.1, (introduced s (dot_rep n) a.1, tt))

-- ---- the constants that have a sign

abbrev HasConst : Signature → Name → Ty → Type 0
HasConst s c t = generic_of s c ≡ Some t

base_has : AllEntries (HasConst (signature_of (base 10))) signed
unfolding opened_bases base_definitions
base_has = (refl, (refl, (refl, (refl, (refl, (refl, (refl, tt)))))))

-- two tables that one extends have one type for a name
extended : (s : Signature) (c : Name) (g t : Ty) → Extends s (signature_of (base 10)) → generic_of s c ≡ Some g → entry_at signed c ≡ Some t → g ≡ t
extended s c g t x e f = some_is g t (sym (x.consts c g e) ∙ entries_found (HasConst (signature_of (base 10))) signed c t base_has f)

extends_it : (s : Signature) (c : Name) (g t : Ty) → Extends (signature_of (base 10)) s → generic_of s c ≡ Some g → entry_at signed c ≡ Some t → g ≡ t
extends_it s c g t x e f = some_is g t (sym e ∙ x.consts c t (entries_found (HasConst (signature_of (base 10))) signed c t base_has f))

pub reads_back : (n : ℕ) (b : Bool) (ds : List Definition) → 10 ≤ n → Stands n b ds → AreNamed (signature_of ds) → ReadsBack (signature_of ds)
reads_back n b ds k h a =
    let s = signature_of ds in
    record {
      types_named = λ c m e. entries_found IsTypeNamed s.types c m a.types e;
      constants_named = λ c g e. (entries_found IsConstantNamed s.consts c g a.constants e).0;
      unnumbered = λ c g e. (entries_found IsConstantNamed s.consts c g a.constants e).1;
      usual = λ c g t e f. elim (about_ten n b ds k h) [
        | inl p ↦ extends_it s c g t (subst (λ es. Extends (signature_of (base 10)) (signature_of es)) (sym p.1) (extends (base 10) p.0)) e f
        | inr p ↦ extended s c g t (subst (λ es. Extends s (signature_of es)) (sym p.1) (extends ds p.0)) e f
      ];
    }
