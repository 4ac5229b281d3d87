-- What definitions introduce are names, and no constant is `x` and digits; the constants that have a sign have their types.
use Rattle.std.proofs.Common.{◌≡◌, ℕ, true, false, not, ◌&&◌, List, [], ◌∷◌, ◌++◌, Some, codes, refl, sym, ◌∙◌, append_assoc, append-nil, subst}
use Rattle.std.specs.List.{flat_map}
use Rattle.std.proofs.lemmas.Bool.{and_parts, not-true}
use Rattle.hol_terms.specs.Name.{Name, is_name, is_numbered, dot_abs, dot_rep}
use Rattle.hol_terms.specs.Ty.{Ty}
use Rattle.hol_terms.specs.Signature.{Signature, entry_at, generic_of, is_new, may_introduce}
use Rattle.hol_terms.specs.Definition.{Definition, const_def, type_def, types_of, consts_of, signature_of}
use Rattle.hol_terms.specs.Base.{base, base_definitions}
use Rattle.hol_terms.specs.Proves.{IsConservative, AreConservativeAfter, AreConservative, IsPrefix}
use Rattle.hol_terms.proofs.AsciiNames.{is_name_from_ascii}
use Rattle.hol_terms.proofs.BaseOpened.{opened_bases}
use Rattle.hol_terms.proofs.Weaken.{Extends, extends, types-append, consts-append}
use Rattle.hol_terms.specs.ReadsBack.{ReadsBack, signed}
use Rattle.text_laws.proofs.Entries.{Entries, entries-append, entries-found}

abbrev IsTypeNamed : Name → ℕ → Type 0
IsTypeNamed n k = is_name n ≡ true

abbrev IsConstNamed : Name → Ty → Type 0
IsConstNamed c g = (is_name c ≡ true) × (is_numbered c ≡ false)

record AreNamed (s : Signature) : Type 0 where
  types : Entries IsTypeNamed s.types
  consts : Entries IsConstNamed s.consts

introduced : (s : Signature) (n : Name) → may_introduce s n ≡ true → (is_name n ≡ true) × (is_numbered n ≡ false)
introduced s n h =
    let p = and_parts (is_name n && not (is_numbered n)) (is_new s n) h in
    let q = and_parts (is_name n) (not (is_numbered n)) p.0 in
    (q.0, not-true (is_numbered n) q.1)

types_named : (ds : List Definition) (d : Definition) → IsConservative ds d → Entries IsTypeNamed (flat_map types_of (d ∷ []))
types_named ds (const_def c t) h = tt
types_named ds (type_def n p) h = ((introduced (signature_of ds) n h.named).0, tt)

consts_named : (ds : List Definition) (d : Definition) → IsConservative ds d → Entries IsConstNamed (flat_map consts_of (d ∷ []))
consts_named ds (const_def c t) h = (introduced (signature_of ds) c h.named, tt)
consts_named ds (type_def n p) h = (introduced (signature_of ds) (dot_abs n) h.named_abs, (introduced (signature_of ds) (dot_rep n) h.named_rep, tt))

one_more : (ds : List Definition) (d : Definition) → IsConservative ds d → AreNamed (signature_of ds) → AreNamed (signature_of (ds ++ d ∷ []))
one_more ds d c h = record {
  types = subst (Entries IsTypeNamed) (sym (types-append ds (d ∷ []))) (entries-append IsTypeNamed (signature_of ds).types (flat_map types_of (d ∷ [])) h.types (types_named ds d c));
  consts = subst (Entries IsConstNamed) (sym (consts-append ds (d ∷ []))) (entries-append IsConstNamed (signature_of ds).consts (flat_map consts_of (d ∷ [])) h.consts (consts_named ds d c));
}

all_more : (before ds : List Definition) → AreConservativeAfter before ds → AreNamed (signature_of before) → AreNamed (signature_of (before ++ ds))
all_more before [] c h = subst (λ es. AreNamed (signature_of es)) (sym (append-nil before)) h
all_more before (d ∷ ds) c h =
    subst (λ es. AreNamed (signature_of es)) (append_assoc before (d ∷ []) ds) (all_more (before ++ d ∷ []) ds c.1 (one_more before d c.0 h))

at_start : AreNamed (signature_of [])
at_start = record {
  types = (is_name_from_ascii (codes "bool") refl, (is_name_from_ascii (codes "fun") refl, (is_name_from_ascii (codes "ind") refl, tt)));
  consts = ((is_name_from_ascii (codes "eq") refl, refl), ((is_name_from_ascii (codes "some") refl, refl), tt));
}

-- the signature has the constant at the type
abbrev HasConst : Signature → Name → Ty → Type 0
HasConst s c t = generic_of s c ≡ Some t

base_has : Entries (HasConst (signature_of (base 10))) signed
unfolding opened_bases base_definitions
base_has = (refl, (refl, (refl, (refl, (refl, (refl, (refl, tt)))))))

base_within : (ds : List Definition) → IsPrefix (base 10) ds → Extends (signature_of (base 10)) (signature_of ds)
base_within ds h = subst (λ es. Extends (signature_of (base 10)) (signature_of es)) (sym h.1) (extends (base 10) h.0)

some_is : (g t : Ty) → Some g ≡ Some t → g ≡ t
some_is g t e = cc

usual_types : (ds : List Definition) → IsPrefix (base 10) ds → (c : Name) (g t : Ty) → generic_of (signature_of ds) c ≡ Some g → entry_at signed c ≡ Some t → g ≡ t
usual_types ds h c g t e f =
    let has = (base_within ds h).consts c t (entries-found (HasConst (signature_of (base 10))) signed c t base_has f) in
    some_is g t (sym e ∙ has)

pub reads_back : (ds : List Definition) → AreConservative ds → IsPrefix (base 10) ds → ReadsBack (signature_of ds)
reads_back ds c b =
    let s : Signature = signature_of ds in
    let h : AreNamed s = all_more [] ds c at_start in
    record {
      types_named = λ n k e. entries-found IsTypeNamed s.types n k h.types e;
      constants_named = λ n g e. (entries-found IsConstNamed s.consts n g h.consts e).0;
      unnumbered = λ n g e. (entries-found IsConstNamed s.consts n g h.consts e).1;
      usual = usual_types ds b;
    }
