-- The generic types of the constants that definitions give are well formed.
use Rattle.std.proofs.Common.{List, [], ◌∷◌, ◌++◌, codes, refl, sym, append_assoc, append-nil, subst}
use Rattle.std.specs.List.{flat_map}
use Rattle.hol_terms.specs.Name.{Name}
use Rattle.hol_terms.specs.Ty.{Ty}
use Rattle.hol_terms.specs.Tm.{Tm, tm_comb}
use Rattle.hol_terms.specs.Typing.{tm_type}
use Rattle.hol_terms.specs.Signature.{Signature, IsTyOver, IsOver}
use Rattle.hol_terms.specs.Definition.{Definition, const_def, type_def, alpha, abs_ty, rep_ty, consts_of, signature_of}
use Rattle.hol_terms.specs.Proves.{IsConstDef, IsTypeDef, IsConservative, AreConservativeAfter, AreConservative, abs_const, rep_const, new_var, abs_rep}
use Rattle.hol_terms.proofs.AsciiNames.{is_segment_from_ascii}
use Rattle.hol_terms.proofs.Weaken.{extends, consts-append, IsTyOver-extend, Proves-typed}
use Rattle.hol_terms.proofs.Typed.{IsOver-type, eq_sides}
use Rattle.hol_terms.proofs.TypeDefining.{type_proves_abs}
use Rattle.hol_text.specs.Over.{GivesTypes}
use Rattle.text_laws.proofs.Entries.{Entries, entries-append, entries-map, entries-found}

-- each of the entries has a type that is well formed over the signature
abbrev HasTypeOver : Signature → Name → Ty → Type 0
HasTypeOver s c g = IsTyOver s g

abbrev AreGenericOver : Signature → Type 0
AreGenericOver s = Entries (HasTypeOver s) s.consts

const_given : (ds : List Definition) (c : Name) (t : Tm) → IsConstDef ds c t → IsTyOver (signature_of (ds ++ const_def c t ∷ [])) (tm_type t)
const_given ds c t h = IsTyOver-extend (extends ds (const_def c t ∷ [])) (tm_type t) (IsOver-type (signature_of ds) refl [] t h.typed)

type_given : (ds : List Definition) (n : Name) (p : Tm) → IsTypeDef ds n p
    → IsTyOver (signature_of (ds ++ type_def n p ∷ [])) (abs_ty n p) × IsTyOver (signature_of (ds ++ type_def n p ∷ [])) (rep_ty n p)
type_given ds n p h =
    let s : Signature = signature_of (ds ++ type_def n p ∷ []) in
    let both : IsOver s [] (abs_rep n p) = (Proves-typed (type_proves_abs ds n p h)).concl_is.0 in
    let left : IsOver s [] (tm_comb (abs_const n p) (tm_comb (rep_const n p) (new_var n p))) = (eq_sides [] (tm_comb (abs_const n p) (tm_comb (rep_const n p) (new_var n p))) (new_var n p) both).0 in
    (left.0.ty_over, left.1.0.ty_over)

given : (ds : List Definition) (d : Definition) → IsConservative ds d → Entries (HasTypeOver (signature_of (ds ++ d ∷ []))) (flat_map consts_of (d ∷ []))
given ds (const_def c t) h = (const_given ds c t h, tt)
given ds (type_def n p) h = let both = type_given ds n p h in (both.0, (both.1, tt))

one_more : (ds : List Definition) (d : Definition) → IsConservative ds d → AreGenericOver (signature_of ds) → AreGenericOver (signature_of (ds ++ d ∷ []))
one_more ds d c h =
    let s : Signature = signature_of (ds ++ d ∷ []) in
    let old : Entries (HasTypeOver s) (signature_of ds).consts = entries-map (HasTypeOver (signature_of ds)) (HasTypeOver s) (λ n g o. IsTyOver-extend (extends ds (d ∷ [])) g o) (signature_of ds).consts h in
    subst (Entries (HasTypeOver s)) (sym (consts-append ds (d ∷ [])))
    (entries-append (HasTypeOver s) (signature_of ds).consts (flat_map consts_of (d ∷ [])) old (given ds d c))

all_more : (before ds : List Definition) → AreConservativeAfter before ds → AreGenericOver (signature_of before) → AreGenericOver (signature_of (before ++ ds))
all_more before [] c h = subst (λ es. AreGenericOver (signature_of es)) (sym (append-nil before)) h
all_more before (d ∷ ds) c h =
    subst (λ es. AreGenericOver (signature_of es)) (append_assoc before (d ∷ []) ds) (all_more (before ++ d ∷ []) ds c.1 (one_more before d c.0 h))

alpha_over : IsTyOver (signature_of []) alpha
alpha_over = is_segment_from_ascii (codes "a") refl

at_start : AreGenericOver (signature_of [])
at_start =
    ((refl, (alpha_over, ((refl, (alpha_over, ((refl, tt), tt))), tt))), ((refl, ((refl, (alpha_over, ((refl, tt), tt))), (alpha_over, tt))), tt))

pub gives_types : (ds : List Definition) → AreConservative ds → GivesTypes (signature_of ds)
gives_types ds c =
    let h : AreGenericOver (signature_of ds) = all_more [] ds c at_start in
    record { fun_takes_two = refl; generics = λ n g e. entries-found (HasTypeOver (signature_of ds)) (signature_of ds).consts n g h e }
