-- The lines of definitions, of theorems and of refusals have no newline.
use Rattle.std.proofs.Common.{◌≡◌, ℕ, Bool, true, false, cond, not, ◌&&◌, List, [], ◌∷◌, ◌++◌, codes, refl, sym, subst, append_assoc, append-nil, ◌∙◌, Some}
use Rattle.std.specs.List.{list_all, flat_map}
use Rattle.std.specs.Prelude.{bytes_eq}
use Rattle.std.proofs.lemmas.List.Folds.{list_all-append}
use Rattle.std.proofs.lemmas.Slice.Eq.{bytes_eq-Decides}
use Rattle.std.proofs.lemmas.Bool.{and_parts, and_from}
use Rattle.hol_terms.specs.Name.{Name, is_name, is_numbered, dot_abs, dot_rep}
use Rattle.hol_terms.specs.Ty.{Ty}
use Rattle.hol_terms.specs.Tm.{Tm, tm_comb}
use Rattle.hol_terms.specs.Typing.{tm_type}
use Rattle.hol_terms.specs.Signature.{Signature, entry_at, IsTyOver, IsOver, is_new, may_introduce}
use Rattle.hol_terms.specs.Definition.{Definition, const_def, type_def, new_type, types_of, consts_of, signature_of}
use Rattle.hol_terms.specs.Proves.{IsConservative, IsConstDef, IsTypeDef, AreConservativeAfter, AreConservative, abs_const, rep_const, new_var, abs_rep}
use Rattle.hol_terms.specs.Text.{ty_text, tm_text, definition_line, theorem_line}
use Rattle.hol_terms.proofs.Weaken.{types-append, consts-append, Proves-typed}
use Rattle.hol_terms.proofs.Typed.{IsOver-type, eq_sides}
use Rattle.hol_terms.proofs.AsciiNames.{is_name_from_ascii}
use Rattle.hol_terms.proofs.TypeDefining.{type_proves_abs}
use Rattle.log_laws.proofs.Lacking.{AreNamed, name_lacks, type_lacks_over, type_text_lacks, term_lacks_over, term_text_lacks}
use Rattle.log_laws.proofs.Lines.{is_line, line_append, foreign, no_type, no_term}

-- ---- the names that conservative definitions introduce

abbrev all_named : {A : Type 0} → List (Name × A) → Bool
all_named es = list_all (λ e. is_name e.0) es

named_append : {A : Type 0} (es fs : List (Name × A)) → all_named es ≡ true → all_named fs ≡ true → all_named (es ++ fs) ≡ true
named_append es fs h k = list_all-append (λ e. is_name e.0) es fs ∙ and_from (all_named es) (all_named fs) h k

found_named : {A : Type 0} (es : List (Name × A)) (n : Name) (x : A) → all_named es ≡ true → entry_at es n ≡ Some x → is_name n ≡ true
found_named [] n x h e = cc
found_named (p ∷ es) n x h e =
    let q = and_parts (is_name p.0) (all_named es) h in
    at (bytes_eq p.0 n) refl q.0 (found_named es n x q.1) e
  where
    at : (b : Bool) → bytes_eq p.0 n ≡ b → is_name p.0 ≡ true → (entry_at es n ≡ Some x → is_name n ≡ true) → cond b (Some p.1) (entry_at es n) ≡ Some x → is_name n ≡ true
    at true s l f g = subst (λ (m : Name). is_name m ≡ true) ((bytes_eq-Decides p.0 n).0 s) l
    at false s l f g = f g

introduced : (s : Signature) (n : Name) → may_introduce s n ≡ true → is_name n ≡ true
introduced s n h = (and_parts (is_name n) (not (is_numbered n)) (and_parts (is_name n && not (is_numbered n)) (is_new s n) h).0).0

record AreListed (s : Signature) : Type 0 where
  types : all_named s.types ≡ true
  consts : all_named s.consts ≡ true

types_named : (ds : List Definition) (d : Definition) → IsConservative ds d → all_named (flat_map types_of (d ∷ [])) ≡ true
types_named ds (const_def c t) h = refl
types_named ds (type_def n p) h = and_from (is_name n) true (introduced (signature_of ds) n h.named) refl

consts_named : (ds : List Definition) (d : Definition) → IsConservative ds d → all_named (flat_map consts_of (d ∷ [])) ≡ true
consts_named ds (const_def c t) h = and_from (is_name c) true (introduced (signature_of ds) c h.named) refl
consts_named ds (type_def n p) h =
    and_from (is_name (dot_abs n)) (is_name (dot_rep n) && true) (introduced (signature_of ds) (dot_abs n) h.named_abs) (and_from (is_name (dot_rep n)) true (introduced (signature_of ds) (dot_rep n) h.named_rep) refl)

one_more : (ds : List Definition) (d : Definition) → IsConservative ds d → AreListed (signature_of ds) → AreListed (signature_of (ds ++ d ∷ []))
one_more ds d c h = record {
  types = subst (λ (es : List (Name × ℕ)). all_named es ≡ true) (sym (types-append ds (d ∷ []))) (named_append (signature_of ds).types (flat_map types_of (d ∷ [])) h.types (types_named ds d c));
  consts = subst (λ (es : List (Name × Ty)). all_named es ≡ true) (sym (consts-append ds (d ∷ []))) (named_append (signature_of ds).consts (flat_map consts_of (d ∷ [])) h.consts (consts_named ds d c));
}

all_more : (before ds : List Definition) → AreConservativeAfter before ds → AreListed (signature_of before) → AreListed (signature_of (before ++ ds))
all_more before [] c h = subst (λ es. AreListed (signature_of es)) (sym (append-nil before)) h
all_more before (d ∷ ds) c h =
    subst (λ es. AreListed (signature_of es)) (append_assoc before (d ∷ []) ds) (all_more (before ++ d ∷ []) ds c.1 (one_more before d c.0 h))

two_named : (a b : Name) → is_name a ≡ true → is_name b ≡ true → (is_name a && (is_name b && true)) ≡ true
two_named a b h g = and_from (is_name a) (is_name b && true) h (and_from (is_name b) true g refl)

at_start : AreListed (signature_of [])
at_start = record {
  types = and_from (is_name (codes "bool")) (is_name (codes "fun") && (is_name (codes "ind") && true)) (is_name_from_ascii (codes "bool") refl)
      (two_named (codes "fun") (codes "ind") (is_name_from_ascii (codes "fun") refl) (is_name_from_ascii (codes "ind") refl));
  consts = two_named (codes "eq") (codes "some") (is_name_from_ascii (codes "eq") refl) (is_name_from_ascii (codes "some") refl);
}

listed_named : (s : Signature) → AreListed s → AreNamed s
listed_named s h = record { types = λ n k e. found_named s.types n k h.types e; consts = λ c g e. found_named s.consts c g h.consts e }

listed : (ds : List Definition) → AreConservative ds → AreListed (signature_of ds)
listed ds c = all_more [] ds c at_start

pub names_are_names : (ds : List Definition) → AreConservative ds → AreNamed (signature_of ds)
names_are_names ds c = listed_named (signature_of ds) (listed ds c)

-- ---- lines

pub text_of_term : (ds : List Definition) (t : Tm) → AreConservative ds → IsOver (signature_of ds) [] t → is_line (tm_text t) ≡ true
text_of_term ds t c o = term_text_lacks 10 no_term t (term_lacks_over 10 foreign (signature_of ds) [] t (names_are_names ds c) o)

text_of_type : (ds : List Definition) (t : Ty) → AreConservative ds → IsTyOver (signature_of ds) t → is_line (ty_text t) ≡ true
text_of_type ds t c o = type_text_lacks 10 no_type t (type_lacks_over 10 foreign (signature_of ds) t (names_are_names ds c) o)

pub const_line : (ds : List Definition) (c : Name) (t : Tm) → AreConservative ds → IsConstDef ds c t → is_line (definition_line (const_def c t)) ≡ true
const_line ds c t h d =
    let ty = text_of_type ds (tm_type t) h (IsOver-type (signature_of ds) refl [] t d.typed) in
    let front = line_append (codes "def ") c refl (name_lacks 10 foreign c (introduced (signature_of ds) c d.named)) in
    let typed = line_append (codes "def " ++ c ++ codes " : ") (ty_text (tm_type t)) (line_append (codes "def " ++ c) (codes " : ") front refl) ty in
    line_append (codes "def " ++ c ++ codes " : " ++ ty_text (tm_type t) ++ codes " = ") (tm_text t) (line_append (codes "def " ++ c ++ codes " : " ++ ty_text (tm_type t)) (codes " = ") typed refl) (text_of_term ds t h d.typed)

-- the new type is well formed over the definitions with its own
new_over : (ds : List Definition) (n : Name) (p : Tm) → IsTypeDef ds n p → IsTyOver (signature_of (ds ++ type_def n p ∷ [])) (new_type n p)
new_over ds n p h =
    let s : Signature = signature_of (ds ++ type_def n p ∷ []) in
    let both : IsOver s [] (abs_rep n p) = (Proves-typed (type_proves_abs ds n p h)).concl_is.0 in
    let left : IsOver s [] (tm_comb (abs_const n p) (tm_comb (rep_const n p) (new_var n p))) = (eq_sides [] (tm_comb (abs_const n p) (tm_comb (rep_const n p) (new_var n p))) (new_var n p) both).0 in
    left.1.1.1

pub type_def_line : (ds : List Definition) (n : Name) (p : Tm) → AreConservative ds → IsTypeDef ds n p → is_line (definition_line (type_def n p)) ≡ true
type_def_line ds n p h d =
    let after : Signature = signature_of (ds ++ type_def n p ∷ []) in
    let names : AreNamed after = listed_named after (one_more ds (type_def n p) d (listed ds h)) in
    let ty : is_line (ty_text (new_type n p)) ≡ true = type_text_lacks 10 no_type (new_type n p) (type_lacks_over 10 foreign after (new_type n p) names (new_over ds n p d)) in
    let front = line_append (codes "type ") (ty_text (new_type n p)) refl ty in
    line_append (codes "type " ++ ty_text (new_type n p) ++ codes " = ") (tm_text p) (line_append (codes "type " ++ ty_text (new_type n p)) (codes " = ") front refl) (text_of_term ds p h d.typed)

pub theorem_is_line : (ds : List Definition) (c : Name) (t : Tm) → AreConservative ds → is_name c ≡ true → IsOver (signature_of ds) [] t → is_line (theorem_line c t) ≡ true
theorem_is_line ds c t h n o =
    line_append (codes "thm " ++ c ++ codes " : ") (tm_text t) (line_append (codes "thm " ++ c) (codes " : ") (line_append (codes "thm ") c refl (name_lacks 10 foreign c n)) refl) (text_of_term ds t h o)
