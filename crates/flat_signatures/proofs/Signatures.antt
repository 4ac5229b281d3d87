-- Signatures over tables: they stay while the tables grow, and answer by numbers.
use Rattle.std.proofs.Common.{◌≡◌, ℕ, Bool, true, false, cond, List, [], ◌∷◌, ◌++◌, Option, Some, None, nat_eq, bytes_eq, refl, ap, sym, subst, ◌∙◌, eq-eqb, true≢false}
use Rattle.std.specs.Map.{lookup}
use Rattle.std.specs.Str.{is_utf8, IsUtf8}
use Rattle.std.proofs.lemmas.Bool.{eqb-true}
use Rattle.std.proofs.lemmas.Slice.Eq.{bytes_eq-Decides}
use Rattle.std.proofs.lemmas.Str.{is_utf8-from_IsUtf8}
use Rattle.indexmap.specs.IndexMap.{insert_entry}
use Rattle.hol_terms.specs.Name.{Name}
use Rattle.hol_terms.specs.Ty.{Ty}
use Rattle.hol_terms.specs.Signature.{Signature, entry_at, arity_of, generic_of}
use Rattle.strict_reading.specs.Types.{is_number, has_arity}
use Rattle.hol_terms.specs.Table.{with_type, with_const}
use Rattle.flat_terms.specs.declared.nodes.NameId.{NameId}
use Rattle.flat_terms.specs.declared.nodes.TypeId.{TypeId}
use Rattle.flat_terms.specs.Plain.{PlainTables, HasName, HasType, name_of, type_of, name_at}
use Rattle.flat_terms.specs.Trees.{Distinct}
use Rattle.flat_instances.specs.TablesGrow.{TablesGrow}
use Rattle.flat_signatures.specs.FlatNames.{FlatNames, plain_types, plain_constants, plain_signature, HasText, HaveTexts, HaveGenerics, HasSignature}
use Rattle.flat_signatures.specs.Starting.{IsGenericOf}

-- ---- tables that grow

text_there : (t u : PlainTables) (n : NameId) → TablesGrow t u → HasText t n → HasText u n
text_there t u n g h = record { has = g.has_name n h.has; utf8 = ap is_utf8 (g.same_name n h.has) ∙ h.utf8 }

texts_there : {A : Type 0} (t u : PlainTables) (es : List (NameId × A)) → TablesGrow t u → HaveTexts t es → HaveTexts u es
texts_there t u [] g h = tt
texts_there t u (e ∷ es) g h = (text_there t u e.0 g h.0, texts_there t u es g h.1)

generics_there : (t u : PlainTables) (es : List (NameId × TypeId)) → TablesGrow t u → HaveGenerics t es → HaveGenerics u es
generics_there t u [] g h = tt
generics_there t u (e ∷ es) g h = (g.has_type e.1 h.0, generics_there t u es g h.1)

types_same : (t u : PlainTables) (es : List (NameId × ℕ)) → TablesGrow t u → HaveTexts t es → plain_types u es ≡ plain_types t es
types_same t u [] g h = refl
types_same t u (e ∷ es) g h = λ j. (g.same_name e.0 h.0.has j, e.1) ∷ types_same t u es g h.1 j

constants_same : (t u : PlainTables) (es : List (NameId × TypeId)) → TablesGrow t u → HaveTexts t es → HaveGenerics t es → plain_constants u es ≡ plain_constants t es
constants_same t u [] g h k = refl
constants_same t u (e ∷ es) g h k = λ j. (g.same_name e.0 h.0.has j, g.same_type e.1 k.0 j) ∷ constants_same t u es g h.1 k.1 j

-- a signature in larger tables
pub signature_there : (t u : PlainTables) (s : FlatNames) → TablesGrow t u → HasSignature t s → HasSignature u s
signature_there t u s g h = record { types = texts_there t u s.types g h.types; constants = texts_there t u s.constants g h.constants; generics = generics_there t u s.constants g h.generics }

-- and it is the same
pub signature_same : (t u : PlainTables) (s : FlatNames) → TablesGrow t u → HasSignature t s → plain_signature u s ≡ plain_signature t s
signature_same t u s g h = λ j. record { types = types_same t u s.types g h.types j; consts = constants_same t u s.constants g h.constants h.generics j }

-- ---- looking up

pub names_tell : (t : PlainTables) (a b : NameId) → Distinct [] t.names → HasName t a → HasName t b → bytes_eq (name_of t a) (name_of t b) ≡ nat_eq b.0 a.0
names_tell t a b once ha hb = at (nat_eq b.0 a.0) refl
  where
    other : (c : Bool) → bytes_eq (name_of t a) (name_of t b) ≡ c → nat_eq b.0 a.0 ≡ false → c ≡ false
    other true s e = absurd (true≢false (sym (eq-eqb b.0 a.0 (sym (once a.0 b.0 ha hb ((bytes_eq-Decides (name_of t a) (name_of t b)).0 s)))) ∙ e))
    other false s e = refl

    at : (c : Bool) → nat_eq b.0 a.0 ≡ c → bytes_eq (name_of t a) (name_of t b) ≡ c
    at true e = let number : b.0 ≡ a.0 = eqb-true b.0 a.0 e in (bytes_eq-Decides (name_of t a) (name_of t b)).1 (ap (name_at t.names) (sym number))
    at false e = other (bytes_eq (name_of t a) (name_of t b)) refl e

pub arity_found : (t : PlainTables) (es : List (NameId × ℕ)) (n : NameId) → Distinct [] t.names → HaveTexts t es → HasName t n → lookup (λ k. nat_eq n.0 k.0) es ≡ entry_at (plain_types t es) (name_of t n)
arity_found t [] n once h hn = refl
arity_found t (e ∷ es) n once h hn = λ j. cond (sym (names_tell t e.0 n once h.0.has hn) j) (Some e.1) (arity_found t es n once h.1 hn j)

-- the number of a constant's type, by the number of its name
abbrev pub constant_at : List (NameId × TypeId) → NameId → Option TypeId
constant_at es n = lookup (λ k. nat_eq n.0 k.0) es

pub generic_found : (t : PlainTables) (es : List (NameId × TypeId)) (n : NameId) → Distinct [] t.names → HaveTexts t es → HaveGenerics t es → HasName t n → IsGenericOf t (constant_at es n) (entry_at (plain_constants t es) (name_of t n))
generic_found t [] n once h k hn = refl
generic_found t (e ∷ es) n once h k hn = at (nat_eq n.0 e.0.0) (names_tell t e.0 n once h.0.has hn) (generic_found t es n once h.1 k.1 hn)
  where
    at : (b : Bool) → bytes_eq (name_of t e.0) (name_of t n) ≡ b → IsGenericOf t (constant_at es n) (entry_at (plain_constants t es) (name_of t n))
        → IsGenericOf t (cond b (Some e.1) (constant_at es n)) (cond (bytes_eq (name_of t e.0) (name_of t n)) (Some (type_of t e.1)) (entry_at (plain_constants t es) (name_of t n)))
    at true s later = (k.0, ap (λ b. cond b (Some (type_of t e.1)) (entry_at (plain_constants t es) (name_of t n))) s)
    at false s later = subst (λ (o : Option Ty). IsGenericOf t (constant_at es n) o) (sym (ap (λ b. cond b (Some (type_of t e.1)) (entry_at (plain_constants t es) (name_of t n))) s)) later

-- ---- one more entry

pub inserted_last : {A : Type 0} (es : List (NameId × A)) (n : NameId) (x : A) → lookup (λ k. nat_eq n.0 k.0) es ≡ None → insert_entry (λ a b. nat_eq a.0 b.0) es n x ≡ es ++ (n, x) ∷ []
inserted_last [] n x e = refl
inserted_last {A} (p ∷ es) n x e = at (nat_eq n.0 p.0.0) (inserted_last es n x) e
  where
    at : (b : Bool) → (lookup (λ k. nat_eq n.0 k.0) es ≡ None → insert_entry (λ a b. nat_eq a.0 b.0) es n x ≡ es ++ (n, x) ∷ []) → cond b (Some p.1) (lookup (λ k. nat_eq n.0 k.0) es) ≡ None
        → cond b ((p.0, x) ∷ es) (p ∷ insert_entry (λ a b. nat_eq a.0 b.0) es n x) ≡ p ∷ (es ++ (n, x) ∷ [])
    at true later h = cc
    at false later h = ap (λ r. p ∷ r) (later h)

texts_last : {A : Type 0} (t : PlainTables) (es : List (NameId × A)) (n : NameId) (x : A) → HaveTexts t es → HasText t n → HaveTexts t (es ++ (n, x) ∷ [])
texts_last t [] n x h hn = (hn, tt)
texts_last t (e ∷ es) n x h hn = (h.0, texts_last t es n x h.1 hn)

generics_last : (t : PlainTables) (es : List (NameId × TypeId)) (n : NameId) (x : TypeId) → HaveGenerics t es → HasType t x → HaveGenerics t (es ++ (n, x) ∷ [])
generics_last t [] n x h hx = (hx, tt)
generics_last t (e ∷ es) n x h hx = (h.0, generics_last t es n x h.1 hx)

types_last : (t : PlainTables) (es : List (NameId × ℕ)) (n : NameId) (k : ℕ) → plain_types t (es ++ (n, k) ∷ []) ≡ plain_types t es ++ (name_of t n, k) ∷ []
types_last t [] n k = refl
types_last t (e ∷ es) n k = ap (λ r. (name_of t e.0, e.1) ∷ r) (types_last t es n k)

constants_last : (t : PlainTables) (es : List (NameId × TypeId)) (n : NameId) (x : TypeId) → plain_constants t (es ++ (n, x) ∷ []) ≡ plain_constants t es ++ (name_of t n, type_of t x) ∷ []
constants_last t [] n x = refl
constants_last t (e ∷ es) n x = ap (λ r. (name_of t e.0, type_of t e.1) ∷ r) (constants_last t es n x)

pub has_text : (t : PlainTables) (n : NameId) (x : Name) → HasName t n → x ≡ name_of t n → IsUtf8 x → HasText t n
has_text t n x h e u = record { has = h; utf8 = ap is_utf8 (sym e) ∙ is_utf8-from_IsUtf8 x u }

-- a signature with one more type, and with one more constant
pub record IsLarger (t : PlainTables) (s : FlatNames) (r : Signature) : Type 0 where
  pub has : HasSignature t s
  pub is : plain_signature t s ≡ r

pub type_added : (t : PlainTables) (s : FlatNames) (es : List (NameId × ℕ)) (n : NameId) (k : ℕ) → Distinct [] t.names → HasSignature t s → HasText t n → arity_of (plain_signature t s) (name_of t n) ≡ None
    → es ≡ insert_entry (λ a b. nat_eq a.0 b.0) s.types n k → IsLarger t (record { types = es; constants = s.constants }) (with_type (plain_signature t s) (name_of t n) k)
type_added t s es n k once h hn new e = record {
  has = record { types = subst (λ (l : List (NameId × ℕ)). HaveTexts t l) (sym last) (texts_last t s.types n k h.types hn); constants = h.constants; generics = h.generics };
  is = λ j. record { types = (ap (plain_types t) last ∙ types_last t s.types n k) j; consts = plain_constants t s.constants };
}
  where
    last : es ≡ s.types ++ (n, k) ∷ []
    last = e ∙ inserted_last s.types n k (arity_found t s.types n once h.types hn.has ∙ new)

none_found : (t : PlainTables) (o : Option TypeId) (p : Option Ty) → IsGenericOf t o p → p ≡ None → o ≡ None
none_found t None p h e = refl
none_found t (Some x) p h e = cc

pub constant_added : (t : PlainTables) (s : FlatNames) (es : List (NameId × TypeId)) (n : NameId) (x : TypeId) → Distinct [] t.names → HasSignature t s → HasText t n → HasType t x → generic_of (plain_signature t s) (name_of t n) ≡ None
    → es ≡ insert_entry (λ a b. nat_eq a.0 b.0) s.constants n x → IsLarger t (record { types = s.types; constants = es }) (with_const (plain_signature t s) (name_of t n) (type_of t x))
constant_added t s es n x once h hn hx new e = record {
  has = record { types = h.types; constants = subst (λ (l : List (NameId × TypeId)). HaveTexts t l) (sym last) (texts_last t s.constants n x h.constants hn); generics = subst (λ (l : List (NameId × TypeId)). HaveGenerics t l) (sym last) (generics_last t s.constants n x h.generics hx) };
  is = λ j. record { types = plain_types t s.types; consts = (ap (plain_constants t) last ∙ constants_last t s.constants n x) j };
}
  where
    last : es ≡ s.constants ++ (n, x) ∷ []
    last = e ∙ inserted_last s.constants n x (none_found t _ _ (generic_found t s.constants n once h.constants h.generics hn.has) new)

-- ---- names that aren't text

no_entry : (t : PlainTables) (es : List (NameId × ℕ)) (n : Name) → HaveTexts t es → is_utf8 n ≡ false → entry_at (plain_types t es) n ≡ None
no_entry t [] n h e = refl
no_entry t (p ∷ es) n h e = at (bytes_eq (name_of t p.0) n) refl (no_entry t es n h.1 e)
  where
    at : (b : Bool) → bytes_eq (name_of t p.0) n ≡ b → entry_at (plain_types t es) n ≡ None → cond b (Some p.1) (entry_at (plain_types t es) n) ≡ None
    at true s later = absurd (true≢false (sym (ap is_utf8 (sym ((bytes_eq-Decides (name_of t p.0) n).0 s)) ∙ h.0.utf8) ∙ e))
    at false s later = later

pub no_arity : (t : PlainTables) (s : FlatNames) (n : Name) (k : ℕ) → HasSignature t s → is_utf8 n ≡ false → has_arity (plain_signature t s) n k ≡ false
no_arity t s n k h e = ap (λ o. is_number o k) (no_entry t s.types n h.types e)

-- the same of the signature that a struct stands for
pub type_added_in : (t : PlainTables) (v s : FlatNames) (es : List (NameId × ℕ)) (n : NameId) (k : ℕ) → v ≡ s → Distinct [] t.names → HasSignature t s → HasText t n → arity_of (plain_signature t s) (name_of t n) ≡ None
    → es ≡ insert_entry (λ a b. nat_eq a.0 b.0) v.types n k → IsLarger t (record { types = es; constants = v.constants }) (with_type (plain_signature t s) (name_of t n) k)
type_added_in t v s es n k same once h hn new e =
    subst (λ (x : FlatNames). HasSignature t x → arity_of (plain_signature t x) (name_of t n) ≡ None → IsLarger t (record { types = es; constants = v.constants }) (with_type (plain_signature t x) (name_of t n) k)) same
    (λ g new_there. type_added t v es n k once g hn new_there e) h new

pub constant_added_in : (t : PlainTables) (v s : FlatNames) (es : List (NameId × TypeId)) (n : NameId) (x : TypeId) → v ≡ s → Distinct [] t.names → HasSignature t s → HasText t n → HasType t x → generic_of (plain_signature t s) (name_of t n) ≡ None
    → es ≡ insert_entry (λ a b. nat_eq a.0 b.0) v.constants n x → IsLarger t (record { types = v.types; constants = es }) (with_const (plain_signature t s) (name_of t n) (type_of t x))
constant_added_in t v s es n x same once h hn hx new e =
    subst (λ (y : FlatNames). HasSignature t y → generic_of (plain_signature t y) (name_of t n) ≡ None → IsLarger t (record { types = v.types; constants = es }) (with_const (plain_signature t y) (name_of t n) (type_of t x))) same
    (λ g new_there. constant_added t v es n x once g hn hx new_there e) h new
