-- The canonical text of a well typed term is read as the term.
use Rattle.std.proofs.Common.{◌≡◌, ℕ, zero, suc, ◌+◌, ◌<◌, ◌≤◌, ◌^◌, Bool, true, false, not, List, [], ◌∷◌, ◌++◌, Some, length, length-append, refl, ap, sym, ◌∙◌, subst, arith}
use Rattle.std.specs.Prelude.{codes, bytes_eq}
use Rattle.std.proofs.lemmas.Slice.Eq.{bytes_eq-Decides}
use Rattle.hol_terms.specs.Name.{Name}
use Rattle.hol_terms.specs.Ty.{Ty}
use Rattle.hol_terms.specs.Tm.{Tm, tm_index, tm_free, tm_const, tm_comb, tm_abs, tm_size}
use Rattle.hol_terms.specs.Signature.{Signature, IsOver}
use Rattle.hol_terms.specs.Text.{Text, parenthesized, ty_text, bound_text, sugar, is_sugar, none, is_plain, is_atom, printed, tm_text}
use Rattle.hol_terms.specs.ReadsBack.{ReadsBack}
use Rattle.strict_reading.specs.Words.{behind}
use Rattle.strict_reading.specs.Terms.{reads_term, ends_term}
use Rattle.strict_reading.proofs.TermTexts.{operand_text, argument_text, scope_text, applied_text, negated_text, plain_operand}
use Rattle.strict_reading.proofs.TermsSound.{term_text, reads_term_sound}
use Rattle.strict_reading.proofs.TermSteps.{ReadsTm, application_reads}
use Rattle.strict_reading.proofs.TermLeaves.{index_reads, free_reads, constant_reads}
use Rattle.strict_reading.proofs.TermSigns.{around, fits_from, eq_reads, conj_reads, disj_reads, imp_reads, not_reads, abs_reads, all_reads, ex_reads}

same_name : (c n : Name) → bytes_eq c n ≡ true → c ≡ n
same_name c n e = (bytes_eq-Decides c n).0 e

tm_size-positive : (t : Tm) → 1 ≤ tm_size t
tm_size-positive (tm_index i t) = omega arith
tm_size-positive (tm_free v) = omega arith
tm_size-positive (tm_const c ts t) = omega arith
tm_size-positive (tm_comb f x) = omega arith
tm_size-positive (tm_abs t b) = omega arith

paren_length : (x : Text) → length (codes "(" ++ x ++ codes ")") ≡ length x + 2
paren_length x = omega (arith, length-append x (codes ")"))

-- the body is shorter than what stands behind the sign of its binder
scope_long : (bound : List Ty) (u : Ty) (d : Tm) → length (term_text (length (u ∷ bound)) d) < length (scope_text (length bound) u d)
scope_long bound u d =
    let X = bound_text (length bound) in
    let T = ty_text u in
    let B = (printed (length bound + 1) d).whole in
    let one : length bound + 1 ≡ suc (length bound) = omega arith in
    let same : length B ≡ length (term_text (length (u ∷ bound)) d) = ap (λ n. length (printed n d).whole) one in
    omega (arith, same, length-append (X ++ codes ":" ++ T ++ codes ". ") B, length-append (X ++ codes ":" ++ T) (codes ". "), length-append (X ++ codes ":") T, length-append X (codes ":"))

-- the terms up to a size, of texts that fit
abbrev pub Smaller : ℕ → Signature → Type 0
Smaller m s = (bound : List Ty) (t : Tm) → tm_size t ≤ m → length bound + length (term_text (length bound) t) < 2 ^ 64 → IsOver s bound t → ReadsTm s bound t

operand_long : (bound : List Ty) (t : Tm) → length (term_text (length bound) t) ≤ length (operand_text (length bound) t)
operand_long bound t = at (is_plain t)
  where
    at : (b : Bool) → length (term_text (length bound) t) ≤ length (parenthesized (not b) (term_text (length bound) t))
    at true = omega arith
    at false = omega (arith, paren_length (term_text (length bound) t))

argument_long : (bound : List Ty) (t : Tm) → length (term_text (length bound) t) ≤ length (argument_text (length bound) t)
argument_long bound t = at (is_atom t)
  where
    at : (b : Bool) → length (term_text (length bound) t) ≤ length (parenthesized (not b) (term_text (length bound) t))
    at true = omega arith
    at false = omega (arith, paren_length (term_text (length bound) t))

-- ---- applications

plain_case : (m : ℕ) (s : Signature) → ReadsBack s → Smaller m s → (bound : List Ty) (f x : Tm) → sugar f x ≡ none → tm_size (tm_comb f x) ≤ suc m
    → length bound + length (term_text (length bound) (tm_comb f x)) < 2 ^ 64 → IsOver s bound (tm_comb f x) → ReadsTm s bound (tm_comb f x)
plain_case m s b small bound f x e z l o =
    let u = ap is_sugar e in
    let text : operand_text (length bound) f ++ codes " " ++ argument_text (length bound) x ≡ term_text (length bound) (tm_comb f x) = sym (applied_text (length bound) f x u) ∙ plain_operand (length bound) (tm_comb f x) (ap not u) in
    let size = length-append (operand_text (length bound) f ++ codes " ") (argument_text (length bound) x) in
    let more = length-append (operand_text (length bound) f) (codes " ") in
    let whole = ap length text in
    let lf = operand_long bound f in
    let lx = argument_long bound x in
    application_reads s bound f x u (fits_from s bound f x o) (small bound f (omega (arith, z)) (omega (arith, size, more, whole, lf, l)) o.0) (small bound x (omega (arith, z)) (omega (arith, size, more, whole, lx, l)) o.1)

-- two operands, from the length of their text
infix_parts : (m : ℕ) (s : Signature) → Smaller m s → (bound : List Ty) (c sign : Text) (ts : List Ty) (ty : Ty) (a x : Tm) → term_text (length bound) (around c ts ty a x) ≡ (operand_text (length bound) a ++ sign) ++ operand_text (length bound) x
    → tm_size (around c ts ty a x) ≤ suc m → length bound + length (term_text (length bound) (around c ts ty a x)) < 2 ^ 64 → IsOver s bound (around c ts ty a x) → ReadsTm s bound a × ReadsTm s bound x
infix_parts m s small bound c sign ts ty a x e z l o =
    let sum = length-append (operand_text (length bound) a ++ sign) (operand_text (length bound) x) in
    let more = length-append (operand_text (length bound) a) sign in
    let whole = ap length e in
    (small bound a (omega (arith, z)) (omega (arith, sum, more, whole, operand_long bound a, l)) o.0.1, small bound x (omega (arith, z)) (omega (arith, sum, more, whole, operand_long bound x, l)) o.1)

-- what is to be shown of two operands and a constant
abbrev Infix : ℕ → Signature → List Ty → List Ty → Ty → Tm → Tm → Name → Type 0
Infix m s bound ts ty a x c = tm_size (around c ts ty a x) ≤ suc m → length bound + length (term_text (length bound) (around c ts ty a x)) < 2 ^ 64 → IsOver s bound (around c ts ty a x) → ReadsTm s bound (around c ts ty a x)

eq_case : (m : ℕ) (s : Signature) → ReadsBack s → Smaller m s → (bound ts : List Ty) (ty : Ty) (a x : Tm) → Infix m s bound ts ty a x (codes "eq")
eq_case m s b small bound ts ty a x z l o = let p = infix_parts m s small bound (codes "eq") (codes " = ") ts ty a x refl z l o in eq_reads s bound ts ty a x b o p.0 p.1

conj_case : (m : ℕ) (s : Signature) → ReadsBack s → Smaller m s → (bound ts : List Ty) (ty : Ty) (a x : Tm) → Infix m s bound ts ty a x (codes "conj")
conj_case m s b small bound ts ty a x z l o = let p = infix_parts m s small bound (codes "conj") (codes " /\\ ") ts ty a x refl z l o in conj_reads s bound ts ty a x b o p.0 p.1

disj_case : (m : ℕ) (s : Signature) → ReadsBack s → Smaller m s → (bound ts : List Ty) (ty : Ty) (a x : Tm) → Infix m s bound ts ty a x (codes "disj")
disj_case m s b small bound ts ty a x z l o = let p = infix_parts m s small bound (codes "disj") (codes " \\/ ") ts ty a x refl z l o in disj_reads s bound ts ty a x b o p.0 p.1

imp_case : (m : ℕ) (s : Signature) → ReadsBack s → Smaller m s → (bound ts : List Ty) (ty : Ty) (a x : Tm) → Infix m s bound ts ty a x (codes "imp")
imp_case m s b small bound ts ty a x z l o = let p = infix_parts m s small bound (codes "imp") (codes " ==> ") ts ty a x refl z l o in imp_reads s bound ts ty a x b o p.0 p.1

infix_case : (m : ℕ) (s : Signature) → ReadsBack s → Smaller m s → (bound ts : List Ty) (ty : Ty) (a x : Tm) (c : Name) → Infix m s bound ts ty a x c
infix_case m s b small bound ts ty a x c = at (bytes_eq c (codes "eq")) (bytes_eq c (codes "conj")) (bytes_eq c (codes "disj")) (bytes_eq c (codes "imp")) refl refl refl refl
  where
    at : (p q r t : Bool) → bytes_eq c (codes "eq") ≡ p → bytes_eq c (codes "conj") ≡ q → bytes_eq c (codes "disj") ≡ r → bytes_eq c (codes "imp") ≡ t → Infix m s bound ts ty a x c
    at true q r t e f g h = subst (Infix m s bound ts ty a x) (sym (same_name c (codes "eq") e)) (eq_case m s b small bound ts ty a x)
    at false true r t e f g h = subst (Infix m s bound ts ty a x) (sym (same_name c (codes "conj") f)) (conj_case m s b small bound ts ty a x)
    at false false true t e f g h = subst (Infix m s bound ts ty a x) (sym (same_name c (codes "disj") g)) (disj_case m s b small bound ts ty a x)
    at false false false true e f g h = subst (Infix m s bound ts ty a x) (sym (same_name c (codes "imp") h)) (imp_case m s b small bound ts ty a x)
    at false false false false e f g h = λ z l o. plain_case m s b small bound (tm_comb (tm_const c ts ty) a) x (rw (e, f, g, h) refl) z l o

-- what is to be shown of a constant and its argument
abbrev Applied : ℕ → Signature → List Ty → List Ty → Ty → Tm → Name → Type 0
Applied m s bound ts ty x c =
    tm_size (tm_comb (tm_const c ts ty) x) ≤ suc m → length bound + length (term_text (length bound) (tm_comb (tm_const c ts ty) x)) < 2 ^ 64 → IsOver s bound (tm_comb (tm_const c ts ty) x) → ReadsTm s bound (tm_comb (tm_const c ts ty) x)

not_case : (m : ℕ) (s : Signature) → ReadsBack s → Smaller m s → (bound ts : List Ty) (ty : Ty) (x : Tm) → Applied m s bound ts ty x (codes "not")
not_case m s b small bound ts ty x z l o =
    not_reads s bound ts ty x b o (small bound x (omega (arith, z)) (omega (arith, ap length (negated_text (length bound) ts ty x), operand_long bound x, l)) o.1)

-- the body of a binder
body_of : (m : ℕ) (s : Signature) → Smaller m s → (bound : List Ty) (u : Ty) (d : Tm) → tm_size d ≤ m → length bound + length (scope_text (length bound) u d) < 2 ^ 64 → IsOver s bound (tm_abs u d) → ReadsTm s (u ∷ bound) d
body_of m s small bound u d z l o = small (u ∷ bound) d z (omega (arith, scope_long bound u d, l)) o.1

all_case : (m : ℕ) (s : Signature) → ReadsBack s → Smaller m s → (bound ts : List Ty) (ty u : Ty) (d : Tm) → Applied m s bound ts ty (tm_abs u d) (codes "all")
all_case m s b small bound ts ty u d z l o = all_reads s bound ts ty u d b o (body_of m s small bound u d (omega (arith, z)) (omega (arith, l)) o.1)

ex_case : (m : ℕ) (s : Signature) → ReadsBack s → Smaller m s → (bound ts : List Ty) (ty u : Ty) (d : Tm) → Applied m s bound ts ty (tm_abs u d) (codes "ex")
ex_case m s b small bound ts ty u d z l o = ex_reads s bound ts ty u d b o (body_of m s small bound u d (omega (arith, z)) (omega (arith, l)) o.1)

-- a constant that is not `not`
other_case : (m : ℕ) (s : Signature) → ReadsBack s → Smaller m s → (bound ts : List Ty) (ty : Ty) (x : Tm) (c : Name) → bytes_eq c (codes "not") ≡ false → Applied m s bound ts ty x c
other_case m s b small bound ts ty (tm_abs u d) c e = at (bytes_eq c (codes "all")) (bytes_eq c (codes "ex")) refl refl
  where
    at : (p q : Bool) → bytes_eq c (codes "all") ≡ p → bytes_eq c (codes "ex") ≡ q → Applied m s bound ts ty (tm_abs u d) c
    at true q f g = subst (Applied m s bound ts ty (tm_abs u d)) (sym (same_name c (codes "all") f)) (all_case m s b small bound ts ty u d)
    at false true f g = subst (Applied m s bound ts ty (tm_abs u d)) (sym (same_name c (codes "ex") g)) (ex_case m s b small bound ts ty u d)
    at false false f g = λ z l o. plain_case m s b small bound (tm_const c ts ty) (tm_abs u d) (rw (e, f, g) refl) z l o
other_case m s b small bound ts ty (tm_index i t) c e = λ z l o. plain_case m s b small bound (tm_const c ts ty) (tm_index i t) (rw e refl) z l o
other_case m s b small bound ts ty (tm_free v) c e = λ z l o. plain_case m s b small bound (tm_const c ts ty) (tm_free v) (rw e refl) z l o
other_case m s b small bound ts ty (tm_const n us t) c e = λ z l o. plain_case m s b small bound (tm_const c ts ty) (tm_const n us t) (rw e refl) z l o
other_case m s b small bound ts ty (tm_comb f x) c e = λ z l o. plain_case m s b small bound (tm_const c ts ty) (tm_comb f x) (rw e refl) z l o

constant_case : (m : ℕ) (s : Signature) → ReadsBack s → Smaller m s → (bound ts : List Ty) (ty : Ty) (x : Tm) (c : Name) → Applied m s bound ts ty x c
constant_case m s b small bound ts ty x c = at (bytes_eq c (codes "not")) refl
  where
    at : (p : Bool) → bytes_eq c (codes "not") ≡ p → Applied m s bound ts ty x c
    at true e = subst (Applied m s bound ts ty x) (sym (same_name c (codes "not") e)) (not_case m s b small bound ts ty x)
    at false e = other_case m s b small bound ts ty x c e

application_case : (m : ℕ) (s : Signature) → ReadsBack s → Smaller m s → (bound : List Ty) (f x : Tm) → tm_size (tm_comb f x) ≤ suc m
    → length bound + length (term_text (length bound) (tm_comb f x)) < 2 ^ 64 → IsOver s bound (tm_comb f x) → ReadsTm s bound (tm_comb f x)
application_case m s b small bound (tm_index i t) x z l o = plain_case m s b small bound (tm_index i t) x refl z l o
application_case m s b small bound (tm_free v) x z l o = plain_case m s b small bound (tm_free v) x refl z l o
application_case m s b small bound (tm_const c ts ty) x z l o = constant_case m s b small bound ts ty x c z l o
application_case m s b small bound (tm_comb (tm_index i t) a) x z l o = plain_case m s b small bound (tm_comb (tm_index i t) a) x refl z l o
application_case m s b small bound (tm_comb (tm_free v) a) x z l o = plain_case m s b small bound (tm_comb (tm_free v) a) x refl z l o
application_case m s b small bound (tm_comb (tm_const c ts ty) a) x z l o = infix_case m s b small bound ts ty a x c z l o
application_case m s b small bound (tm_comb (tm_comb g y) a) x z l o = plain_case m s b small bound (tm_comb (tm_comb g y) a) x refl z l o
application_case m s b small bound (tm_comb (tm_abs t d) a) x z l o = plain_case m s b small bound (tm_comb (tm_abs t d) a) x refl z l o
application_case m s b small bound (tm_abs t d) x z l o = plain_case m s b small bound (tm_abs t d) x refl z l o

-- ---- every term

terms_read : (m : ℕ) (s : Signature) → ReadsBack s → Smaller m s
terms_read zero s b bound t z l o = absurd (omega (arith, tm_size-positive t, z))
terms_read (suc m) s b bound (tm_index i t) z l o = index_reads s bound i t o.0 (omega (arith, l))
terms_read (suc m) s b bound (tm_free v) z l o = free_reads s bound b.types_named v o.0 o.1
terms_read (suc m) s b bound (tm_const c ts t) z l o = constant_reads s bound c ts t b (omega (arith, l)) o
terms_read (suc m) s b bound (tm_comb f x) z l o = application_case m s b (λ c t. terms_read m s b c t) bound f x z l o
terms_read (suc m) s b bound (tm_abs u d) z l o = abs_reads s bound u d b.types_named o (body_of m s (λ c t. terms_read m s b c t) bound u d (omega (arith, z)) (omega (arith, l)) o)

pub reads_term_complete : (s : Signature) (bound : List Ty) (t : Tm) (rest : Text) → ReadsBack s → IsOver s bound t → length bound + length (printed (length bound) t).whole < 2 ^ 64 → ends_term rest ≡ true
    → reads_term s bound ((printed (length bound) t).whole ++ rest) ≡ Some (t, rest)
unfolding reads_term
reads_term_complete s bound t rest b o l e =
    let small : tm_size t ≤ tm_size t = omega arith in
    (terms_read (tm_size t) s b bound t small l o).whole (length (term_text (length bound) t ++ rest) + 1) rest e (omega arith)

-- ---- whole texts

no_more : (x : Text) → x ++ [] ≡ x
no_more [] = refl
no_more (c ∷ x) = ap (λ y. c ∷ y) (no_more x)

pub whole_sound : (s : Signature) (x : Text) (t : Tm) → reads_term s [] x ≡ Some (t, []) → (x ≡ tm_text t) × IsOver s [] t
whole_sound s x t h = let r = reads_term_sound s [] x t [] tt h in (r.text ∙ no_more (tm_text t), r.over)

pub whole_complete : (s : Signature) (x : Text) (t : Tm) → ReadsBack s → length x < 2 ^ 64 → x ≡ tm_text t → IsOver s [] t → reads_term s [] x ≡ Some (t, [])
unfolding behind
whole_complete s x t b l e o =
    ap (reads_term s []) (e ∙ sym (no_more (tm_text t))) ∙ reads_term_complete s [] t [] b o (omega (arith, ap length e, l)) refl
