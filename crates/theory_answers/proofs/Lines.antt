-- Names, and canonical texts over names, have no newline.
use Rattle.std.proofs.Common.{◌≡◌, inl, inr, refl, sym, ap, ◌∙◌, subst, ℕ, zero, suc, ◌+◌, ◌-◌, ◌/◌, ◌%◌, ◌<◌, Bool, true, false, cond, not, ◌&&◌, ◌||◌, ◌==◌, List, [], ◌∷◌, ◌++◌, Some, None, arith, eqb-true, nat_lt}
use Rattle.std.specs.Prelude.{bytes_eq, codes}
use Rattle.std.specs.List.{list_all, flat_map}
use Rattle.std.specs.Fmt.{decimal, digits, digits_onto, digit_glyph}
use Rattle.std.specs.Str.{chars, is_utf8}
use Rattle.std.proofs.lemmas.Bool.{true≢false, and_parts, and_from, or_cases, not_from_false, ne_eqb, false_from_ne_true}
use Rattle.std.proofs.lemmas.Slice.Eq.{bytes_eq-Decides}
use Rattle.std.proofs.lemmas.Str.{IsUtf8-from_is_utf8, encodes-chars}
use lib.Dec.{ltb}
use lib.Utf8.{encode, encodes, next}
use Rattle.unicode_ident.specs.Ident.{is_xid_continue}
use Rattle.hol_terms.specs.Name.{Name, is_start, is_segment_of, on_step, are_segments_of, is_keyword, is_segment, is_name}
use Rattle.hol_terms.specs.Ty.{Ty, ty_var, ty_app, Tys, no_tys, more_tys, tys}
use Rattle.hol_terms.specs.Tm.{Tm, tm_index, tm_free, tm_const, tm_comb, tm_abs}
use Rattle.hol_terms.specs.Typing.{tm_type, first_ty}
use Rattle.hol_terms.specs.TyVars.{ty_vars, tys_vars, with_var, is_among, own_const}
use Rattle.hol_terms.specs.Signature.{Signature, entry_at, IsTyOver, AreTysOver, IsOver}
use Rattle.hol_terms.specs.Definition.{signature_of}
use Rattle.hol_terms.specs.Base.{base, base_definitions}
use Rattle.hol_terms.specs.Sequent.{eq_tm, argument}
use Rattle.hol_terms.specs.Tokens.{starts, continues}
use Rattle.hol_terms.specs.Text.{Text, ty_text, tys_texts, parenthesized, with_arguments, with_commas, application_text, is_arrow, bound_text, Sugar, between, before, binding, none, sign_between, sign_binding, sign_before, sugar, whole_text, is_plain, is_atom, is_function, Printed, printed, tm_text}
use Rattle.hol_terms.proofs.BaseOpened.{opened_bases}
use Rattle.hol_text.proofs.Characters.{starts-is, continues-is}
use Rattle.base_count.specs.InForce.{in_force}
use Rattle.theory_answers.proofs.OutputLines.{is_line}

pub line_append : (a b : Text) → is_line a ≡ true → is_line b ≡ true → is_line (a ++ b) ≡ true
line_append [] b h k = k
line_append (c ∷ a) b h k = let p = and_parts (not (c == 10)) (is_line a) h in and_from (not (c == 10)) (is_line (a ++ b)) p.0 (line_append a b p.1 k)

-- ---- characters

abbrev no_newline : ℕ → Bool
no_newline c = not (c == 10)

past : (x : ℕ) → 10 < x → no_newline x ≡ true
past x h = not_from_false (x == 10) (ne_eqb x 10 (λ e. omega arith))

follows : (c : ℕ) → no_newline (next c) ≡ true
follows c = past (next c) (omega arith)

-- the bytes of a character other than the newline
char_line : (c : ℕ) → no_newline c ≡ true → is_line (encode c) ≡ true
unfolding encode
char_line c h = at (ltb c 128) (ltb c 2048) (ltb c 65536)
  where
    two : (x y : ℕ) → no_newline x ≡ true → no_newline y ≡ true → is_line (x ∷ y ∷ []) ≡ true
    two x y p q = rw (p, q) refl

    three : (x y z : ℕ) → no_newline x ≡ true → no_newline y ≡ true → no_newline z ≡ true → is_line (x ∷ y ∷ z ∷ []) ≡ true
    three x y z p q r = rw (p, q, r) refl

    four : (x y z w : ℕ) → no_newline x ≡ true → no_newline y ≡ true → no_newline z ≡ true → no_newline w ≡ true → is_line (x ∷ y ∷ z ∷ w ∷ []) ≡ true
    four x y z w p q r s = rw (p, q, r, s) refl

    at : (x y z : Bool) → is_line (cond x (c ∷ []) (cond y ((192 + c / 64) ∷ next c ∷ []) (cond z ((224 + c / 4096) ∷ next (c / 64) ∷ next c ∷ []) ((240 + c / 262144) ∷ next (c / 4096) ∷ next (c / 64) ∷ next c ∷ [])))) ≡ true
    at true y z = rw h refl
    at false true z = two (192 + c / 64) (next c) (past (192 + c / 64) (omega arith)) (follows c)
    at false false true = three (224 + c / 4096) (next (c / 64)) (next c) (past (224 + c / 4096) (omega arith)) (follows (c / 64)) (follows c)
    at false false false = four (240 + c / 262144) (next (c / 4096)) (next (c / 64)) (next c) (past (240 + c / 262144) (omega arith)) (follows (c / 4096)) (follows (c / 64)) (follows c)

chars_line : (cs : List ℕ) → list_all no_newline cs ≡ true → is_line (encodes cs) ≡ true
chars_line [] h = refl
chars_line (c ∷ cs) h = let p = and_parts (no_newline c) (list_all no_newline cs) h in line_append (encode c) (encodes cs) (char_line c p.0) (chars_line cs p.1)

text_line : (n : Name) → is_utf8 n ≡ true → list_all no_newline (chars n) ≡ true → is_line n ≡ true
text_line n u h = subst (λ (m : Name). is_line m ≡ true) (encodes-chars n (IsUtf8-from_is_utf8 n u)) (chars_line (chars n) h)

-- a character that passes a test which the newline does not
other : (p : ℕ → Bool) (c : ℕ) → p 10 ≡ false → p c ≡ true → no_newline c ≡ true
other p c e h = not_from_false (c == 10) (false_from_ne_true (c == 10) (λ q. true≢false (sym h ∙ ap p (eqb-true c 10 q) ∙ e)))

start_line : (c : ℕ) → is_start c ≡ true → no_newline c ≡ true
start_line c h = other starts c refl (starts-is c ∙ h)

more_line : (c : ℕ) → is_xid_continue c ≡ true → no_newline c ≡ true
more_line c h = other continues c refl (continues-is c ∙ h)

dot_line : (c : ℕ) → (c == 46) ≡ true → no_newline c ≡ true
dot_line c h = other (λ d. d == 46) c refl h

-- ---- names

all_more : (cs : List ℕ) → list_all is_xid_continue cs ≡ true → list_all no_newline cs ≡ true
all_more [] h = refl
all_more (c ∷ cs) h = let p = and_parts (is_xid_continue c) (list_all is_xid_continue cs) h in and_from (no_newline c) (list_all no_newline cs) (more_line c p.0) (all_more cs p.1)

segment_chars : (cs : List ℕ) → is_segment_of cs ≡ true → list_all no_newline cs ≡ true
segment_chars [] h = refl
segment_chars (c ∷ cs) h = let p = and_parts (is_start c) (list_all is_xid_continue cs) h in and_from (no_newline c) (list_all no_newline cs) (start_line c p.0) (all_more cs p.1)

pub segment_line : (n : Name) → is_segment n ≡ true → is_line n ≡ true
unfolding is_segment
segment_line n h = let p = and_parts (is_utf8 n) (is_segment_of (chars n)) h in text_line n p.0 (segment_chars (chars n) p.1)

segments_chars : (w : Bool) (cs : List ℕ) → are_segments_of w cs ≡ true → list_all no_newline cs ≡ true
segments_chars w [] h = refl
segments_chars false (c ∷ cs) h = at (is_start c) refl (segments_chars true cs) h
  where
    at : (b : Bool) → is_start c ≡ b → (are_segments_of true cs ≡ true → list_all no_newline cs ≡ true) → on_step (cond b (Some true) None) (λ v. are_segments_of v cs) ≡ true → list_all no_newline (c ∷ cs) ≡ true
    at true e f g = and_from (no_newline c) (list_all no_newline cs) (start_line c e) (f g)
    at false e f g = cc
segments_chars true (c ∷ cs) h = at (c == 46) (is_xid_continue c) refl refl (segments_chars false cs) (segments_chars true cs) h
  where
    at : (d b : Bool) → (c == 46) ≡ d → is_xid_continue c ≡ b → (are_segments_of false cs ≡ true → list_all no_newline cs ≡ true) → (are_segments_of true cs ≡ true → list_all no_newline cs ≡ true)
        → on_step (cond d (Some false) (cond b (Some true) None)) (λ v. are_segments_of v cs) ≡ true → list_all no_newline (c ∷ cs) ≡ true
    at true b e q f k g = and_from (no_newline c) (list_all no_newline cs) (dot_line c e) (f g)
    at false true e q f k g = and_from (no_newline c) (list_all no_newline cs) (more_line c q) (k g)
    at false false e q f k g = cc

pub name_line : (n : Name) → is_name n ≡ true → is_line n ≡ true
unfolding is_name
name_line n h =
    let p = and_parts (is_utf8 n && (are_segments_of false (chars n) || bytes_eq n (codes "0"))) (not (is_keyword n)) h in
    let q = and_parts (is_utf8 n) (are_segments_of false (chars n) || bytes_eq n (codes "0")) p.0 in
    elim (or_cases (are_segments_of false (chars n)) (bytes_eq n (codes "0")) q.1) [
      | inl s ↦ text_line n q.0 (segments_chars false (chars n) s)
      | inr z ↦ ap is_line ((bytes_eq-Decides n (codes "0")).0 z)
    ]

-- ---- the names of the base definitions

abbrev are_lines : {A : Type 0} → List (Name × A) → Bool
are_lines es = list_all (λ e. is_line e.0) es

found_line : {A : Type 0} (es : List (Name × A)) (n : Name) (x : A) → are_lines es ≡ true → entry_at es n ≡ Some x → is_line n ≡ true
found_line [] n x h e = cc
found_line (p ∷ es) n x h e =
    let q = and_parts (is_line p.0) (are_lines es) h in
    at (bytes_eq p.0 n) refl q.0 (found_line es n x q.1) e
  where
    at : (b : Bool) → bytes_eq p.0 n ≡ b → is_line p.0 ≡ true → (entry_at es n ≡ Some x → is_line n ≡ true) → cond b (Some p.1) (entry_at es n) ≡ Some x → is_line n ≡ true
    at true s l f g = subst (λ (m : Name). is_line m ≡ true) ((bytes_eq-Decides p.0 n).0 s) l
    at false s l f g = f g

-- the names of types and constants of a signature have no newline
pub record NamesAreLines (s : Signature) : Type 0 where
  pub types : are_lines s.types ≡ true
  pub consts : are_lines s.consts ≡ true

base_types : are_lines (signature_of (base in_force)).types ≡ true
unfolding opened_bases base_definitions
base_types = refl

base_consts : are_lines (signature_of (base in_force)).consts ≡ true
unfolding opened_bases base_definitions
base_consts = refl

pub base_lines : NamesAreLines (signature_of (base in_force))
base_lines = record { types = base_types; consts = base_consts }

-- ---- types

-- a type whose names have no newline
abbrev mutual
  pub is_type_line : Ty → Bool
  is_type_line (ty_var n) = is_line n
  is_type_line (ty_app c ts) = is_line c && are_type_lines ts

  pub are_type_lines : Tys → Bool
  are_type_lines no_tys = true
  are_type_lines (more_tys t ts) = is_type_line t && are_type_lines ts

mutual
  pub type_is_line : (s : Signature) (t : Ty) → NamesAreLines s → IsTyOver s t → is_type_line t ≡ true
  type_is_line s (ty_var n) l h = segment_line n h
  type_is_line s (ty_app c ts) l h = and_from (is_line c) (are_type_lines ts) (found_line s.types c _ l.types h.0) (types_are_lines s ts l h.1)

  types_are_lines : (s : Signature) (ts : Tys) → NamesAreLines s → AreTysOver s ts → are_type_lines ts ≡ true
  types_are_lines s no_tys l h = refl
  types_are_lines s (more_tys t ts) l h = and_from (is_type_line t) (are_type_lines ts) (type_is_line s t l h.0) (types_are_lines s ts l h.1)

parenthesized_line : (b : Bool) (x : Text) → is_line x ≡ true → is_line (parenthesized b x) ≡ true
parenthesized_line true x h = line_append (codes "(" ++ x) (codes ")") (line_append (codes "(") x refl h) refl
parenthesized_line false x h = h

commas_line : (xs : List Text) → list_all is_line xs ≡ true → is_line (flat_map (λ y. codes "," ++ y) xs) ≡ true
commas_line [] h = refl
commas_line (x ∷ xs) h =
    let p = and_parts (is_line x) (list_all is_line xs) h in
    line_append (codes "," ++ x) (flat_map (λ y. codes "," ++ y) xs) (line_append (codes ",") x refl p.0) (commas_line xs p.1)

list_line : (x : Text) (xs : List Text) → is_line x ≡ true → list_all is_line xs ≡ true → is_line (with_commas (x ∷ xs)) ≡ true
list_line x xs h k = line_append x (flat_map (λ y. codes "," ++ y) xs) h (commas_line xs k)

applied_line : (c : Name) (ts : Tys) (xs : List Text) → is_line c ≡ true → list_all is_line xs ≡ true → is_line (application_text c ts xs) ≡ true
applied_line c ts [] h k = h
applied_line c ts (x ∷ []) h k =
    let p = and_parts (is_line x) true k in
    let l = parenthesized (is_function (first_ty ts)) x in
    line_append (l ++ codes " ") c (line_append l (codes " ") (parenthesized_line (is_function (first_ty ts)) x p.0) refl) h
applied_line c ts (x ∷ y ∷ ys) h k =
    let p = and_parts (is_line x) (list_all is_line (y ∷ ys)) k in
    let q = and_parts (is_line y) (list_all is_line ys) p.1 in
    let l = parenthesized (is_function (first_ty ts)) x in
    let arrow_is : is_line (l ++ codes " -> " ++ y) ≡ true = line_append (l ++ codes " -> ") y (line_append l (codes " -> ") (parenthesized_line (is_function (first_ty ts)) x p.0) refl) q.0 in
    let all = with_commas (x ∷ y ∷ ys) in
    let name_is : is_line (parenthesized true all ++ codes " " ++ c) ≡ true =
    line_append (parenthesized true all ++ codes " ") c (line_append (parenthesized true all) (codes " ") (parenthesized_line true all (list_line x (y ∷ ys) p.0 p.1)) refl) h in
    at (is_arrow c ts) arrow_is name_is
  where
    at : (b : Bool) → is_line (parenthesized (is_function (first_ty ts)) x ++ codes " -> " ++ y) ≡ true → is_line (parenthesized true (with_commas (x ∷ y ∷ ys)) ++ codes " " ++ c) ≡ true
        → is_line (cond b (parenthesized (is_function (first_ty ts)) x ++ codes " -> " ++ y) (parenthesized true (with_commas (x ∷ y ∷ ys)) ++ codes " " ++ c)) ≡ true
    at true a n = a
    at false a n = n

mutual
  pub type_line : (t : Ty) → is_type_line t ≡ true → is_line (ty_text t) ≡ true
  type_line (ty_var n) h = line_append (codes "'") n refl h
  type_line (ty_app c ts) h = let p = and_parts (is_line c) (are_type_lines ts) h in applied_line c ts (tys_texts ts) p.0 (types_lines ts p.1)

  types_lines : (ts : Tys) → are_type_lines ts ≡ true → list_all is_line (tys_texts ts) ≡ true
  types_lines no_tys h = refl
  types_lines (more_tys t ts) h = let p = and_parts (is_type_line t) (are_type_lines ts) h in and_from (is_line (ty_text t)) (list_all is_line (tys_texts ts)) (type_line t p.0) (types_lines ts p.1)

-- ---- numbers

glyph_line : (d : ℕ) → not (digit_glyph false d == 10) ≡ true
glyph_line d = at (nat_lt d 10)
  where
    at : (b : Bool) → not (cond b (48 + d) (87 + d) == 10) ≡ true
    at true = not_from_false (48 + d == 10) (ne_eqb (48 + d) 10 (λ e. omega arith))
    at false = not_from_false (87 + d == 10) (ne_eqb (87 + d) 10 (λ e. omega arith))

digits_line : (k n : ℕ) (acc : Text) → is_line acc ≡ true → is_line (digits_onto k 10 false n acc) ≡ true
digits_line zero n acc h = h
digits_line (suc k) n acc h =
    let more : is_line (digit_glyph false (n % 10) ∷ acc) ≡ true = and_from (not (digit_glyph false (n % 10) == 10)) (is_line acc) (glyph_line (n % 10)) h in
    at (n / 10 == 0) more (digits_line k (n / 10) (digit_glyph false (n % 10) ∷ acc) more)
  where
    at : (b : Bool) → is_line (digit_glyph false (n % 10) ∷ acc) ≡ true → is_line (digits_onto k 10 false (n / 10) (digit_glyph false (n % 10) ∷ acc)) ≡ true →
        is_line (cond b (digit_glyph false (n % 10) ∷ acc) (digits_onto k 10 false (n / 10) (digit_glyph false (n % 10) ∷ acc))) ≡ true
    at true x y = x
    at false x y = y

pub decimal_line : (n : ℕ) → is_line (decimal n) ≡ true
unfolding digits
decimal_line n = digits_line 64 n [] refl

-- ---- terms

-- a term whose names have no newline
abbrev pub is_term_line : Tm → Bool
is_term_line (tm_index i t) = true
is_term_line (tm_free v) = is_line v.name && is_type_line v.ty
is_term_line (tm_const c ts t) = is_line c && are_type_lines (tys ts)
is_term_line (tm_comb f x) = is_term_line f && is_term_line x
is_term_line (tm_abs t b) = is_type_line t && is_term_line b

pub term_is_line : (s : Signature) (bound : List Ty) (t : Tm) → NamesAreLines s → IsOver s bound t → is_term_line t ≡ true
term_is_line s bound (tm_index i t) l h = refl
term_is_line s bound (tm_free v) l h = and_from (is_line v.name) (is_type_line v.ty) (name_line v.name h.0) (type_is_line s v.ty l h.1)
term_is_line s bound (tm_const c ts t) l h = and_from (is_line c) (are_type_lines (tys ts)) (found_line s.consts c h.generic l.consts h.known) (types_are_lines s (tys ts) l h.over)
term_is_line s bound (tm_comb f x) l h = and_from (is_term_line f) (is_term_line x) (term_is_line s bound f l h.0) (term_is_line s bound x l h.1)
term_is_line s bound (tm_abs t b) l h = and_from (is_type_line t) (is_term_line b) (type_is_line s t l h.0) (term_is_line s (t ∷ bound) b l h.1)

-- the signs of sugar
abbrev IsSignLine : Sugar → Type 0
IsSignLine (between sign) = is_line sign ≡ true
IsSignLine before = Unit {0}
IsSignLine (binding sign) = is_line sign ≡ true
IsSignLine none = Unit {0}

chosen : (b : Bool) (s t : Sugar) → IsSignLine s → IsSignLine t → IsSignLine (cond b s t)
chosen true s t h k = h
chosen false s t h k = k

between_line : (c : Name) → IsSignLine (sign_between c)
between_line c = chosen (bytes_eq c (codes "eq")) _ _ refl (chosen (bytes_eq c (codes "conj")) _ _ refl (chosen (bytes_eq c (codes "disj")) _ _ refl (chosen (bytes_eq c (codes "imp")) _ _ refl tt)))

binding_line : (c : Name) → IsSignLine (sign_binding c)
binding_line c = chosen (bytes_eq c (codes "all")) _ _ refl (chosen (bytes_eq c (codes "ex")) _ _ refl tt)

before_line : (c : Name) (s : Sugar) → IsSignLine s → IsSignLine (sign_before c s)
before_line c s h = chosen (bytes_eq c (codes "not")) before s tt h

const_line : (c : Name) (ts : List Ty) (t : Ty) (x : Tm) → IsSignLine (sugar (tm_const c ts t) x)
const_line c ts t (tm_index i u) = before_line c none tt
const_line c ts t (tm_free v) = before_line c none tt
const_line c ts t (tm_const d us u) = before_line c none tt
const_line c ts t (tm_comb f y) = before_line c none tt
const_line c ts t (tm_abs u b) = before_line c (sign_binding c) (binding_line c)

comb_line : (f a x : Tm) → IsSignLine (sugar (tm_comb f a) x)
comb_line (tm_index i u) a x = tt
comb_line (tm_free v) a x = tt
comb_line (tm_const c ts t) a x = between_line c
comb_line (tm_comb f b) a x = tt
comb_line (tm_abs u b) a x = tt

sugar_line : (f x : Tm) → IsSignLine (sugar f x)
sugar_line (tm_index i u) x = tt
sugar_line (tm_free v) x = tt
sugar_line (tm_const c ts t) x = const_line c ts t x
sugar_line (tm_comb f a) x = comb_line f a x
sugar_line (tm_abs u b) x = tt

record IsPrintedLine (p : Printed) : Type 0 where
  whole : is_line p.whole ≡ true
  operand : is_line p.operand ≡ true
  scope : is_line p.scope ≡ true

whole_line : (s : Sugar) (f x : Tm) (F X : Printed) → IsSignLine s → IsPrintedLine F → IsPrintedLine X → is_line (whole_text s f x F X) ≡ true
whole_line (between sign) f x F X h a b =
    let l = parenthesized (not (is_plain (argument f))) F.operand in
    let r = parenthesized (not (is_plain x)) X.whole in
    line_append (l ++ sign) r (line_append l sign (parenthesized_line (not (is_plain (argument f))) F.operand a.operand) h) (parenthesized_line (not (is_plain x)) X.whole b.whole)
whole_line before f x F X h a b = line_append (codes "~ ") (parenthesized (not (is_plain x)) X.whole) refl (parenthesized_line (not (is_plain x)) X.whole b.whole)
whole_line (binding sign) f x F X h a b = line_append sign X.scope h b.scope
whole_line none f x F X h a b =
    let l = parenthesized (not (is_plain f)) F.whole in
    line_append (l ++ codes " ") (parenthesized (not (is_atom x)) X.whole) (line_append l (codes " ") (parenthesized_line (not (is_plain f)) F.whole a.whole) refl) (parenthesized_line (not (is_atom x)) X.whole b.whole)

arguments_line : (c : Name) (xs : List Text) → is_line c ≡ true → list_all is_line xs ≡ true → is_line (with_arguments c xs) ≡ true
arguments_line c [] h k = h
arguments_line c (x ∷ xs) h k =
    let p = and_parts (is_line x) (list_all is_line xs) k in
    line_append (c ++ codes "{" ++ with_commas (x ∷ xs)) (codes "}") (line_append (c ++ codes "{") (with_commas (x ∷ xs)) (line_append c (codes "{") h refl) (list_line x xs p.0 p.1)) refl

bound_line : (d : ℕ) → is_line (bound_text d) ≡ true
bound_line d = line_append (codes "x") (decimal d) refl (decimal_line d)

printed_line : (d : ℕ) (t : Tm) → is_term_line t ≡ true → IsPrintedLine (printed d t)
printed_line d (tm_index i t) h = record { whole = bound_line (d - (i + 1)); operand = refl; scope = refl }
printed_line d (tm_free v) h =
    let p = and_parts (is_line v.name) (is_type_line v.ty) h in
    record {
      whole = line_append (codes "[" ++ v.name ++ codes ":" ++ ty_text v.ty) (codes "]")
          (line_append (codes "[" ++ v.name ++ codes ":") (ty_text v.ty) (line_append (codes "[" ++ v.name) (codes ":") (line_append (codes "[") v.name refl p.0) refl) (type_line v.ty p.1)) refl;
      operand = refl;
      scope = refl;
    }
printed_line d (tm_const c ts t) h =
    let p = and_parts (is_line c) (are_type_lines (tys ts)) h in
    record { whole = arguments_line c (tys_texts (tys ts)) p.0 (types_lines (tys ts) p.1); operand = refl; scope = refl }
printed_line d (tm_comb f x) h =
    let p = and_parts (is_term_line f) (is_term_line x) h in
    let F = printed_line d f p.0 in
    let X = printed_line d x p.1 in
    record { whole = whole_line (sugar f x) f x (printed d f) (printed d x) (sugar_line f x) F X; operand = X.whole; scope = refl }
printed_line d (tm_abs t b) h =
    let p = and_parts (is_type_line t) (is_term_line b) h in
    let B = printed_line (d + 1) b p.1 in
    let front = bound_text d ++ codes ":" ++ ty_text t ++ codes ". " in
    let head : is_line front ≡ true = line_append (bound_text d ++ codes ":" ++ ty_text t) (codes ". ") (line_append (bound_text d ++ codes ":") (ty_text t) (line_append (bound_text d) (codes ":") (bound_line d) refl) (type_line t p.0)) refl in
    let inner : is_line (front ++ (printed (d + 1) b).whole) ≡ true = line_append front (printed (d + 1) b).whole head B.whole in
    record { whole = line_append (codes "\\") (front ++ (printed (d + 1) b).whole) refl inner; operand = refl; scope = inner }

pub term_line : (t : Tm) → is_term_line t ≡ true → is_line (tm_text t) ≡ true
term_line t h = (printed_line 0 t h).whole

-- ---- the equation of a new constant

types_append : (ts us : List Ty) → list_all is_type_line ts ≡ true → list_all is_type_line us ≡ true → list_all is_type_line (ts ++ us) ≡ true
types_append [] us h k = k
types_append (t ∷ ts) us h k = let q = and_parts (is_type_line t) (list_all is_type_line ts) h in and_from (is_type_line t) (list_all is_type_line (ts ++ us)) q.0 (types_append ts us q.1 k)

var_line : (v : Ty) (seen : List Ty) → is_type_line v ≡ true → list_all is_type_line seen ≡ true → list_all is_type_line (with_var v seen) ≡ true
var_line v seen s h = at (is_among v seen)
  where
    at : (b : Bool) → list_all is_type_line (cond b seen (seen ++ v ∷ [])) ≡ true
    at true = h
    at false = types_append seen (v ∷ []) h (and_from (is_type_line v) true s refl)

mutual
  vars_lines : (t : Ty) (seen : List Ty) → is_type_line t ≡ true → list_all is_type_line seen ≡ true → list_all is_type_line (ty_vars t seen) ≡ true
  vars_lines (ty_var n) seen s h = var_line (ty_var n) seen s h
  vars_lines (ty_app c ts) seen s h = all_vars_lines ts seen (and_parts (is_line c) (are_type_lines ts) s).1 h

  all_vars_lines : (ts : Tys) (seen : List Ty) → are_type_lines ts ≡ true → list_all is_type_line seen ≡ true → list_all is_type_line (tys_vars ts seen) ≡ true
  all_vars_lines no_tys seen s h = h
  all_vars_lines (more_tys t ts) seen s h = let p = and_parts (is_type_line t) (are_type_lines ts) s in all_vars_lines ts (ty_vars t seen) p.1 (vars_lines t seen p.0 h)

listed : (ts : List Ty) → list_all is_type_line ts ≡ true → are_type_lines (tys ts) ≡ true
listed [] h = refl
listed (t ∷ ts) h = let p = and_parts (is_type_line t) (list_all is_type_line ts) h in and_from (is_type_line t) (are_type_lines (tys ts)) p.0 (listed ts p.1)

own_const_line : (c : Name) (g : Ty) → is_line c ≡ true → is_type_line g ≡ true → is_term_line (own_const c g) ≡ true
own_const_line c g w s = and_from (is_line c) (are_type_lines (tys (ty_vars g []))) w (listed (ty_vars g []) (vars_lines g [] s refl))

eq_line : (s t : Tm) → is_type_line (tm_type s) ≡ true → is_term_line s ≡ true → is_term_line t ≡ true → is_term_line (eq_tm s t) ≡ true
eq_line s t ty a b =
    let sign : is_term_line (tm_const (codes "eq") (tm_type s ∷ []) (tm_type s)) ≡ true = and_from (is_type_line (tm_type s)) true ty refl in
    and_from (is_term_line (tm_const (codes "eq") (tm_type s ∷ []) (tm_type s)) && is_term_line s) (is_term_line t) (and_from (is_term_line (tm_const (codes "eq") (tm_type s ∷ []) (tm_type s))) (is_term_line s) sign a) b

pub fact_line : (c : Name) (t : Tm) → is_line c ≡ true → is_type_line (tm_type t) ≡ true → is_term_line t ≡ true → is_line (tm_text (eq_tm (own_const c (tm_type t)) t)) ≡ true
fact_line c t n ty b = term_line (eq_tm (own_const c (tm_type t)) t) (eq_line (own_const c (tm_type t)) t ty (own_const_line c (tm_type t) n ty) b)
