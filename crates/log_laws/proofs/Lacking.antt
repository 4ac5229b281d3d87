-- Bytes that stand in no name, no number and no canonical text over names.
use Rattle.std.proofs.Common.{◌≡◌, inl, inr, refl, sym, ap, ◌∙◌, subst, ℕ, zero, suc, ◌+◌, ◌-◌, ◌/◌, ◌%◌, ◌<◌, Bool, true, false, cond, not, ◌&&◌, ◌||◌, ◌==◌, List, [], ◌∷◌, ◌++◌, Some, None, arith, eqb-true, nat_lt}
use Rattle.std.specs.Prelude.{bytes_eq, codes}
use Rattle.std.specs.List.{list_all, list_any, flat_map}
use Rattle.std.specs.Char.{is_ascii_digit}
use Rattle.std.proofs.lemmas.Bool.Decides.{nat_tests}
use Rattle.std.specs.Fmt.{decimal, digits, digits_onto, digit_glyph}
use Rattle.std.specs.Str.{chars, is_utf8}
use Rattle.std.proofs.lemmas.Bool.{true≢false, and_parts, and_from, or_cases, not_from_false, ne_eqb, false_from_ne_true}
use Rattle.std.proofs.lemmas.Slice.Eq.{bytes_eq-Decides}
use Rattle.std.proofs.lemmas.Str.{IsUtf8-from_is_utf8, encodes-chars}
use lib.Dec.{ltb}
use lib.Utf8.{encode, encodes, next}
use Rattle.unicode_ident.specs.Ident.{is_xid_continue}
use Rattle.hol_terms.specs.Name.{Name, is_start, is_segment_of, on_step, are_segments_of, is_keyword, is_segment, is_name}
use Rattle.hol_terms.specs.Ty.{Ty, ty_var, ty_app, Tys, no_tys, more_tys, tys}
use Rattle.hol_terms.specs.Tm.{Tm, tm_index, tm_free, tm_const, tm_comb, tm_abs}
use Rattle.hol_terms.specs.Typing.{first_ty}
use Rattle.hol_terms.specs.Signature.{Signature, arity_of, generic_of, tys_count, IsTyOver, AreTysOver, IsOver}
use Rattle.hol_terms.specs.Sequent.{argument}
use Rattle.hol_terms.specs.Tokens.{starts, continues}
use Rattle.hol_terms.specs.Text.{Text, ty_text, tys_texts, parenthesized, with_arguments, with_commas, application_text, is_arrow, bound_text, Sugar, between, before, binding, none, sign_between, sign_binding, sign_before, sugar, whole_text, is_plain, is_atom, is_function, Printed, printed, tm_text}
use Rattle.hol_text.proofs.Characters.{starts-is, continues-is}
use Rattle.hol_logs.specs.Step.{numeral}

-- the byte isn't among these
abbrev pub lacks : ℕ → Text → Bool
lacks k bs = list_all (λ b. not (b == k)) bs

pub lacks_append : (k : ℕ) (a b : Text) → lacks k a ≡ true → lacks k b ≡ true → lacks k (a ++ b) ≡ true
lacks_append k [] b h g = g
lacks_append k (c ∷ a) b h g = let p = and_parts (not (c == k)) (lacks k a) h in and_from (not (c == k)) (lacks k (a ++ b)) p.0 (lacks_append k a b p.1 g)

-- a byte that no name and no number has
pub record IsForeign (k : ℕ) : Type 0 where
  pub ascii : k < 128
  pub start : starts k ≡ false
  pub more : continues k ≡ false
  pub dot : (k == 46) ≡ false
  pub digit : is_ascii_digit k ≡ false

-- what stands in types between names, and what stands in terms
abbrev pub type_signs : Text
type_signs = codes "'(), ->"

abbrev pub term_signs : Text
term_signs = codes "'(), ->[]:{}\\.~!?=/x"

pub record IsNoType (k : ℕ) : Type 0 where
  pub foreign : IsForeign k
  pub types : lacks k type_signs ≡ true

pub record IsNoTerm (k : ℕ) : Type 0 where
  pub outside : IsNoType k
  pub terms : lacks k term_signs ≡ true

-- ---- characters

past : (k x : ℕ) → k < x → not (x == k) ≡ true
past k x h = not_from_false (x == k) (ne_eqb x k (λ e. omega arith))

follows : (k c : ℕ) → k < 128 → not (next c == k) ≡ true
follows k c h = past k (next c) (omega arith)

-- the bytes of another character
char_lacks : (k c : ℕ) → k < 128 → not (c == k) ≡ true → lacks k (encode c) ≡ true
unfolding encode
char_lacks k c b h = at (ltb c 128) (ltb c 2048) (ltb c 65536)
  where
    two : (x y : ℕ) → not (x == k) ≡ true → not (y == k) ≡ true → lacks k (x ∷ y ∷ []) ≡ true
    two x y p q = rw (p, q) refl

    three : (x y z : ℕ) → not (x == k) ≡ true → not (y == k) ≡ true → not (z == k) ≡ true → lacks k (x ∷ y ∷ z ∷ []) ≡ true
    three x y z p q r = rw (p, q, r) refl

    four : (x y z w : ℕ) → not (x == k) ≡ true → not (y == k) ≡ true → not (z == k) ≡ true → not (w == k) ≡ true → lacks k (x ∷ y ∷ z ∷ w ∷ []) ≡ true
    four x y z w p q r s = rw (p, q, r, s) refl

    at : (x y z : Bool) → lacks k (cond x (c ∷ []) (cond y ((192 + c / 64) ∷ next c ∷ []) (cond z ((224 + c / 4096) ∷ next (c / 64) ∷ next c ∷ []) ((240 + c / 262144) ∷ next (c / 4096) ∷ next (c / 64) ∷ next c ∷ [])))) ≡ true
    at true y z = rw h refl
    at false true z = two (192 + c / 64) (next c) (past k (192 + c / 64) (omega arith)) (follows k c b)
    at false false true = three (224 + c / 4096) (next (c / 64)) (next c) (past k (224 + c / 4096) (omega arith)) (follows k (c / 64) b) (follows k c b)
    at false false false = four (240 + c / 262144) (next (c / 4096)) (next (c / 64)) (next c) (past k (240 + c / 262144) (omega arith)) (follows k (c / 4096) b) (follows k (c / 64) b) (follows k c b)

chars_lack : (k : ℕ) (cs : List ℕ) → k < 128 → lacks k cs ≡ true → lacks k (encodes cs) ≡ true
chars_lack k [] b h = refl
chars_lack k (c ∷ cs) b h = let p = and_parts (not (c == k)) (lacks k cs) h in lacks_append k (encode c) (encodes cs) (char_lacks k c b p.0) (chars_lack k cs b p.1)

text_lacks : (k : ℕ) (n : Name) → k < 128 → is_utf8 n ≡ true → lacks k (chars n) ≡ true → lacks k n ≡ true
text_lacks k n b u h = subst (λ (m : Name). lacks k m ≡ true) (encodes-chars n (IsUtf8-from_is_utf8 n u)) (chars_lack k (chars n) b h)

-- what passes a test that the byte doesn't pass is another
other : (p : ℕ → Bool) (k c : ℕ) → p k ≡ false → p c ≡ true → not (c == k) ≡ true
other p k c e h = not_from_false (c == k) (false_from_ne_true (c == k) (λ q. true≢false (sym h ∙ ap p (eqb-true c k q) ∙ e)))

start_lacks : (k c : ℕ) → IsForeign k → is_start c ≡ true → not (c == k) ≡ true
start_lacks k c f h = other starts k c f.start (starts-is c ∙ h)

more_lacks : (k c : ℕ) → IsForeign k → is_xid_continue c ≡ true → not (c == k) ≡ true
more_lacks k c f h = other continues k c f.more (continues-is c ∙ h)

dot_lacks : (k c : ℕ) → IsForeign k → (c == 46) ≡ true → not (c == k) ≡ true
dot_lacks k c f h = other (λ d. d == 46) k c f.dot h

-- bytes that are all among signs
abbrev among : ℕ → Text → Bool
among b signs = list_any (λ s. s == b) signs

abbrev are_among : Text → Text → Bool
are_among signs x = list_all (λ b. among b signs) x

one_lacks : (bad b : ℕ) (signs : Text) → lacks bad signs ≡ true → among b signs ≡ true → not (b == bad) ≡ true
one_lacks bad b [] h e = cc
one_lacks bad b (s ∷ signs) h e =
    let p = and_parts (not (s == bad)) (lacks bad signs) h in
    elim (or_cases (s == b) (among b signs) e) [ inl q ↦ subst (λ (c : ℕ). not (c == bad) ≡ true) (eqb-true s b q) p.0 | inr q ↦ one_lacks bad b signs p.1 q ]

all_lack_it : (bad : ℕ) (signs x : Text) → lacks bad signs ≡ true → are_among signs x ≡ true → lacks bad x ≡ true
all_lack_it bad signs [] h e = refl
all_lack_it bad signs (b ∷ x) h e =
    let p = and_parts (among b signs) (are_among signs x) e in and_from (not (b == bad)) (lacks bad x) (one_lacks bad b signs h p.0) (all_lack_it bad signs x h p.1)

type_sign : (bad : ℕ) (safe : IsNoType bad) (x : Text) → are_among type_signs x ≡ true → lacks bad x ≡ true
type_sign bad safe x e = all_lack_it bad type_signs x safe.types e

term_sign : (bad : ℕ) (safe : IsNoTerm bad) (x : Text) → are_among term_signs x ≡ true → lacks bad x ≡ true
term_sign bad safe x e = all_lack_it bad term_signs x safe.terms e

-- ---- names

all_more : (bad : ℕ) (out : IsForeign bad) → (cs : List ℕ) → list_all is_xid_continue cs ≡ true → lacks bad cs ≡ true
all_more bad out [] h = refl
all_more bad out (c ∷ cs) h = let p = and_parts (is_xid_continue c) (list_all is_xid_continue cs) h in and_from (not (c == bad)) (lacks bad cs) (more_lacks bad c out p.0) (all_more bad out cs p.1)

segment_chars : (bad : ℕ) (out : IsForeign bad) → (cs : List ℕ) → is_segment_of cs ≡ true → lacks bad cs ≡ true
segment_chars bad out [] h = refl
segment_chars bad out (c ∷ cs) h = let p = and_parts (is_start c) (list_all is_xid_continue cs) h in and_from (not (c == bad)) (lacks bad cs) (start_lacks bad c out p.0) (all_more bad out cs p.1)

pub segment_lacks : (bad : ℕ) (out : IsForeign bad) → (n : Name) → is_segment n ≡ true → lacks bad n ≡ true
unfolding is_segment
segment_lacks bad out n h = let p = and_parts (is_utf8 n) (is_segment_of (chars n)) h in text_lacks bad n out.ascii p.0 (segment_chars bad out (chars n) p.1)

segments_chars : (bad : ℕ) (out : IsForeign bad) → (w : Bool) (cs : List ℕ) → are_segments_of w cs ≡ true → lacks bad cs ≡ true
segments_chars bad out w [] h = refl
segments_chars bad out false (c ∷ cs) h = at (is_start c) refl (segments_chars bad out true cs) h
  where
    at : (b : Bool) → is_start c ≡ b → (are_segments_of true cs ≡ true → lacks bad cs ≡ true) → on_step (cond b (Some true) None) (λ v. are_segments_of v cs) ≡ true → lacks bad (c ∷ cs) ≡ true
    at true e f g = and_from (not (c == bad)) (lacks bad cs) (start_lacks bad c out e) (f g)
    at false e f g = cc
segments_chars bad out true (c ∷ cs) h = at (c == 46) (is_xid_continue c) refl refl (segments_chars bad out false cs) (segments_chars bad out true cs) h
  where
    at : (d b : Bool) → (c == 46) ≡ d → is_xid_continue c ≡ b → (are_segments_of false cs ≡ true → lacks bad cs ≡ true) → (are_segments_of true cs ≡ true → lacks bad cs ≡ true)
        → on_step (cond d (Some false) (cond b (Some true) None)) (λ v. are_segments_of v cs) ≡ true → lacks bad (c ∷ cs) ≡ true
    at true b e q f k g = and_from (not (c == bad)) (lacks bad cs) (dot_lacks bad c out e) (f g)
    at false true e q f k g = and_from (not (c == bad)) (lacks bad cs) (more_lacks bad c out q) (k g)
    at false false e q f k g = cc

pub name_lacks : (bad : ℕ) (out : IsForeign bad) → (n : Name) → is_name n ≡ true → lacks bad n ≡ true
unfolding is_name
name_lacks bad out n h =
    let p = and_parts (is_utf8 n && (are_segments_of false (chars n) || bytes_eq n (codes "0"))) (not (is_keyword n)) h in
    let q = and_parts (is_utf8 n) (are_segments_of false (chars n) || bytes_eq n (codes "0")) p.0 in
    elim (or_cases (are_segments_of false (chars n)) (bytes_eq n (codes "0")) q.1) [
      | inl s ↦ text_lacks bad n out.ascii q.0 (segments_chars bad out false (chars n) s)
      | inr z ↦ ap (lacks bad) ((bytes_eq-Decides n (codes "0")).0 z) ∙ and_from (not (48 == bad)) true (other is_ascii_digit bad 48 out.digit refl) refl
    ]

-- the types and constants of a signature are called by names
pub record AreNamed (s : Signature) : Type 0 where
  pub types : (n : Name) (k : ℕ) → arity_of s n ≡ Some k → is_name n ≡ true
  pub consts : (c : Name) (g : Ty) → generic_of s c ≡ Some g → is_name c ≡ true

-- ---- types

-- a type whose names don't have the byte
abbrev mutual
  pub type_lacks : ℕ → Ty → Bool
  type_lacks bad (ty_var n) = lacks bad n
  type_lacks bad (ty_app c ts) = lacks bad c && types_lack bad ts

  pub types_lack : ℕ → Tys → Bool
  types_lack bad no_tys = true
  types_lack bad (more_tys t ts) = type_lacks bad t && types_lack bad ts

mutual
  pub type_lacks_over : (bad : ℕ) (out : IsForeign bad) → (s : Signature) (t : Ty) → AreNamed s → IsTyOver s t → type_lacks bad t ≡ true
  type_lacks_over bad out s (ty_var n) l h = segment_lacks bad out n h
  type_lacks_over bad out s (ty_app c ts) l h = and_from (lacks bad c) (types_lack bad ts) (name_lacks bad out c (l.types c (tys_count ts) h.0)) (types_lack_over bad out s ts l h.1)

  types_lack_over : (bad : ℕ) (out : IsForeign bad) → (s : Signature) (ts : Tys) → AreNamed s → AreTysOver s ts → types_lack bad ts ≡ true
  types_lack_over bad out s no_tys l h = refl
  types_lack_over bad out s (more_tys t ts) l h = and_from (type_lacks bad t) (types_lack bad ts) (type_lacks_over bad out s t l h.0) (types_lack_over bad out s ts l h.1)

parenthesized_lacks : (bad : ℕ) (safe : IsNoType bad) → (b : Bool) (x : Text) → lacks bad x ≡ true → lacks bad (parenthesized b x) ≡ true
parenthesized_lacks bad safe true x h = lacks_append bad (codes "(" ++ x) (codes ")") (lacks_append bad (codes "(") x (type_sign bad safe (codes "(") refl) h) (type_sign bad safe (codes ")") refl)
parenthesized_lacks bad safe false x h = h

commas_lack : (bad : ℕ) (safe : IsNoType bad) → (xs : List Text) → list_all (lacks bad) xs ≡ true → lacks bad (flat_map (λ y. codes "," ++ y) xs) ≡ true
commas_lack bad safe [] h = refl
commas_lack bad safe (x ∷ xs) h =
    let p = and_parts (lacks bad x) (list_all (lacks bad) xs) h in
    lacks_append bad (codes "," ++ x) (flat_map (λ y. codes "," ++ y) xs) (lacks_append bad (codes ",") x (type_sign bad safe (codes ",") refl) p.0) (commas_lack bad safe xs p.1)

list_lacks : (bad : ℕ) (safe : IsNoType bad) → (x : Text) (xs : List Text) → lacks bad x ≡ true → list_all (lacks bad) xs ≡ true → lacks bad (with_commas (x ∷ xs)) ≡ true
list_lacks bad safe x xs h k = lacks_append bad x (flat_map (λ y. codes "," ++ y) xs) h (commas_lack bad safe xs k)

applied_lacks : (bad : ℕ) (safe : IsNoType bad) → (c : Name) (ts : Tys) (xs : List Text) → lacks bad c ≡ true → list_all (lacks bad) xs ≡ true → lacks bad (application_text c ts xs) ≡ true
applied_lacks bad safe c ts [] h k = h
applied_lacks bad safe c ts (x ∷ []) h k =
    let p = and_parts (lacks bad x) true k in
    let l = parenthesized (is_function (first_ty ts)) x in
    lacks_append bad (l ++ codes " ") c (lacks_append bad l (codes " ") (parenthesized_lacks bad safe (is_function (first_ty ts)) x p.0) (type_sign bad safe (codes " ") refl)) h
applied_lacks bad safe c ts (x ∷ y ∷ ys) h k =
    let p = and_parts (lacks bad x) (list_all (lacks bad) (y ∷ ys)) k in
    let q = and_parts (lacks bad y) (list_all (lacks bad) ys) p.1 in
    let l = parenthesized (is_function (first_ty ts)) x in
    let arrow_is : lacks bad (l ++ codes " -> " ++ y) ≡ true = lacks_append bad (l ++ codes " -> ") y (lacks_append bad l (codes " -> ") (parenthesized_lacks bad safe (is_function (first_ty ts)) x p.0) (type_sign bad safe (codes " -> ") refl)) q.0 in
    let all = with_commas (x ∷ y ∷ ys) in
    let name_is : lacks bad (parenthesized true all ++ codes " " ++ c) ≡ true =
    lacks_append bad (parenthesized true all ++ codes " ") c (lacks_append bad (parenthesized true all) (codes " ") (parenthesized_lacks bad safe true all (list_lacks bad safe x (y ∷ ys) p.0 p.1)) (type_sign bad safe (codes " ") refl)) h in
    at (is_arrow c ts) arrow_is name_is
  where
    at : (b : Bool) → lacks bad (parenthesized (is_function (first_ty ts)) x ++ codes " -> " ++ y) ≡ true → lacks bad (parenthesized true (with_commas (x ∷ y ∷ ys)) ++ codes " " ++ c) ≡ true
        → lacks bad (cond b (parenthesized (is_function (first_ty ts)) x ++ codes " -> " ++ y) (parenthesized true (with_commas (x ∷ y ∷ ys)) ++ codes " " ++ c)) ≡ true
    at true a n = a
    at false a n = n

mutual
  pub type_text_lacks : (bad : ℕ) (safe : IsNoType bad) → (t : Ty) → type_lacks bad t ≡ true → lacks bad (ty_text t) ≡ true
  type_text_lacks bad safe (ty_var n) h = lacks_append bad (codes "'") n (type_sign bad safe (codes "'") refl) h
  type_text_lacks bad safe (ty_app c ts) h = let p = and_parts (lacks bad c) (types_lack bad ts) h in applied_lacks bad safe c ts (tys_texts ts) p.0 (types_text_lack bad safe ts p.1)

  types_text_lack : (bad : ℕ) (safe : IsNoType bad) → (ts : Tys) → types_lack bad ts ≡ true → list_all (lacks bad) (tys_texts ts) ≡ true
  types_text_lack bad safe no_tys h = refl
  types_text_lack bad safe (more_tys t ts) h = let p = and_parts (type_lacks bad t) (types_lack bad ts) h in and_from (lacks bad (ty_text t)) (list_all (lacks bad) (tys_texts ts)) (type_text_lacks bad safe t p.0) (types_text_lack bad safe ts p.1)

-- ---- numbers

glyph_lacks : (bad : ℕ) (out : IsForeign bad) (d : ℕ) → d < 10 → not (digit_glyph false d == bad) ≡ true
glyph_lacks bad out d h =
    let small : nat_lt d 10 ≡ true = grind (arith, nat_tests) in
    let digit : is_ascii_digit (48 + d) ≡ true = grind (arith, nat_tests) in
    ap (λ b. not (cond b (48 + d) (87 + d) == bad)) small ∙ other is_ascii_digit bad (48 + d) out.digit digit

digits_lack : (bad : ℕ) (out : IsForeign bad) → (k n : ℕ) (acc : Text) → lacks bad acc ≡ true → lacks bad (digits_onto k 10 false n acc) ≡ true
digits_lack bad out zero n acc h = h
digits_lack bad out (suc k) n acc h =
    let more : lacks bad (digit_glyph false (n % 10) ∷ acc) ≡ true = and_from (not (digit_glyph false (n % 10) == bad)) (lacks bad acc) (glyph_lacks bad out (n % 10) (omega arith)) h in
    at (n / 10 == 0) more (digits_lack bad out k (n / 10) (digit_glyph false (n % 10) ∷ acc) more)
  where
    at : (b : Bool) → lacks bad (digit_glyph false (n % 10) ∷ acc) ≡ true → lacks bad (digits_onto k 10 false (n / 10) (digit_glyph false (n % 10) ∷ acc)) ≡ true →
        lacks bad (cond b (digit_glyph false (n % 10) ∷ acc) (digits_onto k 10 false (n / 10) (digit_glyph false (n % 10) ∷ acc))) ≡ true
    at true x y = x
    at false x y = y

pub numeral_lacks : (bad : ℕ) (out : IsForeign bad) → (n : ℕ) → lacks bad (numeral n) ≡ true
unfolding numeral
numeral_lacks bad out n = digits_lack bad out (suc n) n [] refl

decimal_lacks : (bad : ℕ) (out : IsForeign bad) → (n : ℕ) → lacks bad (decimal n) ≡ true
unfolding digits
decimal_lacks bad out n = digits_lack bad out 64 n [] refl

-- ---- terms

-- a term whose names don't have the byte
abbrev pub term_lacks : ℕ → Tm → Bool
term_lacks bad (tm_index i t) = true
term_lacks bad (tm_free v) = lacks bad v.name && type_lacks bad v.ty
term_lacks bad (tm_const c ts t) = lacks bad c && types_lack bad (tys ts)
term_lacks bad (tm_comb f x) = term_lacks bad f && term_lacks bad x
term_lacks bad (tm_abs t b) = type_lacks bad t && term_lacks bad b

pub term_lacks_over : (bad : ℕ) (out : IsForeign bad) → (s : Signature) (bound : List Ty) (t : Tm) → AreNamed s → IsOver s bound t → term_lacks bad t ≡ true
term_lacks_over bad out s bound (tm_index i t) l h = refl
term_lacks_over bad out s bound (tm_free v) l h = and_from (lacks bad v.name) (type_lacks bad v.ty) (name_lacks bad out v.name h.0) (type_lacks_over bad out s v.ty l h.1)
term_lacks_over bad out s bound (tm_const c ts t) l h = and_from (lacks bad c) (types_lack bad (tys ts)) (name_lacks bad out c (l.consts c h.generic h.known)) (types_lack_over bad out s (tys ts) l h.over)
term_lacks_over bad out s bound (tm_comb f x) l h = and_from (term_lacks bad f) (term_lacks bad x) (term_lacks_over bad out s bound f l h.0) (term_lacks_over bad out s bound x l h.1)
term_lacks_over bad out s bound (tm_abs t b) l h = and_from (type_lacks bad t) (term_lacks bad b) (type_lacks_over bad out s t l h.0) (term_lacks_over bad out s (t ∷ bound) b l h.1)

-- the signs of sugar
abbrev SignLacks : ℕ → Sugar → Type 0
SignLacks bad (between sign) = lacks bad sign ≡ true
SignLacks bad before = Unit {0}
SignLacks bad (binding sign) = lacks bad sign ≡ true
SignLacks bad none = Unit {0}

chosen : (bad : ℕ) → (b : Bool) (s t : Sugar) → SignLacks bad s → SignLacks bad t → SignLacks bad (cond b s t)
chosen bad true s t h k = h
chosen bad false s t h k = k

between_lacks : (bad : ℕ) (safe : IsNoTerm bad) → (c : Name) → SignLacks bad (sign_between c)
between_lacks bad safe c = chosen bad (bytes_eq c (codes "eq")) _ _ (term_sign bad safe (codes " = ") refl) (chosen bad (bytes_eq c (codes "conj")) _ _ (term_sign bad safe (codes " /\\ ") refl) (chosen bad (bytes_eq c (codes "disj")) _ _ (term_sign bad safe (codes " \\/ ") refl) (chosen bad (bytes_eq c (codes "imp")) _ _ (term_sign bad safe (codes " ==> ") refl) tt)))

binding_lacks : (bad : ℕ) (safe : IsNoTerm bad) → (c : Name) → SignLacks bad (sign_binding c)
binding_lacks bad safe c = chosen bad (bytes_eq c (codes "all")) _ _ (term_sign bad safe (codes "!") refl) (chosen bad (bytes_eq c (codes "ex")) _ _ (term_sign bad safe (codes "?") refl) tt)

before_lacks : (bad : ℕ) (safe : IsNoTerm bad) → (c : Name) (s : Sugar) → SignLacks bad s → SignLacks bad (sign_before c s)
before_lacks bad safe c s h = chosen bad (bytes_eq c (codes "not")) before s tt h

const_lacks : (bad : ℕ) (safe : IsNoTerm bad) → (c : Name) (ts : List Ty) (t : Ty) (x : Tm) → SignLacks bad (sugar (tm_const c ts t) x)
const_lacks bad safe c ts t (tm_index i u) = before_lacks bad safe c none tt
const_lacks bad safe c ts t (tm_free v) = before_lacks bad safe c none tt
const_lacks bad safe c ts t (tm_const d us u) = before_lacks bad safe c none tt
const_lacks bad safe c ts t (tm_comb f y) = before_lacks bad safe c none tt
const_lacks bad safe c ts t (tm_abs u b) = before_lacks bad safe c (sign_binding c) (binding_lacks bad safe c)

comb_lacks : (bad : ℕ) (safe : IsNoTerm bad) → (f a x : Tm) → SignLacks bad (sugar (tm_comb f a) x)
comb_lacks bad safe (tm_index i u) a x = tt
comb_lacks bad safe (tm_free v) a x = tt
comb_lacks bad safe (tm_const c ts t) a x = between_lacks bad safe c
comb_lacks bad safe (tm_comb f b) a x = tt
comb_lacks bad safe (tm_abs u b) a x = tt

sugar_lacks : (bad : ℕ) (safe : IsNoTerm bad) → (f x : Tm) → SignLacks bad (sugar f x)
sugar_lacks bad safe (tm_index i u) x = tt
sugar_lacks bad safe (tm_free v) x = tt
sugar_lacks bad safe (tm_const c ts t) x = const_lacks bad safe c ts t x
sugar_lacks bad safe (tm_comb f a) x = comb_lacks bad safe f a x
sugar_lacks bad safe (tm_abs u b) x = tt

record PrintedLacks (bad : ℕ) (p : Printed) : Type 0 where
  whole : lacks bad p.whole ≡ true
  operand : lacks bad p.operand ≡ true
  scope : lacks bad p.scope ≡ true

whole_lacks : (bad : ℕ) (safe : IsNoTerm bad) → (s : Sugar) (f x : Tm) (F X : Printed) → SignLacks bad s → PrintedLacks bad F → PrintedLacks bad X → lacks bad (whole_text s f x F X) ≡ true
whole_lacks bad safe (between sign) f x F X h a b =
    let l = parenthesized (not (is_plain (argument f))) F.operand in
    let r = parenthesized (not (is_plain x)) X.whole in
    lacks_append bad (l ++ sign) r (lacks_append bad l sign (parenthesized_lacks bad safe.outside (not (is_plain (argument f))) F.operand a.operand) h) (parenthesized_lacks bad safe.outside (not (is_plain x)) X.whole b.whole)
whole_lacks bad safe before f x F X h a b = lacks_append bad (codes "~ ") (parenthesized (not (is_plain x)) X.whole) (term_sign bad safe (codes "~ ") refl) (parenthesized_lacks bad safe.outside (not (is_plain x)) X.whole b.whole)
whole_lacks bad safe (binding sign) f x F X h a b = lacks_append bad sign X.scope h b.scope
whole_lacks bad safe none f x F X h a b =
    let l = parenthesized (not (is_plain f)) F.whole in
    lacks_append bad (l ++ codes " ") (parenthesized (not (is_atom x)) X.whole) (lacks_append bad l (codes " ") (parenthesized_lacks bad safe.outside (not (is_plain f)) F.whole a.whole) (term_sign bad safe (codes " ") refl)) (parenthesized_lacks bad safe.outside (not (is_atom x)) X.whole b.whole)

arguments_lack : (bad : ℕ) (safe : IsNoTerm bad) → (c : Name) (xs : List Text) → lacks bad c ≡ true → list_all (lacks bad) xs ≡ true → lacks bad (with_arguments c xs) ≡ true
arguments_lack bad safe c [] h k = h
arguments_lack bad safe c (x ∷ xs) h k =
    let p = and_parts (lacks bad x) (list_all (lacks bad) xs) k in
    lacks_append bad (c ++ codes "{" ++ with_commas (x ∷ xs)) (codes "}") (lacks_append bad (c ++ codes "{") (with_commas (x ∷ xs)) (lacks_append bad c (codes "{") h (term_sign bad safe (codes "{") refl)) (list_lacks bad safe.outside x xs p.0 p.1)) (term_sign bad safe (codes "}") refl)

bound_lacks : (bad : ℕ) (safe : IsNoTerm bad) → (d : ℕ) → lacks bad (bound_text d) ≡ true
bound_lacks bad safe d = lacks_append bad (codes "x") (decimal d) (term_sign bad safe (codes "x") refl) (decimal_lacks bad safe.outside.foreign d)

printed_lacks : (bad : ℕ) (safe : IsNoTerm bad) → (d : ℕ) (t : Tm) → term_lacks bad t ≡ true → PrintedLacks bad (printed d t)
printed_lacks bad safe d (tm_index i t) h = record { whole = bound_lacks bad safe (d - (i + 1)); operand = refl; scope = refl }
printed_lacks bad safe d (tm_free v) h =
    let p = and_parts (lacks bad v.name) (type_lacks bad v.ty) h in
    record {
      whole = lacks_append bad (codes "[" ++ v.name ++ codes ":" ++ ty_text v.ty) (codes "]")
          (lacks_append bad (codes "[" ++ v.name ++ codes ":") (ty_text v.ty) (lacks_append bad (codes "[" ++ v.name) (codes ":") (lacks_append bad (codes "[") v.name (term_sign bad safe (codes "[") refl) p.0) (term_sign bad safe (codes ":") refl)) (type_text_lacks bad safe.outside v.ty p.1)) (term_sign bad safe (codes "]") refl);
      operand = refl;
      scope = refl;
    }
printed_lacks bad safe d (tm_const c ts t) h =
    let p = and_parts (lacks bad c) (types_lack bad (tys ts)) h in
    record { whole = arguments_lack bad safe c (tys_texts (tys ts)) p.0 (types_text_lack bad safe.outside (tys ts) p.1); operand = refl; scope = refl }
printed_lacks bad safe d (tm_comb f x) h =
    let p = and_parts (term_lacks bad f) (term_lacks bad x) h in
    let F = printed_lacks bad safe d f p.0 in
    let X = printed_lacks bad safe d x p.1 in
    record { whole = whole_lacks bad safe (sugar f x) f x (printed d f) (printed d x) (sugar_lacks bad safe f x) F X; operand = X.whole; scope = refl }
printed_lacks bad safe d (tm_abs t b) h =
    let p = and_parts (type_lacks bad t) (term_lacks bad b) h in
    let B = printed_lacks bad safe (d + 1) b p.1 in
    let front = bound_text d ++ codes ":" ++ ty_text t ++ codes ". " in
    let head : lacks bad front ≡ true = lacks_append bad (bound_text d ++ codes ":" ++ ty_text t) (codes ". ") (lacks_append bad (bound_text d ++ codes ":") (ty_text t) (lacks_append bad (bound_text d) (codes ":") (bound_lacks bad safe d) (term_sign bad safe (codes ":") refl)) (type_text_lacks bad safe.outside t p.0)) (term_sign bad safe (codes ". ") refl) in
    let inner : lacks bad (front ++ (printed (d + 1) b).whole) ≡ true = lacks_append bad front (printed (d + 1) b).whole head B.whole in
    record { whole = lacks_append bad (codes "\\") (front ++ (printed (d + 1) b).whole) (term_sign bad safe (codes "\\") refl) inner; operand = refl; scope = inner }

pub term_text_lacks : (bad : ℕ) (safe : IsNoTerm bad) → (t : Tm) → term_lacks bad t ≡ true → lacks bad (tm_text t) ≡ true
term_text_lacks bad safe t h = (printed_lacks bad safe 0 t h).whole
