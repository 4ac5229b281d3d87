-- Names, and names of type variables, are words.
use Rattle.std.proofs.Common.{◌≡◌, inl, inr, refl, sym, ap, ◌∙◌, subst, ℕ, ◌+◌, ◌/◌, ◌<◌, Bool, true, false, cond, not, ◌&&◌, ◌||◌, ◌==◌, List, [], ◌∷◌, ◌++◌, Some, None, arith, eqb-true, nat_lt}
use Rattle.std.specs.Prelude.{bytes_eq, codes}
use Rattle.std.specs.List.{list_all}
use Rattle.std.specs.Char.{is_ascii_alphabetic, is_ascii_alphanumeric}
use Rattle.std.specs.Str.{chars, is_utf8}
use Rattle.std.proofs.lemmas.Bool.{and_parts, and_from, or_cases}
use Rattle.std.proofs.lemmas.Bool.Decides.{nat_tests}
use Rattle.std.proofs.lemmas.Slice.Eq.{bytes_eq-Decides}
use Rattle.std.proofs.lemmas.Str.{IsUtf8-from_is_utf8, encodes-chars}
use lib.Dec.{ltb}
use lib.Utf8.{encode, encodes, next}
use Rattle.unicode_ident.specs.Ident.{is_xid_continue}
use Rattle.unicode_ident.proofs.IdentLemmas.{is_xid_start-ascii, is_xid_continue-ascii}
use Rattle.hol_terms.specs.Name.{Name, is_start, is_segment_of, on_step, are_segments_of, is_keyword, is_segment, is_name}
use Rattle.hol_terms.specs.Text.{Text}
use Rattle.strict_reading.specs.Words.{is_word_byte, begins_word, in_word}
use Rattle.strict_reading.proofs.Words.{is_word}

-- ---- characters

beyond : (c : ℕ) → 127 < c → is_word_byte c ≡ true
beyond c h = grind (arith, nat_tests)

follows : (c : ℕ) → is_word_byte (next c) ≡ true
follows c = beyond (next c) (omega arith)

ascii : (c : ℕ) → nat_lt 127 c ≡ false → c < 128
ascii c h = grind (arith, nat_tests)

more_byte : (c : ℕ) → is_xid_continue c ≡ true → is_word_byte c ≡ true
more_byte c h = at (nat_lt 127 c) refl
  where
    tests : (a b : Bool) → (a || b) ≡ true → (false || a || b) ≡ true
    tests true b h = refl
    tests false b h = h

    at : (b : Bool) → nat_lt 127 c ≡ b → (b || is_ascii_alphanumeric c || (c == 95)) ≡ true
    at true e = refl
    at false e = tests (is_ascii_alphanumeric c) (c == 95) (sym (is_xid_continue-ascii c (ascii c e)) ∙ h)

start_byte : (c : ℕ) → is_start c ≡ true → is_word_byte c ≡ true
start_byte c h = at (nat_lt 127 c) refl
  where
    letter : (is_ascii_alphabetic c || (c == 95)) ≡ true → is_word_byte c ≡ true
    letter h = grind (arith, nat_tests)

    at : (b : Bool) → nat_lt 127 c ≡ b → is_word_byte c ≡ true
    at true e = rw e refl
    at false e = letter (ap (λ b. b || (c == 95)) (sym (is_xid_start-ascii c (ascii c e))) ∙ h)

-- the bytes of such a character
char_bytes : (c : ℕ) → is_word_byte c ≡ true → (list_all is_word_byte (encode c) ≡ true) × (begins_word (encode c) ≡ true)
unfolding encode
char_bytes c h = at (ltb c 128) (ltb c 2048) (ltb c 65536)
  where
    two : (x y : ℕ) → is_word_byte x ≡ true → is_word_byte y ≡ true → list_all is_word_byte (x ∷ y ∷ []) ≡ true
    two x y p q = and_from (is_word_byte x) (is_word_byte y && true) p (and_from (is_word_byte y) true q refl)

    three : (x y z : ℕ) → is_word_byte x ≡ true → is_word_byte y ≡ true → is_word_byte z ≡ true → list_all is_word_byte (x ∷ y ∷ z ∷ []) ≡ true
    three x y z p q r = and_from (is_word_byte x) (list_all is_word_byte (y ∷ z ∷ [])) p (two y z q r)

    four : (x y z w : ℕ) → is_word_byte x ≡ true → is_word_byte y ≡ true → is_word_byte z ≡ true → is_word_byte w ≡ true → list_all is_word_byte (x ∷ y ∷ z ∷ w ∷ []) ≡ true
    four x y z w p q r s = and_from (is_word_byte x) (list_all is_word_byte (y ∷ z ∷ w ∷ [])) p (three y z w q r s)

    lead2 : is_word_byte (192 + c / 64) ≡ true
    lead2 = beyond (192 + c / 64) (omega arith)

    lead3 : is_word_byte (224 + c / 4096) ≡ true
    lead3 = beyond (224 + c / 4096) (omega arith)

    lead4 : is_word_byte (240 + c / 262144) ≡ true
    lead4 = beyond (240 + c / 262144) (omega arith)

    at : (x y z : Bool) → let e = cond x (c ∷ []) (cond y ((192 + c / 64) ∷ next c ∷ []) (cond z ((224 + c / 4096) ∷ next (c / 64) ∷ next c ∷ []) ((240 + c / 262144) ∷ next (c / 4096) ∷ next (c / 64) ∷ next c ∷ []))) in
        (list_all is_word_byte e ≡ true) × (begins_word e ≡ true)
    at true y z = (and_from (is_word_byte c) true h refl, h)
    at false true z = (two (192 + c / 64) (next c) lead2 (follows c), lead2)
    at false false true = (three (224 + c / 4096) (next (c / 64)) (next c) lead3 (follows (c / 64)) (follows c), lead3)
    at false false false = (four (240 + c / 262144) (next (c / 4096)) (next (c / 64)) (next c) lead4 (follows (c / 4096)) (follows (c / 64)) (follows c), lead4)

-- ---- words

pub begins_append : (a b : Text) → begins_word a ≡ true → begins_word (a ++ b) ≡ true
begins_append [] b h = cc
begins_append (c ∷ a) b h = h

-- bytes of words before a word
bytes_before : (a b : Text) → list_all is_word_byte a ≡ true → is_word b ≡ true → is_word (a ++ b) ≡ true
bytes_before [] b h g = g
bytes_before (c ∷ a) b h g =
    let p = and_parts (is_word_byte c) (list_all is_word_byte a) h in
    and_from (in_word c (a ++ b)) (is_word (a ++ b)) (ap (λ x. x || ((c == 46) && begins_word (a ++ b))) p.0) (bytes_before a b p.1 g)

pub bytes_word : (a : Text) → list_all is_word_byte a ≡ true → is_word a ≡ true
bytes_word [] h = refl
bytes_word (c ∷ a) h =
    let p = and_parts (is_word_byte c) (list_all is_word_byte a) h in
    and_from (in_word c a) (is_word a) (ap (λ x. x || ((c == 46) && begins_word a)) p.0) (bytes_word a p.1)

char_before : (c : ℕ) (cs : List ℕ) → is_word_byte c ≡ true → is_word (encodes cs) ≡ true → is_word (encodes (c ∷ cs)) ≡ true
char_before c cs h g = bytes_before (encode c) (encodes cs) (char_bytes c h).0 g

all_more : (cs : List ℕ) → list_all is_xid_continue cs ≡ true → is_word (encodes cs) ≡ true
all_more [] h = refl
all_more (c ∷ cs) h = let p = and_parts (is_xid_continue c) (list_all is_xid_continue cs) h in char_before c cs (more_byte c p.0) (all_more cs p.1)

segment_chars : (cs : List ℕ) → is_segment_of cs ≡ true → is_word (encodes cs) ≡ true
segment_chars [] h = refl
segment_chars (c ∷ cs) h = let p = and_parts (is_start c) (list_all is_xid_continue cs) h in char_before c cs (start_byte c p.0) (all_more cs p.1)

from_chars : (P : Text → Type 0) (n : Name) → is_utf8 n ≡ true → P (encodes (chars n)) → P n
from_chars P n u h = subst P (encodes-chars n (IsUtf8-from_is_utf8 n u)) h

pub segment_word : (n : Name) → is_segment n ≡ true → is_word n ≡ true
unfolding is_segment
segment_word n h = let p = and_parts (is_utf8 n) (is_segment_of (chars n)) h in from_chars (λ x. is_word x ≡ true) n p.0 (segment_chars (chars n) p.1)

segments_begin : (cs : List ℕ) → are_segments_of false cs ≡ true → begins_word (encodes cs) ≡ true
segments_begin [] h = cc
segments_begin (c ∷ cs) h = at (is_start c) refl h
  where
    at : (b : Bool) → is_start c ≡ b → on_step (cond b (Some true) None) (λ v. are_segments_of v cs) ≡ true → begins_word (encodes (c ∷ cs)) ≡ true
    at true e g = begins_append (encode c) (encodes cs) (char_bytes c (start_byte c e)).1
    at false e g = cc

dotted : (x : Text) → begins_word x ≡ true → is_word x ≡ true → is_word (encode 46 ++ x) ≡ true
unfolding encode
dotted x b h = rw b h

dot_before : (c : ℕ) (cs : List ℕ) → (c == 46) ≡ true → begins_word (encodes cs) ≡ true → is_word (encodes cs) ≡ true → is_word (encodes (c ∷ cs)) ≡ true
dot_before c cs e b h = subst (λ (d : ℕ). is_word (encodes (d ∷ cs)) ≡ true) (sym (eqb-true c 46 e)) (dotted (encodes cs) b h)

segments_chars : (w : Bool) (cs : List ℕ) → are_segments_of w cs ≡ true → is_word (encodes cs) ≡ true
segments_chars w [] h = refl
segments_chars false (c ∷ cs) h = at (is_start c) refl (segments_chars true cs) h
  where
    at : (b : Bool) → is_start c ≡ b → (are_segments_of true cs ≡ true → is_word (encodes cs) ≡ true) → on_step (cond b (Some true) None) (λ v. are_segments_of v cs) ≡ true → is_word (encodes (c ∷ cs)) ≡ true
    at true e f g = char_before c cs (start_byte c e) (f g)
    at false e f g = cc
segments_chars true (c ∷ cs) h = at (c == 46) (is_xid_continue c) refl refl (segments_chars false cs) (segments_chars true cs) h
  where
    at : (d b : Bool) → (c == 46) ≡ d → is_xid_continue c ≡ b → (are_segments_of false cs ≡ true → is_word (encodes cs) ≡ true) → (are_segments_of true cs ≡ true → is_word (encodes cs) ≡ true)
        → on_step (cond d (Some false) (cond b (Some true) None)) (λ v. are_segments_of v cs) ≡ true → is_word (encodes (c ∷ cs)) ≡ true
    at true b e q f k g = dot_before c cs e (segments_begin cs g) (f g)
    at false true e q f k g = char_before c cs (more_byte c q) (k g)
    at false false e q f k g = cc

pub record IsNameWord (n : Name) : Type 0 where
  pub word : is_word n ≡ true
  pub begins : begins_word n ≡ true

pub name_word : (n : Name) → is_name n ≡ true → IsNameWord n
unfolding is_name
name_word n h =
    let p = and_parts (is_utf8 n && (are_segments_of false (chars n) || bytes_eq n (codes "0"))) (not (is_keyword n)) h in
    let q = and_parts (is_utf8 n) (are_segments_of false (chars n) || bytes_eq n (codes "0")) p.0 in
    elim (or_cases (are_segments_of false (chars n)) (bytes_eq n (codes "0")) q.1) [
      | inl s ↦ from_chars IsNameWord n q.0 (record { word = segments_chars false (chars n) s; begins = segments_begin (chars n) s })
      | inr z ↦ subst IsNameWord (sym ((bytes_eq-Decides n (codes "0")).0 z)) zero_word
    ]
  where
    zero_word : IsNameWord (codes "0")
    zero_word = record { word = refl; begins = refl }
