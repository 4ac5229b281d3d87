-- A test of names that computes: names of ASCII characters.
use Rattle.std.proofs.Common.{◌≡◌, ℕ, ◌<◌, Bool, true, false, not, ◌&&◌, ◌||◌, List, [], ◌∷◌, Some, None, cond, refl, ap, sym, ◌∙◌, subst, arith}
use Rattle.std.specs.Prelude.{◌==◌, if◌then◌else◌, bytes_eq, codes}
use Rattle.std.specs.List.{list_all}
use Rattle.std.specs.Char.{is_ascii_alphabetic, is_ascii_alphanumeric}
use Rattle.std.specs.Str.{chars, is_utf8, IsAscii}
use Rattle.std.proofs.lemmas.Str.{is_utf8-from_IsUtf8, IsUtf8-from_ascii, chars-IsAscii}
use Rattle.std.proofs.lemmas.Str.Ascii.{IsAscii-nil, IsAscii-cons}
use Rattle.std.proofs.lemmas.Bool.{and_parts, and_from, or_cases, or_left, or_right}
use Rattle.std.proofs.lemmas.Bool.Decides.{nat_tests}
use Rattle.std.proofs.lemmas.Slice.Eq.{bytes_eq-Decides}
use Rattle.std.proofs.Common.{inl, inr}
use Rattle.unicode_ident.specs.Ident.{is_xid_continue}
use Rattle.unicode_ident.proofs.IdentLemmas.{is_xid_start-ascii, is_xid_continue-ascii}
use Rattle.hol_terms.specs.Name.{Name, is_start, is_segment_of, on_step, are_segments_of, is_keyword, is_segment, is_name}

abbrev pub is_ascii_start : ℕ → Bool
is_ascii_start c = is_ascii_alphabetic c || (c == 95)

abbrev pub is_ascii_more : ℕ → Bool
is_ascii_more c = is_ascii_alphanumeric c || (c == 95)

abbrev pub is_ascii_segment : Name → Bool
is_ascii_segment [] = false
is_ascii_segment (c ∷ cs) = is_ascii_start c && list_all is_ascii_more cs

-- segments joined by dots; within a segment, the first argument is true
abbrev pub are_ascii_segments : Bool → Name → Bool
are_ascii_segments within [] = within
are_ascii_segments false (c ∷ cs) = is_ascii_start c && are_ascii_segments true cs
are_ascii_segments true (c ∷ cs) = if c == 46 then are_ascii_segments false cs else (is_ascii_more c && are_ascii_segments true cs)

abbrev pub is_ascii_name : Name → Bool
is_ascii_name n = (are_ascii_segments false n || bytes_eq n (codes "0")) && not (is_keyword n)

start_below : (c : ℕ) → is_ascii_start c ≡ true → c < 128
start_below c h = grind (arith, nat_tests)

more_below : (c : ℕ) → is_ascii_more c ≡ true → c < 128
more_below c h = grind (arith, nat_tests)

start_is : (c : ℕ) → is_ascii_start c ≡ true → is_start c ≡ true
start_is c h = ap (λ b. b || (c == 95)) (is_xid_start-ascii c (start_below c h)) ∙ h

more_is : (c : ℕ) → is_ascii_more c ≡ true → is_xid_continue c ≡ true
more_is c h = is_xid_continue-ascii c (more_below c h) ∙ h

all_more : (cs : Name) → list_all is_ascii_more cs ≡ true → (list_all is_xid_continue cs ≡ true) × IsAscii cs
all_more [] h = (refl, IsAscii-nil)
all_more (c ∷ cs) h =
    let p = and_parts (is_ascii_more c) (list_all is_ascii_more cs) h in
    let r = all_more cs p.1 in
    (and_from _ _ (more_is c p.0) r.0, IsAscii-cons c cs (more_below c p.0) r.1)

-- a text of ASCII characters is its own list of characters
read_as : (test : List ℕ → Bool) (n : Name) → IsAscii n → test n ≡ true → (is_utf8 n ≡ true) × (test (chars n) ≡ true)
read_as test n a h = (is_utf8-from_IsUtf8 n (IsUtf8-from_ascii n a), ap test (chars-IsAscii n a) ∙ h)

pub is_segment_from_ascii : (n : Name) → is_ascii_segment n ≡ true → is_segment n ≡ true
unfolding is_segment
is_segment_from_ascii [] h = cc
is_segment_from_ascii (c ∷ cs) h =
    let p = and_parts (is_ascii_start c) (list_all is_ascii_more cs) h in
    let m = all_more cs p.1 in
    let r = read_as is_segment_of (c ∷ cs) (IsAscii-cons c cs (start_below c p.0) m.1) (and_from _ _ (start_is c p.0) m.0) in
    and_from _ _ r.0 r.1

on_step-if : (b x : Bool) (f : Bool → Bool) → on_step (cond b (Some x) None) f ≡ (b && f x)
on_step-if true x f = refl
on_step-if false x f = refl

pub segments_are : (within : Bool) (cs : Name) → are_ascii_segments within cs ≡ true → (are_segments_of within cs ≡ true) × IsAscii cs
segments_are within [] h = (h, IsAscii-nil)
segments_are false (c ∷ cs) h =
    let p = and_parts (is_ascii_start c) (are_ascii_segments true cs) h in
    let r = segments_are true cs p.1 in
    (on_step-if (is_start c) true (λ next. are_segments_of next cs) ∙ and_from _ _ (start_is c p.0) r.0, IsAscii-cons c cs (start_below c p.0) r.1)
segments_are true (c ∷ cs) h = at (c == 46) refl (segments_are false cs) (segments_are true cs) h
  where
    at : (dot : Bool) → (c == 46) ≡ dot
        → (are_ascii_segments false cs ≡ true → (are_segments_of false cs ≡ true) × IsAscii cs)
        → (are_ascii_segments true cs ≡ true → (are_segments_of true cs ≡ true) × IsAscii cs)
        → cond dot (are_ascii_segments false cs) (is_ascii_more c && are_ascii_segments true cs) ≡ true
        → (on_step (cond dot (Some false) (cond (is_xid_continue c) (Some true) None)) (λ next. are_segments_of next cs) ≡ true) × IsAscii (c ∷ cs)
    at true e f g h = let r = f h in let b : c < 128 = grind (arith, nat_tests) in (r.0, IsAscii-cons c cs b r.1)
    at false e f g h =
        let p = and_parts (is_ascii_more c) (are_ascii_segments true cs) h in
        let r = g p.1 in
        (on_step-if (is_xid_continue c) true (λ next. are_segments_of next cs) ∙ and_from _ _ (more_is c p.0) r.0, IsAscii-cons c cs (more_below c p.0) r.1)

abbrev are_joined : List ℕ → Bool
are_joined cs = are_segments_of false cs

ascii_zero : IsAscii (codes "0")
ascii_zero = IsAscii-cons 48 [] (grind arith) IsAscii-nil

pub is_name_from_ascii : (n : Name) → is_ascii_name n ≡ true → is_name n ≡ true
unfolding is_name
is_name_from_ascii n h =
    let p = and_parts (are_ascii_segments false n || bytes_eq n (codes "0")) (not (is_keyword n)) h in
    let named : (is_utf8 n && (are_segments_of false (chars n) || bytes_eq n (codes "0"))) ≡ true =
    elim (or_cases (are_ascii_segments false n) (bytes_eq n (codes "0")) p.0) [
      | inl s ↦ (let m = segments_are false n s in let r = read_as are_joined n m.1 m.0 in and_from _ _ r.0 (or_left _ _ r.1))
      | inr z ↦ (let a : IsAscii n = subst IsAscii (sym ((bytes_eq-Decides n (codes "0")).0 z)) ascii_zero in
          and_from _ _ (is_utf8-from_IsUtf8 n (IsUtf8-from_ascii n a)) (or_right _ _ z))
    ] in
    and_from _ _ named p.1
