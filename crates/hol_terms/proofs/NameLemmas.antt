-- Names, a character at a time.
use Rattle.std.proofs.Common.{◌≡◌, ℕ, Bool, true, false, ◌||◌, not, bytes_eq, codes, List, [], ◌∷◌, ◌++◌, length, Some, None, refl, ap, ◌∙◌, arith}
use Rattle.std.proofs.lemmas.Str.{chars_past_char, chars-nil, is_utf8-from_IsUtf8}
use Rattle.std.specs.Char.{encode_utf8}
use Rattle.std.specs.Str.{chars, IsUtf8}
use Rattle.hol_terms.specs.Name.{Name, segment_step, on_step, are_segments_of, is_keyword, is_name}

pub segments-step : (w : Bool) (bs rest : List ℕ) (c : ℕ) → IsUtf8 bs → bs ≡ encode_utf8 c ++ rest → are_segments_of w (chars bs) ≡ on_step (segment_step w c) (λ next. are_segments_of next (chars rest))
segments-step w bs rest c u e = rw (chars_past_char bs rest c u e) refl

pub segments-end : (w : Bool) (bs : List ℕ) → length bs ≡ 0 → are_segments_of w (chars bs) ≡ w
segments-end w [] e = rw chars-nil refl
segments-end w (b ∷ bs) e = absurd (omega arith)

pub segments-go_on : (w next : Bool) (bs rest : List ℕ) (c : ℕ) → IsUtf8 bs → bs ≡ encode_utf8 c ++ rest → segment_step w c ≡ Some next → are_segments_of w (chars bs) ≡ are_segments_of next (chars rest)
segments-go_on w next bs rest c u e s = segments-step w bs rest c u e ∙ ap (λ o. on_step o (λ within. are_segments_of within (chars rest))) s

pub segments-stop : (w : Bool) (bs rest : List ℕ) (c : ℕ) → IsUtf8 bs → bs ≡ encode_utf8 c ++ rest → segment_step w c ≡ None → are_segments_of w (chars bs) ≡ false
segments-stop w bs rest c u e s = segments-step w bs rest c u e ∙ ap (λ o. on_step o (λ within. are_segments_of within (chars rest))) s

pub name-is : (n : Name) (key : Bool) → IsUtf8 n → (are_segments_of false (chars n) || bytes_eq n (codes "0")) ≡ true → key ≡ is_keyword n → not key ≡ is_name n
unfolding is_name
name-is n key u s k = rw (is_utf8-from_IsUtf8 n u, s, k) refl
