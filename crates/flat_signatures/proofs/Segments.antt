-- Segments, a character at a time.
use Rattle.std.proofs.Common.{◌≡◌, ℕ, Bool, true, false, List, [], ◌∷◌, ◌++◌, length, ◌&&◌, refl, ap, ◌∙◌, arith}
use Rattle.std.proofs.lemmas.Str.{chars_past_char, chars-nil, is_utf8-from_IsUtf8}
use Rattle.std.specs.Char.{encode_utf8}
use Rattle.std.specs.List.{list_all}
use Rattle.std.specs.Str.{chars, IsUtf8}
use Rattle.unicode_ident.specs.Ident.{is_xid_continue}
use Rattle.hol_terms.specs.Name.{Name, is_segment_of, is_segment}
use Rattle.flat_signatures.specs.Segments.{goes_on}

-- what is left of a segment that has begun, or of one that hasn't
abbrev pub is_rest : Bool → List ℕ → Bool
is_rest true cs = list_all is_xid_continue cs
is_rest false cs = is_segment_of cs

one_more : (b : Bool) (c : ℕ) (cs : List ℕ) → is_rest b (c ∷ cs) ≡ (goes_on b c && list_all is_xid_continue cs)
one_more true c cs = refl
one_more false c cs = refl

step : (b : Bool) (bs rest : List ℕ) (c : ℕ) → IsUtf8 bs → bs ≡ encode_utf8 c ++ rest → is_rest b (chars bs) ≡ (goes_on b c && is_rest true (chars rest))
step b bs rest c u e = ap (is_rest b) (chars_past_char bs rest c u e) ∙ one_more b c (chars rest)

pub rest_further : (b : Bool) (bs rest : List ℕ) (c : ℕ) → IsUtf8 bs → bs ≡ encode_utf8 c ++ rest → goes_on b c ≡ true → is_rest b (chars bs) ≡ is_rest true (chars rest)
rest_further b bs rest c u e h = step b bs rest c u e ∙ ap (λ x. x && is_rest true (chars rest)) h

pub rest_wrong : (b : Bool) (bs rest : List ℕ) (c : ℕ) → IsUtf8 bs → bs ≡ encode_utf8 c ++ rest → goes_on b c ≡ false → is_rest b (chars bs) ≡ false
rest_wrong b bs rest c u e h = step b bs rest c u e ∙ ap (λ x. x && is_rest true (chars rest)) h

at_end : (b : Bool) → is_rest b [] ≡ b
at_end true = refl
at_end false = refl

pub rest_over : (b : Bool) (bs : List ℕ) → length bs ≡ 0 → is_rest b (chars bs) ≡ b
rest_over b [] e = ap (is_rest b) chars-nil ∙ at_end b
rest_over b (c ∷ bs) e = absurd (omega arith)

pub segment_is : (n : Name) (r : Bool) → IsUtf8 n → is_rest false (chars n) ≡ r → is_segment n ≡ r
unfolding is_segment
segment_is n r u e = rw (is_utf8-from_IsUtf8 n u) e
