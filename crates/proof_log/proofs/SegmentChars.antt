-- Segments, a character at a time.
use Rattle.std.proofs.Common.{◌≡◌, ℕ, Bool, true, false, ◌&&◌, List, [], ◌∷◌, ◌++◌, length, refl, sym, ap, ◌∙◌, arith}
use Rattle.std.specs.List.{list_all}
use Rattle.std.proofs.lemmas.Str.{chars_past_char, chars-nil, is_utf8-from_IsUtf8}
use Rattle.std.specs.Char.{encode_utf8}
use Rattle.std.specs.Str.{chars, IsUtf8}
use Rattle.unicode_ident.specs.Ident.{is_xid_continue}
use Rattle.hol_terms.specs.Name.{Name, is_start, is_segment_of, is_segment}
use Rattle.proof_log.specs.Segments.{goes_on, is_rest}

pub rest-more : (w : Bool) (bs rest : List ℕ) (c : ℕ) → IsUtf8 bs → bs ≡ encode_utf8 c ++ rest → is_rest w (chars bs) ≡ (goes_on w c && is_rest true (chars rest))
rest-more w bs rest c u e = ap (is_rest w) (chars_past_char bs rest c u e)

pub rest-goes_on : (w : Bool) (bs rest : List ℕ) (c : ℕ) → IsUtf8 bs → bs ≡ encode_utf8 c ++ rest → goes_on w c ≡ true → is_rest w (chars bs) ≡ is_rest true (chars rest)
rest-goes_on w bs rest c u e h = rest-more w bs rest c u e ∙ ap (λ b. b && is_rest true (chars rest)) h

pub rest-stops : (w : Bool) (bs rest : List ℕ) (c : ℕ) → IsUtf8 bs → bs ≡ encode_utf8 c ++ rest → goes_on w c ≡ false → is_rest w (chars bs) ≡ false
rest-stops w bs rest c u e h = rest-more w bs rest c u e ∙ ap (λ b. b && is_rest true (chars rest)) h

pub rest-end : (w : Bool) (bs : List ℕ) → length bs ≡ 0 → is_rest w (chars bs) ≡ w
rest-end w [] e = ap (is_rest w) chars-nil
rest-end w (b ∷ bs) e = absurd (omega arith)

within : (cs : List ℕ) → is_rest true cs ≡ list_all is_xid_continue cs
within [] = refl
within (c ∷ cs) = ap (λ b. is_xid_continue c && b) (within cs)

whole : (cs : List ℕ) → is_rest false cs ≡ is_segment_of cs
whole [] = refl
whole (c ∷ cs) = ap (λ b. is_start c && b) (within cs)

pub segment-is : (n : Name) → IsUtf8 n → is_rest false (chars n) ≡ is_segment n
unfolding is_segment
segment-is n u = whole (chars n) ∙ ap (λ b. b && is_segment_of (chars n)) (sym (is_utf8-from_IsUtf8 n u))

pub ruleset segment_lemmas = (segment-is)
