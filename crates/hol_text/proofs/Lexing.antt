-- Tokens that are added one after the other.
use Rattle.std.proofs.Common.{◌≡◌, refl, ap, ◌∙◌, ℕ, List, [], ◌∷◌, ◌++◌, append_assoc}
use Rattle.std.proofs.Common.{◌+◌, length, length-append, arith}
use Rattle.std.specs.Char.{encode_utf8}
use Rattle.std.specs.Str.{chars, IsUtf8}
use Rattle.std.proofs.lemmas.Str.{chars_past_char, chars-nil}
use Rattle.hol_terms.specs.Tokens as Lex
use Rattle.hol_terms.specs.Tokens.{the_end, sign, step, last, tokens_in}
use Rattle.hol_text.specs.TokenViews.{token_of, tokens_of}
use Rattle.hol_text.specs.declared.tokens.Token.{Token}

pub tokens_push : (ts : List Token) (t : Token) → tokens_of (ts ++ t ∷ []) ≡ tokens_of ts ++ token_of t ∷ []
tokens_push [] t = refl
tokens_push (x ∷ xs) t = ap (λ ys. token_of x ∷ ys) (tokens_push xs t)

pub go_on : (s : Lex.State) (p c : ℕ) (bs rest : List ℕ) → IsUtf8 bs → bs ≡ encode_utf8 c ++ rest →
    tokens_in s p (chars bs) ≡ (step s p c).0 ++ tokens_in (step s p c).1 (p + length (encode_utf8 c)) (chars rest)
go_on s p c bs rest u e = ap (tokens_in s p) (chars_past_char bs rest c u e)

pub at_end : (s : Lex.State) (p : ℕ) (bs : List ℕ) → length bs ≡ 0 → tokens_in s p (chars bs) ≡ last s ++ sign the_end p ∷ []
at_end s p [] e = ap (tokens_in s p) chars-nil
at_end s p (b ∷ bs) e = absurd (omega arith)

pub stepped : (whole old new : List Lex.Token) (s s' : Lex.State) (p q p' c : ℕ) (bs rest : List ℕ) →
    whole ≡ old ++ tokens_in s p (chars bs) → IsUtf8 bs → q ≡ p → bs ≡ encode_utf8 c ++ rest → p' ≡ p + length (encode_utf8 c) →
    new ≡ old ++ (step s q c).0 → s' ≡ (step s q c).1 → whole ≡ new ++ tokens_in s' p' (chars rest)
stepped whole old new s s' p q p' c bs rest h u at e next made moved =
    let g = go_on s p c bs rest u e in
    let a = append_assoc old (step s p c).0 (tokens_in (step s p c).1 (p + length (encode_utf8 c)) (chars rest)) in
    cc

pub finished : (whole old mid new : List Lex.Token) (s : Lex.State) (p n : ℕ) (bs : List ℕ) →
    whole ≡ old ++ tokens_in s p (chars bs) → length bs ≡ 0 → p + length bs ≡ n → mid ≡ old ++ last s → new ≡ mid ++ sign the_end n ∷ [] → new ≡ whole
finished whole old mid new s p n bs h e ends made closed =
    let g = at_end s p bs e in
    let a = append_assoc old (last s) (sign the_end p ∷ []) in
    let same : p ≡ n = omega arith in
    cc

pub still : (p p' n c : ℕ) (bs rest : List ℕ) → p + length bs ≡ n → bs ≡ encode_utf8 c ++ rest → p' ≡ p + length (encode_utf8 c) → p' + length rest ≡ n
still p p' n c bs rest h e next = let l = ap length e ∙ length-append (encode_utf8 c) rest in omega (arith, l)

pub ruleset lexing_lemmas = (tokens_push)
