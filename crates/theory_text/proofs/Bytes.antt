-- Bytes that are no text state nothing.
use Rattle.std.proofs.Common.{◌≡◌, refl, ap, Bool, true, false, cond, List, ℕ, length, Option, None}
use Rattle.std.specs.Str.{is_utf8, IsUtf8}
use Rattle.std.proofs.lemmas.Str.{IsUtf8-from_is_utf8, is_utf8-from_IsUtf8}
use Rattle.hol_terms.specs.Signature.{Signature}
use Rattle.hol_terms.specs.Tokens.{tokens}
use Rattle.theory_text.specs.Command.{Define, define_in, define_of}

pub no_text : (s : Signature) (t : List ℕ) → (IsUtf8 t → ⊥) → None ≡ define_of s t
unfolding define_of
no_text s t n = at (is_utf8 t) refl
  where
    at : (b : Bool) → is_utf8 t ≡ b → None ≡ cond b (define_in s (length t) (tokens t)) None
    at true e = absurd (n (IsUtf8-from_is_utf8 t e))
    at false e = refl

pub a_text : (s : Signature) (t : List ℕ) → IsUtf8 t → define_of s t ≡ define_in s (length t) (tokens t)
unfolding define_of
a_text s t u = ap (λ b. cond b (define_in s (length t) (tokens t)) None) (is_utf8-from_IsUtf8 t u)

pub ruleset text_lemmas = (no_text, a_text)
