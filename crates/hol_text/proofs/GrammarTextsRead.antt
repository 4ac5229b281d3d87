-- A text by the grammar is read to its end.
use Rattle.std.proofs.Common.{◌≡◌, ◌≢◌, ℕ, ◌+◌, ◌<◌, ◌≤◌, Bool, true, false, List, [], ◌∷◌, ◌++◌, length, refl, ap, sym, ◌∙◌, arith}
use Rattle.hol_terms.specs.Ty.{Ty}
use Rattle.hol_terms.specs.Tm.{Tm}
use Rattle.hol_terms.specs.Signature.{Signature}
use Rattle.hol_terms.specs.Text.{Text}
use Rattle.hol_terms.specs.Tokens.{Kind, the_end, Token, token, tokens, head_kind}
use Rattle.hol_terms.specs.Meaning.{Meaning, means, fault, unknown_at, ill_at}
use Rattle.hol_terms.specs.Reading.{type_at, term_at, Reading, reads, no_syntax, unknown, ill_typed, reading_of, ended, whole, only_meaning, reading_of_type, reading_of_term}
use Rattle.hol_terms.specs.Grammar.{IsType, IsTerm, before_end}
use Rattle.hol_text.proofs.ReadBackTypes.{closes}
use Rattle.hol_text.proofs.ReadBackAtoms.{closes_term}
use Rattle.hol_text.proofs.GrammarCounts.{tokens_short}
use Rattle.hol_text.proofs.GrammarTypesRead.{Got, type_read}
use Rattle.hol_text.proofs.GrammarTermsRead.{term_read}

-- the tokens from the end on
abbrev from_end : List Token → List Token
from_end [] = []
from_end (token the_end w p ∷ ts) = token the_end w p ∷ ts
from_end (token k w p ∷ ts) = from_end ts

both_parts : (ts : List Token) → before_end ts ++ from_end ts ≡ ts
both_parts [] = refl
both_parts (token the_end w p ∷ ts) = refl
both_parts (token k w p ∷ ts) = ap (λ us. token k w p ∷ us) (both_parts ts)

end_first : (ts : List Token) → head_kind (from_end ts) ≡ the_end
end_first [] = refl
end_first (token the_end w p ∷ ts) = refl
end_first (token k w p ∷ ts) = end_first ts

is_syntax : {A : Type 0} → Reading A → Bool
is_syntax (no_syntax p) = true
is_syntax r = false

unlike : false ≡ true → ⊥
unlike e = cc

no_fault : {A : Type 0} (m : Meaning A) (p : ℕ) → reading_of m ≢ no_syntax p
unfolding is_syntax
no_fault (means x) p e = unlike (ap is_syntax e)
no_fault (fault (unknown_at n q)) p e = unlike (ap is_syntax e)
no_fault (fault (ill_at q)) p e = unlike (ap is_syntax e)

pub type_readable : (s : Signature) (t : Text) → IsType (before_end (tokens t)) → (p : ℕ) → reading_of_type s t ≢ no_syntax p
unfolding reading_of_type
type_readable s t h p e =
    let ts = tokens t in
    let g = type_read s (before_end ts) h (length t + 1) (from_end ts) (omega (arith, tokens_short t)) (ap closes (end_first ts)) in
    let is : whole (type_at s (length t + 1) ts) ≡ reading_of g.value =
    ap (λ us. whole (type_at s (length t + 1) us)) (sym (both_parts ts)) ∙ ap whole g.is ∙ ap (λ k. ended k g.value (from_end ts)) (end_first ts) in
    no_fault g.value p (sym is ∙ e)

pub term_readable : (s : Signature) (t : Text) → IsTerm (before_end (tokens t)) → (p : ℕ) → reading_of_term s t ≢ no_syntax p
unfolding reading_of_term
term_readable s t h p e =
    let ts = tokens t in
    let g = term_read s (before_end ts) h (length t + 1) [] (from_end ts) (omega (arith, tokens_short t)) (ap closes_term (end_first ts)) in
    let is : whole (only_meaning (term_at s (length t + 1) [] ts)) ≡ reading_of g.value.meaning =
    ap (λ us. whole (only_meaning (term_at s (length t + 1) [] us))) (sym (both_parts ts)) ∙ ap (λ y. whole (only_meaning y)) g.is ∙ ap (λ k. ended k g.value.meaning (from_end ts)) (end_first ts) in
    no_fault g.value.meaning p (sym is ∙ e)
