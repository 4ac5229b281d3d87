-- A text is refused as a term at its first wrong token.
use Rattle.std.proofs.Common.{◌≡◌, ℕ, ◌+◌, ◌<◌, true, List, [], ◌∷◌, ◌++◌, length, length-append, append-nil, refl, ap, sym, ◌∙◌, subst, arith}
use Rattle.hol_terms.specs.Signature.{Signature}
use Rattle.hol_terms.specs.Text.{Text}
use Rattle.hol_terms.specs.Tokens.{the_end, Token, token, tokens, head_kind, head_place}
use Rattle.hol_terms.specs.Meaning.{Operand}
use Rattle.hol_terms.specs.Reading.{Front, got, stop, term_at, no_syntax, ended, whole, only_meaning, reading_of_term}
use Rattle.hol_terms.specs.Grammar.{IsTerm}
use Rattle.text_laws.specs.Refusals.{FirstWrong}
use Rattle.hol_text.proofs.GrammarCounts.{tokens_short}
use Rattle.hol_text.proofs.GrammarTypes.{unlike, got_rest}
use Rattle.text_laws.proofs.TypeEnds.{size}
use Rattle.text_laws.proofs.TypeRefusals.{has_end, tokens_end, end_past, prefix_unended, same_place, no_fault}
use Rattle.text_laws.proofs.TermsRead.{term_read}
use Rattle.text_laws.proofs.TermAgains.{TermAgain, term_again}
use Rattle.text_laws.proofs.TermStops.{TermHalts, term_unended, term_stop}

begins_none : (s : Signature) (front : List Token) (x : Token) (rest : List Token) (p : ℕ) → TermHalts s p front (x ∷ rest) → (more : List Token) → IsTerm (front ++ x ∷ more) → ⊥
begins_none s front (token k w q) rest p al more h =
    let x = token k w q in
    let n = length (front ++ x ∷ more) + 1 in
    let r = term_read s (front ++ x ∷ more) h n [] [] (omega arith) refl in
    let e = al n [] (omega (arith, length-append front (x ∷ more))) (x ∷ more) (record { kinds = refl; texts = refl; places = refl }) in
    unlike p r.value [] (sym e ∙ ap (term_at s n []) (sym (append-nil (front ++ x ∷ more))) ∙ r.is)

stopped : (s : Signature) (ts front rest : List Token) (p : ℕ) → ts ≡ front ++ rest → has_end rest ≡ true → head_place rest ≡ p → (more : List Token) → IsTerm (front ++ more) → TermHalts s p front rest → FirstWrong IsTerm ts p
stopped s ts front [] p i u e more h al = cc
stopped s ts front (token k w q ∷ rest) p i u e more h al =
    record { front = front; wrong = token k w q; rest = rest; is = i; place = e; begins = (more, h); begins_none = begins_none s front (token k w q) rest p al }

-- a term goes on with no such token
goes_on_none : (s : Signature) (front : List Token) (x : Token) (rest : List Token) → TermAgain s front (x ∷ rest) → (more : List Token) → IsTerm (front ++ x ∷ more) → ⊥
goes_on_none s front (token k w q) rest al more h =
    let x = token k w q in
    let n = length (front ++ x ∷ more) + 1 in
    let r = term_read s (front ++ x ∷ more) h n [] [] (omega arith) refl in
    let a = al n [] (omega (arith, length-append front (x ∷ more))) (x ∷ more) refl in
    longer (got_rest a.value r.value (x ∷ more) [] (sym a.is ∙ ap (term_at s n []) (sym (append-nil (front ++ x ∷ more))) ∙ r.is))
  where
    longer : {y : Token} {ys : List Token} → y ∷ ys ≡ [] → ⊥
    longer e = cc

unended : (s : Signature) (ts front rest : List Token) (p : ℕ) (x : Operand) → ts ≡ front ++ rest → IsTerm front → TermAgain s front rest → ended (head_kind rest) x.meaning rest ≡ no_syntax p → FirstWrong IsTerm ts p
unended s ts front [] p x i f al e = absurd (no_fault x.meaning p e)
unended s ts front (token the_end w q ∷ rest) p x i f al e = absurd (no_fault x.meaning p e)
unended s ts front (token k w q ∷ rest) p x i f al e =
    record { front = front; wrong = token k w q; rest = rest; is = i; place = same_place q p e; begins = ([], subst IsTerm (sym (append-nil front)) f); begins_none = goes_on_none s front (token k w q) rest al }

first_wrong : (s : Signature) (n : ℕ) (ts : List Token) (p : ℕ) → size ts < n → has_end ts ≡ true → (x : Front Operand) → term_at s n [] ts ≡ x → whole (only_meaning x) ≡ no_syntax p → FirstWrong IsTerm ts p
first_wrong s n ts p l u (stop q) i e =
    let w = term_stop s n [] ts p l (i ∙ ap stop (same_place q p e)) in
    stopped s ts w.front w.rest p w.is (end_past w.front w.rest (prefix_unended w.front w.begins.0 (term_unended (w.front ++ w.begins.0) w.begins.1)) (sym (ap has_end w.is) ∙ u)) w.place w.begins.0 w.begins.1 w.always
first_wrong s n ts p l u (got x rest) i e =
    let f = term_again s n [] ts rest x i in
    unended s ts f.front rest p x f.is f.form f.always e

pub term_refused : (s : Signature) (t : Text) (p : ℕ) → reading_of_term s t ≡ no_syntax p → FirstWrong IsTerm (tokens t) p
unfolding reading_of_term
term_refused s t p e = first_wrong s (length t + 1) (tokens t) p (omega (arith, tokens_short t)) (tokens_end t) (term_at s (length t + 1) [] (tokens t)) refl e
