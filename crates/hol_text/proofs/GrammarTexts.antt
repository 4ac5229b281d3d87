-- A text that is read to its end is one by the grammar.
use Rattle.std.proofs.Common.{◌≡◌, ◌≢◌, ℕ, ◌+◌, Bool, true, false, List, [], ◌∷◌, ◌++◌, length, refl, ap, sym, ◌∙◌, subst}
use Rattle.hol_terms.specs.Ty.{Ty}
use Rattle.hol_terms.specs.Tm.{Tm}
use Rattle.hol_terms.specs.Signature.{Signature}
use Rattle.hol_terms.specs.Text.{Text}
use Rattle.hol_terms.specs.Tokens.{Kind, a_name, a_variable, a_keyword, open_paren, close_paren, open_brace, close_brace, open_bracket, close_bracket, comma, colon, semicolon, dot, bar, equals, arrow, lambda_sign, all_sign, ex_sign, not_sign, and_sign, or_sign, implies_sign, the_end, no_token, Token, token, tokens, head_kind, head_place}
use Rattle.hol_terms.specs.Meaning.{Meaning, Operand}
use Rattle.hol_terms.specs.Reading.{Front, got, stop, type_at, term_at, Reading, no_syntax, ended, whole, only_meaning, reading_of_type, reading_of_term}
use Rattle.hol_terms.specs.Grammar.{kind, Is, IsType, a_domain, a_function, IsDomain, variable, constructor, in_parentheses, of_several, of_one, AreTypes, one, more, IsBinderSign, by_lambda, by_all, by_ex, IsInfixSign, by_equals, by_and, by_or, by_implies, IsTerm, a_binder, a_negation, an_application, an_infix, AreAtoms, first, further, IsAtom, bare, at_types, free, grouped, before_end}
use Rattle.hol_text.proofs.GrammarTypes.{Splits, type_form}
use Rattle.hol_text.proofs.GrammarTerms.{term_form}

abbrev is_end : Kind → Bool
is_end the_end = true
is_end k = false

-- the end is not among the tokens
abbrev Unended : List Token → Type 0
Unended [] = Unit {0}
Unended (x ∷ ts) = (is_end (kind x) ≡ false) × Unended ts

joined : (a b : List Token) → Unended a → Unended b → Unended (a ++ b)
joined [] b h g = g
joined (x ∷ a) b h g = (h.0, joined a b h.1 g)

binder_unended : (k : Kind) → IsBinderSign k → is_end k ≡ false
binder_unended _ by_lambda = refl
binder_unended _ by_all = refl
binder_unended _ by_ex = refl

infix_unended : (k : Kind) → IsInfixSign k → is_end k ≡ false
infix_unended _ by_equals = refl
infix_unended _ by_and = refl
infix_unended _ by_or = refl
infix_unended _ by_implies = refl

mutual
  type_unended : (ts : List Token) → IsType ts → Unended ts
  type_unended _ (a_domain d h) = domain_unended d h
  type_unended _ (a_function d r x h e g) = joined d (x ∷ r) (domain_unended d h) (ap is_end e, type_unended r g)

  domain_unended : (ts : List Token) → IsDomain ts → Unended ts
  domain_unended _ (variable x e) = (ap is_end e, tt)
  domain_unended _ (constructor x e) = (ap is_end e, tt)
  domain_unended _ (in_parentheses t o c e h g) = (ap is_end e, joined t (c ∷ []) (type_unended t h) (ap is_end g, tt))
  domain_unended _ (of_several t ts o x c n e h f hs g i) = (ap is_end e, joined t (x ∷ (ts ++ c ∷ n ∷ [])) (type_unended t h) (ap is_end f, joined ts (c ∷ n ∷ []) (types_unended ts hs) (ap is_end g, (ap is_end i, tt))))
  domain_unended _ (of_one d n h e) = joined d (n ∷ []) (domain_unended d h) (ap is_end e, tt)

  types_unended : (ts : List Token) → AreTypes ts → Unended ts
  types_unended _ (one t h) = type_unended t h
  types_unended _ (more t ts x h e g) = joined t (x ∷ ts) (type_unended t h) (ap is_end e, types_unended ts g)

mutual
  term_unended : (ts : List Token) → IsTerm ts → Unended ts
  term_unended _ (a_binder t b x n c d hx hn hu hc ht hd hb) =
      (binder_unended (kind x) hx, (ap is_end hn, (ap is_end hc, joined t (d ∷ b) (type_unended t ht) (ap is_end hd, term_unended b hb))))
  term_unended _ (a_negation a x e h) = (ap is_end e, atoms_unended a h)
  term_unended _ (an_application a h) = atoms_unended a h
  term_unended _ (an_infix a b x h e g) = joined a (x ∷ b) (atoms_unended a h) (infix_unended (kind x) e, atoms_unended b g)

  atoms_unended : (ts : List Token) → AreAtoms ts → Unended ts
  atoms_unended _ (first a h) = atom_unended a h
  atoms_unended _ (further f a h g) = joined f a (atoms_unended f h) (atom_unended a g)

  atom_unended : (ts : List Token) → IsAtom ts → Unended ts
  atom_unended _ (bare n e) = (ap is_end e, tt)
  atom_unended _ (at_types ts n o c e f h g) = (ap is_end e, (ap is_end f, joined ts (c ∷ []) (types_unended ts h) (ap is_end g, tt)))
  atom_unended _ (free t o n x c e f g h i) = (ap is_end e, (ap is_end f, (ap is_end g, joined t (c ∷ []) (type_unended t h) (ap is_end i, tt))))
  atom_unended _ (grouped t o c e h g) = (ap is_end e, joined t (c ∷ []) (term_unended t h) (ap is_end g, tt))

-- what stands before the end
cut : (front rest : List Token) → Unended front → head_kind rest ≡ the_end → before_end (front ++ rest) ≡ front
cut [] [] h e = refl
cut [] (token the_end w p ∷ ts) h e = refl
cut [] (token k w p ∷ ts) h e = cc
cut (token the_end w p ∷ front) rest h e = cc h.0
cut (token k w p ∷ front) rest h e = ap (λ us. token k w p ∷ us) (cut front rest h.1 e)

ended_is : {A : Type 0} (k : Kind) (m : Meaning A) (rest : List Token) → ((p : ℕ) → ended k m rest ≢ no_syntax p) → k ≡ the_end
ended_is the_end m rest h = refl
ended_is k m rest h = absurd (h (head_place rest) refl)

pub type_text : (s : Signature) (t : Text) → ((p : ℕ) → reading_of_type s t ≢ no_syntax p) → IsType (before_end (tokens t))
unfolding reading_of_type
type_text s t h = at (type_at s (length t + 1) (tokens t)) refl h
  where
    at : (x : Front (Meaning Ty)) → type_at s (length t + 1) (tokens t) ≡ x → ((p : ℕ) → whole x ≢ no_syntax p) → IsType (before_end (tokens t))
    at (stop p) e g = absurd (g p refl)
    at (got m rest) e g =
        let f = type_form s (length t + 1) (tokens t) rest m e in
        subst IsType (sym (ap before_end f.is ∙ cut f.front rest (type_unended f.front f.form) (ended_is (head_kind rest) m rest g))) f.form

pub term_text : (s : Signature) (t : Text) → ((p : ℕ) → reading_of_term s t ≢ no_syntax p) → IsTerm (before_end (tokens t))
unfolding reading_of_term
term_text s t h = at (term_at s (length t + 1) [] (tokens t)) refl h
  where
    at : (x : Front Operand) → term_at s (length t + 1) [] (tokens t) ≡ x → ((p : ℕ) → whole (only_meaning x) ≢ no_syntax p) → IsTerm (before_end (tokens t))
    at (stop p) e g = absurd (g p refl)
    at (got x rest) e g =
        let f = term_form s (length t + 1) [] (tokens t) rest x e in
        subst IsTerm (sym (ap before_end f.is ∙ cut f.front rest (term_unended f.front f.form) (ended_is (head_kind rest) x.meaning rest g))) f.form
