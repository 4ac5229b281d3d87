-- The canonical text of an application reads as it: operands, arguments, and terms around a sign.
use Rattle.std.proofs.Common.{◌≡◌, ℕ, zero, suc, ◌+◌, ◌<◌, ◌≤◌, Bool, true, false, not, List, [], ◌++◌, length, length-append, append_assoc, refl, ap, sym, ◌∙◌, arith}
use Rattle.std.specs.Prelude.{codes}
use Rattle.hol_terms.specs.Ty.{Ty}
use Rattle.hol_terms.specs.Tm.{Tm, tm_index, tm_free, tm_const, tm_comb, tm_abs}
use Rattle.hol_terms.specs.Typing.{tm_type, fun_ty, range_ty}
use Rattle.hol_terms.specs.Rules.{fits}
use Rattle.hol_terms.specs.Signature.{Signature, IsOver}
use Rattle.hol_terms.specs.Text.{Text, parenthesized, sugar, none, is_plain, is_atom}
use Rattle.hol_terms.proofs.Same.{same_ty-from}
use Rattle.hol_terms.specs.Tokens.{Token, head_kind, tokens_from}
use Rattle.hol_terms.specs.Meaning.{means, fitted, Operand, operand, apply}
use Rattle.hol_terms.specs.Reading.{Front, ◌>>=◌, expect_by, is_close_paren, atom_at, begins_atom, atoms_by, atoms_at, application_at, term_at}
use Rattle.hol_text.proofs.ReadBackTokens.{Ends, ends_sign, at_blank, at_open_paren, at_close_paren}
use Rattle.hol_text.proofs.ReadBackBinders.{scope, opened_type}
use Rattle.hol_text.proofs.ReadBackAtoms.{text_at, in_scope, Follows, follows_blank, closed_paren, Gives, leads, Goes, stops, ReadsTm, plain_whole, atom_spine}

-- ---- parentheses

-- a term in parentheses
paren_gives : (s : Signature) (bound : List Ty) (t : Tm) → ReadsTm s bound t → (n p : ℕ) (r : Text) → length (text_at bound t) < n
    → Gives (atom_at s (term_at s n) n (scope bound) (tokens_from p (codes "(" ++ (text_at bound t ++ (codes ")" ++ r))))) (in_scope bound t) r
unfolding atom_at
paren_gives s bound t k n p r l =
    let g = k.whole n (p + 1) (codes ")" ++ r) l (closed_paren r) in
    record {
      first = g.first;
      place = g.place + 1;
      is = ap (atom_at s (term_at s n) n (scope bound)) (at_open_paren p (text_at bound t ++ (codes ")" ++ r)))
          ∙ ap (λ x. x >>= (λ t rest. expect_by (is_close_paren (head_kind rest)) t rest)) g.is
          ∙ ap (λ ts. expect_by (is_close_paren (head_kind ts)) (operand (means (in_scope bound t)) g.first) ts) (at_close_paren g.place r);
    }

abbrev pub operand_text : List Ty → Tm → Text
operand_text bound t = parenthesized (not (is_plain t)) (text_at bound t)

abbrev pub argument_text : List Ty → Tm → Text
argument_text bound t = parenthesized (not (is_atom t)) (text_at bound t)

inside : (x r : Text) → (codes "(" ++ x ++ codes ")") ++ r ≡ codes "(" ++ (x ++ (codes ")" ++ r))
inside x r = simp append_assoc

pub paren_length : (x : Text) → length (codes "(" ++ x ++ codes ")") ≡ length x + 2
paren_length x = omega (arith, length-append (codes "(" ++ x) (codes ")"))

paren_starts : (x : Text) (p : ℕ) (r : Text) → begins_atom (head_kind (tokens_from p ((codes "(" ++ x ++ codes ")") ++ r))) ≡ true
paren_starts x p r = ap (λ y. begins_atom (head_kind (tokens_from p y))) (inside x r) ∙ ap (λ ts. begins_atom (head_kind ts)) (at_open_paren p (x ++ (codes ")" ++ r)))

-- ---- operands and arguments

pub operand_starts : (s : Signature) (bound : List Ty) (t : Tm) → ReadsTm s bound t → (p : ℕ) (r : Text) → Ends r → begins_atom (head_kind (tokens_from p (operand_text bound t ++ r))) ≡ true
operand_starts s bound t k p r e = at (is_plain t) refl
  where
    at : (b : Bool) → is_plain t ≡ b → begins_atom (head_kind (tokens_from p (parenthesized (not b) (text_at bound t) ++ r))) ≡ true
    at true h = k.starts h p r e
    at false h = paren_starts (text_at bound t) p r

atom_plain : (t : Tm) → is_atom t ≡ true → is_plain t ≡ true
atom_plain (tm_index i t) h = refl
atom_plain (tm_free v) h = refl
atom_plain (tm_const c ts t) h = refl
atom_plain (tm_comb f x) h = cc
atom_plain (tm_abs t b) h = cc

pub argument_starts : (s : Signature) (bound : List Ty) (t : Tm) → ReadsTm s bound t → (p : ℕ) (r : Text) → Ends r → begins_atom (head_kind (tokens_from p (argument_text bound t ++ r))) ≡ true
argument_starts s bound t k p r e = at (is_atom t) refl
  where
    at : (b : Bool) → is_atom t ≡ b → begins_atom (head_kind (tokens_from p (parenthesized (not b) (text_at bound t) ++ r))) ≡ true
    at true h = k.starts (atom_plain t h) p r e
    at false h = paren_starts (text_at bound t) p r

pub operand_goes : (s : Signature) (bound : List Ty) (t : Tm) → ReadsTm s bound t → (n p : ℕ) (r : Text) → length (operand_text bound t) ≤ n → Follows r
    → Goes s bound n (application_at s (term_at s n) n (scope bound) (tokens_from p (operand_text bound t ++ r))) (in_scope bound t) r (length (operand_text bound t))
operand_goes s bound t k n p r l f = at (is_plain t) refl l
  where
    at : (b : Bool) → is_plain t ≡ b → length (parenthesized (not b) (text_at bound t)) ≤ n
        → Goes s bound n (application_at s (term_at s n) n (scope bound) (tokens_from p (parenthesized (not b) (text_at bound t) ++ r))) (in_scope bound t) r (length (parenthesized (not b) (text_at bound t)))
    at true h m = k.spine h n p r m f
    at false h m =
        let e = paren_length (text_at bound t) in
        atom_spine s bound (codes "(" ++ text_at bound t ++ codes ")") (in_scope bound t) n p r (omega (arith, e))
        (leads (ap (λ y. atom_at s (term_at s n) n (scope bound) (tokens_from p y)) (inside (text_at bound t) r)) (paren_gives s bound t k n p r (omega (arith, e))))

pub argument_gives : (s : Signature) (bound : List Ty) (t : Tm) → ReadsTm s bound t → (n p : ℕ) (r : Text) → length (argument_text bound t) ≤ n → Follows r
    → Gives (atom_at s (term_at s n) n (scope bound) (tokens_from p (argument_text bound t ++ r))) (in_scope bound t) r
argument_gives s bound t k n p r l f = at (is_atom t) refl l
  where
    at : (b : Bool) → is_atom t ≡ b → length (parenthesized (not b) (text_at bound t)) ≤ n → Gives (atom_at s (term_at s n) n (scope bound) (tokens_from p (parenthesized (not b) (text_at bound t) ++ r))) (in_scope bound t) r
    at true h m = k.atom h n p r m f
    at false h m =
        leads (ap (λ y. atom_at s (term_at s n) n (scope bound) (tokens_from p y)) (inside (text_at bound t) r)) (paren_gives s bound t k n p r (omega (arith, paren_length (text_at bound t))))

-- an operand alone, where no argument follows
pub operand_gives : (s : Signature) (bound : List Ty) (t : Tm) → ReadsTm s bound t → (n p : ℕ) (r : Text) → length (operand_text bound t) ≤ n → Follows r → ((q : ℕ) → begins_atom (head_kind (tokens_from q r)) ≡ false)
    → Gives (application_at s (term_at s n) n (scope bound) (tokens_from p (operand_text bound t ++ r))) (in_scope bound t) r
operand_gives s bound t k n p r l f e = stops (operand_goes s bound t k n p r l f) l e

-- ---- applications

-- a function and an argument that it takes
pub apply_is : (f x : Tm) (p q : ℕ) → fits f x ≡ true → apply (operand (means f) p) (operand (means x) q) ≡ operand (means (tm_comb f x)) p
unfolding apply fitted
apply_is f x p q h = rw h refl

pub fits_in : (s : Signature) (bound : List Ty) (f x : Tm) → IsOver s bound (tm_comb f x) → fits (in_scope bound f) (in_scope bound x) ≡ true
fits_in s bound f x o =
    let a = opened_type s [] bound f o.0 in
    let b = opened_type s [] bound x o.1 in
    same_ty-from (tm_type (in_scope bound f)) (fun_ty (tm_type (in_scope bound x)) (range_ty (tm_type (in_scope bound f)))) (a ∙ o.2 ∙ (λ i. fun_ty (sym b i) (range_ty (sym a i))))

pub atoms_more : (read : List Token → Front Operand) (k : ℕ) (f : Operand) (ts : List Token) → begins_atom (head_kind ts) ≡ true → atoms_at read (suc k) f ts ≡ (read ts >>= (λ x rest. atoms_at read k (apply f x) rest))
unfolding atoms_at
atoms_more read k f ts h = ap (λ b. atoms_by b read (atoms_at read k) f ts) h

application_goes : (s : Signature) (bound : List Ty) (f x : Tm) → ReadsTm s bound f → ReadsTm s bound x → IsOver s bound (tm_comb f x) → (n p : ℕ) (r : Text)
    → length (operand_text bound f) + 1 + length (argument_text bound x) ≤ n → Follows r
    → Goes s bound n (application_at s (term_at s n) n (scope bound) (tokens_from p (operand_text bound f ++ (codes " " ++ (argument_text bound x ++ r))))) (in_scope bound (tm_comb f x)) r (length (operand_text bound f) + 1 + length (argument_text bound x))
application_goes s bound f x k j o n p r l e =
    let start = λ (q : ℕ). argument_starts s bound x j q r e.ends in
    let g = operand_goes s bound f k n p (codes " " ++ (argument_text bound x ++ r)) (omega arith) (follows_blank (argument_text bound x ++ r) start) in
    let a = argument_gives s bound x j n (g.place + 1) r (omega arith) e in
    at g.left g.enough g.first g.place a (g.is ∙ ap (atoms_at (atom_at s (term_at s n) n (scope bound)) g.left (operand (means (in_scope bound f)) g.first)) (at_blank g.place (argument_text bound x ++ r)))
  where
    at : (left : ℕ) → n < left + length (operand_text bound f) → (first place : ℕ)
        → Gives (atom_at s (term_at s n) n (scope bound) (tokens_from (place + 1) (argument_text bound x ++ r))) (in_scope bound x) r
        → application_at s (term_at s n) n (scope bound) (tokens_from p (operand_text bound f ++ (codes " " ++ (argument_text bound x ++ r)))) ≡ atoms_at (atom_at s (term_at s n) n (scope bound)) left (operand (means (in_scope bound f)) first) (tokens_from (place + 1) (argument_text bound x ++ r))
        → Goes s bound n (application_at s (term_at s n) n (scope bound) (tokens_from p (operand_text bound f ++ (codes " " ++ (argument_text bound x ++ r))))) (in_scope bound (tm_comb f x)) r (length (operand_text bound f) + 1 + length (argument_text bound x))
    at zero m first place a h = absurd (omega arith)
    at (suc left) m first place a h = record {
      first = first;
      place = a.place;
      left = left;
      enough = omega arith;
      is = h
          ∙ atoms_more (atom_at s (term_at s n) n (scope bound)) left (operand (means (in_scope bound f)) first) (tokens_from (place + 1) (argument_text bound x ++ r)) (argument_starts s bound x j (place + 1) r e.ends)
          ∙ ap (λ y. y >>= (λ z rest. atoms_at (atom_at s (term_at s n) n (scope bound)) left (apply (operand (means (in_scope bound f)) first) z) rest)) a.is
          ∙ ap (λ z. atoms_at (atom_at s (term_at s n) n (scope bound)) left z (tokens_from a.place r)) (apply_is (in_scope bound f) (in_scope bound x) first a.first (fits_in s bound f x o));
    }

pub application_text : (bound : List Ty) (f x : Tm) → sugar f x ≡ none → text_at bound (tm_comb f x) ≡ operand_text bound f ++ (codes " " ++ argument_text bound x)
application_text bound f x e = rw e (append_assoc (operand_text bound f) (codes " ") (argument_text bound x))

-- an application without sugar
pub application_reads : (s : Signature) (bound : List Ty) (f x : Tm) → sugar f x ≡ none → ReadsTm s bound f → ReadsTm s bound x → IsOver s bound (tm_comb f x) → ReadsTm s bound (tm_comb f x)
application_reads s bound f x e k j o = record {
  starts = λ h. start;
  atom = λ h. absurd (unlike h);
  spine = λ h. go;
  whole = plain_whole s bound (tm_comb f x) start go;
}
  where
    unlike : false ≡ true → ⊥
    unlike h = cc

    text : (r : Text) → text_at bound (tm_comb f x) ++ r ≡ operand_text bound f ++ (codes " " ++ (argument_text bound x ++ r))
    text r = ap (λ y. y ++ r) (application_text bound f x e) ∙ append_assoc (operand_text bound f) (codes " " ++ argument_text bound x) r

    size : length (text_at bound (tm_comb f x)) ≡ length (operand_text bound f) + 1 + length (argument_text bound x)
    size = ap length (application_text bound f x e) ∙ (let a = length-append (operand_text bound f) (codes " " ++ argument_text bound x) in omega (arith, a))

    start : (p : ℕ) (r : Text) → Ends r → begins_atom (head_kind (tokens_from p (text_at bound (tm_comb f x) ++ r))) ≡ true
    start p r h = ap (λ y. begins_atom (head_kind (tokens_from p y))) (text r) ∙ operand_starts s bound f k p (codes " " ++ (argument_text bound x ++ r)) (ends_sign 32 (argument_text bound x ++ r) refl refl)

    go : (n p : ℕ) (r : Text) → length (text_at bound (tm_comb f x)) ≤ n → Follows r
        → Goes s bound n (application_at s (term_at s n) n (scope bound) (tokens_from p (text_at bound (tm_comb f x) ++ r))) (in_scope bound (tm_comb f x)) r (length (text_at bound (tm_comb f x)))
    go n p r l h =
        let g = application_goes s bound f x k j o n p r (omega (arith, size)) h in
        record {
          first = g.first;
          place = g.place;
          left = g.left;
          enough = omega (arith, size, g.enough);
          is = ap (λ y. application_at s (term_at s n) n (scope bound) (tokens_from p y)) (text r) ∙ g.is;
        }
