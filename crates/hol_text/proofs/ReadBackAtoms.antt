-- The canonical text of variables, constants and applications reads as the term.
use Rattle.std.proofs.Common.{◌≡◌, ℕ, zero, suc, ◌+◌, ◌<◌, ◌≤◌, Bool, true, false, List, [], ◌++◌, length, refl, ap, ◌∙◌, arith}
use Rattle.std.specs.Prelude.{codes}
use Rattle.hol_terms.specs.Ty.{Ty}
use Rattle.hol_terms.specs.Tm.{Tm}
use Rattle.hol_terms.specs.Signature.{Signature}
use Rattle.hol_terms.specs.Text.{Text, is_plain, is_atom, printed}
use Rattle.hol_terms.specs.Tokens.{Kind, a_name, open_paren, close_paren, open_brace, open_bracket, the_end, Token, head_kind, tokens_from}
use Rattle.hol_terms.specs.Meaning.{means, Operand, operand}
use Rattle.hol_terms.specs.Reading.{Front, got, ◌>>=◌, Scope, Reader, atom_at, begins_atom, atoms_by, atoms_at, application_at, infix_by, term_by, term_at}
use Rattle.hol_text.proofs.ReadBackTokens.{Ends, ends_text, ends_sign, at_blank, at_close_paren, at_end}
use Rattle.hol_text.proofs.ReadBackBinders.{scope, opened}

-- a term below binders of these types, as it is printed and as it is read
abbrev pub text_at : List Ty → Tm → Text
text_at bound t = (printed (length bound) t).whole

abbrev pub in_scope : List Ty → Tm → Tm
in_scope bound t = opened 0 (scope bound) t

-- ---- what follows a term

abbrev pub is_brace : Kind → Bool
is_brace open_brace = true
is_brace k = false

-- a name ends here, and no braces follow
pub record Follows (r : Text) : Type 0 where
  pub ends : Ends r
  pub unbraced : (q : ℕ) → is_brace (head_kind (tokens_from q r)) ≡ false

abbrev pub closes_term : Kind → Bool
closes_term close_paren = true
closes_term the_end = true
closes_term k = false

-- no term goes on here
pub record Closed (r : Text) : Type 0 where
  pub follows : Follows r
  pub closed : (q : ℕ) → closes_term (head_kind (tokens_from q r)) ≡ true

pub closed_paren : (r : Text) → Closed (codes ")" ++ r)
closed_paren r = record { follows = record { ends = ends_sign 41 r refl refl; unbraced = λ q. rw at_close_paren refl }; closed = λ q. rw at_close_paren refl }

pub closed_end : Closed []
closed_end = record { follows = record { ends = ends_text; unbraced = λ q. rw at_end refl }; closed = λ q. rw at_end refl }

pub unbraced_from : (k : Kind) → begins_atom k ≡ true → is_brace k ≡ false
unbraced_from open_brace h = cc
unbraced_from k h = refl

-- an argument follows
pub follows_blank : (r : Text) → ((q : ℕ) → begins_atom (head_kind (tokens_from q r)) ≡ true) → Follows (codes " " ++ r)
follows_blank r h = record { ends = ends_sign 32 r refl refl; unbraced = λ q. rw at_blank (unbraced_from (head_kind (tokens_from (q + 1) r)) (h (q + 1))) }

pub no_atom : (k : Kind) → closes_term k ≡ true → begins_atom k ≡ false
no_atom a_name h = cc
no_atom open_bracket h = cc
no_atom open_paren h = cc
no_atom k h = refl

-- ---- readings of terms

-- the term was read, up to r
pub record Gives (x : Front Operand) (m : Tm) (r : Text) : Type 0 where
  pub first : ℕ
  pub place : ℕ
  pub is : x ≡ got (operand (means m) first) (tokens_from place r)

pub leads : {x y : Front Operand} {m : Tm} {r : Text} → x ≡ y → Gives y m r → Gives x m r
leads e c = record { first = c.first; place = c.place; is = e ∙ c.is }

-- the term was read as what stands before further arguments, and so many more can be read
pub record Goes (s : Signature) (bound : List Ty) (n : ℕ) (x : Front Operand) (m : Tm) (r : Text) (len : ℕ) : Type 0 where
  pub first : ℕ
  pub place : ℕ
  pub left : ℕ
  pub enough : n < left + len
  pub is : x ≡ atoms_at (atom_at s (term_at s n) n (scope bound)) left (operand (means m) first) (tokens_from place r)

pub atoms_stop : (read : List Token → Front Operand) (k : ℕ) (f : Operand) (ts : List Token) → 0 < k → begins_atom (head_kind ts) ≡ false → atoms_at read k f ts ≡ got f ts
unfolding atoms_at
atoms_stop read zero f ts h e = absurd (omega arith)
atoms_stop read (suc k) f ts h e = ap (λ b. atoms_by b read (atoms_at read k) f ts) e

-- where no argument follows
pub stops : {s : Signature} {bound : List Ty} {n : ℕ} {x : Front Operand} {m : Tm} {r : Text} {len : ℕ} → Goes s bound n x m r len → len ≤ n → ((q : ℕ) → begins_atom (head_kind (tokens_from q r)) ≡ false) → Gives x m r
stops {s} {bound} {n} {x} {m} {r} {len} g h e =
    let l : 0 < g.left = omega (arith, g.enough) in
    record { first = g.first; place = g.place; is = g.is ∙ atoms_stop (atom_at s (term_at s n) n (scope bound)) g.left (operand (means m) g.first) (tokens_from g.place r) l (e g.place) }

-- ---- one term

pub record ReadsTm (s : Signature) (bound : List Ty) (t : Tm) : Type 0 where
  pub starts : is_plain t ≡ true → (p : ℕ) (r : Text) → Ends r → begins_atom (head_kind (tokens_from p (text_at bound t ++ r))) ≡ true
  pub atom : is_atom t ≡ true → (n p : ℕ) (r : Text) → length (text_at bound t) ≤ n → Follows r → Gives (atom_at s (term_at s n) n (scope bound) (tokens_from p (text_at bound t ++ r))) (in_scope bound t) r
  pub spine : is_plain t ≡ true → (n p : ℕ) (r : Text) → length (text_at bound t) ≤ n → Follows r
      → Goes s bound n (application_at s (term_at s n) n (scope bound) (tokens_from p (text_at bound t ++ r))) (in_scope bound t) r (length (text_at bound t))
  pub whole : (n p : ℕ) (r : Text) → length (text_at bound t) < n → Closed r → Gives (term_at s n (scope bound) (tokens_from p (text_at bound t ++ r))) (in_scope bound t) r

pub by_atom : (k : Kind) (s : Signature) (read : Reader) (n : ℕ) (b : Scope) (ts : List Token) → begins_atom k ≡ true
    → term_by k s read n b ts ≡ (application_at s read n b ts >>= (λ a rest. infix_by (head_kind rest) s (application_at s read n b) a rest))
by_atom a_name s read n b ts h = refl
by_atom open_bracket s read n b ts h = refl
by_atom open_paren s read n b ts h = refl
by_atom k s read n b ts h = cc

pub infix_stop : (k : Kind) (s : Signature) (read : List Token → Front Operand) (a : Operand) (ts : List Token) → closes_term k ≡ true → infix_by k s read a ts ≡ got a ts
infix_stop the_end s read a ts h = refl
infix_stop close_paren s read a ts h = refl
infix_stop k s read a ts h = cc

-- a term without sugar at its top, from its application
pub plain_whole : (s : Signature) (bound : List Ty) (t : Tm)
    → ((p : ℕ) (r : Text) → Ends r → begins_atom (head_kind (tokens_from p (text_at bound t ++ r))) ≡ true)
    → ((n p : ℕ) (r : Text) → length (text_at bound t) ≤ n → Follows r → Goes s bound n (application_at s (term_at s n) n (scope bound) (tokens_from p (text_at bound t ++ r))) (in_scope bound t) r (length (text_at bound t)))
    → (n p : ℕ) (r : Text) → length (text_at bound t) < n → Closed r → Gives (term_at s n (scope bound) (tokens_from p (text_at bound t ++ r))) (in_scope bound t) r
unfolding term_at
plain_whole s bound t start go zero p r h c = absurd (omega arith)
plain_whole s bound t start go (suc n) p r h c =
    let ts = tokens_from p (text_at bound t ++ r) in
    let app = application_at s (term_at s n) n (scope bound) in
    let g = stops (go n p r (omega arith) c.follows) (omega arith) (λ q. no_atom (head_kind (tokens_from q r)) (c.closed q)) in
    record {
      first = g.first;
      place = g.place;
      is = by_atom (head_kind ts) s (term_at s n) n (scope bound) ts (start p r c.follows.ends)
          ∙ ap (λ x. x >>= (λ a rest. infix_by (head_kind rest) s app a rest)) g.is
          ∙ infix_stop (head_kind (tokens_from g.place r)) s app (operand (means (in_scope bound t)) g.first) (tokens_from g.place r) (c.closed g.place);
    }

-- an atom as an application without arguments
pub atom_spine : (s : Signature) (bound : List Ty) (x : Text) (m : Tm) (n p : ℕ) (r : Text) → 0 < length x → Gives (atom_at s (term_at s n) n (scope bound) (tokens_from p (x ++ r))) m r
    → Goes s bound n (application_at s (term_at s n) n (scope bound) (tokens_from p (x ++ r))) m r (length x)
unfolding application_at
atom_spine s bound x m n p r h g = record {
  first = g.first;
  place = g.place;
  left = n;
  enough = omega arith;
  is = ap (λ y. y >>= atoms_at (atom_at s (term_at s n) n (scope bound)) n) g.is;
}

-- what is shown of an atom
pub atom_reads : (s : Signature) (bound : List Ty) (t : Tm) → 0 < length (text_at bound t)
    → ((p : ℕ) (r : Text) → Ends r → begins_atom (head_kind (tokens_from p (text_at bound t ++ r))) ≡ true)
    → ((n p : ℕ) (r : Text) → length (text_at bound t) ≤ n → Follows r → Gives (atom_at s (term_at s n) n (scope bound) (tokens_from p (text_at bound t ++ r))) (in_scope bound t) r)
    → ReadsTm s bound t
atom_reads s bound t h start one =
    let go = λ (n p : ℕ) (r : Text) (l : length (text_at bound t) ≤ n) (f : Follows r). atom_spine s bound (text_at bound t) (in_scope bound t) n p r h (one n p r l f) in
    record {
      starts = λ e. start;
      atom = λ e. one;
      spine = λ e. go;
      whole = plain_whole s bound t start go;
    }
