-- A term by the grammar is read.
use Rattle.std.proofs.Common.{◌≡◌, ℕ, zero, suc, ◌+◌, ◌<◌, ◌≤◌, true, false, List, [], ◌∷◌, ◌++◌, length, length-append, append_assoc, refl, ap, ◌∙◌, arith}
use Rattle.std.specs.Prelude.{codes}
use Rattle.hol_terms.specs.Name.{Name}
use Rattle.hol_terms.specs.Signature.{Signature}
use Rattle.hol_terms.specs.Tokens.{Kind, a_name, open_paren, close_paren, open_brace, close_brace, open_bracket, close_bracket, colon, dot, not_sign, Token, token, head_kind, head_text, head_place, tail}
use Rattle.hol_terms.specs.Meaning.{given, constant, Operand, operand, apply, equation, connective, negation, abstraction, quantified}
use Rattle.hol_terms.specs.Reading.{Front, got, ◌>>=◌, expect_by, is_dot, is_colon, is_name_token, is_close_paren, is_close_brace, is_close_bracket, typed_by, typed_at, Scope, innermost, stand_in, plain_by, braces_at, name_by, free_of, free_by, Reader, atom_by, atom_at, begins_atom, atoms_by, atoms_at, application_at, infix_by, is_dotted, bound_by, bound_at, type_or_none, body_at, binder_at, term_by, term_at}
use Rattle.hol_terms.specs.Grammar.{kind, word_of, Is, IsType, IsBinderSign, by_lambda, by_all, by_ex, IsInfixSign, by_equals, by_and, by_or, by_implies, IsTerm, a_binder, a_negation, an_application, an_infix, AreAtoms, first, further, IsAtom, bare, at_types, free, grouped}
use Rattle.text_laws.proofs.TypeEnds.{ends_type, ends_list}
use Rattle.hol_text.proofs.ReadBackAtoms.{is_brace, closes_term, no_atom, by_atom, infix_stop}
use Rattle.text_laws.proofs.TypesRead.{Got, head_is, type_read, types_read}

pub name_plain : (k : Kind) (s : Signature) (n : ℕ) (b : Scope) (c : Name) (p : ℕ) (ts : List Token) → is_brace k ≡ false → name_by k s n b c p ts ≡ got (operand (plain_by (innermost b c) s c p) p) ts
name_plain open_brace s n b c p ts h = cc
name_plain k s n b c p ts h = refl

unbraced_from : (k : Kind) → begins_atom k ≡ true → is_brace k ≡ false
unbraced_from open_brace h = cc
unbraced_from k h = refl

pub atoms_stop : (read : List Token → Front Operand) (k : ℕ) (f : Operand) (ts : List Token) → 0 < k → begins_atom (head_kind ts) ≡ false → atoms_at read k f ts ≡ got f ts
unfolding atoms_at
atoms_stop read zero f ts h e = absurd (omega arith)
atoms_stop read (suc k) f ts h e = ap (λ b. atoms_by b read (atoms_at read k) f ts) e

pub atoms_more : (read : List Token → Front Operand) (k : ℕ) (f : Operand) (ts : List Token) → begins_atom (head_kind ts) ≡ true → atoms_at read (suc k) f ts ≡ (read ts >>= (λ x rest. atoms_at read k (apply f x) rest))
unfolding atoms_at
atoms_more read k f ts h = ap (λ b. atoms_by b read (atoms_at read k) f ts) h

-- atoms were read, and so many more can be
record Runs (s : Signature) (n : ℕ) (b : Scope) (x : Front Operand) (rest : List Token) (len : ℕ) : Type 0 where
  value : Operand
  left : ℕ
  enough : n < left + len
  is : x ≡ atoms_at (atom_at s (term_at s n) n b) left value rest

runs_out : (s : Signature) (n : ℕ) (b : Scope) (x : Front Operand) (rest : List Token) (len : ℕ) → Runs s n b x rest len → len ≤ n → begins_atom (head_kind rest) ≡ false → Got x rest
runs_out s n b x rest len r l e =
    let h : 0 < r.left = omega (arith, r.enough, l) in
    record { value = r.value; is = r.is ∙ atoms_stop (atom_at s (term_at s n) n b) r.left r.value rest h e }

-- an atom more
runs_on : (s : Signature) (n : ℕ) (b : Scope) (x : Front Operand) (a rest : List Token) (len : ℕ) → Runs s n b x (a ++ rest) len → len + length a ≤ n → 0 < length a → begins_atom (head_kind (a ++ rest)) ≡ true
    → Got (atom_at s (term_at s n) n b (a ++ rest)) rest → Runs s n b x rest (len + length a)
runs_on s n b x a rest len r l p h g = at r.left r.enough r.is
  where
    at : (left : ℕ) → n < left + len → x ≡ atoms_at (atom_at s (term_at s n) n b) left r.value (a ++ rest) → Runs s n b x rest (len + length a)
    at zero m e = absurd (omega (arith, m, l))
    at (suc left) m e = record {
      value = apply r.value g.value;
      left = left;
      enough = omega (arith, m, p);
      is = e ∙ atoms_more (atom_at s (term_at s n) n b) left r.value (a ++ rest) h ∙ ap (λ y. y >>= (λ z mid. atoms_at (atom_at s (term_at s n) n b) left (apply r.value z) mid)) g.is;
    }

pub atom_long : (a : List Token) → IsAtom a → 0 < length a
atom_long _ (bare n e) = omega arith
atom_long _ (at_types ts n o c e f h g) = omega arith
atom_long _ (free t o n x c e f g h i) = omega arith
atom_long _ (grouped t o c e h g) = omega arith

pub atom_begins : (a : List Token) → IsAtom a → (rest : List Token) → begins_atom (head_kind (a ++ rest)) ≡ true
atom_begins _ (bare n e) rest = ap begins_atom (head_is a_name n rest e)
atom_begins _ (at_types ts n o c e f h g) rest = ap begins_atom (head_is a_name n (o ∷ ((ts ++ c ∷ []) ++ rest)) e)
atom_begins _ (free t o n x c e f g h i) rest = ap begins_atom (head_is open_bracket o (n ∷ x ∷ ((t ++ c ∷ []) ++ rest)) e)
atom_begins _ (grouped t o c e h g) rest = ap begins_atom (head_is open_paren o ((t ++ c ∷ []) ++ rest) e)

pub atoms_begin : (a : List Token) → AreAtoms a → (rest : List Token) → begins_atom (head_kind (a ++ rest)) ≡ true
atoms_begin _ (first a h) rest = atom_begins a h rest
atoms_begin _ (further f a h g) rest = ap (λ us. begins_atom (head_kind us)) (append_assoc f a rest) ∙ atoms_begin f h (a ++ rest)

infix_unbraced : (k : Kind) → IsInfixSign k → is_brace k ≡ false
infix_unbraced _ by_equals = refl
infix_unbraced _ by_and = refl
infix_unbraced _ by_or = refl
infix_unbraced _ by_implies = refl

infix_no_atom : (k : Kind) → IsInfixSign k → begins_atom k ≡ false
infix_no_atom _ by_equals = refl
infix_no_atom _ by_and = refl
infix_no_atom _ by_or = refl
infix_no_atom _ by_implies = refl

closes_unbraced : (k : Kind) → closes_term k ≡ true → is_brace k ≡ false
closes_unbraced open_brace h = cc
closes_unbraced k h = refl

-- the right side of a sign
pub right_read : (k : Kind) → IsInfixSign k → (s : Signature) (read : List Token → Front Operand) (a : Operand) (ts rest : List Token) → Got (read (tail ts)) rest → Got (infix_by k s read a ts) rest
right_read _ by_equals s read a ts rest g = record { value = equation s (head_place ts) a g.value; is = ap (λ y. y >>= (λ x mid. got (equation s (head_place ts) a x) mid)) g.is }
right_read _ by_and s read a ts rest g = record { value = connective s (codes "conj") (head_place ts) a g.value; is = ap (λ y. y >>= (λ x mid. got (connective s (codes "conj") (head_place ts) a x) mid)) g.is }
right_read _ by_or s read a ts rest g = record { value = connective s (codes "disj") (head_place ts) a g.value; is = ap (λ y. y >>= (λ x mid. got (connective s (codes "disj") (head_place ts) a x) mid)) g.is }
right_read _ by_implies s read a ts rest g = record { value = connective s (codes "imp") (head_place ts) a g.value; is = ap (λ y. y >>= (λ x mid. got (connective s (codes "imp") (head_place ts) a x) mid)) g.is }

-- what is behind the sign of a binder
pub sign_read : (k : Kind) → IsBinderSign k → (s : Signature) (read : Reader) (n : ℕ) (b : Scope) (ts rest : List Token) → Got (binder_at s read n b (tail ts)) rest → Got (term_by k s read n b ts) rest
sign_read _ by_lambda s read n b ts rest g = record { value = operand g.value.1 (head_place ts); is = ap (λ y. y >>= (λ x mid. got (operand x.1 (head_place ts)) mid)) g.is }
sign_read _ by_all s read n b ts rest g = record { value = quantified s (codes "all") (head_place ts) g.value.0 g.value.1; is = ap (λ y. y >>= (λ x mid. got (quantified s (codes "all") (head_place ts) x.0 x.1) mid)) g.is }
sign_read _ by_ex s read n b ts rest g = record { value = quantified s (codes "ex") (head_place ts) g.value.0 g.value.1; is = ap (λ y. y >>= (λ x mid. got (quantified s (codes "ex") (head_place ts) x.0 x.1) mid)) g.is }

pub head_word : (x : Token) (ts : List Token) → head_text (x ∷ ts) ≡ word_of x
head_word (token k w p) ts = refl

typed_read : (s : Signature) (n : ℕ) (x : Token) (t rest : List Token) → Is colon x → IsType t → length t < n → ends_type (head_kind rest) ≡ true → Got (typed_at s n (x ∷ (t ++ rest))) rest
unfolding typed_at
typed_read s n x t rest e h l c =
    let a = type_read s t h n rest l c in
    record { value = a.value; is = ap (λ k. typed_by (is_colon k) s n (x ∷ (t ++ rest))) (head_is colon x (t ++ rest) e) ∙ a.is }

types_apart : (a : List Token) (x : Token) (rest : List Token) → (a ++ x ∷ []) ++ rest ≡ a ++ (x ∷ rest)
types_apart a x rest = append_assoc a (x ∷ []) rest

mutual
  unfolding atom_at application_at term_at braces_at bound_at binder_at body_at

  atom_read : (s : Signature) (a : List Token) → IsAtom a → (n : ℕ) (b : Scope) (rest : List Token) → length a ≤ n → is_brace (head_kind rest) ≡ false → Got (atom_at s (term_at s n) n b (a ++ rest)) rest
  atom_read s _ (bare x e) n b rest l u =
      let c = head_text (x ∷ rest) in
      let p = head_place (x ∷ rest) in
      record {
        value = operand (plain_by (innermost b c) s c p) p;
        is = ap (λ k. atom_by k s (term_at s n) n b (x ∷ rest)) (head_is a_name x rest e) ∙ name_plain (head_kind rest) s n b c p rest u;
      }
  atom_read s _ (at_types ts x o c e f h g) n b rest l u =
      let us = ts ++ (c ∷ rest) in
      let w = head_text (x ∷ o ∷ us) in
      let p = head_place (x ∷ o ∷ us) in
      let sum = length-append ts (c ∷ []) in
      let a = types_read s ts h n n (given []) (c ∷ rest) (omega (arith, sum, l)) (omega (arith, sum, l)) (ap ends_type (head_is close_brace c rest g)) (ap ends_list (head_is close_brace c rest g)) in
      record {
        value = operand (constant s w p a.value) p;
        is = ap (λ vs. atom_at s (term_at s n) n b (x ∷ o ∷ vs)) (types_apart ts c rest)
            ∙ ap (λ k. atom_by k s (term_at s n) n b (x ∷ o ∷ us)) (head_is a_name x (o ∷ us) e)
            ∙ ap (λ k. name_by k s n b w p (o ∷ us)) (head_is open_brace o us f)
            ∙ ap (λ y. (y >>= (λ args mid. expect_by (is_close_brace (head_kind mid)) args mid)) >>= (λ args mid. got (operand (constant s w p args) p) mid)) a.is
            ∙ ap (λ k. expect_by (is_close_brace k) a.value (c ∷ rest) >>= (λ args mid. got (operand (constant s w p args) p) mid)) (head_is close_brace c rest g);
      }
  atom_read s _ (free t o x z c e f g h i) n b rest l u =
      let us = z ∷ (t ++ (c ∷ rest)) in
      let w = head_text (x ∷ us) in
      let p = head_place (o ∷ x ∷ us) in
      let a = typed_read s n z t (c ∷ rest) g h (omega (arith, length-append t (c ∷ []), l)) (ap ends_type (head_is close_bracket c rest i)) in
      record {
        value = operand (free_of w a.value) p;
        is = ap (λ vs. atom_at s (term_at s n) n b (o ∷ x ∷ z ∷ vs)) (types_apart t c rest)
            ∙ ap (λ k. atom_by k s (term_at s n) n b (o ∷ x ∷ us)) (head_is open_bracket o (x ∷ us) e)
            ∙ ap (λ k. free_by (is_name_token k) s n p (x ∷ us)) (head_is a_name x us f)
            ∙ ap (λ y. y >>= (λ t mid. expect_by (is_close_bracket (head_kind mid)) (operand (free_of w t) p) mid)) a.is
            ∙ ap (λ k. expect_by (is_close_bracket k) (operand (free_of w a.value) p) (c ∷ rest)) (head_is close_bracket c rest i);
      }
  atom_read s _ (grouped t o c e h g) n b rest l u =
      let a = term_read s t h n b (c ∷ rest) (omega (arith, length-append t (c ∷ []), l)) (ap closes_term (head_is close_paren c rest g)) in
      record {
        value = a.value;
        is = ap (λ vs. atom_at s (term_at s n) n b (o ∷ vs)) (types_apart t c rest)
            ∙ ap (λ k. atom_by k s (term_at s n) n b (o ∷ (t ++ (c ∷ rest)))) (head_is open_paren o (t ++ (c ∷ rest)) e)
            ∙ ap (λ y. y >>= (λ t mid. expect_by (is_close_paren (head_kind mid)) t mid)) a.is
            ∙ ap (λ k. expect_by (is_close_paren k) a.value (c ∷ rest)) (head_is close_paren c rest g);
      }

  atoms_read : (s : Signature) (a : List Token) → AreAtoms a → (n : ℕ) (b : Scope) (rest : List Token) → length a ≤ n → is_brace (head_kind rest) ≡ false → Runs s n b (application_at s (term_at s n) n b (a ++ rest)) rest (length a)
  atoms_read s _ (first a h) n b rest l u =
      let g = atom_read s a h n b rest l u in
      let p = atom_long a h in
      record { value = g.value; left = n; enough = omega (arith, p); is = ap (λ y. y >>= atoms_at (atom_at s (term_at s n) n b) n) g.is }
  atoms_read s _ (further f a h g) n b rest l u =
      let sum = length-append f a in
      let begins = atom_begins a g rest in
      let r = atoms_read s f h n b (a ++ rest) (omega (arith, sum, l)) (unbraced_from (head_kind (a ++ rest)) begins) in
      let x = atom_read s a g n b rest (omega (arith, sum, l)) u in
      let more = runs_on s n b (application_at s (term_at s n) n b (f ++ (a ++ rest))) a rest (length f) r (omega (arith, sum, l)) (atom_long a g) begins x in
      record { value = more.value; left = more.left; enough = omega (arith, sum, more.enough); is = ap (application_at s (term_at s n) n b) (append_assoc f a rest) ∙ more.is }

  pub term_read : (s : Signature) (t : List Token) → IsTerm t → (n : ℕ) (b : Scope) (rest : List Token) → length t < n → closes_term (head_kind rest) ≡ true → Got (term_at s n b (t ++ rest)) rest
  term_read s t h zero b rest l z = absurd (omega (arith, l))
  term_read s _ (a_binder t d x m c o hx hm hu hc ht ho hd) (suc n) b rest l z =
      let body = d ++ rest in
      let us = t ++ (o ∷ body) in
      let sum = length-append t (o ∷ d) in
      let v = head_text (m ∷ c ∷ us) in
      let a = typed_read s n c t (o ∷ body) hc ht (omega (arith, sum, l)) (ap ends_type (head_is dot o body ho)) in
      let scope = (v, stand_in b v (type_or_none a.value)) ∷ b in
      let g = term_read s d hd n scope rest (omega (arith, sum, l)) z in
      let read = term_at s n in
      let made = λ (y : Operand). abstraction a.value (stand_in b v (type_or_none a.value)) y.meaning in
      let binder : Got (binder_at s (term_at s n) n b (m ∷ c ∷ us)) rest = record {
        value = (a.value, made g.value);
        is = ap (λ k. bound_by (is_name_token k) (is_dotted v) (m ∷ c ∷ us) >>= (λ x rest. typed_at s n rest >>= (λ t after. expect_by (is_dot (head_kind after)) t after >>= body_at read b x))) (head_is a_name m (c ∷ us) hm)
            ∙ ap (λ e. bound_by true e (m ∷ c ∷ us) >>= (λ x rest. typed_at s n rest >>= (λ t after. expect_by (is_dot (head_kind after)) t after >>= body_at read b x))) (ap is_dotted (head_word m (c ∷ us)) ∙ hu)
            ∙ ap (λ y. y >>= (λ t after. expect_by (is_dot (head_kind after)) t after >>= body_at read b v)) a.is
            ∙ ap (λ k. expect_by (is_dot k) a.value (o ∷ body) >>= body_at read b v) (head_is dot o body ho)
            ∙ ap (λ y. y >>= (λ w mid. got (a.value, made w) mid)) g.is;
      } in
      let whole = sign_read (kind x) hx s read n b (x ∷ m ∷ c ∷ us) rest binder in
      record {
        value = whole.value;
        is = ap (λ vs. term_at s (suc n) b (x ∷ m ∷ c ∷ vs)) (append_assoc t (o ∷ d) rest) ∙ ap (λ k. term_by k s read n b (x ∷ m ∷ c ∷ us)) (head_is (kind x) x (m ∷ c ∷ us) refl) ∙ whole.is;
      }
  term_read s _ (a_negation a x e h) (suc n) b rest l z =
      let r = atoms_read s a h n b rest (omega (arith, l)) (closes_unbraced (head_kind rest) z) in
      let g = runs_out s n b (application_at s (term_at s n) n b (a ++ rest)) rest (length a) r (omega (arith, l)) (no_atom (head_kind rest) z) in
      record {
        value = negation s (head_place (x ∷ (a ++ rest))) g.value;
        is = ap (λ k. term_by k s (term_at s n) n b (x ∷ (a ++ rest))) (head_is not_sign x (a ++ rest) e) ∙ ap (λ y. y >>= (λ w mid. got (negation s (head_place (x ∷ (a ++ rest))) w) mid)) g.is;
      }
  term_read s _ (an_application a h) (suc n) b rest l z =
      let r = atoms_read s a h n b rest (omega (arith, l)) (closes_unbraced (head_kind rest) z) in
      let g = runs_out s n b (application_at s (term_at s n) n b (a ++ rest)) rest (length a) r (omega (arith, l)) (no_atom (head_kind rest) z) in
      let app = application_at s (term_at s n) n b in
      record {
        value = g.value;
        is = by_atom (head_kind (a ++ rest)) s (term_at s n) n b (a ++ rest) (atoms_begin a h rest)
            ∙ ap (λ y. y >>= (λ w mid. infix_by (head_kind mid) s app w mid)) g.is
            ∙ infix_stop (head_kind rest) s app g.value rest z;
      }
  term_read s _ (an_infix a d x h q g) (suc n) b rest l z =
      let sum = length-append a (x ∷ d) in
      let us = d ++ rest in
      let app = application_at s (term_at s n) n b in
      let sign = head_is (kind x) x us refl in
      let r = atoms_read s a h n b (x ∷ us) (omega (arith, sum, l)) (ap is_brace sign ∙ infix_unbraced (kind x) q) in
      let left = runs_out s n b (app (a ++ (x ∷ us))) (x ∷ us) (length a) r (omega (arith, sum, l)) (ap begins_atom sign ∙ infix_no_atom (kind x) q) in
      let t = atoms_read s d g n b rest (omega (arith, sum, l)) (closes_unbraced (head_kind rest) z) in
      let right = runs_out s n b (app us) rest (length d) t (omega (arith, sum, l)) (no_atom (head_kind rest) z) in
      let whole = right_read (kind x) q s app left.value (x ∷ us) rest right in
      record {
        value = whole.value;
        is = ap (term_at s (suc n) b) (append_assoc a (x ∷ d) rest)
            ∙ by_atom (head_kind (a ++ (x ∷ us))) s (term_at s n) n b (a ++ (x ∷ us)) (atoms_begin a h (x ∷ us))
            ∙ ap (λ y. y >>= (λ w mid. infix_by (head_kind mid) s app w mid)) left.is
            ∙ ap (λ k. infix_by k s app left.value (x ∷ us)) sign
            ∙ whole.is;
      }
