-- Where reading a term stops: the tokens before begin a term, and reading stops there whatever follows the next token.
use Rattle.std.proofs.Common.{◌≡◌, ℕ, zero, suc, ◌<◌, ◌≤◌, Bool, true, false, List, [], ◌∷◌, ◌++◌, length, length-append, append_assoc, refl, ap, sym, ◌∙◌, subst, arith}
use Rattle.std.specs.Prelude.{codes}
use Rattle.hol_terms.specs.Name.{Name}
use Rattle.hol_terms.specs.Ty.{Ty}
use Rattle.hol_terms.specs.Signature.{Signature}
use Rattle.hol_terms.specs.Tokens.{Kind, a_name, open_paren, open_brace, close_brace, open_bracket, close_bracket, colon, dot, equals, lambda_sign, all_sign, ex_sign, not_sign, and_sign, or_sign, implies_sign, Token, token, head_kind, head_text, head_place, tail}
use Rattle.hol_terms.specs.Meaning.{Meaning, given, constant, Operand, operand, apply, equation, connective, negation, abstraction, quantified}
use Rattle.hol_terms.specs.Reading.{Front, got, stop, ◌>>=◌, stop_at, expect_by, is_dot, is_colon, is_name_token, is_close_paren, is_close_brace, is_close_bracket, types_at, type_at, typed_by, typed_at, Scope, stand_in, braces_at, name_by, free_of, free_by, Reader, atom_by, atom_at, begins_atom, atoms_by, atoms_at, application_at, infix_by, is_dotted, bound_by, bound_at, type_or_none, Binder, body_at, binder_at, term_by, term_at}
use Rattle.hol_terms.specs.Grammar.{kind, word_of, Is, IsType, IsBinderSign, by_lambda, by_all, by_ex, IsInfixSign, by_equals, by_and, by_or, by_implies, IsTerm, a_binder, a_negation, an_application, an_infix, AreAtoms, first, further, IsAtom, bare, at_types, free, grouped}
use Rattle.hol_text.proofs.ReadBackAtoms.{by_atom}
use Rattle.hol_text.proofs.GrammarTypes.{unlike, type_form, types_form, Closes}
use Rattle.text_laws.proofs.TypeEnds.{ends_type, ends_list, types_munch}
use Rattle.text_laws.proofs.TypesRead.{head_is, types_read}
use Rattle.text_laws.proofs.TermsRead.{atoms_more, atom_long, atom_begins, atoms_begin}
use Rattle.text_laws.proofs.TypeEnds.{is_end, Unended, joined, type_unended, types_unended, size, size_joined}
use Rattle.text_laws.proofs.TypeStops.{stop_in, stop_place, Stops, early, late, stops, Failed, expect_fails, Alike, Wrong, some_name, some_close, name_type, types_stop, type_stop}
use Rattle.text_laws.proofs.TermAgains.{AtomAgain, ApplicationAgain, Joins, IsBound, kinds_behind, dot_closes, Typed, typed_again, typed_read, atom_again, application_again, Bound, bound_form, bound_read, term_again}

-- ---- the end is no part of a term

binder_unended : (k : Kind) → IsBinderSign k → is_end k ≡ false
binder_unended _ by_lambda = refl
binder_unended _ by_all = refl
binder_unended _ by_ex = refl

infix_unended : (k : Kind) → IsInfixSign k → is_end k ≡ false
infix_unended _ by_equals = refl
infix_unended _ by_and = refl
infix_unended _ by_or = refl
infix_unended _ by_implies = refl

mutual
  pub term_unended : (ts : List Token) → IsTerm ts → Unended ts
  term_unended _ (a_binder t b x n c d hx hn hu hc ht hd hb) =
      (binder_unended (kind x) hx, (ap is_end hn, (ap is_end hc, joined t (d ∷ b) (type_unended t ht) (ap is_end hd, term_unended b hb))))
  term_unended _ (a_negation a x e h) = (ap is_end e, atoms_unended a h)
  term_unended _ (an_application a h) = atoms_unended a h
  term_unended _ (an_infix a b x h e g) = joined a (x ∷ b) (atoms_unended a h) (infix_unended (kind x) e, atoms_unended b g)

  atoms_unended : (ts : List Token) → AreAtoms ts → Unended ts
  atoms_unended _ (first a h) = atom_unended a h
  atoms_unended _ (further f a h g) = joined f a (atoms_unended f h) (atom_unended a g)

  atom_unended : (ts : List Token) → IsAtom ts → Unended ts
  atom_unended _ (bare n e) = (ap is_end e, tt)
  atom_unended _ (at_types ts n o c e f h g) = (ap is_end e, (ap is_end f, joined ts (c ∷ []) (types_unended ts h) (ap is_end g, tt)))
  atom_unended _ (free t o n x c e f g h i) = (ap is_end e, (ap is_end f, (ap is_end g, joined t (c ∷ []) (type_unended t h) (ap is_end i, tt))))
  atom_unended _ (grouped t o c e h g) = (ap is_end e, joined t (c ∷ []) (term_unended t h) (ap is_end g, tt))

-- an atom leaves fewer tokens
past_atom : (ts t mid : List Token) → IsAtom t → ts ≡ t ++ mid → size mid < size ts
past_atom ts t mid h i = omega (arith, ap size i ∙ size_joined t mid (atom_unended t h), atom_long t h)

past_atoms : (ts l : List Token) (k : Kind) (w : Name) (p : ℕ) (us : List Token) → AreAtoms l → ts ≡ l ++ token k w p ∷ us → size (token k w p ∷ us) ≡ suc (size us) → size us < size ts
past_atoms ts l k w p us h i e = omega (arith, ap size i ∙ size_joined l (token k w p ∷ us) (atoms_unended l h), e)

-- ---- what is to be shown

abbrev TypedHalts : Signature → ℕ → List Token → List Token → Type 0
TypedHalts s p front rest = (m : ℕ) → length front ≤ m → (others : List Token) → Alike others rest → typed_at s m (front ++ others) ≡ stop p

abbrev AtomHalts : Signature → ℕ → List Token → List Token → Type 0
AtomHalts s p front rest = (m : ℕ) (b : Scope) → length front ≤ m → (others : List Token) → Alike others rest → atom_at s (term_at s m) m b (front ++ others) ≡ stop p

abbrev AtomsHalts : Signature → ℕ → List Token → List Token → Type 0
AtomsHalts s p front rest = (m k : ℕ) (b : Scope) (f : Operand) → length front ≤ m → length front < k → (others : List Token) → Alike others rest → atoms_at (atom_at s (term_at s m) m b) k f (front ++ others) ≡ stop p

abbrev ApplicationHalts : Signature → ℕ → List Token → List Token → Type 0
ApplicationHalts s p front rest = (m : ℕ) (b : Scope) → length front ≤ m → (others : List Token) → Alike others rest → application_at s (term_at s m) m b (front ++ others) ≡ stop p

abbrev BinderHalts : Signature → ℕ → List Token → List Token → Type 0
BinderHalts s p front rest = (m : ℕ) (b : Scope) → length front ≤ m → (others : List Token) → Alike others rest → binder_at s (term_at s m) m b (front ++ others) ≡ stop p

abbrev pub TermHalts : Signature → ℕ → List Token → List Token → Type 0
TermHalts s p front rest = (m : ℕ) (b : Scope) → length front < m → (others : List Token) → Alike others rest → term_at s m b (front ++ others) ≡ stop p

abbrev WrongAtom : Signature → List Token → ℕ → Type 0
WrongAtom s ts p = Wrong IsAtom (AtomHalts s p) ts p

abbrev pub WrongTerm : Signature → List Token → ℕ → Type 0
WrongTerm s ts p = Wrong IsTerm (TermHalts s p) ts p

abbrev TermStops : Signature → ℕ → Type 0
TermStops s n = (b : Scope) (ts : List Token) (p : ℕ) → size ts < n → term_at s n b ts ≡ stop p → WrongTerm s ts p

abbrev some_sign : Kind → Token
some_sign k = token k [] 0

name_atom : IsAtom (some_name ∷ [])
name_atom = bare some_name refl

name_atoms : AreAtoms (some_name ∷ [])
name_atoms = first (some_name ∷ []) name_atom

name_term : IsTerm (some_name ∷ [])
name_term = an_application (some_name ∷ []) name_atoms

-- ---- a colon and a type

record IsTyped (xs : List Token) : Type 0 where
  sign : Token
  kind_is : Is colon sign
  type : List Token
  form : IsType type
  is : xs ≡ sign ∷ type

no_colon : (s : Signature) (ts : List Token) (p q : ℕ) → q ≡ p → head_place ts ≡ q → is_colon (head_kind ts) ≡ false → Wrong IsTyped (TypedHalts s p) ts p
unfolding typed_at
no_colon s ts p q e h f = record {
  front = [];
  rest = ts;
  is = refl;
  place = h ∙ e;
  begins = (some_sign colon ∷ some_name ∷ [], record { sign = some_sign colon; kind_is = refl; type = some_name ∷ []; form = name_type; is = refl });
  always = λ m l others a. ap (λ d. typed_by d s m others) (ap is_colon a.kinds ∙ f) ∙ ap stop (a.places ∙ h ∙ e);
}

typed_stop : (s : Signature) (n : ℕ) (ts : List Token) (p : ℕ) → size ts ≤ n → typed_at s n ts ≡ stop p → Wrong IsTyped (TypedHalts s p) ts p
unfolding typed_at
typed_stop s n [] p l e = no_colon s [] p 0 (stop_place 0 p e) refl refl
typed_stop s n (token colon w q ∷ us) p l e =
    let x = type_stop s n us p (omega (arith, l)) e in
    let c = token colon w q in
    record {
      front = c ∷ x.front;
      rest = x.rest;
      is = ap (λ y. c ∷ y) x.is;
      place = x.place;
      begins = (x.begins.0, record { sign = c; kind_is = refl; type = x.front ++ x.begins.0; form = x.begins.1; is = refl });
      always = λ m g others a. x.always m (omega (arith, g)) others a;
    }
typed_stop s n (token k w q ∷ us) p l e = no_colon s (token k w q ∷ us) p q (stop_place q p e) refl refl

-- ---- atoms

no_atom_begins : (s : Signature) (ts : List Token) (p q : ℕ) → q ≡ p → head_place ts ≡ q → ((m : ℕ) (b : Scope) (others : List Token) → atom_by (head_kind ts) s (term_at s m) m b others ≡ stop_at others) → WrongAtom s ts p
unfolding atom_at
no_atom_begins s ts p q e h f = record {
  front = [];
  rest = ts;
  is = refl;
  place = h ∙ e;
  begins = (some_name ∷ [], name_atom);
  always = λ m b l others a. ap (λ k. atom_by k s (term_at s m) m b others) a.kinds ∙ f m b others ∙ ap stop (a.places ∙ h ∙ e);
}

braces_stop : (s : Signature) (n : ℕ) (w v : Name) (q r : ℕ) (us : List Token) (p : ℕ) → size us ≤ n → Stops (types_at (type_at s n) n (given []) us) (λ args rest. expect_by (is_close_brace (head_kind rest)) args rest) p
    → WrongAtom s (token a_name w q ∷ token open_brace v r ∷ us) p
unfolding atom_at braces_at
braces_stop s n w v q r us p l (early e) =
    let x = types_stop s n (type_stop s n) n (given []) us p l l e in
    let name = token a_name w q in
    let o = token open_brace v r in
    let c = some_sign close_brace in
    record {
      front = name ∷ o ∷ x.front;
      rest = x.rest;
      is = ap (λ y. name ∷ o ∷ y) x.is;
      place = x.place;
      begins = (x.begins.0 ++ c ∷ [], subst IsAtom (ap (λ y. name ∷ o ∷ y) (append_assoc x.front x.begins.0 (c ∷ []))) (at_types (x.front ++ x.begins.0) name o c refl refl x.begins.1 refl));
      always = λ m b g others a.
          ap (λ y. (y >>= (λ args mid. expect_by (is_close_brace (head_kind mid)) args mid)) >>= (λ args mid. got (operand (constant s w q args) q) mid)) (x.always m m (given []) (omega (arith, g)) (omega (arith, g)) others a);
    }
braces_stop s n w v q r us p l (late args mid was next) =
    let ts = types_form (type_at s n) (type_form s n) n (given []) us mid args was in
    let ends = types_munch s n n (given []) args us mid was in
    let x = expect_fails (is_close_brace (head_kind mid)) args mid p next in
    let name = token a_name w q in
    let o = token open_brace v r in
    let c = some_sign close_brace in
    record {
      front = name ∷ o ∷ ts.front;
      rest = mid;
      is = ap (λ y. name ∷ o ∷ y) ts.is;
      place = x.place;
      begins = (c ∷ [], at_types ts.front name o c refl refl ts.form refl);
      always = λ m b g others a.
          let t = types_read s ts.front ts.form m m (given []) others (omega (arith, g)) (omega (arith, g)) (ap ends_type a.kinds ∙ ends.type) (ap ends_list a.kinds ∙ ends.list) in
          ap (λ y. (y >>= (λ args mid. expect_by (is_close_brace (head_kind mid)) args mid)) >>= (λ args mid. got (operand (constant s w q args) q) mid)) t.is
          ∙ ap (λ d. expect_by d t.value others >>= (λ args mid. got (operand (constant s w q args) q) mid)) (ap is_close_brace a.kinds ∙ x.not_so)
          ∙ ap stop (a.places ∙ x.place);
    }

-- a reading whose last step gives something
given_stop : {A B C : Type 0} (x : Front A) (f : A → B) (p : ℕ) → (stop_in A p ≡ x → C) → (x >>= (λ y rest. got (f y) rest)) ≡ stop p → C
given_stop (got v mid) f p c e = unlike p (f v) mid (sym e)
given_stop (stop q) f p c e = c (ap stop (sym (stop_place q p e)))

name_stop : (s : Signature) (n : ℕ) (b : Scope) (w : Name) (q : ℕ) (us : List Token) (p : ℕ) → size us ≤ n → name_by (head_kind us) s n b w q us ≡ stop p → WrongAtom s (token a_name w q ∷ us) p
unfolding braces_at
name_stop s n b w q [] p l e = unlike p _ [] (sym e)
name_stop s n b w q (token open_brace v r ∷ us) p l e =
    given_stop (types_at (type_at s n) n (given []) us >>= (λ args rest. expect_by (is_close_brace (head_kind rest)) args rest)) (λ args. operand (constant s w q args) q) p
    (λ h. braces_stop s n w v q r us p (omega (arith, l)) (stops (types_at (type_at s n) n (given []) us) (λ args rest. expect_by (is_close_brace (head_kind rest)) args rest) p (sym h))) e
name_stop s n b w q (token k v r ∷ us) p l e = unlike p _ (token k v r ∷ us) (sym e)

no_name : (s : Signature) (w : Name) (q : ℕ) (us : List Token) (p : ℕ) → head_place us ≡ p → is_name_token (head_kind us) ≡ false → WrongAtom s (token open_bracket w q ∷ us) p
unfolding atom_at
no_name s w q us p h f =
    let o = token open_bracket w q in
    record {
      front = o ∷ [];
      rest = us;
      is = refl;
      place = h;
      begins = (some_name ∷ some_sign colon ∷ some_name ∷ some_sign close_bracket ∷ [], free (some_name ∷ []) o some_name (some_sign colon) (some_sign close_bracket) refl refl refl name_type refl);
      always = λ m b l others a. ap (λ d. free_by d s m q others) (ap is_name_token a.kinds ∙ f) ∙ ap stop (a.places ∙ h);
    }

variable_stop : (s : Signature) (n : ℕ) (w v : Name) (q r : ℕ) (us : List Token) (p : ℕ) → size us ≤ n → Stops (typed_at s n us) (λ t rest. expect_by (is_close_bracket (head_kind rest)) (operand (free_of v t) q) rest) p
    → WrongAtom s (token open_bracket w q ∷ token a_name v r ∷ us) p
unfolding atom_at
variable_stop s n w v q r us p l (early e) =
    let x = typed_stop s n us p l e in
    let t = x.begins.1 in
    let o = token open_bracket w q in
    let name = token a_name v r in
    let c = some_sign close_bracket in
    record {
      front = o ∷ name ∷ x.front;
      rest = x.rest;
      is = ap (λ y. o ∷ name ∷ y) x.is;
      place = x.place;
      begins = (x.begins.0 ++ c ∷ [], subst IsAtom (ap (λ y. o ∷ name ∷ (y ++ c ∷ [])) (sym t.is) ∙ ap (λ y. o ∷ name ∷ y) (append_assoc x.front x.begins.0 (c ∷ []))) (free t.type o name t.sign c refl refl t.kind_is t.form refl));
      always = λ m b g others a. ap (λ y. y >>= (λ t mid. expect_by (is_close_bracket (head_kind mid)) (operand (free_of v t) q) mid)) (x.always m (omega (arith, g)) others a);
    }
variable_stop s n w v q r us p l (late u mid was next) =
    let t = typed_again s n us mid u was in
    let x = expect_fails (is_close_bracket (head_kind mid)) (operand (free_of v u) q) mid p next in
    let o = token open_bracket w q in
    let name = token a_name v r in
    let c = some_sign close_bracket in
    record {
      front = o ∷ name ∷ t.sign ∷ t.type;
      rest = mid;
      is = ap (λ y. o ∷ name ∷ y) t.is;
      place = x.place;
      begins = (c ∷ [], free t.type o name t.sign c refl refl t.kind_is t.form refl);
      always = λ m b g others a.
          let y = typed_read s m t.sign t.type others t.kind_is t.form (omega (arith, g)) (ap ends_type a.kinds ∙ t.ends) in
          ap (λ y. y >>= (λ t mid. expect_by (is_close_bracket (head_kind mid)) (operand (free_of v t) q) mid)) y.is
          ∙ ap (λ d. expect_by d (operand (free_of v y.value) q) others) (ap is_close_bracket a.kinds ∙ x.not_so)
          ∙ ap stop (a.places ∙ x.place);
    }

free_stop : (s : Signature) (n : ℕ) (w : Name) (q : ℕ) (us : List Token) (p : ℕ) → size us ≤ n → free_by (is_name_token (head_kind us)) s n q us ≡ stop p → WrongAtom s (token open_bracket w q ∷ us) p
free_stop s n w q [] p l e = no_name s w q [] p (stop_place 0 p e) refl
free_stop s n w q (token a_name v r ∷ us) p l e = variable_stop s n w v q r us p (omega (arith, l)) (stops (typed_at s n us) (λ t rest. expect_by (is_close_bracket (head_kind rest)) (operand (free_of v t) q) rest) p e)
free_stop s n w q (token k v r ∷ us) p l e = no_name s w q (token k v r ∷ us) p (stop_place r p e) refl

group_stop : (s : Signature) (n : ℕ) → TermStops s n → (b : Scope) (w : Name) (q : ℕ) (us : List Token) (p : ℕ) → size us < n → Stops (term_at s n b us) (λ t rest. expect_by (is_close_paren (head_kind rest)) t rest) p → WrongAtom s (token open_paren w q ∷ us) p
unfolding atom_at
group_stop s n ih b w q us p l (early e) =
    let x = ih b us p l e in
    let o = token open_paren w q in
    record {
      front = o ∷ x.front;
      rest = x.rest;
      is = ap (λ y. o ∷ y) x.is;
      place = x.place;
      begins = (x.begins.0 ++ some_close ∷ [], subst IsAtom (ap (λ y. o ∷ y) (append_assoc x.front x.begins.0 (some_close ∷ []))) (grouped (x.front ++ x.begins.0) o some_close refl x.begins.1 refl));
      always = λ m b g others a. ap (λ y. y >>= (λ t mid. expect_by (is_close_paren (head_kind mid)) t mid)) (x.always m b (omega (arith, g)) others a);
    }
group_stop s n ih b w q us p l (late v mid was next) =
    let t = term_again s n b us mid v was in
    let x = expect_fails (is_close_paren (head_kind mid)) v mid p next in
    let o = token open_paren w q in
    record {
      front = o ∷ t.front;
      rest = mid;
      is = ap (λ y. o ∷ y) t.is;
      place = x.place;
      begins = (some_close ∷ [], grouped t.front o some_close refl t.form refl);
      always = λ m b g others a.
          let y = t.always m b (omega (arith, g)) others a.kinds in
          ap (λ y. y >>= (λ t mid. expect_by (is_close_paren (head_kind mid)) t mid)) y.is ∙ ap (λ d. expect_by d y.value others) (ap is_close_paren a.kinds ∙ x.not_so) ∙ ap stop (a.places ∙ x.place);
    }

atom_stop : (s : Signature) (n : ℕ) → TermStops s n → (b : Scope) (ts : List Token) (p : ℕ) → size ts ≤ n → atom_at s (term_at s n) n b ts ≡ stop p → WrongAtom s ts p
unfolding atom_at
atom_stop s n ih b [] p l e = no_atom_begins s [] p 0 (stop_place 0 p e) refl (λ m b others. refl)
atom_stop s n ih b (token a_name w q ∷ us) p l e = name_stop s n b w q us p (omega (arith, l)) e
atom_stop s n ih b (token open_bracket w q ∷ us) p l e = free_stop s n w q us p (omega (arith, l)) e
atom_stop s n ih b (token open_paren w q ∷ us) p l e = group_stop s n ih b w q us p (omega (arith, l)) (stops (term_at s n b us) (λ t rest. expect_by (is_close_paren (head_kind rest)) t rest) p e)
atom_stop s n ih b (token k w q ∷ us) p l e = no_atom_begins s (token k w q ∷ us) p q (stop_place q p e) refl (λ m b others. refl)

-- ---- applications

abbrev WrongAtoms : Signature → List Token → ℕ → Type 0
WrongAtoms s ts p = Wrong Joins (AtomsHalts s p) ts p

abbrev WrongApplication : Signature → List Token → ℕ → Type 0
WrongApplication s ts p = Wrong AreAtoms (ApplicationHalts s p) ts p

atoms_begun : (s : Signature) (ts front rest : List Token) (p : ℕ) → ts ≡ front ++ rest → begins_atom (head_kind ts) ≡ true → AtomHalts s p front rest → AtomsHalts s p front rest
atoms_begun s ts front rest p i h al m zero b f l g others a = absurd (omega (arith, g))
atoms_begun s ts front rest p i h al m (suc k) b f l g others a =
    atoms_more (atom_at s (term_at s m) m b) k f (front ++ others) (ap begins_atom (kinds_behind front others rest ts i a.kinds) ∙ h)
    ∙ ap (λ y. y >>= (λ z mid. atoms_at (atom_at s (term_at s m) m b) k (apply f z) mid)) (al m b l others a)

atoms_later : (s : Signature) (t r us rest : List Token) (p : ℕ) → IsAtom t → AtomAgain s t us → us ≡ r ++ rest → AtomsHalts s p r rest → AtomsHalts s p (t ++ r) rest
atoms_later s t r us rest p h al i more m zero b f l g others a = absurd (omega (arith, g))
atoms_later s t r us rest p h al i more m (suc j) b f l g others a =
    let sum = length-append t r in
    let long = atom_long t h in
    let x = al m b (omega (arith, sum, l)) (r ++ others) (kinds_behind r others rest us i a.kinds) in
    ap (atoms_at (atom_at s (term_at s m) m b) (suc j) f) (append_assoc t r others)
    ∙ atoms_more (atom_at s (term_at s m) m b) j f (t ++ (r ++ others)) (atom_begins t h (r ++ others))
    ∙ ap (λ y. y >>= (λ z mid. atoms_at (atom_at s (term_at s m) m b) j (apply f z) mid)) x.is
    ∙ more m j b (apply f x.value) (omega (arith, sum, l)) (omega (arith, sum, long, g)) others a

atoms_apart : (d t r x : List Token) → (d ++ t) ++ (r ++ x) ≡ d ++ ((t ++ r) ++ x)
atoms_apart d t r x = simp append_assoc

atoms_step : (s : Signature) (n : ℕ) → TermStops s n → (b : Scope) (k : ℕ) → ((g : Operand) (us : List Token) (p : ℕ) → size us ≤ n → size us < k → atoms_at (atom_at s (term_at s n) n b) k g us ≡ stop p → WrongAtoms s us p)
    → (f : Operand) (ts : List Token) (p : ℕ) → size ts ≤ n → size ts < suc k → begins_atom (head_kind ts) ≡ true → Stops (atom_at s (term_at s n) n b ts) (λ y rest. atoms_at (atom_at s (term_at s n) n b) k (apply f y) rest) p → WrongAtoms s ts p
atoms_step s n ih b k again f ts p l g h (early e) =
    let x = atom_stop s n ih b ts p l e in
    record { front = x.front; rest = x.rest; is = x.is; place = x.place; begins = (x.begins.0, λ d j. further d (x.front ++ x.begins.0) j x.begins.1); always = atoms_begun s ts x.front x.rest p x.is h x.always }
atoms_step s n ih b k again f ts p l g h (late v mid was next) =
    let t = atom_again s n (term_again s n) b ts mid v was in
    let small = past_atom ts t.front mid t.form t.is in
    let r = again (apply f v) mid p (omega (arith, small, l)) (omega (arith, small, g)) next in
    record {
      front = t.front ++ r.front;
      rest = r.rest;
      is = t.is ∙ ap (λ y. t.front ++ y) r.is ∙ sym (append_assoc t.front r.front r.rest);
      place = r.place;
      begins = (r.begins.0, λ d j. subst AreAtoms (atoms_apart d t.front r.front r.begins.0) (r.begins.1 (d ++ t.front) (further d t.front j t.form)));
      always = atoms_later s t.front r.front mid r.rest p t.form t.always r.is r.always;
    }

atoms_halt : (s : Signature) (n : ℕ) → TermStops s n → (b : Scope) (k : ℕ) (f : Operand) (ts : List Token) (p : ℕ) → size ts ≤ n → size ts < k → atoms_at (atom_at s (term_at s n) n b) k f ts ≡ stop p → WrongAtoms s ts p
unfolding atoms_at
atoms_halt s n ih b zero f ts p l g e = absurd (omega (arith, g))
atoms_halt s n ih b (suc k) f ts p l g e = at (λ g us q u v d. atoms_halt s n ih b k g us q u v d) (begins_atom (head_kind ts)) refl e
  where
    at : ((g : Operand) (us : List Token) (p : ℕ) → size us ≤ n → size us < k → atoms_at (atom_at s (term_at s n) n b) k g us ≡ stop p → WrongAtoms s us p) → (c : Bool) → begins_atom (head_kind ts) ≡ c
        → atoms_by c (atom_at s (term_at s n) n b) (atoms_at (atom_at s (term_at s n) n b) k) f ts ≡ stop p → WrongAtoms s ts p
    at again false h d = unlike p f ts (sym d)
    at again true h d = atoms_step s n ih b k again f ts p l g h (stops (atom_at s (term_at s n) n b ts) (λ y rest. atoms_at (atom_at s (term_at s n) n b) k (apply f y) rest) p d)

application_later : (s : Signature) (t r us rest : List Token) (p : ℕ) → IsAtom t → AtomAgain s t us → us ≡ r ++ rest → AtomsHalts s p r rest → ApplicationHalts s p (t ++ r) rest
unfolding application_at
application_later s t r us rest p h al i more m b l others a =
    let sum = length-append t r in
    let long = atom_long t h in
    let x = al m b (omega (arith, sum, l)) (r ++ others) (kinds_behind r others rest us i a.kinds) in
    ap (application_at s (term_at s m) m b) (append_assoc t r others)
    ∙ ap (λ y. y >>= atoms_at (atom_at s (term_at s m) m b) m) x.is
    ∙ more m m b x.value (omega (arith, sum, l)) (omega (arith, sum, long, l)) others a

application_step : (s : Signature) (n : ℕ) → TermStops s n → (b : Scope) (ts : List Token) (p : ℕ) → size ts ≤ n → Stops (atom_at s (term_at s n) n b ts) (atoms_at (atom_at s (term_at s n) n b) n) p → WrongApplication s ts p
unfolding application_at
application_step s n ih b ts p l (early e) =
    let x = atom_stop s n ih b ts p l e in
    record {
      front = x.front;
      rest = x.rest;
      is = x.is;
      place = x.place;
      begins = (x.begins.0, first (x.front ++ x.begins.0) x.begins.1);
      always = λ m b g others a. ap (λ y. y >>= atoms_at (atom_at s (term_at s m) m b) m) (x.always m b g others a);
    }
application_step s n ih b ts p l (late v mid was next) =
    let t = atom_again s n (term_again s n) b ts mid v was in
    let small = past_atom ts t.front mid t.form t.is in
    let r = atoms_halt s n ih b n v mid p (omega (arith, small, l)) (omega (arith, small, l)) next in
    record {
      front = t.front ++ r.front;
      rest = r.rest;
      is = t.is ∙ ap (λ y. t.front ++ y) r.is ∙ sym (append_assoc t.front r.front r.rest);
      place = r.place;
      begins = (r.begins.0, subst AreAtoms (sym (append_assoc t.front r.front r.begins.0)) (r.begins.1 t.front (first t.front t.form)));
      always = application_later s t.front r.front mid r.rest p t.form t.always r.is r.always;
    }

application_stop : (s : Signature) (n : ℕ) → TermStops s n → (b : Scope) (ts : List Token) (p : ℕ) → size ts ≤ n → application_at s (term_at s n) n b ts ≡ stop p → WrongApplication s ts p
unfolding application_at
application_stop s n ih b ts p l e = application_step s n ih b ts p l (stops (atom_at s (term_at s n) n b ts) (atoms_at (atom_at s (term_at s n) n b) n) p e)

-- ---- an operand, and what follows it

-- with this token a term begins as an application does
abbrev IsPlain : Signature → Kind → Type 0
IsPlain s k = (m : ℕ) (b : Scope) (others : List Token) → term_by k s (term_at s m) m b others ≡ (application_at s (term_at s m) m b others >>= (λ a rest. infix_by (head_kind rest) s (application_at s (term_at s m) m b) a rest))

plain_begun : (s : Signature) (ts front rest : List Token) (p : ℕ) → IsPlain s (head_kind ts) → ts ≡ front ++ rest → ApplicationHalts s p front rest → TermHalts s p front rest
unfolding term_at
plain_begun s ts front rest p plain i al zero b l others a = absurd (omega (arith, l))
plain_begun s ts front rest p plain i al (suc m) b l others a =
    ap (λ k. term_by k s (term_at s m) m b (front ++ others)) (kinds_behind front others rest ts i a.kinds)
    ∙ plain m b (front ++ others)
    ∙ ap (λ y. y >>= (λ w mid. infix_by (head_kind mid) s (application_at s (term_at s m) m b) w mid)) (al m b (omega (arith, l)) others a)

right_halts : (k : Kind) → IsInfixSign k → (s : Signature) (read : List Token → Front Operand) (a : Operand) (ts : List Token) (p : ℕ) → read (tail ts) ≡ stop p → infix_by k s read a ts ≡ stop p
right_halts _ by_equals s read a ts p e = ap (λ y. y >>= (λ x mid. got (equation s (head_place ts) a x) mid)) e
right_halts _ by_and s read a ts p e = ap (λ y. y >>= (λ x mid. got (connective s (codes "conj") (head_place ts) a x) mid)) e
right_halts _ by_or s read a ts p e = ap (λ y. y >>= (λ x mid. got (connective s (codes "disj") (head_place ts) a x) mid)) e
right_halts _ by_implies s read a ts p e = ap (λ y. y >>= (λ x mid. got (connective s (codes "imp") (head_place ts) a x) mid)) e

infix_halts : (s : Signature) (k : Kind) (w : Name) (q : ℕ) (l r us rest : List Token) (p : ℕ) → IsInfixSign k → AreAtoms l → ApplicationAgain s l (token k w q ∷ us) → ApplicationHalts s p r rest → TermHalts s p (l ++ token k w q ∷ r) rest
unfolding term_at
infix_halts s k w q l r us rest p j h al ar zero b g others a = absurd (omega (arith, g))
infix_halts s k w q l r us rest p j h al ar (suc m) b g others a =
    let z = token k w q in
    let sum = length-append l (z ∷ r) in
    let app = application_at s (term_at s m) m b in
    let x = al m b (omega (arith, sum, g)) (z ∷ (r ++ others)) refl in
    ap (term_at s (suc m) b) (append_assoc l (z ∷ r) others)
    ∙ by_atom (head_kind (l ++ (z ∷ (r ++ others)))) s (term_at s m) m b (l ++ (z ∷ (r ++ others))) (atoms_begin l h (z ∷ (r ++ others)))
    ∙ ap (λ y. y >>= (λ w mid. infix_by (head_kind mid) s app w mid)) x.is
    ∙ right_halts k j s app x.value (z ∷ (r ++ others)) p (ar m b (omega (arith, sum, g)) others a)

right_stop : (s : Signature) (n : ℕ) → TermStops s n → (b : Scope) (k : Kind) (w : Name) (q : ℕ) (joined : Operand → Operand) (ts l us : List Token) (p : ℕ) → size ts ≤ n → size (token k w q ∷ us) ≡ suc (size us) → IsInfixSign k → AreAtoms l
    → ApplicationAgain s l (token k w q ∷ us) → ts ≡ l ++ token k w q ∷ us → (application_at s (term_at s n) n b us >>= (λ y rest. got (joined y) rest)) ≡ stop p → WrongTerm s ts p
right_stop s n ih b k w q joined ts l us p g v j h al i e = given_stop (application_at s (term_at s n) n b us) joined p wrong e
  where
    wrong : stop_in Operand p ≡ application_at s (term_at s n) n b us → WrongTerm s ts p
    wrong d =
        let z = token k w q in
        let x = application_stop s n ih b us p (omega (arith, past_atoms ts l k w q us h i v, g)) (sym d) in
        record {
          front = l ++ z ∷ x.front;
          rest = x.rest;
          is = i ∙ ap (λ y. l ++ z ∷ y) x.is ∙ sym (append_assoc l (z ∷ x.front) x.rest);
          place = x.place;
          begins = (x.begins.0, subst IsTerm (sym (append_assoc l (z ∷ x.front) x.begins.0)) (an_infix l (x.front ++ x.begins.0) z h j x.begins.1));
          always = infix_halts s k w q l x.front us x.rest p j h al x.always;
        }

infix_stop : (s : Signature) (n : ℕ) → TermStops s n → (b : Scope) (a : Operand) (ts l us : List Token) (p : ℕ) → size ts ≤ n → AreAtoms l → ApplicationAgain s l us → ts ≡ l ++ us → infix_by (head_kind us) s (application_at s (term_at s n) n b) a us ≡ stop p → WrongTerm s ts p
infix_stop s n ih b a ts l [] p g h al i e = unlike p a [] (sym e)
infix_stop s n ih b a ts l (token equals w q ∷ us) p g h al i e = right_stop s n ih b equals w q (equation s q a) ts l us p g refl by_equals h al i e
infix_stop s n ih b a ts l (token and_sign w q ∷ us) p g h al i e = right_stop s n ih b and_sign w q (connective s (codes "conj") q a) ts l us p g refl by_and h al i e
infix_stop s n ih b a ts l (token or_sign w q ∷ us) p g h al i e = right_stop s n ih b or_sign w q (connective s (codes "disj") q a) ts l us p g refl by_or h al i e
infix_stop s n ih b a ts l (token implies_sign w q ∷ us) p g h al i e = right_stop s n ih b implies_sign w q (connective s (codes "imp") q a) ts l us p g refl by_implies h al i e
infix_stop s n ih b a ts l (token k w q ∷ us) p g h al i e = unlike p a (token k w q ∷ us) (sym e)

plain_step : (s : Signature) (n : ℕ) → TermStops s n → (b : Scope) (ts : List Token) (p : ℕ) → size ts ≤ n → IsPlain s (head_kind ts)
    → Stops (application_at s (term_at s n) n b ts) (λ a rest. infix_by (head_kind rest) s (application_at s (term_at s n) n b) a rest) p → WrongTerm s ts p
plain_step s n ih b ts p l plain (early e) =
    let x = application_stop s n ih b ts p l e in
    record { front = x.front; rest = x.rest; is = x.is; place = x.place; begins = (x.begins.0, an_application (x.front ++ x.begins.0) x.begins.1); always = plain_begun s ts x.front x.rest p plain x.is x.always }
plain_step s n ih b ts p l plain (late a mid was next) =
    let x = application_again s n (term_again s n) b ts mid a was in
    infix_stop s n ih b a ts x.front mid p l x.form x.always x.is next

-- ---- binders

-- the name fails
record Unbound (c d : Bool) (ts : List Token) (p : ℕ) : Type 0 where
  stays : (others : List Token) → bound_by c d others ≡ stop_at others
  place : head_place ts ≡ p

unbound : (c d : Bool) (ts : List Token) (p : ℕ) → bound_by c d ts ≡ stop p → Unbound c d ts p
unbound true false ts p e = unlike p (head_text ts) (tail ts) (sym e)
unbound true true ts p e = record { stays = λ others. refl; place = stop_place (head_place ts) p e }
unbound false d ts p e = record { stays = λ others. refl; place = stop_place (head_place ts) p e }

abbrev WrongBinder : Signature → List Token → ℕ → Type 0
WrongBinder s ts p = Wrong IsBound (BinderHalts s p) ts p

name_stops : (s : Signature) (ts : List Token) (p : ℕ) → bound_at ts ≡ stop p → WrongBinder s ts p
unfolding bound_at binder_at
name_stops s ts p e =
    let u = unbound (is_name_token (head_kind ts)) (is_dotted (head_text ts)) ts p e in
    record {
      front = [];
      rest = ts;
      is = refl;
      place = u.place;
      begins = (some_name ∷ some_sign colon ∷ some_name ∷ some_sign dot ∷ some_name ∷ [], λ x q. a_binder (some_name ∷ []) (some_name ∷ []) x some_name (some_sign colon) (some_sign dot) q refl refl refl name_type refl name_term);
      always = λ m b l others a.
          ap (λ y. y >>= (λ x rest. typed_at s m rest >>= (λ t after. expect_by (is_dot (head_kind after)) t after >>= body_at (term_at s m) b x)))
          (ap (λ k. bound_by (is_name_token k) (is_dotted (head_text others)) others) a.kinds ∙ ap (λ w. bound_by (is_name_token (head_kind ts)) (is_dotted w) others) a.texts ∙ u.stays others ∙ ap stop (a.places ∙ u.place));
    }

type_stops : (s : Signature) (ts us : List Token) (p : ℕ) → Bound ts us → Wrong IsTyped (TypedHalts s p) us p → WrongBinder s ts p
unfolding binder_at
type_stops s ts us p n x =
    let t = x.begins.1 in
    let more = some_sign dot ∷ some_name ∷ [] in
    record {
      front = n.name ∷ x.front;
      rest = x.rest;
      is = n.is ∙ ap (λ y. n.name ∷ y) x.is;
      place = x.place;
      begins = (
        x.begins.0 ++ more,
        λ z q. subst IsTerm (ap (λ y. z ∷ n.name ∷ (y ++ more)) (sym t.is) ∙ ap (λ y. z ∷ n.name ∷ y) (append_assoc x.front x.begins.0 more))
            (a_binder t.type (some_name ∷ []) z n.name t.sign (some_sign dot) q n.kind_is n.undotted t.kind_is t.form refl name_term),
      );
      always = λ m b l others a.
          ap (λ y. y >>= (λ x rest. typed_at s m rest >>= (λ t after. expect_by (is_dot (head_kind after)) t after >>= body_at (term_at s m) b x))) (bound_read n.name (x.front ++ others) n.kind_is n.undotted)
          ∙ ap (λ y. y >>= (λ t after. expect_by (is_dot (head_kind after)) t after >>= body_at (term_at s m) b (word_of n.name))) (x.always m (omega (arith, l)) others a);
    }

dot_stops : (s : Signature) (ts us mid : List Token) (p : ℕ) → Bound ts us → Typed s us mid → Failed (is_dot (head_kind mid)) mid p → WrongBinder s ts p
unfolding binder_at
dot_stops s ts us mid p n t x = record {
  front = n.name ∷ t.sign ∷ t.type;
  rest = mid;
  is = n.is ∙ ap (λ y. n.name ∷ y) t.is;
  place = x.place;
  begins = (some_sign dot ∷ some_name ∷ [], λ z q. a_binder t.type (some_name ∷ []) z n.name t.sign (some_sign dot) q n.kind_is n.undotted t.kind_is t.form refl name_term);
  always = λ m b l others a.
      let y = typed_read s m t.sign t.type others t.kind_is t.form (omega (arith, l)) (ap ends_type a.kinds ∙ t.ends) in
      ap (λ y. y >>= (λ x rest. typed_at s m rest >>= (λ t after. expect_by (is_dot (head_kind after)) t after >>= body_at (term_at s m) b x))) (bound_read n.name (t.sign ∷ (t.type ++ others)) n.kind_is n.undotted)
      ∙ ap (λ y. y >>= (λ t after. expect_by (is_dot (head_kind after)) t after >>= body_at (term_at s m) b (word_of n.name))) y.is
      ∙ ap (λ d. expect_by d y.value others >>= body_at (term_at s m) b (word_of n.name)) (ap is_dot a.kinds ∙ x.not_so)
      ∙ ap stop (a.places ∙ x.place);
}

body_halts : (s : Signature) (x c : Token) (t : List Token) (o : Token) (d rest : List Token) (p : ℕ) → Is a_name x → is_dotted (word_of x) ≡ false → Is colon c → IsType t → Is dot o → TermHalts s p d rest → BinderHalts s p (x ∷ c ∷ (t ++ o ∷ d)) rest
unfolding binder_at body_at
body_halts s x c t o d rest p hx hu hc ht ho al m b l others k =
    let sum = length-append t (o ∷ d) in
    let v = word_of x in
    let body = d ++ others in
    let a = typed_read s m c t (o ∷ body) hc ht (omega (arith, sum, l)) (ap ends_type (head_is dot o body ho)) in
    let scope = (v, stand_in b v (type_or_none a.value)) ∷ b in
    let read = term_at s m in
    let made = λ (y : Operand). abstraction a.value (stand_in b v (type_or_none a.value)) y.meaning in
    ap (λ vs. binder_at s read m b (x ∷ c ∷ vs)) (append_assoc t (o ∷ d) others)
    ∙ ap (λ y. y >>= (λ x rest. typed_at s m rest >>= (λ t after. expect_by (is_dot (head_kind after)) t after >>= body_at read b x))) (bound_read x (c ∷ (t ++ (o ∷ body))) hx hu)
    ∙ ap (λ y. y >>= (λ t after. expect_by (is_dot (head_kind after)) t after >>= body_at read b v)) a.is
    ∙ ap (λ k. expect_by (is_dot k) a.value (o ∷ body) >>= body_at read b v) (head_is dot o body ho)
    ∙ ap (λ y. y >>= (λ w mid. got (a.value, made w) mid)) (al m scope (omega (arith, sum, l)) others k)

body_stops : (s : Signature) (ts us mid vs : List Token) (p : ℕ) → Bound ts us → Typed s us mid → Closes dot mid vs → WrongTerm s vs p → WrongBinder s ts p
body_stops s ts us mid vs p n t o x = record {
  front = n.name ∷ t.sign ∷ (t.type ++ o.sign ∷ x.front);
  rest = x.rest;
  is = n.is ∙ ap (λ y. n.name ∷ y) (t.is ∙ ap (λ y. t.sign ∷ (t.type ++ y)) (o.is ∙ ap (λ y. o.sign ∷ y) x.is) ∙ ap (λ y. t.sign ∷ y) (sym (append_assoc t.type (o.sign ∷ x.front) x.rest)));
  place = x.place;
  begins = (
    x.begins.0,
    λ z q. subst IsTerm (ap (λ y. z ∷ n.name ∷ t.sign ∷ y) (sym (append_assoc t.type (o.sign ∷ x.front) x.begins.0)))
        (a_binder t.type (x.front ++ x.begins.0) z n.name t.sign o.sign q n.kind_is n.undotted t.kind_is t.form o.kind_is x.begins.1),
  );
  always = body_halts s n.name t.sign t.type o.sign x.front x.rest p n.kind_is n.undotted t.kind_is t.form o.kind_is x.always;
}

-- the body is shorter
past_type : (s : Signature) (ts us mid vs : List Token) → Bound ts us → Typed s us mid → Closes dot mid vs → size vs < size ts
past_type s ts us mid vs n t o =
    let a = ap size n.is ∙ size_joined (n.name ∷ []) us (ap is_end n.kind_is, tt) in
    let b = ap size t.is ∙ size_joined (t.sign ∷ t.type) mid (ap is_end t.kind_is, type_unended t.type t.form) in
    let c = ap size o.is ∙ size_joined (o.sign ∷ []) vs (ap is_end o.kind_is, tt) in
    omega (arith, a, b, c)

past_name : (ts us : List Token) → Bound ts us → size us < size ts
past_name ts us n = omega (arith, ap size n.is ∙ size_joined (n.name ∷ []) us (ap is_end n.kind_is, tt))

abbrev behind_type : Signature → ℕ → Scope → Name → Meaning Ty → List Token → Front Binder
behind_type s n b x t after = expect_by (is_dot (head_kind after)) t after >>= body_at (term_at s n) b x

body_stop : (s : Signature) (n : ℕ) → TermStops s n → (b : Scope) (x : Name) (t : Meaning Ty) (ts us mid : List Token) (p : ℕ) → size ts ≤ n → Bound ts us → Typed s us mid → Stops (expect_by (is_dot (head_kind mid)) t mid) (body_at (term_at s n) b x) p → WrongBinder s ts p
unfolding body_at
body_stop s n ih b x t ts us mid p l h g (early e) = dot_stops s ts us mid p h g (expect_fails (is_dot (head_kind mid)) t mid p e)
body_stop s n ih b x t ts us mid p l h g (late v vs was next) =
    let o = dot_closes t v mid vs was in
    let scope = (x, stand_in b x (type_or_none v)) ∷ b in
    given_stop (term_at s n scope vs) (λ y. (v, abstraction v (stand_in b x (type_or_none v)) y.meaning)) p
    (λ d. body_stops s ts us mid vs p h g o (ih scope vs p (omega (arith, past_type s ts us mid vs h g o, l)) (sym d))) next

type_step : (s : Signature) (n : ℕ) → TermStops s n → (b : Scope) (x : Name) (ts us : List Token) (p : ℕ) → size ts ≤ n → Bound ts us → Stops (typed_at s n us) (behind_type s n b x) p → WrongBinder s ts p
type_step s n ih b x ts us p l h (early e) = type_stops s ts us p h (typed_stop s n us p (omega (arith, past_name ts us h, l)) e)
type_step s n ih b x ts us p l h (late t mid was next) =
    body_stop s n ih b x t ts us mid p l h (typed_again s n us mid t was) (stops (expect_by (is_dot (head_kind mid)) t mid) (body_at (term_at s n) b x) p next)

name_step : (s : Signature) (n : ℕ) → TermStops s n → (b : Scope) (ts : List Token) (p : ℕ) → size ts ≤ n → Stops (bound_at ts) (λ x rest. typed_at s n rest >>= behind_type s n b x) p → WrongBinder s ts p
name_step s n ih b ts p l (early e) = name_stops s ts p e
name_step s n ih b ts p l (late x us was next) = type_step s n ih b x ts us p l (bound_form ts us x was) (stops (typed_at s n us) (behind_type s n b x) p next)

binder_stop : (s : Signature) (n : ℕ) → TermStops s n → (b : Scope) (ts : List Token) (p : ℕ) → size ts ≤ n → binder_at s (term_at s n) n b ts ≡ stop p → WrongBinder s ts p
unfolding binder_at
binder_stop s n ih b ts p l e = name_step s n ih b ts p l (stops (bound_at ts) (λ x rest. typed_at s n rest >>= behind_type s n b x) p e)

-- ---- terms

sign_halts : (k : Kind) → IsBinderSign k → (s : Signature) (read : Reader) (n : ℕ) (b : Scope) (ts : List Token) (p : ℕ) → binder_at s read n b (tail ts) ≡ stop p → term_by k s read n b ts ≡ stop p
sign_halts _ by_lambda s read n b ts p e = ap (λ y. y >>= (λ x mid. got (operand x.1 (head_place ts)) mid)) e
sign_halts _ by_all s read n b ts p e = ap (λ y. y >>= (λ x mid. got (quantified s (codes "all") (head_place ts) x.0 x.1) mid)) e
sign_halts _ by_ex s read n b ts p e = ap (λ y. y >>= (λ x mid. got (quantified s (codes "ex") (head_place ts) x.0 x.1) mid)) e

bound_halts : (s : Signature) (k : Kind) (w : Name) (q : ℕ) (d rest : List Token) (p : ℕ) → IsBinderSign k → BinderHalts s p d rest → TermHalts s p (token k w q ∷ d) rest
unfolding term_at
bound_halts s k w q d rest p j al zero b l others a = absurd (omega (arith, l))
bound_halts s k w q d rest p j al (suc m) b l others a = sign_halts k j s (term_at s m) m b (token k w q ∷ (d ++ others)) p (al m b (omega (arith, l)) others a)

bound_stop : (s : Signature) (k : Kind) (w : Name) (q : ℕ) (us : List Token) (p : ℕ) → IsBinderSign k → WrongBinder s us p → WrongTerm s (token k w q ∷ us) p
bound_stop s k w q us p j x =
    let z = token k w q in
    record { front = z ∷ x.front; rest = x.rest; is = ap (λ y. z ∷ y) x.is; place = x.place; begins = (x.begins.0, x.begins.1 z j); always = bound_halts s k w q x.front x.rest p j x.always }

negation_halts : (s : Signature) (w : Name) (q : ℕ) (d rest : List Token) (p : ℕ) → ApplicationHalts s p d rest → TermHalts s p (token not_sign w q ∷ d) rest
unfolding term_at
negation_halts s w q d rest p al zero b l others a = absurd (omega (arith, l))
negation_halts s w q d rest p al (suc m) b l others a = ap (λ y. y >>= (λ x rest. got (negation s q x) rest)) (al m b (omega (arith, l)) others a)

negation_stop : (s : Signature) (w : Name) (q : ℕ) (us : List Token) (p : ℕ) → WrongApplication s us p → WrongTerm s (token not_sign w q ∷ us) p
negation_stop s w q us p x =
    let z = token not_sign w q in
    record { front = z ∷ x.front; rest = x.rest; is = ap (λ y. z ∷ y) x.is; place = x.place; begins = (x.begins.0, a_negation (x.front ++ x.begins.0) z refl x.begins.1); always = negation_halts s w q x.front x.rest p x.always }

step_stop : (s : Signature) (n : ℕ) → TermStops s n → (b : Scope) (ts : List Token) (p : ℕ) → size ts ≤ n → term_by (head_kind ts) s (term_at s n) n b ts ≡ stop p → WrongTerm s ts p
step_stop s n ih b [] p l e = plain_step s n ih b [] p l (λ m b others. refl) (stops (application_at s (term_at s n) n b []) (λ a rest. infix_by (head_kind rest) s (application_at s (term_at s n) n b) a rest) p e)
step_stop s n ih b (token lambda_sign w q ∷ us) p l e =
    given_stop (binder_at s (term_at s n) n b us) (λ y. operand y.1 q) p (λ d. bound_stop s lambda_sign w q us p by_lambda (binder_stop s n ih b us p (omega (arith, l)) (sym d))) e
step_stop s n ih b (token all_sign w q ∷ us) p l e =
    given_stop (binder_at s (term_at s n) n b us) (λ y. quantified s (codes "all") q y.0 y.1) p (λ d. bound_stop s all_sign w q us p by_all (binder_stop s n ih b us p (omega (arith, l)) (sym d))) e
step_stop s n ih b (token ex_sign w q ∷ us) p l e =
    given_stop (binder_at s (term_at s n) n b us) (λ y. quantified s (codes "ex") q y.0 y.1) p (λ d. bound_stop s ex_sign w q us p by_ex (binder_stop s n ih b us p (omega (arith, l)) (sym d))) e
step_stop s n ih b (token not_sign w q ∷ us) p l e =
    given_stop (application_at s (term_at s n) n b us) (negation s q) p (λ d. negation_stop s w q us p (application_stop s n ih b us p (omega (arith, l)) (sym d))) e
step_stop s n ih b (token k w q ∷ us) p l e =
    plain_step s n ih b (token k w q ∷ us) p l (λ m b others. refl) (stops (application_at s (term_at s n) n b (token k w q ∷ us)) (λ a rest. infix_by (head_kind rest) s (application_at s (term_at s n) n b) a rest) p e)

pub term_stop : (s : Signature) (n : ℕ) (b : Scope) (ts : List Token) (p : ℕ) → size ts < n → term_at s n b ts ≡ stop p → WrongTerm s ts p
unfolding term_at
term_stop s zero b ts p l e = absurd (omega (arith, l))
term_stop s (suc n) b ts p l e = step_stop s n (term_stop s n) b ts p (omega (arith, l)) e
