-- What is read as a part of a term is read again wherever a token of the same kind follows.
use Rattle.std.proofs.Common.{◌≡◌, ℕ, zero, suc, ◌<◌, ◌≤◌, Bool, true, false, List, [], ◌∷◌, ◌++◌, length, length-append, append_assoc, append-nil, refl, ap, sym, ◌∙◌, subst, arith}
use Rattle.std.specs.Prelude.{codes}
use Rattle.hol_terms.specs.Name.{Name}
use Rattle.hol_terms.specs.Ty.{Ty}
use Rattle.hol_terms.specs.Signature.{Signature}
use Rattle.hol_terms.specs.Tokens.{Kind, a_name, open_paren, close_paren, open_brace, close_brace, open_bracket, close_bracket, colon, dot, equals, lambda_sign, all_sign, ex_sign, not_sign, and_sign, or_sign, implies_sign, Token, token, head_kind, head_place}
use Rattle.hol_terms.specs.Meaning.{Meaning, given, constant, Operand, operand, apply, equation, connective, negation, abstraction, quantified}
use Rattle.hol_terms.specs.Reading.{Front, got, ◌>>=◌, expect_by, is_dot, is_colon, is_name_token, is_close_paren, is_close_brace, is_close_bracket, types_at, type_at, typed_by, typed_at, Scope, innermost, stand_in, plain_by, braces_at, name_by, free_of, free_by, atom_at, begins_atom, atoms_by, atoms_at, application_at, infix_by, is_dotted, bound_by, bound_at, type_or_none, Binder, body_at, binder_at, term_by, term_at}
use Rattle.hol_terms.specs.Grammar.{kind, word_of, Is, IsType, AreTypes, IsBinderSign, by_lambda, by_all, by_ex, IsInfixSign, by_equals, by_and, by_or, by_implies, IsTerm, a_binder, a_negation, an_application, an_infix, AreAtoms, first, further, IsAtom, bare, at_types, free, grouped}
use Rattle.hol_text.proofs.ReadBackAtoms.{is_brace, by_atom}
use Rattle.hol_text.proofs.GrammarTypes.{steps, unlike, got_rest, type_form, types_form, Closes, paren_closes}
use Rattle.text_laws.proofs.TypeEnds.{ends_type, ends_list, type_munch}
use Rattle.text_laws.proofs.TypesRead.{Got, head_is, type_read, types_read}
use Rattle.text_laws.proofs.TermsRead.{name_plain, atoms_stop, atoms_more, atom_long, atom_begins, atoms_begin, right_read, sign_read}

-- something of a form was read, and is read again
pub record Again (IsForm : List Token → Type 0) (Always : List Token → List Token → Type 0) (ts mid : List Token) : Type 0 where
  pub front : List Token
  pub is : ts ≡ front ++ mid
  pub form : IsForm front
  pub always : Always front mid

abbrev pub AtomAgain : Signature → List Token → List Token → Type 0
AtomAgain s front mid = (m : ℕ) (b : Scope) → length front ≤ m → (others : List Token) → head_kind others ≡ head_kind mid → Got (atom_at s (term_at s m) m b (front ++ others)) others

abbrev pub AtomsAgain : Signature → List Token → List Token → Type 0
AtomsAgain s front mid =
    (m k : ℕ) (b : Scope) (f : Operand) → length front ≤ m → length front < k → (others : List Token) → head_kind others ≡ head_kind mid → Got (atoms_at (atom_at s (term_at s m) m b) k f (front ++ others)) others

abbrev pub ApplicationAgain : Signature → List Token → List Token → Type 0
ApplicationAgain s front mid = (m : ℕ) (b : Scope) → length front ≤ m → (others : List Token) → head_kind others ≡ head_kind mid → Got (application_at s (term_at s m) m b (front ++ others)) others

abbrev pub BinderAgain : Signature → List Token → List Token → Type 0
BinderAgain s front mid = (m : ℕ) (b : Scope) → length front ≤ m → (others : List Token) → head_kind others ≡ head_kind mid → Got (binder_at s (term_at s m) m b (front ++ others)) others

abbrev pub TermAgain : Signature → List Token → List Token → Type 0
TermAgain s front mid = (m : ℕ) (b : Scope) → length front < m → (others : List Token) → head_kind others ≡ head_kind mid → Got (term_at s m b (front ++ others)) others

abbrev pub TermReads : Signature → ℕ → Type 0
TermReads s n = (b : Scope) (ts mid : List Token) (x : Operand) → term_at s n b ts ≡ got x mid → Again IsTerm (TermAgain s) ts mid

-- atoms behind atoms
abbrev pub Joins : List Token → Type 0
Joins xs = (d : List Token) → AreAtoms d → AreAtoms (d ++ xs)

-- what stands behind the sign of a binder
abbrev pub IsBound : List Token → Type 0
IsBound xs = (x : Token) → IsBinderSign (kind x) → IsTerm (x ∷ xs)

-- the next token is of the same kind
pub kinds_behind : (front a b mid : List Token) → mid ≡ front ++ b → head_kind a ≡ head_kind b → head_kind (front ++ a) ≡ head_kind mid
kinds_behind [] a b mid i e = e ∙ sym (ap head_kind i)
kinds_behind (token k w p ∷ front) a b mid i e = sym (ap head_kind i)

-- ---- signs

brace_closes : {A : Type 0} (x v : A) (mid ws : List Token) → expect_by (is_close_brace (head_kind mid)) x mid ≡ got v ws → Closes close_brace mid ws
brace_closes x v [] ws e = unlike 0 v ws e
brace_closes x v (token close_brace w p ∷ us) ws e = record { sign = token close_brace w p; kind_is = refl; is = ap (λ vs. token close_brace w p ∷ vs) (got_rest x v us ws e) }
brace_closes x v (token k w p ∷ us) ws e = unlike p v ws e

bracket_closes : {A : Type 0} (x v : A) (mid ws : List Token) → expect_by (is_close_bracket (head_kind mid)) x mid ≡ got v ws → Closes close_bracket mid ws
bracket_closes x v [] ws e = unlike 0 v ws e
bracket_closes x v (token close_bracket w p ∷ us) ws e = record { sign = token close_bracket w p; kind_is = refl; is = ap (λ vs. token close_bracket w p ∷ vs) (got_rest x v us ws e) }
bracket_closes x v (token k w p ∷ us) ws e = unlike p v ws e

pub dot_closes : {A : Type 0} (x v : A) (mid ws : List Token) → expect_by (is_dot (head_kind mid)) x mid ≡ got v ws → Closes dot mid ws
dot_closes x v [] ws e = unlike 0 v ws e
dot_closes x v (token dot w p ∷ us) ws e = record { sign = token dot w p; kind_is = refl; is = ap (λ vs. token dot w p ∷ vs) (got_rest x v us ws e) }
dot_closes x v (token k w p ∷ us) ws e = unlike p v ws e

-- ---- a colon and a type

pub record Typed (s : Signature) (ts mid : List Token) : Type 0 where
  pub sign : Token
  pub kind_is : Is colon sign
  pub type : List Token
  pub form : IsType type
  pub is : ts ≡ sign ∷ (type ++ mid)
  pub ends : ends_type (head_kind mid) ≡ true

pub typed_again : (s : Signature) (n : ℕ) (ts mid : List Token) (m : Meaning Ty) → typed_at s n ts ≡ got m mid → Typed s ts mid
unfolding typed_at
typed_again s n [] mid m e = unlike 0 m mid e
typed_again s n (token colon w p ∷ us) mid m e =
    let t = type_form s n us mid m e in
    record { sign = token colon w p; kind_is = refl; type = t.front; form = t.form; is = ap (λ vs. token colon w p ∷ vs) t.is; ends = type_munch s n us mid m e }
typed_again s n (token k w p ∷ us) mid m e = unlike p m mid e

pub typed_read : (s : Signature) (n : ℕ) (x : Token) (t rest : List Token) → Is colon x → IsType t → length t < n → ends_type (head_kind rest) ≡ true → Got (typed_at s n (x ∷ (t ++ rest))) rest
unfolding typed_at
typed_read s n x t rest e h l c =
    let a = type_read s t h n rest l c in
    record { value = a.value; is = ap (λ k. typed_by (is_colon k) s n (x ∷ (t ++ rest))) (head_is colon x (t ++ rest) e) ∙ a.is }

-- ---- atoms

bare_again : (s : Signature) (w : Name) (p : ℕ) (us mid : List Token) → us ≡ mid → is_brace (head_kind us) ≡ false → Again IsAtom (AtomAgain s) (token a_name w p ∷ us) mid
unfolding atom_at
bare_again s w p us mid i u =
    let x = token a_name w p in
    record {
      front = x ∷ [];
      is = ap (λ vs. x ∷ vs) i;
      form = bare x refl;
      always = λ m b l others e. record { value = operand (plain_by (innermost b w) s w p) p; is = name_plain (head_kind others) s m b w p others (ap is_brace e ∙ sym (ap (λ vs. is_brace (head_kind vs)) i) ∙ u) };
    }

braced_read : (s : Signature) (w v : Name) (p q : ℕ) (ts : List Token) (c : Token) (others : List Token) → AreTypes ts → Is close_brace c → (m : ℕ) (b : Scope) → length (token a_name w p ∷ token open_brace v q ∷ (ts ++ c ∷ [])) ≤ m
    → Got (atom_at s (term_at s m) m b ((token a_name w p ∷ token open_brace v q ∷ (ts ++ c ∷ [])) ++ others)) others
unfolding atom_at braces_at
braced_read s w v p q ts c others h g m b l =
    let sum = length-append ts (c ∷ []) in
    let x = token a_name w p in
    let o = token open_brace v q in
    let a = types_read s ts h m m (given []) (c ∷ others) (omega (arith, sum, l)) (omega (arith, sum, l)) (ap ends_type (head_is close_brace c others g)) (ap ends_list (head_is close_brace c others g)) in
    record {
      value = operand (constant s w p a.value) p;
      is = ap (λ vs. atom_at s (term_at s m) m b (x ∷ o ∷ vs)) (append_assoc ts (c ∷ []) others)
          ∙ ap (λ y. (y >>= (λ args mid. expect_by (is_close_brace (head_kind mid)) args mid)) >>= (λ args mid. got (operand (constant s w p args) p) mid)) a.is
          ∙ ap (λ k. expect_by (is_close_brace k) a.value (c ∷ others) >>= (λ args mid. got (operand (constant s w p args) p) mid)) (head_is close_brace c others g);
    }

free_read : (s : Signature) (w v : Name) (p q : ℕ) (z : Token) (t : List Token) (c : Token) (others : List Token) → Is colon z → IsType t → Is close_bracket c → (m : ℕ) (b : Scope) → length (token open_bracket w p ∷ token a_name v q ∷ z ∷ (t ++ c ∷ [])) ≤ m
    → Got (atom_at s (term_at s m) m b ((token open_bracket w p ∷ token a_name v q ∷ z ∷ (t ++ c ∷ [])) ++ others)) others
unfolding atom_at
free_read s w v p q z t c others g h i m b l =
    let o = token open_bracket w p in
    let x = token a_name v q in
    let a = typed_read s m z t (c ∷ others) g h (omega (arith, length-append t (c ∷ []), l)) (ap ends_type (head_is close_bracket c others i)) in
    record {
      value = operand (free_of v a.value) p;
      is = ap (λ vs. atom_at s (term_at s m) m b (o ∷ x ∷ z ∷ vs)) (append_assoc t (c ∷ []) others)
          ∙ ap (λ y. y >>= (λ t mid. expect_by (is_close_bracket (head_kind mid)) (operand (free_of v t) p) mid)) a.is
          ∙ ap (λ k. expect_by (is_close_bracket k) (operand (free_of v a.value) p) (c ∷ others)) (head_is close_bracket c others i);
    }

name_again : (s : Signature) (n : ℕ) (b : Scope) (w : Name) (p : ℕ) (us mid : List Token) (x : Operand) → name_by (head_kind us) s n b w p us ≡ got x mid → Again IsAtom (AtomAgain s) (token a_name w p ∷ us) mid
unfolding atom_at braces_at
name_again s n b w p [] mid x e = bare_again s w p [] mid (got_rest _ x [] mid e) refl
name_again s n b w p (token open_brace v q ∷ us) mid x e =
    let a = steps (types_at (type_at s n) n (given []) us >>= (λ args rest. expect_by (is_close_brace (head_kind rest)) args rest)) (λ args rest. got (operand (constant s w p args) p) rest) x mid e in
    let d = steps (types_at (type_at s n) n (given []) us) (λ args rest. expect_by (is_close_brace (head_kind rest)) args rest) a.value a.middle a.was in
    let ts = types_form (type_at s n) (type_form s n) n (given []) us d.middle d.value d.was in
    let c = brace_closes d.value a.value d.middle a.middle d.next in
    let end = got_rest (operand (constant s w p a.value) p) x a.middle mid a.next in
    let name = token a_name w p in
    let brace = token open_brace v q in
    record {
      front = name ∷ brace ∷ (ts.front ++ c.sign ∷ []);
      is = ap (λ vs. name ∷ brace ∷ vs) (ts.is ∙ ap (λ vs. ts.front ++ vs) (c.is ∙ ap (λ vs. c.sign ∷ vs) end) ∙ sym (append_assoc ts.front (c.sign ∷ []) mid));
      form = at_types ts.front name brace c.sign refl refl ts.form c.kind_is;
      always = λ m b l others k. braced_read s w v p q ts.front c.sign others ts.form c.kind_is m b l;
    }
name_again s n b w p (token k v q ∷ us) mid x e = bare_again s w p (token k v q ∷ us) mid (got_rest _ x (token k v q ∷ us) mid e) refl

free_again : (s : Signature) (n : ℕ) (w : Name) (p : ℕ) (us mid : List Token) (x : Operand) → free_by (is_name_token (head_kind us)) s n p us ≡ got x mid → Again IsAtom (AtomAgain s) (token open_bracket w p ∷ us) mid
free_again s n w p [] mid x e = unlike 0 x mid e
free_again s n w p (token a_name v q ∷ us) mid x e =
    let a = steps (typed_at s n us) (λ t rest. expect_by (is_close_bracket (head_kind rest)) (operand (free_of v t) p) rest) x mid e in
    let t = typed_again s n us a.middle a.value a.was in
    let c = bracket_closes (operand (free_of v a.value) p) x a.middle mid a.next in
    let bracket = token open_bracket w p in
    let name = token a_name v q in
    record {
      front = bracket ∷ name ∷ t.sign ∷ (t.type ++ c.sign ∷ []);
      is = ap (λ vs. bracket ∷ name ∷ vs) (t.is ∙ ap (λ vs. t.sign ∷ vs) (ap (λ vs. t.type ++ vs) c.is ∙ sym (append_assoc t.type (c.sign ∷ []) mid)));
      form = free t.type bracket name t.sign c.sign refl refl t.kind_is t.form c.kind_is;
      always = λ m b l others k. free_read s w v p q t.sign t.type c.sign others t.kind_is t.form c.kind_is m b l;
    }
free_again s n w p (token k v q ∷ us) mid x e = unlike q x mid e

group_read : (s : Signature) (w : Name) (p : ℕ) (t : List Token) (c : Token) (mid ws : List Token) → TermAgain s t mid → Is close_paren c → mid ≡ c ∷ ws → AtomAgain s (token open_paren w p ∷ (t ++ c ∷ [])) ws
unfolding atom_at
group_read s w p t c mid ws al g i m b l others k =
    let o = token open_paren w p in
    let a = al m b (omega (arith, length-append t (c ∷ []), l)) (c ∷ others) (kinds_behind (c ∷ []) others ws mid i k) in
    record {
      value = a.value;
      is = ap (λ vs. atom_at s (term_at s m) m b (o ∷ vs)) (append_assoc t (c ∷ []) others)
          ∙ ap (λ y. y >>= (λ t mid. expect_by (is_close_paren (head_kind mid)) t mid)) a.is
          ∙ ap (λ k. expect_by (is_close_paren k) a.value (c ∷ others)) (head_is close_paren c others g);
    }

pub atom_again : (s : Signature) (n : ℕ) → TermReads s n → (b : Scope) (ts mid : List Token) (x : Operand) → atom_at s (term_at s n) n b ts ≡ got x mid → Again IsAtom (AtomAgain s) ts mid
unfolding atom_at
atom_again s n good b [] mid x e = unlike 0 x mid e
atom_again s n good b (token a_name w p ∷ us) mid x e = name_again s n b w p us mid x e
atom_again s n good b (token open_bracket w p ∷ us) mid x e = free_again s n w p us mid x e
atom_again s n good b (token open_paren w p ∷ us) mid x e =
    let a = steps (term_at s n b us) (λ t rest. expect_by (is_close_paren (head_kind rest)) t rest) x mid e in
    let t = good b us a.middle a.value a.was in
    let c = paren_closes a.value x a.middle mid a.next in
    let o = token open_paren w p in
    record {
      front = o ∷ (t.front ++ c.sign ∷ []);
      is = ap (λ vs. o ∷ vs) (t.is ∙ ap (λ vs. t.front ++ vs) c.is ∙ sym (append_assoc t.front (c.sign ∷ []) mid));
      form = grouped t.front o c.sign refl t.form c.kind_is;
      always = group_read s w p t.front c.sign a.middle mid t.always c.kind_is c.is;
    }
atom_again s n good b (token k w p ∷ us) mid x e = unlike p x mid e

-- ---- applications

atoms_on : (s : Signature) (t r us mid : List Token) → IsAtom t → AtomAgain s t us → us ≡ r ++ mid → AtomsAgain s r mid → AtomsAgain s (t ++ r) mid
atoms_on s t r us mid h al i more m zero b f l g others k = absurd (omega (arith, g))
atoms_on s t r us mid h al i more m (suc j) b f l g others k =
    let sum = length-append t r in
    let long = atom_long t h in
    let a = al m b (omega (arith, sum, l)) (r ++ others) (kinds_behind r others mid us i k) in
    let c = more m j b (apply f a.value) (omega (arith, sum, l)) (omega (arith, sum, long, g)) others k in
    record {
      value = c.value;
      is = ap (atoms_at (atom_at s (term_at s m) m b) (suc j) f) (append_assoc t r others)
          ∙ atoms_more (atom_at s (term_at s m) m b) j f (t ++ (r ++ others)) (atom_begins t h (r ++ others))
          ∙ ap (λ y. y >>= (λ z mid. atoms_at (atom_at s (term_at s m) m b) j (apply f z) mid)) a.is
          ∙ c.is;
    }

no_atoms : (s : Signature) (ts mid : List Token) → begins_atom (head_kind ts) ≡ false → ts ≡ mid → Again Joins (AtomsAgain s) ts mid
no_atoms s ts mid h i = record {
  front = [];
  is = i;
  form = λ d g. subst AreAtoms (sym (append-nil d)) g;
  always = λ m k b f l g others e. record { value = f; is = atoms_stop (atom_at s (term_at s m) m b) k f others g (ap begins_atom (e ∙ sym (ap head_kind i)) ∙ h) };
}

pub atoms_again : (s : Signature) (n : ℕ) → TermReads s n → (b : Scope) (k : ℕ) (f : Operand) (ts mid : List Token) (x : Operand) → atoms_at (atom_at s (term_at s n) n b) k f ts ≡ got x mid → Again Joins (AtomsAgain s) ts mid
unfolding atoms_at
atoms_again s n good b zero f ts mid x e = unlike (head_place ts) x mid e
atoms_again s n good b (suc k) f ts mid x e = at (λ g us d. atoms_again s n good b k g us mid x d) (begins_atom (head_kind ts)) refl e
  where
    at : ((g : Operand) (us : List Token) → atoms_at (atom_at s (term_at s n) n b) k g us ≡ got x mid → Again Joins (AtomsAgain s) us mid) → (c : Bool) → begins_atom (head_kind ts) ≡ c
        → atoms_by c (atom_at s (term_at s n) n b) (atoms_at (atom_at s (term_at s n) n b) k) f ts ≡ got x mid → Again Joins (AtomsAgain s) ts mid
    at more false h g = no_atoms s ts mid h (got_rest f x ts mid g)
    at more true h g =
        let a = steps (atom_at s (term_at s n) n b ts) (λ y rest. atoms_at (atom_at s (term_at s n) n b) k (apply f y) rest) x mid g in
        let t = atom_again s n good b ts a.middle a.value a.was in
        let r = more (apply f a.value) a.middle a.next in
        record {
          front = t.front ++ r.front;
          is = t.is ∙ ap (λ vs. t.front ++ vs) r.is ∙ sym (append_assoc t.front r.front mid);
          form = λ d h. subst AreAtoms (append_assoc d t.front r.front) (r.form (d ++ t.front) (further d t.front h t.form));
          always = atoms_on s t.front r.front a.middle mid t.form t.always r.is r.always;
        }

application_on : (s : Signature) (t r us mid : List Token) → IsAtom t → AtomAgain s t us → us ≡ r ++ mid → AtomsAgain s r mid → ApplicationAgain s (t ++ r) mid
unfolding application_at
application_on s t r us mid h al i more m b l others k =
    let sum = length-append t r in
    let long = atom_long t h in
    let a = al m b (omega (arith, sum, l)) (r ++ others) (kinds_behind r others mid us i k) in
    let c = more m m b a.value (omega (arith, sum, l)) (omega (arith, sum, long, l)) others k in
    record { value = c.value; is = ap (application_at s (term_at s m) m b) (append_assoc t r others) ∙ ap (λ y. y >>= atoms_at (atom_at s (term_at s m) m b) m) a.is ∙ c.is }

pub application_again : (s : Signature) (n : ℕ) → TermReads s n → (b : Scope) (ts mid : List Token) (x : Operand) → application_at s (term_at s n) n b ts ≡ got x mid → Again AreAtoms (ApplicationAgain s) ts mid
unfolding application_at
application_again s n good b ts mid x e =
    let a = steps (atom_at s (term_at s n) n b ts) (atoms_at (atom_at s (term_at s n) n b) n) x mid e in
    let t = atom_again s n good b ts a.middle a.value a.was in
    let r = atoms_again s n good b n a.value a.middle mid x a.next in
    record {
      front = t.front ++ r.front;
      is = t.is ∙ ap (λ vs. t.front ++ vs) r.is ∙ sym (append_assoc t.front r.front mid);
      form = r.form t.front (first t.front t.form);
      always = application_on s t.front r.front a.middle mid t.form t.always r.is r.always;
    }

-- ---- an operand, and what follows it

-- the operand alone
alone_on : (s : Signature) (l us mid : List Token) → AreAtoms l → ApplicationAgain s l us → us ≡ mid → ((read : List Token → Front Operand) (a : Operand) (others : List Token) → infix_by (head_kind us) s read a others ≡ got a others) → TermAgain s l mid
unfolding term_at
alone_on s l us mid h al i stays zero b g others k = absurd (omega (arith, g))
alone_on s l us mid h al i stays (suc m) b g others k =
    let same = k ∙ sym (ap head_kind i) in
    let a = al m b (omega (arith, g)) others same in
    let app = application_at s (term_at s m) m b in
    record {
      value = a.value;
      is = by_atom (head_kind (l ++ others)) s (term_at s m) m b (l ++ others) (atoms_begin l h others)
          ∙ ap (λ y. y >>= (λ w mid. infix_by (head_kind mid) s app w mid)) a.is
          ∙ ap (λ j. infix_by j s app a.value others) same
          ∙ stays app a.value others;
    }

alone_again : (s : Signature) (ts l us mid : List Token) → AreAtoms l → ApplicationAgain s l us → ts ≡ l ++ us → us ≡ mid → ((read : List Token → Front Operand) (a : Operand) (others : List Token) → infix_by (head_kind us) s read a others ≡ got a others) → Again IsTerm (TermAgain s) ts mid
alone_again s ts l us mid h al i e stays = record { front = l; is = i ∙ ap (λ vs. l ++ vs) e; form = an_application l h; always = alone_on s l us mid h al e stays }

infix_on : (s : Signature) (k : Kind) (w : Name) (p : ℕ) (l r us mid : List Token) → IsInfixSign k → AreAtoms l → ApplicationAgain s l (token k w p ∷ us) → ApplicationAgain s r mid → TermAgain s (l ++ token k w p ∷ r) mid
unfolding term_at
infix_on s k w p l r us mid q h al ar zero b g others e = absurd (omega (arith, g))
infix_on s k w p l r us mid q h al ar (suc m) b g others e =
    let z = token k w p in
    let sum = length-append l (z ∷ r) in
    let app = application_at s (term_at s m) m b in
    let a = al m b (omega (arith, sum, g)) (z ∷ (r ++ others)) refl in
    let c = ar m b (omega (arith, sum, g)) others e in
    let whole = right_read k q s app a.value (z ∷ (r ++ others)) others c in
    record {
      value = whole.value;
      is = ap (term_at s (suc m) b) (append_assoc l (z ∷ r) others)
          ∙ by_atom (head_kind (l ++ (z ∷ (r ++ others)))) s (term_at s m) m b (l ++ (z ∷ (r ++ others))) (atoms_begin l h (z ∷ (r ++ others)))
          ∙ ap (λ y. y >>= (λ w mid. infix_by (head_kind mid) s app w mid)) a.is
          ∙ whole.is;
    }

right_again : (s : Signature) (n : ℕ) → TermReads s n → (b : Scope) (k : Kind) (w : Name) (p : ℕ) (joined : Operand → Operand) (ts l us mid : List Token) (x : Operand) → IsInfixSign k → AreAtoms l → ApplicationAgain s l (token k w p ∷ us) → ts ≡ l ++ token k w p ∷ us
    → (application_at s (term_at s n) n b us >>= (λ y rest. got (joined y) rest)) ≡ got x mid → Again IsTerm (TermAgain s) ts mid
right_again s n good b k w p joined ts l us mid x q h al i e =
    let a = steps (application_at s (term_at s n) n b us) (λ y rest. got (joined y) rest) x mid e in
    let r = application_again s n good b us a.middle a.value a.was in
    let z = token k w p in
    let end = got_rest (joined a.value) x a.middle mid a.next in
    record {
      front = l ++ z ∷ r.front;
      is = i ∙ ap (λ vs. l ++ z ∷ vs) (r.is ∙ ap (λ vs. r.front ++ vs) end) ∙ sym (append_assoc l (z ∷ r.front) mid);
      form = an_infix l r.front z h q r.form;
      always = infix_on s k w p l r.front us mid q h al (subst (ApplicationAgain s r.front) end r.always);
    }

infix_again : (s : Signature) (n : ℕ) → TermReads s n → (b : Scope) (a x : Operand) (ts l us mid : List Token) → AreAtoms l → ApplicationAgain s l us → ts ≡ l ++ us → infix_by (head_kind us) s (application_at s (term_at s n) n b) a us ≡ got x mid → Again IsTerm (TermAgain s) ts mid
infix_again s n good b a x ts l [] mid h al i e = alone_again s ts l [] mid h al i (got_rest a x [] mid e) (λ read y others. refl)
infix_again s n good b a x ts l (token equals w p ∷ us) mid h al i e = right_again s n good b equals w p (equation s p a) ts l us mid x by_equals h al i e
infix_again s n good b a x ts l (token and_sign w p ∷ us) mid h al i e = right_again s n good b and_sign w p (connective s (codes "conj") p a) ts l us mid x by_and h al i e
infix_again s n good b a x ts l (token or_sign w p ∷ us) mid h al i e = right_again s n good b or_sign w p (connective s (codes "disj") p a) ts l us mid x by_or h al i e
infix_again s n good b a x ts l (token implies_sign w p ∷ us) mid h al i e = right_again s n good b implies_sign w p (connective s (codes "imp") p a) ts l us mid x by_implies h al i e
infix_again s n good b a x ts l (token k w p ∷ us) mid h al i e = alone_again s ts l (token k w p ∷ us) mid h al i (got_rest a x (token k w p ∷ us) mid e) (λ read y others. refl)

plain_again : (s : Signature) (n : ℕ) → TermReads s n → (b : Scope) (ts mid : List Token) (x : Operand)
    → (application_at s (term_at s n) n b ts >>= (λ a rest. infix_by (head_kind rest) s (application_at s (term_at s n) n b) a rest)) ≡ got x mid → Again IsTerm (TermAgain s) ts mid
plain_again s n good b ts mid x e =
    let a = steps (application_at s (term_at s n) n b ts) (λ a rest. infix_by (head_kind rest) s (application_at s (term_at s n) n b) a rest) x mid e in
    let l = application_again s n good b ts a.middle a.value a.was in
    infix_again s n good b a.value x ts l.front a.middle mid l.form l.always l.is a.next

-- ---- binders

pub record Bound (ts rest : List Token) : Type 0 where
  pub name : Token
  pub kind_is : Is a_name name
  pub undotted : is_dotted (word_of name) ≡ false
  pub is : ts ≡ name ∷ rest

pub bound_form : (ts rest : List Token) (x : Name) → bound_at ts ≡ got x rest → Bound ts rest
unfolding bound_at
bound_form [] rest x e = unlike 0 x rest e
bound_form (token a_name w p ∷ us) rest x e = at (is_dotted w) refl e
  where
    at : (d : Bool) → is_dotted w ≡ d → bound_by true d (token a_name w p ∷ us) ≡ got x rest → Bound (token a_name w p ∷ us) rest
    at true h g = unlike p x rest g
    at false h g = record { name = token a_name w p; kind_is = refl; undotted = h; is = ap (λ vs. token a_name w p ∷ vs) (got_rest w x us rest g) }
bound_form (token k w p ∷ us) rest x e = unlike p x rest e

-- the name of a binder is read
pub bound_read : (x : Token) (rest : List Token) → Is a_name x → is_dotted (word_of x) ≡ false → bound_at (x ∷ rest) ≡ got (word_of x) rest
unfolding bound_at
bound_read (token k w p) rest e u = ap (λ j. bound_by (is_name_token j) (is_dotted w) (token k w p ∷ rest)) e ∙ ap (λ d. bound_by true d (token k w p ∷ rest)) u

binder_on : (s : Signature) (x c : Token) (t : List Token) (o : Token) (d mid : List Token) → Is a_name x → is_dotted (word_of x) ≡ false → Is colon c → IsType t → Is dot o → TermAgain s d mid → BinderAgain s (x ∷ c ∷ (t ++ o ∷ d)) mid
unfolding binder_at body_at
binder_on s x c t o d mid hx hu hc ht ho al m b l others k =
    let sum = length-append t (o ∷ d) in
    let v = word_of x in
    let body = d ++ others in
    let a = typed_read s m c t (o ∷ body) hc ht (omega (arith, sum, l)) (ap ends_type (head_is dot o body ho)) in
    let scope = (v, stand_in b v (type_or_none a.value)) ∷ b in
    let g = al m scope (omega (arith, sum, l)) others k in
    let read = term_at s m in
    let made = λ (y : Operand). abstraction a.value (stand_in b v (type_or_none a.value)) y.meaning in
    record {
      value = (a.value, made g.value);
      is = ap (λ vs. binder_at s read m b (x ∷ c ∷ vs)) (append_assoc t (o ∷ d) others)
          ∙ ap (λ y. y >>= (λ x rest. typed_at s m rest >>= (λ t after. expect_by (is_dot (head_kind after)) t after >>= body_at read b x))) (bound_read x (c ∷ (t ++ (o ∷ body))) hx hu)
          ∙ ap (λ y. y >>= (λ t after. expect_by (is_dot (head_kind after)) t after >>= body_at read b v)) a.is
          ∙ ap (λ k. expect_by (is_dot k) a.value (o ∷ body) >>= body_at read b v) (head_is dot o body ho)
          ∙ ap (λ y. y >>= (λ w mid. got (a.value, made w) mid)) g.is;
    }

binder_again : (s : Signature) (n : ℕ) → TermReads s n → (b : Scope) (ts mid : List Token) (v : Binder) → binder_at s (term_at s n) n b ts ≡ got v mid → Again IsBound (BinderAgain s) ts mid
unfolding binder_at body_at
binder_again s n good b ts mid v e =
    let read = term_at s n in
    let a = steps (bound_at ts) (λ x rest. typed_at s n rest >>= (λ t after. expect_by (is_dot (head_kind after)) t after >>= body_at read b x)) v mid e in
    let x = bound_form ts a.middle a.value a.was in
    let c = steps (typed_at s n a.middle) (λ t after. expect_by (is_dot (head_kind after)) t after >>= body_at read b a.value) v mid a.next in
    let t = typed_again s n a.middle c.middle c.value c.was in
    let d = steps (expect_by (is_dot (head_kind c.middle)) c.value c.middle) (body_at read b a.value) v mid c.next in
    let o = dot_closes c.value d.value c.middle d.middle d.was in
    let scope = (a.value, stand_in b a.value (type_or_none d.value)) ∷ b in
    let g = steps (read scope d.middle) (λ y rest. got (d.value, abstraction d.value (stand_in b a.value (type_or_none d.value)) y.meaning) rest) v mid d.next in
    let u = good scope d.middle g.middle g.value g.was in
    let end = got_rest _ v g.middle mid g.next in
    record {
      front = x.name ∷ t.sign ∷ (t.type ++ o.sign ∷ u.front);
      is = x.is ∙ ap (λ vs. x.name ∷ vs) (t.is ∙ ap (λ vs. t.sign ∷ (t.type ++ vs)) (o.is ∙ ap (λ vs. o.sign ∷ vs) (u.is ∙ ap (λ vs. u.front ++ vs) end)) ∙ ap (λ vs. t.sign ∷ vs) (sym (append_assoc t.type (o.sign ∷ u.front) mid)));
      form = λ z q. a_binder t.type u.front z x.name t.sign o.sign q x.kind_is x.undotted t.kind_is t.form o.kind_is u.form;
      always = binder_on s x.name t.sign t.type o.sign u.front mid x.kind_is x.undotted t.kind_is t.form o.kind_is (subst (TermAgain s u.front) end u.always);
    }

bound_on : (s : Signature) (k : Kind) (w : Name) (p : ℕ) (d mid : List Token) → IsBinderSign k → BinderAgain s d mid → TermAgain s (token k w p ∷ d) mid
unfolding term_at
bound_on s k w p d mid q al zero b l others e = absurd (omega (arith, l))
bound_on s k w p d mid q al (suc m) b l others e = sign_read k q s (term_at s m) m b (token k w p ∷ (d ++ others)) others (al m b (omega (arith, l)) others e)

bound_again : (s : Signature) (k : Kind) (w : Name) (p : ℕ) (us rest mid : List Token) → IsBinderSign k → rest ≡ mid → Again IsBound (BinderAgain s) us rest → Again IsTerm (TermAgain s) (token k w p ∷ us) mid
bound_again s k w p us rest mid q e x =
    let z = token k w p in
    record { front = z ∷ x.front; is = ap (λ vs. z ∷ vs) (x.is ∙ ap (λ vs. x.front ++ vs) e); form = x.form z q; always = bound_on s k w p x.front mid q (subst (BinderAgain s x.front) e x.always) }

negation_on : (s : Signature) (w : Name) (p : ℕ) (d mid : List Token) → ApplicationAgain s d mid → TermAgain s (token not_sign w p ∷ d) mid
unfolding term_at
negation_on s w p d mid al zero b l others e = absurd (omega (arith, l))
negation_on s w p d mid al (suc m) b l others e =
    let a = al m b (omega (arith, l)) others e in
    record { value = negation s p a.value; is = ap (λ y. y >>= (λ x rest. got (negation s p x) rest)) a.is }

step_again : (s : Signature) (n : ℕ) → TermReads s n → (b : Scope) (ts mid : List Token) (x : Operand) → term_by (head_kind ts) s (term_at s n) n b ts ≡ got x mid → Again IsTerm (TermAgain s) ts mid
step_again s n good b [] mid x e = plain_again s n good b [] mid x e
step_again s n good b (token lambda_sign w p ∷ us) mid x e =
    let a = steps (binder_at s (term_at s n) n b us) (λ y rest. got (operand y.1 p) rest) x mid e in
    bound_again s lambda_sign w p us a.middle mid by_lambda (got_rest (operand a.value.1 p) x a.middle mid a.next) (binder_again s n good b us a.middle a.value a.was)
step_again s n good b (token all_sign w p ∷ us) mid x e =
    let a = steps (binder_at s (term_at s n) n b us) (λ y rest. got (quantified s (codes "all") p y.0 y.1) rest) x mid e in
    bound_again s all_sign w p us a.middle mid by_all (got_rest (quantified s (codes "all") p a.value.0 a.value.1) x a.middle mid a.next) (binder_again s n good b us a.middle a.value a.was)
step_again s n good b (token ex_sign w p ∷ us) mid x e =
    let a = steps (binder_at s (term_at s n) n b us) (λ y rest. got (quantified s (codes "ex") p y.0 y.1) rest) x mid e in
    bound_again s ex_sign w p us a.middle mid by_ex (got_rest (quantified s (codes "ex") p a.value.0 a.value.1) x a.middle mid a.next) (binder_again s n good b us a.middle a.value a.was)
step_again s n good b (token not_sign w p ∷ us) mid x e =
    let a = steps (application_at s (term_at s n) n b us) (λ y rest. got (negation s p y) rest) x mid e in
    let r = application_again s n good b us a.middle a.value a.was in
    let end = got_rest (negation s p a.value) x a.middle mid a.next in
    let z = token not_sign w p in
    record { front = z ∷ r.front; is = ap (λ vs. z ∷ vs) (r.is ∙ ap (λ vs. r.front ++ vs) end); form = a_negation r.front z refl r.form; always = negation_on s w p r.front mid (subst (ApplicationAgain s r.front) end r.always) }
step_again s n good b (token k w p ∷ us) mid x e = plain_again s n good b (token k w p ∷ us) mid x e

pub term_again : (s : Signature) (n : ℕ) (b : Scope) (ts mid : List Token) (x : Operand) → term_at s n b ts ≡ got x mid → Again IsTerm (TermAgain s) ts mid
unfolding term_at
term_again s zero b ts mid x e = unlike (head_place ts) x mid e
term_again s (suc n) b ts mid x e = step_again s n (term_again s n) b ts mid x e
