-- What is read as a term is one by the grammar.
use Rattle.std.proofs.Common.{◌≡◌, ℕ, zero, suc, ◌+◌, Bool, true, false, List, [], ◌∷◌, ◌++◌, length, append_assoc, refl, ap, sym, ◌∙◌, subst, arith}
use Rattle.std.specs.Prelude.{codes}
use Rattle.hol_terms.specs.Name.{Name}
use Rattle.hol_terms.specs.Ty.{Ty}
use Rattle.hol_terms.specs.Tm.{Tm}
use Rattle.hol_terms.specs.Signature.{Signature}
use Rattle.hol_terms.specs.Tokens.{Kind, a_name, a_variable, a_keyword, open_paren, close_paren, open_brace, close_brace, open_bracket, close_bracket, comma, colon, semicolon, dot, bar, equals, arrow, lambda_sign, all_sign, ex_sign, not_sign, and_sign, or_sign, implies_sign, the_end, no_token, Token, token, head_kind, head_text, head_place, tail}
use Rattle.hol_terms.specs.Meaning.{Meaning, means, Arguments, given, constant, Operand, operand, apply, equation, connective, negation, abstraction, quantified}
use Rattle.hol_terms.specs.Reading.{Front, got, stop, ◌>>=◌, expect_by, is_dot, is_name_token, is_close_paren, is_close_brace, is_close_bracket, types_at, type_at, typed_by, typed_at, Scope, innermost, stand_in, plain_by, braces_at, name_by, free_of, free_by, Reader, atom_at, begins_atom, atoms_by, atoms_at, application_at, infix_by, is_dotted, bound_by, bound_at, type_or_none, Binder, body_at, binder_at, term_by, term_at}
use Rattle.hol_terms.specs.Grammar.{kind, word_of, Is, IsType, AreTypes, IsBinderSign, by_lambda, by_all, by_ex, IsInfixSign, by_equals, by_and, by_or, by_implies, IsTerm, a_binder, a_negation, an_application, an_infix, AreAtoms, first, further, IsAtom, bare, at_types, free, grouped}
use Rattle.hol_text.proofs.GrammarTypes.{Splits, Steps, steps, unlike, got_rest, ByGrammar, types_form, Closes, paren_closes, type_form}

-- what a reader of terms reads is a term
abbrev pub TermsByGrammar : Reader → Type 0
TermsByGrammar read = (b : Scope) (ts rest : List Token) (x : Operand) → read b ts ≡ got x rest → Splits IsTerm ts rest

brace_closes : {A : Type 0} (x v : A) (mid ws : List Token) → expect_by (is_close_brace (head_kind mid)) x mid ≡ got v ws → Closes close_brace mid ws
brace_closes x v [] ws e = unlike 0 v ws e
brace_closes x v (token close_brace w p ∷ us) ws e = record { sign = token close_brace w p; kind_is = refl; is = ap (λ vs. token close_brace w p ∷ vs) (got_rest x v us ws e) }
brace_closes x v (token k w p ∷ us) ws e = unlike p v ws e

bracket_closes : {A : Type 0} (x v : A) (mid ws : List Token) → expect_by (is_close_bracket (head_kind mid)) x mid ≡ got v ws → Closes close_bracket mid ws
bracket_closes x v [] ws e = unlike 0 v ws e
bracket_closes x v (token close_bracket w p ∷ us) ws e = record { sign = token close_bracket w p; kind_is = refl; is = ap (λ vs. token close_bracket w p ∷ vs) (got_rest x v us ws e) }
bracket_closes x v (token k w p ∷ us) ws e = unlike p v ws e

dot_closes : {A : Type 0} (x v : A) (mid ws : List Token) → expect_by (is_dot (head_kind mid)) x mid ≡ got v ws → Closes dot mid ws
dot_closes x v [] ws e = unlike 0 v ws e
dot_closes x v (token dot w p ∷ us) ws e = record { sign = token dot w p; kind_is = refl; is = ap (λ vs. token dot w p ∷ vs) (got_rest x v us ws e) }
dot_closes x v (token k w p ∷ us) ws e = unlike p v ws e

-- a colon and a type
record Typed (ts rest : List Token) : Type 0 where
  sign : Token
  kind_is : Is colon sign
  type : List Token
  form : IsType type
  is : ts ≡ sign ∷ (type ++ rest)

typed_form : (s : Signature) (n : ℕ) (ts rest : List Token) (m : Meaning Ty) → typed_at s n ts ≡ got m rest → Typed ts rest
unfolding typed_at
typed_form s n [] rest m e = unlike 0 m rest e
typed_form s n (token colon w p ∷ us) rest m e =
    let t = type_form s n us rest m e in
    record { sign = token colon w p; kind_is = refl; type = t.front; form = t.form; is = ap (λ vs. token colon w p ∷ vs) t.is }
typed_form s n (token k w p ∷ us) rest m e = unlike p m rest e

-- ---- atoms

bare_name : (w : Name) (p : ℕ) (us rest : List Token) → us ≡ rest → Splits IsAtom (token a_name w p ∷ us) rest
bare_name w p us rest e = record { front = token a_name w p ∷ []; is = ap (λ vs. token a_name w p ∷ vs) e; form = bare (token a_name w p) refl }

name_form : (s : Signature) (n : ℕ) (b : Scope) (w : Name) (p : ℕ) (us rest : List Token) (x : Operand) → name_by (head_kind us) s n b w p us ≡ got x rest → Splits IsAtom (token a_name w p ∷ us) rest
unfolding braces_at
name_form s n b w p [] rest x e = bare_name w p [] rest (got_rest _ x [] rest e)
name_form s n b w p (token open_brace v q ∷ us) rest x e =
    let a = steps (types_at (type_at s n) n (given []) us >>= (λ args rest. expect_by (is_close_brace (head_kind rest)) args rest)) (λ args rest. got (operand (constant s w p args) p) rest) x rest e in
    let d = steps (types_at (type_at s n) n (given []) us) (λ args rest. expect_by (is_close_brace (head_kind rest)) args rest) a.value a.middle a.was in
    let ts = types_form (type_at s n) (type_form s n) n (given []) us d.middle d.value d.was in
    let c = brace_closes d.value a.value d.middle a.middle d.next in
    let end = got_rest (operand (constant s w p a.value) p) x a.middle rest a.next in
    let name = token a_name w p in
    let brace = token open_brace v q in
    record {
      front = name ∷ brace ∷ (ts.front ++ c.sign ∷ []);
      is = ap (λ vs. name ∷ brace ∷ vs) (ts.is ∙ ap (λ vs. ts.front ++ vs) (c.is ∙ ap (λ vs. c.sign ∷ vs) end) ∙ sym (append_assoc ts.front (c.sign ∷ []) rest));
      form = at_types ts.front name brace c.sign refl refl ts.form c.kind_is;
    }
name_form s n b w p (token k v q ∷ us) rest x e = bare_name w p (token k v q ∷ us) rest (got_rest _ x (token k v q ∷ us) rest e)

free_form : (s : Signature) (n : ℕ) (w : Name) (p : ℕ) (us rest : List Token) (x : Operand) → free_by (is_name_token (head_kind us)) s n p us ≡ got x rest → Splits IsAtom (token open_bracket w p ∷ us) rest
free_form s n w p [] rest x e = unlike 0 x rest e
free_form s n w p (token a_name v q ∷ us) rest x e =
    let a = steps (typed_at s n us) (λ t rest. expect_by (is_close_bracket (head_kind rest)) (operand (free_of v t) p) rest) x rest e in
    let t = typed_form s n us a.middle a.value a.was in
    let c = bracket_closes (operand (free_of v a.value) p) x a.middle rest a.next in
    let bracket = token open_bracket w p in
    let name = token a_name v q in
    record {
      front = bracket ∷ name ∷ t.sign ∷ (t.type ++ c.sign ∷ []);
      is = ap (λ vs. bracket ∷ name ∷ vs) (t.is ∙ ap (λ vs. t.sign ∷ vs) (ap (λ vs. t.type ++ vs) c.is ∙ sym (append_assoc t.type (c.sign ∷ []) rest)));
      form = free t.type bracket name t.sign c.sign refl refl t.kind_is t.form c.kind_is;
    }
free_form s n w p (token k v q ∷ us) rest x e = unlike q x rest e

atom_form : (s : Signature) (read : Reader) → TermsByGrammar read → (n : ℕ) (b : Scope) (ts rest : List Token) (x : Operand) → atom_at s read n b ts ≡ got x rest → Splits IsAtom ts rest
unfolding atom_at
atom_form s read good n b [] rest x e = unlike 0 x rest e
atom_form s read good n b (token a_name w p ∷ us) rest x e = name_form s n b w p us rest x e
atom_form s read good n b (token open_bracket w p ∷ us) rest x e = free_form s n w p us rest x e
atom_form s read good n b (token open_paren w p ∷ us) rest x e =
    let a = steps (read b us) (λ t rest. expect_by (is_close_paren (head_kind rest)) t rest) x rest e in
    let t = good b us a.middle a.value a.was in
    let c = paren_closes a.value x a.middle rest a.next in
    let o = token open_paren w p in
    record {
      front = o ∷ (t.front ++ c.sign ∷ []);
      is = ap (λ vs. o ∷ vs) (t.is ∙ ap (λ vs. t.front ++ vs) c.is ∙ sym (append_assoc t.front (c.sign ∷ []) rest));
      form = grouped t.front o c.sign refl t.form c.kind_is;
    }
atom_form s read good n b (token k w p ∷ us) rest x e = unlike p x rest e

-- ---- applications

-- atoms behind an atom
record Arguments_of (ts rest : List Token) : Type 0 where
  atoms : List Token
  is : ts ≡ atoms ++ rest
  form : (d : List Token) → AreAtoms d → AreAtoms (d ++ atoms)

no_more : (d : List Token) → d ++ [] ≡ d
no_more [] = refl
no_more (x ∷ d) = ap (λ e. x ∷ e) (no_more d)

atoms_form : (s : Signature) (read : Reader) → TermsByGrammar read → (n : ℕ) (b : Scope) (k : ℕ) (f : Operand) (ts rest : List Token) (x : Operand) → atoms_at (atom_at s read n b) k f ts ≡ got x rest → Arguments_of ts rest
unfolding atoms_at
atoms_form s read good n b zero f ts rest x e = unlike (head_place ts) x rest e
atoms_form s read good n b (suc k) f ts rest x e = at (λ g us d. atoms_form s read good n b k g us rest x d) (begins_atom (head_kind ts)) e
  where
    at : ((g : Operand) (us : List Token) → atoms_at (atom_at s read n b) k g us ≡ got x rest → Arguments_of us rest) → (c : Bool) → atoms_by c (atom_at s read n b) (atoms_at (atom_at s read n b) k) f ts ≡ got x rest → Arguments_of ts rest
    at again false g = record { atoms = []; is = got_rest f x ts rest g; form = λ d h. subst AreAtoms (sym (no_more d)) h }
    at again true g =
        let a = steps (atom_at s read n b ts) (λ y rest. atoms_at (atom_at s read n b) k (apply f y) rest) x rest g in
        let t = atom_form s read good n b ts a.middle a.value a.was in
        let r = again (apply f a.value) a.middle a.next in
        record {
          atoms = t.front ++ r.atoms;
          is = t.is ∙ ap (λ vs. t.front ++ vs) r.is ∙ sym (append_assoc t.front r.atoms rest);
          form = λ d h. subst AreAtoms (append_assoc d t.front r.atoms) (r.form (d ++ t.front) (further d t.front h t.form));
        }

application_form : (s : Signature) (read : Reader) → TermsByGrammar read → (n : ℕ) (b : Scope) (ts rest : List Token) (x : Operand) → application_at s read n b ts ≡ got x rest → Splits AreAtoms ts rest
unfolding application_at
application_form s read good n b ts rest x e =
    let a = steps (atom_at s read n b ts) (atoms_at (atom_at s read n b) n) x rest e in
    let t = atom_form s read good n b ts a.middle a.value a.was in
    let r = atoms_form s read good n b n a.value a.middle rest x a.next in
    record { front = t.front ++ r.atoms; is = t.is ∙ ap (λ vs. t.front ++ vs) r.is ∙ sym (append_assoc t.front r.atoms rest); form = r.form t.front (first t.front t.form) }

right_form : (s : Signature) (read : Reader) → TermsByGrammar read → (n : ℕ) (b : Scope) (k : Kind) (w : Name) (p : ℕ) (joined : Operand → Operand) (ts l us rest : List Token) (x : Operand) → IsInfixSign k → AreAtoms l → ts ≡ l ++ token k w p ∷ us
    → (application_at s read n b us >>= (λ y rest. got (joined y) rest)) ≡ got x rest → Splits IsTerm ts rest
right_form s read good n b k w p joined ts l us rest x q h i e =
    let a = steps (application_at s read n b us) (λ y rest. got (joined y) rest) x rest e in
    let r = application_form s read good n b us a.middle a.value a.was in
    let z = token k w p in
    record {
      front = l ++ z ∷ r.front;
      is = i ∙ ap (λ vs. l ++ z ∷ vs) (r.is ∙ ap (λ vs. r.front ++ vs) (got_rest (joined a.value) x a.middle rest a.next)) ∙ sym (append_assoc l (z ∷ r.front) rest);
      form = an_infix l r.front z h q r.form;
    }

alone : (a x : Operand) (ts l mid rest : List Token) → AreAtoms l → ts ≡ l ++ mid → got a mid ≡ got x rest → Splits IsTerm ts rest
alone a x ts l mid rest h i e = record { front = l; is = i ∙ ap (λ vs. l ++ vs) (got_rest a x mid rest e); form = an_application l h }

infix_form : (s : Signature) (read : Reader) → TermsByGrammar read → (n : ℕ) (b : Scope) (a x : Operand) (ts l mid rest : List Token) → AreAtoms l → ts ≡ l ++ mid → infix_by (head_kind mid) s (application_at s read n b) a mid ≡ got x rest → Splits IsTerm ts rest
infix_form s read good n b a x ts l [] rest h i e = alone a x ts l [] rest h i e
infix_form s read good n b a x ts l (token equals w p ∷ us) rest h i e = right_form s read good n b equals w p (equation s p a) ts l us rest x by_equals h i e
infix_form s read good n b a x ts l (token and_sign w p ∷ us) rest h i e = right_form s read good n b and_sign w p (connective s (codes "conj") p a) ts l us rest x by_and h i e
infix_form s read good n b a x ts l (token or_sign w p ∷ us) rest h i e = right_form s read good n b or_sign w p (connective s (codes "disj") p a) ts l us rest x by_or h i e
infix_form s read good n b a x ts l (token implies_sign w p ∷ us) rest h i e = right_form s read good n b implies_sign w p (connective s (codes "imp") p a) ts l us rest x by_implies h i e
infix_form s read good n b a x ts l (token k w p ∷ us) rest h i e = alone a x ts l (token k w p ∷ us) rest h i e

-- ---- binders

record Bound (ts rest : List Token) : Type 0 where
  name : Token
  kind_is : Is a_name name
  undotted : is_dotted (word_of name) ≡ false
  is : ts ≡ name ∷ rest

bound_form : (ts rest : List Token) (x : Name) → bound_at ts ≡ got x rest → Bound ts rest
unfolding bound_at
bound_form [] rest x e = unlike 0 x rest e
bound_form (token a_name w p ∷ us) rest x e = at (is_dotted w) refl e
  where
    at : (d : Bool) → is_dotted w ≡ d → bound_by true d (token a_name w p ∷ us) ≡ got x rest → Bound (token a_name w p ∷ us) rest
    at true h g = unlike p x rest g
    at false h g = record { name = token a_name w p; kind_is = refl; undotted = h; is = ap (λ vs. token a_name w p ∷ vs) (got_rest w x us rest g) }
bound_form (token k w p ∷ us) rest x e = unlike p x rest e

-- what stands behind the sign of a binder
record BinderParts (ts rest : List Token) : Type 0 where
  type : List Token
  body : List Token
  name : Token
  sign : Token
  point : Token
  name_is : Is a_name name
  undotted : is_dotted (word_of name) ≡ false
  sign_is : Is colon sign
  type_is : IsType type
  point_is : Is dot point
  body_is : IsTerm body
  is : ts ≡ (name ∷ sign ∷ (type ++ point ∷ body)) ++ rest

binder_form : (s : Signature) (read : Reader) → TermsByGrammar read → (n : ℕ) (b : Scope) (ts rest : List Token) (v : Binder) → binder_at s read n b ts ≡ got v rest → BinderParts ts rest
unfolding binder_at body_at
binder_form s read good n b ts rest v e =
    let a = steps (bound_at ts) (λ x rest. typed_at s n rest >>= (λ t after. expect_by (is_dot (head_kind after)) t after >>= body_at read b x)) v rest e in
    let x = bound_form ts a.middle a.value a.was in
    let c = steps (typed_at s n a.middle) (λ t after. expect_by (is_dot (head_kind after)) t after >>= body_at read b a.value) v rest a.next in
    let t = typed_form s n a.middle c.middle c.value c.was in
    let d = steps (expect_by (is_dot (head_kind c.middle)) c.value c.middle) (body_at read b a.value) v rest c.next in
    let o = dot_closes c.value d.value c.middle d.middle d.was in
    let scope = (a.value, stand_in b a.value (type_or_none d.value)) ∷ b in
    let g = steps (read scope d.middle) (λ y rest. got (d.value, abstraction d.value (stand_in b a.value (type_or_none d.value)) y.meaning) rest) v rest d.next in
    let u = good scope d.middle g.middle g.value g.was in
    let end = got_rest _ v g.middle rest g.next in
    record {
      type = t.type;
      body = u.front;
      name = x.name;
      sign = t.sign;
      point = o.sign;
      name_is = x.kind_is;
      undotted = x.undotted;
      sign_is = t.kind_is;
      type_is = t.form;
      point_is = o.kind_is;
      body_is = u.form;
      is = x.is ∙ ap (λ vs. x.name ∷ vs) (t.is ∙ ap (λ vs. t.sign ∷ (t.type ++ vs)) (o.is ∙ ap (λ vs. o.sign ∷ vs) (u.is ∙ ap (λ vs. u.front ++ vs) end)) ∙ ap (λ vs. t.sign ∷ vs) (sym (append_assoc t.type (o.sign ∷ u.front) rest)));
    }

bound_term : (k : Kind) (w : Name) (p : ℕ) (us rest : List Token) → IsBinderSign k → BinderParts us rest → Splits IsTerm (token k w p ∷ us) rest
bound_term k w p us rest q c = record {
  front = token k w p ∷ c.name ∷ c.sign ∷ (c.type ++ c.point ∷ c.body);
  is = ap (λ vs. token k w p ∷ vs) c.is;
  form = a_binder c.type c.body (token k w p) c.name c.sign c.point q c.name_is c.undotted c.sign_is c.type_is c.point_is c.body_is;
}

plain_form : (s : Signature) (read : Reader) → TermsByGrammar read → (n : ℕ) (b : Scope) (ts rest : List Token) (x : Operand)
    → (application_at s read n b ts >>= (λ a rest. infix_by (head_kind rest) s (application_at s read n b) a rest)) ≡ got x rest → Splits IsTerm ts rest
plain_form s read good n b ts rest x e =
    let a = steps (application_at s read n b ts) (λ a rest. infix_by (head_kind rest) s (application_at s read n b) a rest) x rest e in
    let l = application_form s read good n b ts a.middle a.value a.was in
    infix_form s read good n b a.value x ts l.front a.middle rest l.form l.is a.next

step_form : (s : Signature) (read : Reader) → TermsByGrammar read → (n : ℕ) (b : Scope) (ts rest : List Token) (x : Operand) → term_by (head_kind ts) s read n b ts ≡ got x rest → Splits IsTerm ts rest
step_form s read good n b [] rest x e = plain_form s read good n b [] rest x e
step_form s read good n b (token lambda_sign w p ∷ us) rest x e =
    let a = steps (binder_at s read n b us) (λ y rest. got (operand y.1 p) rest) x rest e in
    bound_term lambda_sign w p us rest by_lambda (subst (BinderParts us) (got_rest (operand a.value.1 p) x a.middle rest a.next) (binder_form s read good n b us a.middle a.value a.was))
step_form s read good n b (token all_sign w p ∷ us) rest x e =
    let a = steps (binder_at s read n b us) (λ y rest. got (quantified s (codes "all") p y.0 y.1) rest) x rest e in
    bound_term all_sign w p us rest by_all (subst (BinderParts us) (got_rest (quantified s (codes "all") p a.value.0 a.value.1) x a.middle rest a.next) (binder_form s read good n b us a.middle a.value a.was))
step_form s read good n b (token ex_sign w p ∷ us) rest x e =
    let a = steps (binder_at s read n b us) (λ y rest. got (quantified s (codes "ex") p y.0 y.1) rest) x rest e in
    bound_term ex_sign w p us rest by_ex (subst (BinderParts us) (got_rest (quantified s (codes "ex") p a.value.0 a.value.1) x a.middle rest a.next) (binder_form s read good n b us a.middle a.value a.was))
step_form s read good n b (token not_sign w p ∷ us) rest x e =
    let a = steps (application_at s read n b us) (λ y rest. got (negation s p y) rest) x rest e in
    let r = application_form s read good n b us a.middle a.value a.was in
    let z = token not_sign w p in
    record { front = z ∷ r.front; is = ap (λ vs. z ∷ vs) (r.is ∙ ap (λ vs. r.front ++ vs) (got_rest (negation s p a.value) x a.middle rest a.next)); form = a_negation r.front z refl r.form }
step_form s read good n b (token k w p ∷ us) rest x e = plain_form s read good n b (token k w p ∷ us) rest x e

pub term_form : (s : Signature) (n : ℕ) → TermsByGrammar (term_at s n)
unfolding term_at
term_form s zero b ts rest x e = unlike (head_place ts) x rest e
term_form s (suc n) b ts rest x e = step_form s (term_at s n) (term_form s n) n b ts rest x e
