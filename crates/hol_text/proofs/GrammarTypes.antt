-- What is read as a type is one by the grammar.
use Rattle.std.proofs.Common.{◌≡◌, ℕ, zero, suc, ◌+◌, Bool, true, false, List, [], ◌∷◌, ◌++◌, length, append_assoc, refl, ap, sym, ◌∙◌, subst, arith}
use Rattle.hol_terms.specs.Ty.{Ty}
use Rattle.hol_terms.specs.Signature.{Signature}
use Rattle.hol_terms.specs.Tokens.{Kind, a_name, a_variable, a_keyword, open_paren, close_paren, open_brace, close_brace, open_bracket, close_bracket, comma, colon, semicolon, dot, bar, equals, arrow, lambda_sign, all_sign, ex_sign, not_sign, and_sign, or_sign, implies_sign, the_end, no_token, Token, token, head_kind, head_text, head_place, tail}
use Rattle.hol_terms.specs.Meaning.{Meaning, means, Arguments, given, with_one, applied, function}
use Rattle.hol_terms.specs.Reading.{Front, got, stop, ◌>>=◌, expect_by, is_close_paren, is_name_token, postfix_by, postfix, more_types, types_at, tuple, tuple_by, group_by, dtype_by, dtype_at, range_by, type_at}
use Rattle.hol_terms.specs.Grammar.{kind, Is, IsType, a_domain, a_function, IsDomain, variable, constructor, in_parentheses, of_several, of_one, AreTypes, one, more}

-- the tokens are some of this form, and the rest
pub record Splits (P : List Token → Type 0) (ts rest : List Token) : Type 0 where
  pub front : List Token
  pub is : ts ≡ front ++ rest
  pub form : P front

-- both steps of a reading that gave something
pub record Steps {A B : Type 0} (x : Front A) (f : A → List Token → Front B) (v : B) (rest : List Token) : Type 0 where
  pub value : A
  pub middle : List Token
  pub was : x ≡ got value middle
  pub next : f value middle ≡ got v rest

pub unlike : {A : Type 0} {C : Type 0} (p : ℕ) (v : A) (ts : List Token) → stop p ≡ got v ts → C
unlike {A} {C} p v ts e = absurd (apart e)
  where
    is_stop : Front A → Bool
    is_stop (stop p) = true
    is_stop (got x us) = false

    differ : true ≡ false → ⊥
    differ e = cc

    apart : stop p ≡ got v ts → ⊥
    apart e = differ (ap is_stop e)

pub steps : {A B : Type 0} (x : Front A) (f : A → List Token → Front B) (v : B) (rest : List Token) → (x >>= f) ≡ got v rest → Steps x f v rest
steps (got u ts) f v rest e = record { value = u; middle = ts; was = refl; next = e }
steps (stop p) f v rest e = unlike p v rest e

-- what a reader of types reads is a type
abbrev pub ByGrammar : (List Token → Front (Meaning Ty)) → Type 0
ByGrammar read = (ts rest : List Token) (m : Meaning Ty) → read ts ≡ got m rest → Splits IsType ts rest

-- names behind a type
record Names (ts rest : List Token) : Type 0 where
  names : List Token
  is : ts ≡ names ++ rest
  form : (d : List Token) → IsDomain d → IsDomain (d ++ names)

same_rest : (m u : Meaning Ty) (ts rest : List Token) → got m ts ≡ got u rest → ts ≡ rest
same_rest m u ts rest e = cc

no_more : (d : List Token) → d ++ [] ≡ d
no_more [] = refl
no_more (x ∷ d) = ap (λ e. x ∷ e) (no_more d)

no_names : (m u : Meaning Ty) (ts rest : List Token) → got m ts ≡ got u rest → Names ts rest
no_names m u ts rest e = record { names = []; is = same_rest m u ts rest e; form = λ d h. subst IsDomain (sym (no_more d)) h }

postfix_names : (s : Signature) (t : Meaning Ty) (ts rest : List Token) (m : Meaning Ty) → postfix s t ts ≡ got m rest → Names ts rest
postfix_names s t [] rest m e = no_names t m [] rest e
postfix_names s t (token a_name w p ∷ ts) rest m e =
    let n = postfix_names s (applied s w p (with_one (given []) t)) ts rest m e in
    record {
      names = token a_name w p ∷ n.names;
      is = ap (λ us. token a_name w p ∷ us) n.is;
      form = λ d h. subst IsDomain (append_assoc d (token a_name w p ∷ []) n.names) (n.form (d ++ token a_name w p ∷ []) (of_one d (token a_name w p) h refl));
    }
postfix_names s t (token k w p ∷ ts) rest m e = no_names t m (token k w p ∷ ts) rest e

-- a first part, and names behind it
with_names : (d ts rest us : List Token) → us ≡ d ++ ts → IsDomain d → Names ts rest → Splits IsDomain us rest
with_names d ts rest us e h n = record { front = d ++ n.names; is = e ∙ ap (λ vs. d ++ vs) n.is ∙ sym (append_assoc d n.names rest); form = n.form d h }

pub got_rest : {A : Type 0} (x v : A) (us ws : List Token) → got x us ≡ got v ws → us ≡ ws
got_rest x v us ws e = cc

-- a further type of a list, where a comma follows
types_behind : (read : List Token → Front (Meaning Ty)) (k : ℕ) (args v : Arguments) (ts rest f mid : List Token) → IsType f → ts ≡ f ++ mid → ((u : List Token) → types_at read k args u ≡ got v rest → Splits AreTypes u rest)
    → more_types (head_kind mid) (types_at read k) args mid ≡ got v rest → Splits AreTypes ts rest
types_behind read k args v ts rest f [] h i again e = record { front = f; is = i ∙ ap (λ us. f ++ us) (got_rest args v [] rest e); form = one f h }
types_behind read k args v ts rest f (token comma w p ∷ us) h i again e =
    let t = again us e in
    record { front = f ++ token comma w p ∷ t.front; is = i ∙ ap (λ vs. f ++ token comma w p ∷ vs) t.is ∙ sym (append_assoc f (token comma w p ∷ t.front) rest); form = more f t.front (token comma w p) h refl t.form }
types_behind read k args v ts rest f (token j w p ∷ us) h i again e = record { front = f; is = i ∙ ap (λ us. f ++ us) (got_rest args v (token j w p ∷ us) rest e); form = one f h }

pub types_form : (read : List Token → Front (Meaning Ty)) → ByGrammar read → (k : ℕ) (args : Arguments) (ts rest : List Token) (v : Arguments) → types_at read k args ts ≡ got v rest → Splits AreTypes ts rest
unfolding types_at
types_form read good zero args ts rest v e = unlike (head_place ts) v rest e
types_form read good (suc k) args ts rest v e =
    let a = steps (read ts) (λ t mid. more_types (head_kind mid) (types_at read k) (with_one args t) mid) v rest e in
    let t = good ts a.middle a.value a.was in
    types_behind read k (with_one args a.value) v ts rest t.front a.middle t.form t.is (λ u. types_form read good k (with_one args a.value) u rest v) a.next

-- a closing sign, and what follows it
pub record Closes (k : Kind) (mid ws : List Token) : Type 0 where
  pub sign : Token
  pub kind_is : Is k sign
  pub is : mid ≡ sign ∷ ws

pub paren_closes : {A : Type 0} (x v : A) (mid ws : List Token) → expect_by (is_close_paren (head_kind mid)) x mid ≡ got v ws → Closes close_paren mid ws
paren_closes x v [] ws e = unlike 0 v ws e
paren_closes x v (token close_paren w p ∷ us) ws e = record { sign = token close_paren w p; kind_is = refl; is = ap (λ vs. token close_paren w p ∷ vs) (got_rest x v us ws e) }
paren_closes x v (token k w p ∷ us) ws e = unlike p v ws e

-- the name behind several arguments
tuple_form : (s : Signature) (args : Arguments) (o x c : Token) (t ts us ws rest : List Token) (m : Meaning Ty) → Is open_paren o → IsType t → Is comma x → AreTypes ts → Is close_paren c
    → us ≡ o ∷ (t ++ x ∷ (ts ++ c ∷ ws)) → tuple s args ws ≡ got m rest → Splits IsDomain us rest
tuple_form s args o x c t ts us [] rest m ho ht hx hs hc i e = unlike 0 m rest e
tuple_form s args o x c t ts us (token a_name w p ∷ xs) rest m ho ht hx hs hc i e =
    let n = token a_name w p in
    with_names (o ∷ (t ++ x ∷ (ts ++ c ∷ n ∷ []))) xs rest us (i ∙ apart n xs) (of_several t ts o x c n ho ht hx hs hc refl) (postfix_names s (applied s w p args) xs rest m e)
  where
    apart : (n : Token) (xs : List Token) → o ∷ (t ++ x ∷ (ts ++ c ∷ n ∷ xs)) ≡ (o ∷ (t ++ x ∷ (ts ++ c ∷ n ∷ []))) ++ xs
    apart n xs = simp append_assoc
tuple_form s args o x c t ts us (token k w p ∷ xs) rest m ho ht hx hs hc i e = unlike p m rest e

group_form : (s : Signature) (read : List Token → Front (Meaning Ty)) → ByGrammar read → (n : ℕ) (t : Meaning Ty) (o : Token) → Is open_paren o → (us f mid rest : List Token) (m : Meaning Ty) → us ≡ f ++ mid → IsType f
    → group_by (head_kind mid) s read n t mid ≡ got m rest → Splits IsDomain (o ∷ us) rest
group_form s read good n t o ho us f [] rest m i h e = unlike 0 m rest e
group_form s read good n t o ho us f (token close_paren w p ∷ vs) rest m i h e =
    let c = token close_paren w p in
    with_names (o ∷ (f ++ c ∷ [])) vs rest (o ∷ us) (ap (λ y. o ∷ y) (i ∙ sym (append_assoc f (c ∷ []) vs))) (in_parentheses f o c ho h refl) (postfix_names s t vs rest m e)
group_form s read good n t o ho us f (token comma w p ∷ vs) rest m i h e =
    let x = token comma w p in
    let b = steps (types_at read n (with_one (given []) t) vs >>= (λ args rest. expect_by (is_close_paren (head_kind rest)) args rest)) (tuple s) m rest e in
    let a = steps (types_at read n (with_one (given []) t) vs) (λ args rest. expect_by (is_close_paren (head_kind rest)) args rest) b.value b.middle b.was in
    let ts = types_form read good n (with_one (given []) t) vs a.middle a.value a.was in
    let c = paren_closes a.value b.value a.middle b.middle a.next in
    tuple_form s b.value o x c.sign f ts.front (o ∷ us) b.middle rest m ho h refl ts.form c.kind_is
    (ap (λ y. o ∷ y) (i ∙ ap (λ y. f ++ x ∷ y) (ts.is ∙ ap (λ y. ts.front ++ y) c.is))) b.next
group_form s read good n t o ho us f (token k w p ∷ vs) rest m i h e = unlike p m rest e

pub domain_form : (s : Signature) (read : List Token → Front (Meaning Ty)) → ByGrammar read → (n : ℕ) (ts rest : List Token) (m : Meaning Ty) → dtype_at s read n ts ≡ got m rest → Splits IsDomain ts rest
unfolding dtype_at
domain_form s read good n [] rest m e = unlike 0 m rest e
domain_form s read good n (token a_variable w p ∷ us) rest m e = with_names (token a_variable w p ∷ []) us rest (token a_variable w p ∷ us) refl (variable (token a_variable w p) refl) (postfix_names s _ us rest m e)
domain_form s read good n (token a_name w p ∷ us) rest m e = with_names (token a_name w p ∷ []) us rest (token a_name w p ∷ us) refl (constructor (token a_name w p) refl) (postfix_names s (applied s w p (given [])) us rest m e)
domain_form s read good n (token open_paren w p ∷ us) rest m e =
    let a = steps (read us) (λ t mid. group_by (head_kind mid) s read n t mid) m rest e in
    let t = good us a.middle a.value a.was in
    group_form s read good n a.value (token open_paren w p) refl us t.front a.middle rest m t.is t.form a.next
domain_form s read good n (token k w p ∷ us) rest m e = unlike p m rest e

-- a range behind an arrow
range_form : (s : Signature) (read : List Token → Front (Meaning Ty)) → ByGrammar read → (dom : Meaning Ty) (ts d mid rest : List Token) (m : Meaning Ty) → ts ≡ d ++ mid → IsDomain d → range_by (head_kind mid) s read dom mid ≡ got m rest → Splits IsType ts rest
range_form s read good dom ts d [] rest m i h e = record { front = d; is = i ∙ ap (λ us. d ++ us) (got_rest dom m [] rest e); form = a_domain d h }
range_form s read good dom ts d (token arrow w p ∷ us) rest m i h e =
    let x = token arrow w p in
    let b = steps (read us) (λ ran rest. got (function s p dom ran) rest) m rest e in
    let t = good us b.middle b.value b.was in
    record {
      front = d ++ x ∷ t.front;
      is = i ∙ ap (λ vs. d ++ x ∷ vs) (t.is ∙ ap (λ vs. t.front ++ vs) (got_rest (function s p dom b.value) m b.middle rest b.next)) ∙ sym (append_assoc d (x ∷ t.front) rest);
      form = a_function d t.front x h refl t.form;
    }
range_form s read good dom ts d (token k w p ∷ us) rest m i h e = record { front = d; is = i ∙ ap (λ us. d ++ us) (got_rest dom m (token k w p ∷ us) rest e); form = a_domain d h }

pub type_form : (s : Signature) (n : ℕ) → ByGrammar (type_at s n)
unfolding type_at
type_form s zero ts rest m e = unlike (head_place ts) m rest e
type_form s (suc n) ts rest m e =
    let a = steps (dtype_at s (type_at s n) n ts) (λ dom rest. range_by (head_kind rest) s (type_at s n) dom rest) m rest e in
    let d = domain_form s (type_at s n) (type_form s n) n ts a.middle a.value a.was in
    range_form s (type_at s n) (type_form s n) a.value ts d.front a.middle rest m d.is d.form a.next
