-- Where reading a type stops: the tokens before begin a type, and reading stops there whatever follows the next token.
use Rattle.std.proofs.Common.{◌≡◌, ℕ, zero, suc, ◌<◌, ◌≤◌, Bool, true, false, List, [], ◌∷◌, ◌++◌, length, length-append, append_assoc, refl, ap, sym, ◌∙◌, subst, arith}
use Rattle.hol_terms.specs.Ty.{Ty}
use Rattle.hol_terms.specs.Signature.{Signature}
use Rattle.hol_terms.specs.Tokens.{a_name, a_variable, open_paren, close_paren, comma, arrow, the_end, Token, token, head_kind, head_text, head_place, tail}
use Rattle.hol_terms.specs.Meaning.{Meaning, Arguments, given, with_one, applied, function}
use Rattle.hol_terms.specs.Reading.{Front, got, stop, ◌>>=◌, stop_at, expect_by, is_close_paren, is_name_token, postfix, more_types, types_at, tuple, tuple_by, group_by, dtype_by, dtype_at, range_by, type_at}
use Rattle.hol_terms.specs.Grammar.{Is, IsType, a_domain, a_function, IsDomain, constructor, in_parentheses, of_several, AreTypes, one, more}
use Rattle.hol_text.proofs.GrammarTypes.{steps, unlike, type_form, types_form, domain_form, paren_closes}
use Rattle.text_laws.proofs.TypeEnds.{ends_type, ends_list, type_munch, types_munch, type_unended, size, size_joined, size_zero}
use Rattle.text_laws.proofs.TypesRead.{head_is, domain_read, postfix_arrow, type_read, types_read}

-- ---- steps that stop

abbrev pub stop_in : (A : Type 0) → ℕ → Front A
stop_in A p = stop p

pub stop_place : {A : Type 0} (q p : ℕ) → stop_in A q ≡ stop_in A p → q ≡ p
stop_place q p e = cc

-- one step of two stops
pub data Stops {A B : Type 0} (x : Front A) (f : A → List Token → Front B) (p : ℕ) : Type 0 where
  early : x ≡ stop p → Stops x f p
  late : (v : A) (mid : List Token) → x ≡ got v mid → f v mid ≡ stop p → Stops x f p

pub stops : {A B : Type 0} (x : Front A) (f : A → List Token → Front B) (p : ℕ) → (x >>= f) ≡ stop p → Stops x f p
stops (got v mid) f p e = late v mid refl e
stops (stop q) f p e = early (ap stop (stop_place q p e))

postfix_goes_on : {C : Type 0} (s : Signature) (t : Meaning Ty) (ts : List Token) (p : ℕ) → postfix s t ts ≡ stop p → C
postfix_goes_on s t [] p e = unlike p t [] (sym e)
postfix_goes_on s t (token a_name w q ∷ ts) p e = postfix_goes_on s (applied s w q (with_one (given []) t)) ts p e
postfix_goes_on s t (token k w q ∷ ts) p e = unlike p t (token k w q ∷ ts) (sym e)

-- a test of the next token failed
pub record Failed (b : Bool) (ts : List Token) (p : ℕ) : Type 0 where
  pub not_so : b ≡ false
  pub place : head_place ts ≡ p

pub expect_fails : {A : Type 0} (b : Bool) (x : A) (ts : List Token) (p : ℕ) → expect_by b x ts ≡ stop p → Failed b ts p
expect_fails true x ts p e = unlike p x (tail ts) (sym e)
expect_fails false x ts p e = record { not_so = refl; place = stop_place (head_place ts) p e }

tuple_fails : (b : Bool) (s : Signature) (args : Arguments) (ts : List Token) (p : ℕ) → tuple_by b s args ts ≡ stop p → Failed b ts p
tuple_fails true s args ts p e = postfix_goes_on s (applied s (head_text ts) (head_place ts) args) (tail ts) p e
tuple_fails false s args ts p e = record { not_so = refl; place = stop_place (head_place ts) p e }

-- ---- what is to be shown

-- the next token is of the same kind and text, at the same place
pub record Alike (a b : List Token) : Type 0 where
  pub kinds : head_kind a ≡ head_kind b
  pub texts : head_text a ≡ head_text b
  pub places : head_place a ≡ head_place b

pub record Wrong (IsForm : List Token → Type 0) (Always : List Token → List Token → Type 0) (ts : List Token) (p : ℕ) : Type 0 where
  pub front : List Token
  pub rest : List Token
  pub is : ts ≡ front ++ rest
  pub place : head_place rest ≡ p
  pub begins : (more : List Token) × IsForm (front ++ more)
  pub always : Always front rest

abbrev pub TypeAlways : Signature → ℕ → List Token → List Token → Type 0
TypeAlways s p front rest = (m : ℕ) → length front < m → (others : List Token) → Alike others rest → type_at s m (front ++ others) ≡ stop p

abbrev DomainAlways : Signature → ℕ → List Token → List Token → Type 0
DomainAlways s p front rest = (m : ℕ) → length front ≤ m → (others : List Token) → Alike others rest → dtype_at s (type_at s m) m (front ++ others) ≡ stop p

abbrev pub TypesAlways : Signature → ℕ → List Token → List Token → Type 0
TypesAlways s p front rest = (m k : ℕ) (args : Arguments) → length front < m → length front < k → (others : List Token) → Alike others rest → types_at (type_at s m) k args (front ++ others) ≡ stop p

abbrev pub WrongType : Signature → List Token → ℕ → Type 0
WrongType s ts p = Wrong IsType (TypeAlways s p) ts p

abbrev WrongDomain : Signature → List Token → ℕ → Type 0
WrongDomain s ts p = Wrong IsDomain (DomainAlways s p) ts p

abbrev pub WrongTypes : Signature → List Token → ℕ → Type 0
WrongTypes s ts p = Wrong AreTypes (TypesAlways s p) ts p

abbrev pub TypeStops : Signature → ℕ → Type 0
TypeStops s n = (ts : List Token) (p : ℕ) → size ts ≤ n → type_at s n ts ≡ stop p → WrongType s ts p

abbrev pub some_name : Token
some_name = token a_name [] 0

abbrev pub some_close : Token
some_close = token close_paren [] 0

name_domain : IsDomain (some_name ∷ [])
name_domain = constructor some_name refl

pub name_type : IsType (some_name ∷ [])
name_type = a_domain (some_name ∷ []) name_domain

-- ---- domains

-- a token with which no domain begins
first_stops : (s : Signature) (ts : List Token) (p q : ℕ) → q ≡ p → head_place ts ≡ q → ((m : ℕ) (others : List Token) → dtype_by (head_kind ts) s (type_at s m) m others ≡ stop_at others) → WrongDomain s ts p
unfolding dtype_at
first_stops s ts p q e h f = record {
  front = [];
  rest = ts;
  is = refl;
  place = h ∙ e;
  begins = (some_name ∷ [], name_domain);
  always = λ m b others a. ap (λ k. dtype_by k s (type_at s m) m others) a.kinds ∙ f m others ∙ ap stop (a.places ∙ h ∙ e);
}

-- a first type stops
opened : (s : Signature) (w : List ℕ) (q : ℕ) (us : List Token) (p : ℕ) → WrongType s us p → WrongDomain s (token open_paren w q ∷ us) p
unfolding dtype_at
opened s w q us p x =
    let o = token open_paren w q in
    record {
      front = o ∷ x.front;
      rest = x.rest;
      is = ap (λ y. o ∷ y) x.is;
      place = x.place;
      begins = (x.begins.0 ++ some_close ∷ [], subst IsDomain (ap (λ y. o ∷ y) (append_assoc x.front x.begins.0 (some_close ∷ []))) (in_parentheses (x.front ++ x.begins.0) o some_close refl x.begins.1 refl));
      always = λ m b others a. ap (λ y. y >>= (λ u mid. group_by (head_kind mid) s (type_at s m) m u mid)) (x.always m (omega (arith, b)) others a);
    }

-- neither a comma nor the end of the parentheses follows
unclosed : (s : Signature) (w : List ℕ) (q : ℕ) (us f mid : List Token) (p : ℕ) → us ≡ f ++ mid → IsType f → ends_type (head_kind mid) ≡ true → head_place mid ≡ p
    → ((m : ℕ) (u : Meaning Ty) (others : List Token) → group_by (head_kind mid) s (type_at s m) m u others ≡ stop_at others) → WrongDomain s (token open_paren w q ∷ us) p
unfolding dtype_at
unclosed s w q us f mid p i h g e stays =
    let o = token open_paren w q in
    record {
      front = o ∷ f;
      rest = mid;
      is = ap (λ y. o ∷ y) i;
      place = e;
      begins = (some_close ∷ [], in_parentheses f o some_close refl h refl);
      always = λ m b others a.
          let r = type_read s f h m others (omega (arith, b)) (ap ends_type a.kinds ∙ g) in
          ap (λ y. y >>= (λ u mid. group_by (head_kind mid) s (type_at s m) m u mid)) r.is ∙ ap (λ k. group_by k s (type_at s m) m r.value others) a.kinds ∙ stays m r.value others ∙ ap stop (a.places ∙ e);
    }

-- a further type stops
further_stops : (s : Signature) (w v : List ℕ) (q r : ℕ) (us f vs : List Token) (p : ℕ) → us ≡ f ++ token comma v r ∷ vs → IsType f → WrongTypes s vs p → WrongDomain s (token open_paren w q ∷ us) p
unfolding dtype_at
further_stops s w v q r us f vs p i h x =
    let o = token open_paren w q in
    let c = token comma v r in
    record {
      front = o ∷ (f ++ c ∷ x.front);
      rest = x.rest;
      is = ap (λ y. o ∷ y) (i ∙ ap (λ y. f ++ c ∷ y) x.is ∙ sym (append_assoc f (c ∷ x.front) x.rest));
      place = x.place;
      begins = (x.begins.0 ++ some_close ∷ some_name ∷ [], subst IsDomain (apart o f c x.front x.begins.0) (of_several f (x.front ++ x.begins.0) o c some_close some_name refl h refl x.begins.1 refl refl));
      always = λ m b others a.
          let sum = length-append f (c ∷ x.front) in
          let g = type_read s f h m (c ∷ (x.front ++ others)) (omega (arith, sum, b)) refl in
          ap (λ us. dtype_at s (type_at s m) m (o ∷ us)) (append_assoc f (c ∷ x.front) others)
          ∙ ap (λ y. y >>= (λ u mid. group_by (head_kind mid) s (type_at s m) m u mid)) g.is
          ∙ ap (λ y. (y >>= (λ args mid. expect_by (is_close_paren (head_kind mid)) args mid)) >>= tuple s) (x.always m m (with_one (given []) g.value) (omega (arith, sum, b)) (omega (arith, sum, b)) others a);
    }
  where
    apart : (o : Token) (f : List Token) (c : Token) (a b : List Token) → o ∷ (f ++ c ∷ ((a ++ b) ++ some_close ∷ some_name ∷ [])) ≡ (o ∷ (f ++ c ∷ a)) ++ (b ++ some_close ∷ some_name ∷ [])
    apart o f c a b = simp append_assoc

-- several types, and no end of the parentheses
list_unclosed : (s : Signature) (w v : List ℕ) (q r : ℕ) (us f vs ts mid : List Token) (p : ℕ) → us ≡ f ++ token comma v r ∷ vs → IsType f → vs ≡ ts ++ mid → AreTypes ts → ends_type (head_kind mid) ≡ true → ends_list (head_kind mid) ≡ true
    → Failed (is_close_paren (head_kind mid)) mid p → WrongDomain s (token open_paren w q ∷ us) p
unfolding dtype_at
list_unclosed s w v q r us f vs ts mid p i h j hs et el x =
    let o = token open_paren w q in
    let c = token comma v r in
    record {
      front = o ∷ (f ++ c ∷ ts);
      rest = mid;
      is = ap (λ y. o ∷ y) (i ∙ ap (λ y. f ++ c ∷ y) j ∙ sym (append_assoc f (c ∷ ts) mid));
      place = x.place;
      begins = (some_close ∷ some_name ∷ [], subst IsDomain (apart o f c ts) (of_several f ts o c some_close some_name refl h refl hs refl refl));
      always = λ m b others a.
          let sum = length-append f (c ∷ ts) in
          let g = type_read s f h m (c ∷ (ts ++ others)) (omega (arith, sum, b)) refl in
          let t = types_read s ts hs m m (with_one (given []) g.value) others (omega (arith, sum, b)) (omega (arith, sum, b)) (ap ends_type a.kinds ∙ et) (ap ends_list a.kinds ∙ el) in
          ap (λ us. dtype_at s (type_at s m) m (o ∷ us)) (append_assoc f (c ∷ ts) others)
          ∙ ap (λ y. y >>= (λ u mid. group_by (head_kind mid) s (type_at s m) m u mid)) g.is
          ∙ ap (λ y. (y >>= (λ args mid. expect_by (is_close_paren (head_kind mid)) args mid)) >>= tuple s) t.is
          ∙ ap (λ d. expect_by d t.value others >>= tuple s) (ap is_close_paren a.kinds ∙ x.not_so)
          ∙ ap stop (a.places ∙ x.place);
    }
  where
    apart : (o : Token) (f : List Token) (c : Token) (ts : List Token) → o ∷ (f ++ c ∷ (ts ++ some_close ∷ some_name ∷ [])) ≡ (o ∷ (f ++ c ∷ ts)) ++ some_close ∷ some_name ∷ []
    apart o f c ts = simp append_assoc

-- several types in parentheses, and no name
unnamed_tuple : (s : Signature) (w v : List ℕ) (q r : ℕ) (us f vs ts ws : List Token) (d : Token) (p : ℕ) → us ≡ f ++ token comma v r ∷ vs → IsType f → vs ≡ ts ++ d ∷ ws → AreTypes ts → Is close_paren d
    → Failed (is_name_token (head_kind ws)) ws p → WrongDomain s (token open_paren w q ∷ us) p
unfolding dtype_at
unnamed_tuple s w v q r us f vs ts ws d p i h j hs hd x =
    let o = token open_paren w q in
    let c = token comma v r in
    record {
      front = o ∷ (f ++ c ∷ (ts ++ d ∷ []));
      rest = ws;
      is = ap (λ y. o ∷ y) (i ∙ ap (λ y. f ++ c ∷ y) j) ∙ apart o f c ts d ws;
      place = x.place;
      begins = (some_name ∷ [], subst IsDomain (apart o f c ts d (some_name ∷ [])) (of_several f ts o c d some_name refl h refl hs hd refl));
      always = λ m b others a.
          let sum = length-append f (c ∷ (ts ++ d ∷ [])) in
          let more = length-append ts (d ∷ []) in
          let g = type_read s f h m (c ∷ (ts ++ d ∷ others)) (omega (arith, sum, more, b)) refl in
          let t = types_read s ts hs m m (with_one (given []) g.value) (d ∷ others) (omega (arith, sum, more, b)) (omega (arith, sum, more, b)) (ap ends_type (head_is close_paren d others hd)) (ap ends_list (head_is close_paren d others hd)) in
          ap (λ us. dtype_at s (type_at s m) m us) (sym (apart o f c ts d others))
          ∙ ap (λ y. y >>= (λ u mid. group_by (head_kind mid) s (type_at s m) m u mid)) g.is
          ∙ ap (λ y. (y >>= (λ args mid. expect_by (is_close_paren (head_kind mid)) args mid)) >>= tuple s) t.is
          ∙ ap (λ k. expect_by (is_close_paren k) t.value (d ∷ others) >>= tuple s) (head_is close_paren d others hd)
          ∙ ap (λ e. tuple_by e s t.value others) (ap is_name_token a.kinds ∙ x.not_so)
          ∙ ap stop (a.places ∙ x.place);
    }
  where
    apart : (o : Token) (f : List Token) (c : Token) (ts : List Token) (d : Token) (ws : List Token) → o ∷ (f ++ c ∷ (ts ++ d ∷ ws)) ≡ (o ∷ (f ++ c ∷ (ts ++ d ∷ []))) ++ ws
    apart o f c ts d ws = simp append_assoc

-- ---- lists of types

types_begun : (s : Signature) (m k : ℕ) (args : Arguments) (us : List Token) (p : ℕ) → 0 < k → type_at s m us ≡ stop p → types_at (type_at s m) k args us ≡ stop p
unfolding types_at
types_begun s m zero args us p b e = absurd (omega (arith, b))
types_begun s m (suc k) args us p b e = ap (λ y. y >>= (λ u mid. more_types (head_kind mid) (types_at (type_at s m) k) (with_one args u) mid)) e

types_from_type : (s : Signature) (ts : List Token) (p : ℕ) → WrongType s ts p → WrongTypes s ts p
types_from_type s ts p x = record {
  front = x.front;
  rest = x.rest;
  is = x.is;
  place = x.place;
  begins = (x.begins.0, one (x.front ++ x.begins.0) x.begins.1);
  always = λ m k args a b others c. types_begun s m k args (x.front ++ others) p (omega (arith, b)) (x.always m a others c);
}

-- nothing is left
type_ended : (s : Signature) (m : ℕ) (others : List Token) → head_kind others ≡ the_end → type_at s m others ≡ stop_at others
unfolding type_at dtype_at
type_ended s zero others e = refl
type_ended s (suc m) others e = ap (λ k. dtype_by k s (type_at s m) m others >>= (λ dom rest. range_by (head_kind rest) s (type_at s m) dom rest)) e

ended_stops : (s : Signature) (ts : List Token) (p : ℕ) → head_kind ts ≡ the_end → head_place ts ≡ p → WrongType s ts p
ended_stops s ts p e h = record {
  front = [];
  rest = ts;
  is = refl;
  place = h;
  begins = (some_name ∷ [], name_type);
  always = λ m b others a. type_ended s m others (a.kinds ∙ e) ∙ ap stop (a.places ∙ h);
}

types_longer : (s : Signature) (f : List Token) → IsType f → (v : List ℕ) (r : ℕ) (front rest : List Token) (p : ℕ) → TypesAlways s p front rest → TypesAlways s p (f ++ token comma v r ∷ front) rest
unfolding types_at
types_longer s f h v r front rest p al m zero args a b others c = absurd (omega (arith, b))
types_longer s f h v r front rest p al m (suc k) args a b others c =
    let x = token comma v r in
    let sum = length-append f (x ∷ front) in
    let g = type_read s f h m (x ∷ (front ++ others)) (omega (arith, sum, a)) refl in
    ap (types_at (type_at s m) (suc k) args) (append_assoc f (x ∷ front) others)
    ∙ ap (λ y. y >>= (λ u mid. more_types (head_kind mid) (types_at (type_at s m) k) (with_one args u) mid)) g.is
    ∙ al m k (with_one args g.value) (omega (arith, sum, a)) (omega (arith, sum, b)) others c

types_more : (s : Signature) (ts f : List Token) (v : List ℕ) (r : ℕ) (vs : List Token) (p : ℕ) → ts ≡ f ++ token comma v r ∷ vs → IsType f → WrongTypes s vs p → WrongTypes s ts p
types_more s ts f v r vs p i h x =
    let c = token comma v r in
    record {
      front = f ++ c ∷ x.front;
      rest = x.rest;
      is = i ∙ ap (λ y. f ++ c ∷ y) x.is ∙ sym (append_assoc f (c ∷ x.front) x.rest);
      place = x.place;
      begins = (x.begins.0, subst AreTypes (sym (append_assoc f (c ∷ x.front) x.begins.0)) (more f (x.front ++ x.begins.0) c h refl x.begins.1));
      always = types_longer s f h v r x.front x.rest p x.always;
    }

-- the tokens behind a type and a sign are fewer
fewer : (n : ℕ) (ts f : List Token) (x : Token) (us : List Token) → size ts ≤ suc n → IsType f → ts ≡ f ++ x ∷ us → size (x ∷ us) ≡ suc (size us) → size us ≤ n
fewer n ts f x us l h i e = omega (arith, l, ap size i ∙ size_joined f (x ∷ us) (type_unended f h), e)

types_behind : (s : Signature) (n k : ℕ) → ((args : Arguments) (vs : List Token) (p : ℕ) → size vs ≤ n → size vs ≤ k → types_at (type_at s n) k args vs ≡ stop p → WrongTypes s vs p)
    → (args : Arguments) (ts f mid : List Token) (p : ℕ) → size ts ≤ n → size ts ≤ suc k → IsType f → ts ≡ f ++ mid → more_types (head_kind mid) (types_at (type_at s n) k) args mid ≡ stop p → WrongTypes s ts p
types_behind s n k again args ts f [] p l g h i e = unlike p args [] (sym e)
types_behind s n k again args ts f (token comma v r ∷ vs) p l g h i e =
    let small = fewer k ts f (token comma v r) vs g h i refl in
    let under = fewer n ts f (token comma v r) vs (omega (arith, l)) h i refl in
    types_more s ts f v r vs p i h (again args vs p under small e)
types_behind s n k again args ts f (token j v r ∷ vs) p l g h i e = unlike p args (token j v r ∷ vs) (sym e)

-- the steps of a list's first type
abbrev ListSteps : Signature → ℕ → ℕ → Arguments → List Token → ℕ → Type 0
ListSteps s n k args ts p = Stops (type_at s n ts) (λ t mid. more_types (head_kind mid) (types_at (type_at s n) k) (with_one args t) mid) p

types_step : (s : Signature) (n k : ℕ) → TypeStops s n → ((args : Arguments) (vs : List Token) (p : ℕ) → size vs ≤ n → size vs ≤ k → types_at (type_at s n) k args vs ≡ stop p → WrongTypes s vs p)
    → (args : Arguments) (ts : List Token) (p : ℕ) → size ts ≤ n → size ts ≤ suc k → ListSteps s n k args ts p → WrongTypes s ts p
types_step s n k ih again args ts p l g (early d) = types_from_type s ts p (ih ts p l d)
types_step s n k ih again args ts p l g (late t mid was next) =
    let f = type_form s n ts mid t was in
    types_behind s n k again (with_one args t) ts f.front mid p l g f.form f.is next

pub types_stop : (s : Signature) (n : ℕ) → TypeStops s n → (k : ℕ) (args : Arguments) (ts : List Token) (p : ℕ) → size ts ≤ n → size ts ≤ k → types_at (type_at s n) k args ts ≡ stop p → WrongTypes s ts p
unfolding types_at
types_stop s n ih zero args ts p l g e = types_from_type s ts p (ended_stops s ts p (size_zero ts g) (stop_place (head_place ts) p e))
types_stop s n ih (suc k) args ts p l g e =
    types_step s n k ih (λ args vs p. types_stop s n ih k args vs p) args ts p l g
    (stops (type_at s n ts) (λ t mid. more_types (head_kind mid) (types_at (type_at s n) k) (with_one args t) mid) p e)

-- ---- types

tuple_stop : (s : Signature) (n : ℕ) → TypeStops s n → (t : Meaning Ty) (w v : List ℕ) (q r : ℕ) (us f vs : List Token) (p : ℕ) → size vs ≤ n → us ≡ f ++ token comma v r ∷ vs → IsType f
    → ((types_at (type_at s n) n (with_one (given []) t) vs >>= (λ args rest. expect_by (is_close_paren (head_kind rest)) args rest)) >>= tuple s) ≡ stop p → WrongDomain s (token open_paren w q ∷ us) p
tuple_stop s n ih t w v q r us f vs p l i h e =
    at (stops (types_at (type_at s n) n (with_one (given []) t) vs >>= (λ args rest. expect_by (is_close_paren (head_kind rest)) args rest)) (tuple s) p e)
  where
    at_list : Stops (types_at (type_at s n) n (with_one (given []) t) vs) (λ args rest. expect_by (is_close_paren (head_kind rest)) args rest) p → WrongDomain s (token open_paren w q ∷ us) p
    at_list (early d) = further_stops s w v q r us f vs p i h (types_stop s n ih n (with_one (given []) t) vs p l l d)
    at_list (late args mid was next) =
        let ts = types_form (type_at s n) (type_form s n) n (with_one (given []) t) vs mid args was in
        let ends = types_munch s n n (with_one (given []) t) args vs mid was in
        list_unclosed s w v q r us f vs ts.front mid p i h ts.is ts.form ends.type ends.list (expect_fails (is_close_paren (head_kind mid)) args mid p next)

    at : Stops (types_at (type_at s n) n (with_one (given []) t) vs >>= (λ args rest. expect_by (is_close_paren (head_kind rest)) args rest)) (tuple s) p → WrongDomain s (token open_paren w q ∷ us) p
    at (early d) = at_list (stops (types_at (type_at s n) n (with_one (given []) t) vs) (λ args rest. expect_by (is_close_paren (head_kind rest)) args rest) p d)
    at (late args ws was next) =
        let a = steps (types_at (type_at s n) n (with_one (given []) t) vs) (λ args rest. expect_by (is_close_paren (head_kind rest)) args rest) args ws was in
        let ts = types_form (type_at s n) (type_form s n) n (with_one (given []) t) vs a.middle a.value a.was in
        let c = paren_closes a.value args a.middle ws a.next in
        unnamed_tuple s w v q r us f vs ts.front ws c.sign p i h (ts.is ∙ ap (λ y. ts.front ++ y) c.is) ts.form c.kind_is (tuple_fails (is_name_token (head_kind ws)) s args ws p next)

group_stop : (s : Signature) (n : ℕ) → TypeStops s n → (t : Meaning Ty) (w : List ℕ) (q : ℕ) (us f mid : List Token) (p : ℕ) → size us ≤ n → us ≡ f ++ mid → IsType f → ends_type (head_kind mid) ≡ true
    → group_by (head_kind mid) s (type_at s n) n t mid ≡ stop p → WrongDomain s (token open_paren w q ∷ us) p
group_stop s n ih t w q us f [] p l i h g e = unclosed s w q us f [] p i h g (stop_place 0 p e) (λ m u others. refl)
group_stop s n ih t w q us f (token close_paren v r ∷ vs) p l i h g e = postfix_goes_on s t vs p e
group_stop s n ih t w q us f (token comma v r ∷ vs) p l i h g e = tuple_stop s n ih t w v q r us f vs p (fewer n us f (token comma v r) vs (omega (arith, l)) h i refl) i h e
group_stop s n ih t w q us f (token k v r ∷ vs) p l i h g e = unclosed s w q us f (token k v r ∷ vs) p i h g (stop_place r p e) (λ m u others. refl)

domain_stop : (s : Signature) (n : ℕ) → TypeStops s n → (ts : List Token) (p : ℕ) → size ts ≤ suc n → dtype_at s (type_at s n) n ts ≡ stop p → WrongDomain s ts p
unfolding dtype_at
domain_stop s n ih [] p l e = first_stops s [] p 0 (stop_place 0 p e) refl (λ m others. refl)
domain_stop s n ih (token a_variable w q ∷ us) p l e = postfix_goes_on s _ us p e
domain_stop s n ih (token a_name w q ∷ us) p l e = postfix_goes_on s (applied s w q (given [])) us p e
domain_stop s n ih (token open_paren w q ∷ us) p l e = at (stops (type_at s n us) (λ t mid. group_by (head_kind mid) s (type_at s n) n t mid) p e)
  where
    at : Stops (type_at s n us) (λ t mid. group_by (head_kind mid) s (type_at s n) n t mid) p → WrongDomain s (token open_paren w q ∷ us) p
    at (early d) = opened s w q us p (ih us p (omega (arith, l)) d)
    at (late t mid was next) =
        let f = type_form s n us mid t was in
        group_stop s n ih t w q us f.front mid p (omega (arith, l)) f.is f.form (type_munch s n us mid t was) next
domain_stop s n ih (token k w q ∷ us) p l e = first_stops s (token k w q ∷ us) p q (stop_place q p e) refl (λ m others. refl)

type_begun : (s : Signature) (front rest : List Token) (p : ℕ) → DomainAlways s p front rest → TypeAlways s p front rest
unfolding type_at
type_begun s front rest p al zero b others a = absurd (omega (arith, b))
type_begun s front rest p al (suc m) b others a = ap (λ y. y >>= (λ dom mid. range_by (head_kind mid) s (type_at s m) dom mid)) (al m (omega (arith, b)) others a)

type_longer : (s : Signature) (d : List Token) → IsDomain d → (v : List ℕ) (r : ℕ) (front rest : List Token) (p : ℕ) → TypeAlways s p front rest → TypeAlways s p (d ++ token arrow v r ∷ front) rest
unfolding type_at
type_longer s d h v r front rest p al zero b others a = absurd (omega (arith, b))
type_longer s d h v r front rest p al (suc m) b others a =
    let x = token arrow v r in
    let sum = length-append d (x ∷ front) in
    let g = domain_read s d h m (x ∷ (front ++ others)) (omega (arith, sum, b)) in
    ap (type_at s (suc m)) (append_assoc d (x ∷ front) others)
    ∙ ap (λ y. y >>= (λ dom mid. range_by (head_kind mid) s (type_at s m) dom mid)) (g.is ∙ postfix_arrow s g.value x (front ++ others) refl)
    ∙ ap (λ y. y >>= (λ ran mid. got (function s r g.value ran) mid)) (al m (omega (arith, sum, b)) others a)

range_stop : (s : Signature) (n : ℕ) → TypeStops s n → (dom : Meaning Ty) (ts d mid : List Token) (p : ℕ) → size ts ≤ suc n → ts ≡ d ++ mid → IsDomain d → range_by (head_kind mid) s (type_at s n) dom mid ≡ stop p → WrongType s ts p
range_stop s n ih dom ts d [] p l i h e = unlike p dom [] (sym e)
range_stop s n ih dom ts d (token arrow v r ∷ us) p l i h e = at (stops (type_at s n us) (λ ran rest. got (function s r dom ran) rest) p e)
  where
    at : Stops (type_at s n us) (λ ran rest. got (function s r dom ran) rest) p → WrongType s ts p
    at (early g) =
        let c = token arrow v r in
        let x = ih us p (fewer n ts d c us l (a_domain d h) i refl) g in
        record {
          front = d ++ c ∷ x.front;
          rest = x.rest;
          is = i ∙ ap (λ y. d ++ c ∷ y) x.is ∙ sym (append_assoc d (c ∷ x.front) x.rest);
          place = x.place;
          begins = (x.begins.0, subst IsType (sym (append_assoc d (c ∷ x.front) x.begins.0)) (a_function d (x.front ++ x.begins.0) c h refl x.begins.1));
          always = type_longer s d h v r x.front x.rest p x.always;
        }
    at (late ran mid was next) = unlike p (function s r dom ran) mid (sym next)
range_stop s n ih dom ts d (token k v r ∷ us) p l i h e = unlike p dom (token k v r ∷ us) (sym e)

type_from_domain : (s : Signature) (ts : List Token) (p : ℕ) → WrongDomain s ts p → WrongType s ts p
type_from_domain s ts p x = record {
  front = x.front;
  rest = x.rest;
  is = x.is;
  place = x.place;
  begins = (x.begins.0, a_domain (x.front ++ x.begins.0) x.begins.1);
  always = type_begun s x.front x.rest p x.always;
}

-- the steps of a type's domain
abbrev TypeSteps : Signature → ℕ → List Token → ℕ → Type 0
TypeSteps s n ts p = Stops (dtype_at s (type_at s n) n ts) (λ dom rest. range_by (head_kind rest) s (type_at s n) dom rest) p

type_step : (s : Signature) (n : ℕ) → TypeStops s n → (ts : List Token) (p : ℕ) → size ts ≤ suc n → TypeSteps s n ts p → WrongType s ts p
type_step s n ih ts p l (early d) = type_from_domain s ts p (domain_stop s n ih ts p l d)
type_step s n ih ts p l (late dom mid was next) =
    let d = domain_form s (type_at s n) (type_form s n) n ts mid dom was in
    range_stop s n ih dom ts d.front mid p l d.is d.form next

pub type_stop : (s : Signature) (n : ℕ) (ts : List Token) (p : ℕ) → size ts ≤ n → type_at s n ts ≡ stop p → WrongType s ts p
unfolding type_at
type_stop s zero ts p l e = ended_stops s ts p (size_zero ts l) (stop_place (head_place ts) p e)
type_stop s (suc n) ts p l e =
    type_step s n (type_stop s n) ts p l (stops (dtype_at s (type_at s n) n ts) (λ dom rest. range_by (head_kind rest) s (type_at s n) dom rest) p e)
