-- Reading a type takes all the tokens that it can.
use Rattle.std.proofs.Common.{◌≡◌, ℕ, zero, suc, ◌+◌, ◌≤◌, Bool, true, false, List, [], ◌∷◌, ◌++◌, length, refl, ap, subst, arith}
use Rattle.hol_terms.specs.Ty.{Ty}
use Rattle.hol_terms.specs.Signature.{Signature}
use Rattle.hol_terms.specs.Tokens.{Kind, a_name, a_variable, open_paren, close_paren, comma, arrow, the_end, Token, token, head_kind, head_place}
use Rattle.hol_terms.specs.Meaning.{Meaning, Arguments, given, with_one, applied, function}
use Rattle.hol_terms.specs.Reading.{Front, got, ◌>>=◌, expect_by, is_close_paren, postfix_by, postfix, more_types, types_at, tuple, group_by, dtype_at, range_by, type_at}
use Rattle.hol_terms.specs.Grammar.{kind, IsType, a_domain, a_function, IsDomain, variable, constructor, in_parentheses, of_several, of_one, AreTypes, one, more, before_end}
use Rattle.hol_text.proofs.GrammarTypes.{steps, unlike, got_rest}

-- no name and no arrow, with which a type would go on
abbrev pub ends_type : Kind → Bool
ends_type a_name = false
ends_type arrow = false
ends_type k = true

abbrev pub ends_list : Kind → Bool
ends_list comma = false
ends_list k = true

abbrev unnamed : Kind → Bool
unnamed a_name = false
unnamed k = true

abbrev EndsType : List Token → Type 0
EndsType ts = ends_type (head_kind ts) ≡ true

abbrev Unnamed : List Token → Type 0
Unnamed ts = unnamed (head_kind ts) ≡ true

pub postfix_ends : (s : Signature) (t : Meaning Ty) (ts : List Token) → ends_type (head_kind ts) ≡ true → postfix s t ts ≡ got t ts
postfix_ends s t [] h = refl
postfix_ends s t (token k w p ∷ ts) h = at k h
  where
    at : (k : Kind) → ends_type k ≡ true → postfix_by k s t (token k w p ∷ ts) (λ u. postfix s u ts) ≡ got t (token k w p ∷ ts)
    at a_name h = cc
    at k h = refl

pub range_ends : (k : Kind) (s : Signature) (read : List Token → Front (Meaning Ty)) (t : Meaning Ty) (ts : List Token) → ends_type k ≡ true → range_by k s read t ts ≡ got t ts
range_ends arrow s read t ts h = cc
range_ends k s read t ts h = refl

pub more_ends : (k : Kind) (next : Arguments → List Token → Front Arguments) (args : Arguments) (ts : List Token) → ends_list k ≡ true → more_types k next args ts ≡ got args ts
more_ends comma next args ts h = cc
more_ends k next args ts h = refl

postfix_munch : (s : Signature) (t m : Meaning Ty) (ts rest : List Token) → postfix s t ts ≡ got m rest → Unnamed rest
postfix_munch s t m [] rest e = subst Unnamed (got_rest t m [] rest e) refl
postfix_munch s t m (token a_name w p ∷ ts) rest e = postfix_munch s (applied s w p (with_one (given []) t)) m ts rest e
postfix_munch s t m (token k w p ∷ ts) rest e = subst Unnamed (got_rest t m (token k w p ∷ ts) rest e) refl

tuple_munch : (s : Signature) (args : Arguments) (m : Meaning Ty) (ts rest : List Token) → tuple s args ts ≡ got m rest → Unnamed rest
tuple_munch s args m [] rest e = unlike 0 m rest e
tuple_munch s args m (token a_name w p ∷ ts) rest e = postfix_munch s (applied s w p args) m ts rest e
tuple_munch s args m (token k w p ∷ ts) rest e = unlike p m rest e

group_munch : (s : Signature) (read : List Token → Front (Meaning Ty)) (n : ℕ) (t m : Meaning Ty) (mid rest : List Token) → group_by (head_kind mid) s read n t mid ≡ got m rest → Unnamed rest
group_munch s read n t m [] rest e = unlike 0 m rest e
group_munch s read n t m (token close_paren w p ∷ us) rest e = postfix_munch s t m us rest e
group_munch s read n t m (token comma w p ∷ us) rest e =
    let b = steps (types_at read n (with_one (given []) t) us >>= (λ args rest. expect_by (is_close_paren (head_kind rest)) args rest)) (tuple s) m rest e in
    tuple_munch s b.value m b.middle rest b.next
group_munch s read n t m (token k w p ∷ us) rest e = unlike p m rest e

domain_munch : (s : Signature) (read : List Token → Front (Meaning Ty)) (n : ℕ) (m : Meaning Ty) (ts rest : List Token) → dtype_at s read n ts ≡ got m rest → Unnamed rest
unfolding dtype_at
domain_munch s read n m [] rest e = unlike 0 m rest e
domain_munch s read n m (token a_variable w p ∷ us) rest e = postfix_munch s _ m us rest e
domain_munch s read n m (token a_name w p ∷ us) rest e = postfix_munch s (applied s w p (given [])) m us rest e
domain_munch s read n m (token open_paren w p ∷ us) rest e =
    let a = steps (read us) (λ t mid. group_by (head_kind mid) s read n t mid) m rest e in
    group_munch s read n a.value m a.middle rest a.next
domain_munch s read n m (token k w p ∷ us) rest e = unlike p m rest e

abbrev Munches : (List Token → Front (Meaning Ty)) → Type 0
Munches read = (ts rest : List Token) (m : Meaning Ty) → read ts ≡ got m rest → ends_type (head_kind rest) ≡ true

range_munch : (s : Signature) (read : List Token → Front (Meaning Ty)) → Munches read → (dom m : Meaning Ty) (mid rest : List Token) → Unnamed mid → range_by (head_kind mid) s read dom mid ≡ got m rest → EndsType rest
range_munch s read good dom m [] rest h e = subst EndsType (got_rest dom m [] rest e) refl
range_munch s read good dom m (token arrow w p ∷ us) rest h e =
    let b = steps (read us) (λ ran rest. got (function s p dom ran) rest) m rest e in
    subst EndsType (got_rest (function s p dom b.value) m b.middle rest b.next) (good us b.middle b.value b.was)
range_munch s read good dom m (token a_name w p ∷ us) rest h e = cc h
range_munch s read good dom m (token k w p ∷ us) rest h e = subst EndsType (got_rest dom m (token k w p ∷ us) rest e) refl

pub type_munch : (s : Signature) (n : ℕ) (ts rest : List Token) (m : Meaning Ty) → type_at s n ts ≡ got m rest → ends_type (head_kind rest) ≡ true
unfolding type_at
type_munch s zero ts rest m e = unlike (head_place ts) m rest e
type_munch s (suc n) ts rest m e =
    let a = steps (dtype_at s (type_at s n) n ts) (λ dom rest. range_by (head_kind rest) s (type_at s n) dom rest) m rest e in
    range_munch s (type_at s n) (type_munch s n) a.value m a.middle rest (domain_munch s (type_at s n) n a.value ts a.middle a.was) a.next

-- what follows a list of types
pub record EndsList (ts : List Token) : Type 0 where
  pub type : ends_type (head_kind ts) ≡ true
  pub list : ends_list (head_kind ts) ≡ true

more_munch : (next : Arguments → List Token → Front Arguments) → ((args v : Arguments) (us rest : List Token) → next args us ≡ got v rest → EndsList rest)
    → (args v : Arguments) (mid rest : List Token) → ends_type (head_kind mid) ≡ true → more_types (head_kind mid) next args mid ≡ got v rest → EndsList rest
more_munch next good args v [] rest h e = subst EndsList (got_rest args v [] rest e) (record { type = refl; list = refl })
more_munch next good args v (token comma w p ∷ us) rest h e = good args v us rest e
more_munch next good args v (token k w p ∷ us) rest h e = subst EndsList (got_rest args v (token k w p ∷ us) rest e) (record { type = h; list = refl })

pub types_munch : (s : Signature) (n k : ℕ) (args v : Arguments) (ts rest : List Token) → types_at (type_at s n) k args ts ≡ got v rest → EndsList rest
unfolding types_at
types_munch s n zero args v ts rest e = unlike (head_place ts) v rest e
types_munch s n (suc k) args v ts rest e =
    let a = steps (type_at s n ts) (λ t mid. more_types (head_kind mid) (types_at (type_at s n) k) (with_one args t) mid) v rest e in
    more_munch (types_at (type_at s n) k) (λ args v us rest. types_munch s n k args v us rest) (with_one args a.value) v a.middle rest (type_munch s n ts a.middle a.value a.was) a.next

-- ---- the end is no part of a type

abbrev pub is_end : Kind → Bool
is_end the_end = true
is_end k = false

abbrev pub Unended : List Token → Type 0
Unended [] = Unit {0}
Unended (x ∷ ts) = (is_end (kind x) ≡ false) × Unended ts

pub joined : (a b : List Token) → Unended a → Unended b → Unended (a ++ b)
joined [] b h g = g
joined (x ∷ a) b h g = (h.0, joined a b h.1 g)

mutual
  pub type_unended : (ts : List Token) → IsType ts → Unended ts
  type_unended _ (a_domain d h) = domain_unended d h
  type_unended _ (a_function d r x h e g) = joined d (x ∷ r) (domain_unended d h) (ap is_end e, type_unended r g)

  pub domain_unended : (ts : List Token) → IsDomain ts → Unended ts
  domain_unended _ (variable x e) = (ap is_end e, tt)
  domain_unended _ (constructor x e) = (ap is_end e, tt)
  domain_unended _ (in_parentheses t o c e h g) = (ap is_end e, joined t (c ∷ []) (type_unended t h) (ap is_end g, tt))
  domain_unended _ (of_several t ts o x c n e h f hs g i) = (ap is_end e, joined t (x ∷ (ts ++ c ∷ n ∷ [])) (type_unended t h) (ap is_end f, joined ts (c ∷ n ∷ []) (types_unended ts hs) (ap is_end g, (ap is_end i, tt))))
  domain_unended _ (of_one d n h e) = joined d (n ∷ []) (domain_unended d h) (ap is_end e, tt)

  pub types_unended : (ts : List Token) → AreTypes ts → Unended ts
  types_unended _ (one t h) = type_unended t h
  types_unended _ (more t ts x h e g) = joined t (x ∷ ts) (type_unended t h) (ap is_end e, types_unended ts g)

-- how many tokens stand before the end
abbrev pub size : List Token → ℕ
size ts = length (before_end ts)

pub size_joined : (a b : List Token) → Unended a → size (a ++ b) ≡ length a + size b
size_joined [] b h = omega arith
size_joined (token the_end w p ∷ a) b h = cc h.0
size_joined (token k w p ∷ a) b h = omega (arith, size_joined a b h.1)

pub size_zero : (ts : List Token) → size ts ≤ 0 → head_kind ts ≡ the_end
size_zero [] h = refl
size_zero (token the_end w p ∷ ts) h = refl
size_zero (token k w p ∷ ts) h = absurd (omega (arith, h))
