-- A type by the grammar is read, whatever follows that does not go on with it.
use Rattle.std.proofs.Common.{◌≡◌, ℕ, zero, suc, ◌<◌, ◌≤◌, true, List, [], ◌∷◌, ◌++◌, length, length-append, append_assoc, ap, ◌∙◌, arith}
use Rattle.hol_terms.specs.Ty.{Ty, ty_var}
use Rattle.hol_terms.specs.Signature.{Signature}
use Rattle.hol_terms.specs.Tokens.{Kind, a_name, a_variable, open_paren, close_paren, comma, arrow, Token, token, head_kind, head_text, head_place}
use Rattle.hol_terms.specs.Meaning.{Meaning, means, Arguments, given, with_one, applied, function}
use Rattle.hol_terms.specs.Reading.{Front, got, ◌>>=◌, expect_by, is_close_paren, is_name_token, postfix_by, postfix, more_types, types_at, tuple, tuple_by, group_by, dtype_by, dtype_at, range_by, type_at}
use Rattle.hol_terms.specs.Grammar.{Is, IsType, a_domain, a_function, IsDomain, variable, constructor, in_parentheses, of_several, of_one, AreTypes, one, more}
use Rattle.text_laws.proofs.TypeEnds.{ends_type, ends_list, postfix_ends, range_ends, more_ends}

-- something was read, up to the rest
pub record Got {A : Type 0} (x : Front A) (rest : List Token) : Type 0 where
  pub value : A
  pub is : x ≡ got value rest

-- the first part of a type was read, and names may follow
pub record Part (s : Signature) (x : Front (Meaning Ty)) (rest : List Token) : Type 0 where
  pub value : Meaning Ty
  pub is : x ≡ postfix s value rest

pub head_is : (k : Kind) (x : Token) (ts : List Token) → Is k x → head_kind (x ∷ ts) ≡ k
head_is k (token j w p) ts e = e

-- a name is no end of a type, and no other sign is a name
postfix_name : (s : Signature) (t : Meaning Ty) (x : Token) (ts : List Token) → Is a_name x → postfix s t (x ∷ ts) ≡ postfix s (applied s (head_text (x ∷ ts)) (head_place (x ∷ ts)) (with_one (given []) t)) ts
postfix_name s t x ts e = ap (λ k. postfix_by k s t (x ∷ ts) (λ u. postfix s u ts)) (head_is a_name x ts e)

pub postfix_arrow : (s : Signature) (t : Meaning Ty) (x : Token) (ts : List Token) → Is arrow x → postfix s t (x ∷ ts) ≡ got t (x ∷ ts)
postfix_arrow s t x ts e = ap (λ k. postfix_by k s t (x ∷ ts) (λ u. postfix s u ts)) (head_is arrow x ts e)

mutual
  unfolding dtype_at type_at types_at

  pub domain_read : (s : Signature) (d : List Token) → IsDomain d → (n : ℕ) (rest : List Token) → length d ≤ n → Part s (dtype_at s (type_at s n) n (d ++ rest)) rest
  domain_read s _ (variable x e) n rest l = record { value = means (ty_var (head_text (x ∷ rest))); is = ap (λ k. dtype_by k s (type_at s n) n (x ∷ rest)) (head_is a_variable x rest e) }
  domain_read s _ (constructor x e) n rest l = record { value = applied s (head_text (x ∷ rest)) (head_place (x ∷ rest)) (given []); is = ap (λ k. dtype_by k s (type_at s n) n (x ∷ rest)) (head_is a_name x rest e) }
  domain_read s _ (in_parentheses t o c e h g) n rest l =
      let sum = length-append t (c ∷ []) in
      let a = type_read s t h n (c ∷ rest) (omega (arith, sum, l)) (ap ends_type (head_is close_paren c rest g)) in
      record {
        value = a.value;
        is = ap (λ us. dtype_at s (type_at s n) n (o ∷ us)) (append_assoc t (c ∷ []) rest)
            ∙ ap (λ k. dtype_by k s (type_at s n) n (o ∷ (t ++ (c ∷ rest)))) (head_is open_paren o (t ++ (c ∷ rest)) e)
            ∙ ap (λ y. y >>= (λ u mid. group_by (head_kind mid) s (type_at s n) n u mid)) a.is
            ∙ ap (λ k. group_by k s (type_at s n) n a.value (c ∷ rest)) (head_is close_paren c rest g);
      }
  domain_read s _ (of_several t ts o x c w e h f hs g i) n rest l =
      let end = c ∷ w ∷ rest in
      let sum = length-append t (x ∷ (ts ++ c ∷ w ∷ [])) in
      let more = length-append ts (c ∷ w ∷ []) in
      let a = type_read s t h n (x ∷ (ts ++ end)) (omega (arith, sum, more, l)) (ap ends_type (head_is comma x (ts ++ end) f)) in
      let b = types_read s ts hs n n (with_one (given []) a.value) end (omega (arith, sum, more, l)) (omega (arith, sum, more, l)) (ap ends_type (head_is close_paren c (w ∷ rest) g)) (ap ends_list (head_is close_paren c (w ∷ rest) g)) in
      let after = λ (y : Front Arguments). (y >>= (λ args mid. expect_by (is_close_paren (head_kind mid)) args mid)) >>= tuple s in
      record {
        value = applied s (head_text (w ∷ rest)) (head_place (w ∷ rest)) b.value;
        is = ap (λ us. dtype_at s (type_at s n) n (o ∷ us)) (apart t x ts c w rest)
            ∙ ap (λ k. dtype_by k s (type_at s n) n (o ∷ (t ++ (x ∷ (ts ++ end))))) (head_is open_paren o (t ++ (x ∷ (ts ++ end))) e)
            ∙ ap (λ y. y >>= (λ u mid. group_by (head_kind mid) s (type_at s n) n u mid)) a.is
            ∙ ap (λ k. group_by k s (type_at s n) n a.value (x ∷ (ts ++ end))) (head_is comma x (ts ++ end) f)
            ∙ ap after b.is
            ∙ ap (λ k. expect_by (is_close_paren k) b.value end >>= tuple s) (head_is close_paren c (w ∷ rest) g)
            ∙ ap (λ k. tuple_by (is_name_token k) s b.value (w ∷ rest)) (head_is a_name w rest i);
      }
    where
      apart : (t : List Token) (x : Token) (ts : List Token) (c w : Token) (rest : List Token) → (t ++ x ∷ (ts ++ c ∷ w ∷ [])) ++ rest ≡ t ++ (x ∷ (ts ++ c ∷ w ∷ rest))
      apart t x ts c w rest = simp append_assoc
  domain_read s _ (of_one d w h e) n rest l =
      let a = domain_read s d h n (w ∷ rest) (omega (arith, length-append d (w ∷ []), l)) in
      record {
        value = applied s (head_text (w ∷ rest)) (head_place (w ∷ rest)) (with_one (given []) a.value);
        is = ap (dtype_at s (type_at s n) n) (append_assoc d (w ∷ []) rest) ∙ a.is ∙ postfix_name s a.value w rest e;
      }

  pub type_read : (s : Signature) (t : List Token) → IsType t → (n : ℕ) (rest : List Token) → length t < n → ends_type (head_kind rest) ≡ true → Got (type_at s n (t ++ rest)) rest
  type_read s t h zero rest l c = absurd (omega (arith, l))
  type_read s _ (a_domain d h) (suc n) rest l c =
      let a = domain_read s d h n rest (omega (arith, l)) in
      record {
        value = a.value;
        is = ap (λ y. y >>= (λ dom mid. range_by (head_kind mid) s (type_at s n) dom mid)) (a.is ∙ postfix_ends s a.value rest c) ∙ range_ends (head_kind rest) s (type_at s n) a.value rest c;
      }
  type_read s _ (a_function d r x h e g) (suc n) rest l c =
      let sum = length-append d (x ∷ r) in
      let a = domain_read s d h n (x ∷ (r ++ rest)) (omega (arith, sum, l)) in
      let b = type_read s r g n rest (omega (arith, sum, l)) c in
      record {
        value = function s (head_place (x ∷ (r ++ rest))) a.value b.value;
        is = ap (type_at s (suc n)) (append_assoc d (x ∷ r) rest)
            ∙ ap (λ y. y >>= (λ dom mid. range_by (head_kind mid) s (type_at s n) dom mid)) (a.is ∙ postfix_arrow s a.value x (r ++ rest) e)
            ∙ ap (λ k. range_by k s (type_at s n) a.value (x ∷ (r ++ rest))) (head_is arrow x (r ++ rest) e)
            ∙ ap (λ y. y >>= (λ ran mid. got (function s (head_place (x ∷ (r ++ rest))) a.value ran) mid)) b.is;
      }

  pub types_read : (s : Signature) (ts : List Token) → AreTypes ts → (n k : ℕ) (args : Arguments) (rest : List Token) → length ts < n → length ts < k → ends_type (head_kind rest) ≡ true → ends_list (head_kind rest) ≡ true
      → Got (types_at (type_at s n) k args (ts ++ rest)) rest
  types_read s ts h n zero args rest l m c z = absurd (omega (arith, m))
  types_read s _ (one t h) n (suc k) args rest l m c z =
      let a = type_read s t h n rest l c in
      record {
        value = with_one args a.value;
        is = ap (λ y. y >>= (λ u mid. more_types (head_kind mid) (types_at (type_at s n) k) (with_one args u) mid)) a.is ∙ more_ends (head_kind rest) (types_at (type_at s n) k) (with_one args a.value) rest z;
      }
  types_read s _ (more t ts x h e g) n (suc k) args rest l m c z =
      let sum = length-append t (x ∷ ts) in
      let a = type_read s t h n (x ∷ (ts ++ rest)) (omega (arith, sum, l)) (ap ends_type (head_is comma x (ts ++ rest) e)) in
      let b = types_read s ts g n k (with_one args a.value) rest (omega (arith, sum, l)) (omega (arith, sum, m)) c z in
      record {
        value = b.value;
        is = ap (types_at (type_at s n) (suc k) args) (append_assoc t (x ∷ ts) rest)
            ∙ ap (λ y. y >>= (λ u mid. more_types (head_kind mid) (types_at (type_at s n) k) (with_one args u) mid)) a.is
            ∙ ap (λ j. more_types j (types_at (type_at s n) k) (with_one args a.value) (x ∷ (ts ++ rest))) (head_is comma x (ts ++ rest) e)
            ∙ b.is;
      }
