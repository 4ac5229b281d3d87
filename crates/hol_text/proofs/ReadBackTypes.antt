-- The canonical text of a type reads as the type.
use Rattle.std.proofs.Common.{◌≡◌, ℕ, zero, suc, ◌+◌, ◌<◌, ◌≤◌, Bool, true, false, List, [], ◌∷◌, ◌++◌, length, length-append, append_assoc, Some, refl, ap, sym, ◌∙◌, arith, eq-eqb}
use Rattle.std.specs.Prelude.{◌==◌, codes, bytes_eq}
use Rattle.std.specs.List.{flat_map}
use Rattle.std.proofs.lemmas.Slice.Eq.{bytes_eq-Decides}
use Rattle.hol_terms.specs.Name.{Name, is_segment, is_name}
use Rattle.hol_terms.specs.Ty.{Ty, ty_var, ty_app, Tys, no_tys, more_tys, ty_list, tys-ty_list}
use Rattle.hol_terms.specs.Typing.{fun_name, fun_ty}
use Rattle.hol_terms.specs.Signature.{Signature, arity_of, tys_count, IsTyOver, AreTysOver}
use Rattle.hol_terms.specs.Text.{Text, parenthesized, with_commas, is_arrow, is_function, ty_text, tys_texts}
use Rattle.hol_terms.specs.Tokens.{Kind, a_name, close_paren, close_brace, close_bracket, comma, dot, arrow, the_end, Token, token, head_kind, tokens_from}
use Rattle.hol_terms.specs.Meaning.{Meaning, means, Arguments, given, with_one, is_count, applied_by, applied, function}
use Rattle.hol_terms.specs.Reading.{Front, got, ◌>>=◌, expect_by, is_close_paren, postfix_by, postfix, more_types, types_at, tuple, group_by, dtype_at, range_by, type_at}
use Rattle.hol_terms.specs.ReadsBack.{ReadsBack}
use Rattle.hol_text.proofs.ReadBackTokens.{Ends, ends_sign, at_blank, at_open_paren, at_close_paren, at_comma, at_arrow, at_name, at_variable}

-- the names that a signature gives are names
pub record HasNames (s : Signature) : Type 0 where
  pub types : (c : Name) (k : ℕ) → arity_of s c ≡ Some k → is_name c ≡ true

pub has_names : {s : Signature} → ReadsBack s → HasNames s
has_names b = record { types = b.types_named }

-- ---- readings, step by step

-- the reading has come to the text r: it is the rest of it, from a place
pub record Comes {A : Type 0} (x : Front A) (f : List Token → Front A) (r : Text) : Type 0 where
  pub place : ℕ
  pub is : x ≡ f (tokens_from place r)

pub lead : {A : Type 0} {x y : Front A} {f : List Token → Front A} {r : Text} → x ≡ y → Comes y f r → Comes x f r
lead e c = record { place = c.place; is = e ∙ c.is }

pub follow : {A : Type 0} {x : Front A} {f g : List Token → Front A} {r u : Text} → Comes x f r → ((q : ℕ) → Comes (f (tokens_from q r)) g u) → Comes x g u
follow c h = record { place = (h c.place).place; is = c.is ∙ (h c.place).is }

pub within : {A B : Type 0} {x : Front A} {f : List Token → Front A} {r : Text} (h : Front A → Front B) → Comes x f r → Comes (h x) (λ ts. h (f ts)) r
within h c = record { place = c.place; is = ap h c.is }

-- ---- where a type ends

-- no type goes on with it
abbrev pub closes : Kind → Bool
closes close_paren = true
closes close_brace = true
closes close_bracket = true
closes comma = true
closes dot = true
closes the_end = true
closes k = false

-- the rest of a text behind a type
pub record Rest (r : Text) : Type 0 where
  pub ends : Ends r
  pub closed : (q : ℕ) → closes (head_kind (tokens_from q r)) ≡ true

pub rest_close_paren : (r : Text) → Rest (codes ")" ++ r)
rest_close_paren r = record { ends = ends_sign 41 r refl refl; closed = λ q. rw at_close_paren refl }

pub rest_comma : (r : Text) → Rest (codes "," ++ r)
rest_comma r = record { ends = ends_sign 44 r refl refl; closed = λ q. rw at_comma refl }

pub postfix_stops : (s : Signature) (t : Meaning Ty) (ts : List Token) → closes (head_kind ts) ≡ true → postfix s t ts ≡ got t ts
postfix_stops s t [] h = refl
postfix_stops s t (token k w p ∷ ts) h = at k h
  where
    at : (k : Kind) → closes k ≡ true → postfix_by k s t (token k w p ∷ ts) (λ u. postfix s u ts) ≡ got t (token k w p ∷ ts)
    at a_name g = cc
    at k g = refl

pub range_stops : (k : Kind) (s : Signature) (read : List Token → Front (Meaning Ty)) (t : Meaning Ty) (ts : List Token) → closes k ≡ true → range_by k s read t ts ≡ got t ts
range_stops arrow s read t ts h = cc
range_stops k s read t ts h = refl

-- ---- both ways in which a type is read

pub record Reads (s : Signature) (t : Ty) : Type 0 where
  -- as the first part of a type
  pub part : is_function t ≡ false → (n p : ℕ) (r : Text) → length (ty_text t) ≤ n → Ends r
      → Comes (dtype_at s (type_at s n) n (tokens_from p (ty_text t ++ r))) (postfix s (means t)) r
  pub whole : (n p : ℕ) (r : Text) → length (ty_text t) < n → Rest r → Comes (type_at s n (tokens_from p (ty_text t ++ r))) (got (means t)) r

-- where no arrow follows
whole_from : (s : Signature) (t : Ty)
    → ((n p : ℕ) (r : Text) → length (ty_text t) ≤ n → Ends r → Comes (dtype_at s (type_at s n) n (tokens_from p (ty_text t ++ r))) (postfix s (means t)) r)
    → (n p : ℕ) (r : Text) → length (ty_text t) < n → Rest r → Comes (type_at s n (tokens_from p (ty_text t ++ r))) (got (means t)) r
unfolding type_at
whole_from s t part zero p r h c = absurd (omega arith)
whole_from s t part (suc n) p r h c =
    follow (within (λ x. x >>= (λ dom rest. range_by (head_kind rest) s (type_at s n) dom rest)) (part n p r (omega arith) c.ends))
    (λ q. record {
      place = q;
      is = ap (λ x. x >>= (λ dom rest. range_by (head_kind rest) s (type_at s n) dom rest)) (postfix_stops s (means t) (tokens_from q r) (c.closed q))
          ∙ range_stops (head_kind (tokens_from q r)) s (type_at s n) (means t) (tokens_from q r) (c.closed q);
    })

-- ---- the cases

variable_part : (s : Signature) (v : Name) → is_segment v ≡ true → (n p : ℕ) (r : Text) → Ends r
    → Comes (dtype_at s (type_at s n) n (tokens_from p (ty_text (ty_var v) ++ r))) (postfix s (means (ty_var v))) r
unfolding dtype_at
variable_part s v h n p r e = record { place = (p + 1) + length v; is = ap (dtype_at s (type_at s n) n) (at_variable p v r h e) }

pub as_many : (k : ℕ) → (k == k) ≡ true
as_many k = eq-eqb k k refl

applied_is : (s : Signature) (c : Name) (p : ℕ) (ts : Tys) → arity_of s c ≡ Some (tys_count ts) → applied s c p (given (ty_list ts)) ≡ means (ty_app c ts)
unfolding applied
applied_is s c p ts h = ap (λ o. applied_by (is_count o (length (ty_list ts))) c p (given (ty_list ts))) h
    ∙ ap (λ b. applied_by b c p (given (ty_list ts))) (ap (λ k. k == length (ty_list ts)) (sym (list_count ts)) ∙ as_many (length (ty_list ts)))
    ∙ ap (λ us. means (ty_app c us)) (tys-ty_list ts)
  where
    list_count : (ts : Tys) → length (ty_list ts) ≡ tys_count ts
    list_count no_tys = refl
    list_count (more_tys t ts) = omega (arith, list_count ts)

name_part : (s : Signature) (c : Name) → is_name c ≡ true → arity_of s c ≡ Some 0 → (n p : ℕ) (r : Text) → Ends r
    → Comes (dtype_at s (type_at s n) n (tokens_from p (c ++ r))) (postfix s (means (ty_app c no_tys))) r
unfolding dtype_at
name_part s c h a n p r e = record { place = p + length c; is = ap (dtype_at s (type_at s n) n) (at_name p c r h e) ∙ ap (λ m. postfix s m (tokens_from (p + length c) r)) (applied_is s c p no_tys a) }

-- a type in parentheses
grouped : (s : Signature) (t : Ty) → Reads s t → (n p : ℕ) (r : Text) → length (ty_text t) < n
    → Comes (dtype_at s (type_at s n) n (tokens_from p (codes "(" ++ (ty_text t ++ (codes ")" ++ r))))) (postfix s (means t)) r
unfolding dtype_at
grouped s t b n p r h =
    lead (ap (dtype_at s (type_at s n) n) (at_open_paren p (ty_text t ++ (codes ")" ++ r))))
    (follow (within (λ x. x >>= (λ u rest. group_by (head_kind rest) s (type_at s n) n u rest)) (b.whole n (p + 1) (codes ")" ++ r) h (rest_close_paren r)))
    (λ q. record { place = q + 1; is = ap (λ ts. group_by (head_kind ts) s (type_at s n) n (means t) ts) (at_close_paren q r) }))

-- a type as a domain or as the only argument
pub domain : (s : Signature) (t : Ty) → Reads s t → (n p : ℕ) (r : Text) → length (parenthesized (is_function t) (ty_text t)) ≤ n → Ends r
    → Comes (dtype_at s (type_at s n) n (tokens_from p (parenthesized (is_function t) (ty_text t) ++ r))) (postfix s (means t)) r
domain s t b n p r h e = at (is_function t) refl h
  where
    inside : (x : Text) → (codes "(" ++ x ++ codes ")") ++ r ≡ codes "(" ++ (x ++ (codes ")" ++ r))
    inside x = simp append_assoc

    at : (f : Bool) → is_function t ≡ f → length (parenthesized f (ty_text t)) ≤ n → Comes (dtype_at s (type_at s n) n (tokens_from p (parenthesized f (ty_text t) ++ r))) (postfix s (means t)) r
    at false g h = b.part g n p r h e
    at true g h = lead (ap (λ x. dtype_at s (type_at s n) n (tokens_from p x)) (inside (ty_text t))) (grouped s t b n p r (omega (arith, length-append (codes "(" ++ ty_text t) (codes ")"))))

-- a name behind its only argument
argument_part : (s : Signature) (c : Name) (x : Ty) → is_name c ≡ true → arity_of s c ≡ Some 1 → Reads s x
    → (n p : ℕ) (r : Text) → length (ty_text (ty_app c (more_tys x no_tys))) ≤ n → Ends r
    → Comes (dtype_at s (type_at s n) n (tokens_from p (ty_text (ty_app c (more_tys x no_tys)) ++ r))) (postfix s (means (ty_app c (more_tys x no_tys)))) r
argument_part s c x h a b n p r l e =
    lead (ap (λ y. dtype_at s (type_at s n) n (tokens_from p y)) (apart (parenthesized (is_function x) (ty_text x))))
    (follow (domain s x b n p (codes " " ++ (c ++ r)) (omega (arith, length-append (parenthesized (is_function x) (ty_text x) ++ codes " ") c, length-append (parenthesized (is_function x) (ty_text x)) (codes " "))) (ends_sign 32 (c ++ r) refl refl))
    (λ q. record {
      place = (q + 1) + length c;
      is = ap (postfix s (means x)) (at_blank q (c ++ r) ∙ at_name (q + 1) c r h e) ∙ ap (λ m. postfix s m (tokens_from ((q + 1) + length c) r)) (applied_is s c (q + 1) (more_tys x no_tys) a);
    }))
  where
    apart : (y : Text) → ((y ++ codes " ") ++ c) ++ r ≡ y ++ (codes " " ++ (c ++ r))
    apart y = simp append_assoc

-- a function type
arrow_whole : (s : Signature) (a b : Ty) → arity_of s fun_name ≡ Some 2 → Reads s a → Reads s b → (n p : ℕ) (r : Text)
    → length (parenthesized (is_function a) (ty_text a) ++ (codes " -> " ++ ty_text b)) < n → Rest r
    → Comes (type_at s n (tokens_from p (parenthesized (is_function a) (ty_text a) ++ (codes " -> " ++ (ty_text b ++ r))))) (got (means (fun_ty a b))) r
unfolding type_at function
arrow_whole s a b f x y zero p r l c = absurd (omega arith)
arrow_whole s a b f x y (suc n) p r l c =
    let sum = length-append (parenthesized (is_function a) (ty_text a)) (codes " -> " ++ ty_text b) in
    follow (within (λ z. z >>= (λ dom rest. range_by (head_kind rest) s (type_at s n) dom rest))
    (domain s a x n p (codes " -> " ++ (ty_text b ++ r)) (omega (arith, sum)) (ends_sign 32 (codes "-> " ++ (ty_text b ++ r)) refl refl)))
    (λ q. lead (ap (λ ts. postfix s (means a) ts >>= (λ dom rest. range_by (head_kind rest) s (type_at s n) dom rest)) (at_arrow q (ty_text b ++ r)))
    (follow (within (λ z. z >>= (λ ran rest. got (function s (q + 1) (means a) ran) rest)) (y.whole n ((((q + 1) + 1) + 1) + 1) r (omega (arith, sum)) c))
    (λ k. record { place = k; is = ap (λ m. got m (tokens_from k r)) (applied_is s fun_name (q + 1) (more_tys a (more_tys b no_tys)) f) })))

-- the types of a list, each of which reads
abbrev pub AllRead : Signature → Tys → Type 0
AllRead s no_tys = Unit {0}
AllRead s (more_tys t ts) = Reads s t × AllRead s ts

-- no further type stands behind a list
abbrev pub closes_list : Kind → Bool
closes_list close_paren = true
closes_list close_brace = true
closes_list k = false

pub more_stop : (k : Kind) (next : Arguments → List Token → Front Arguments) (args : Arguments) (ts : List Token) → closes_list k ≡ true → more_types k next args ts ≡ got args ts
more_stop comma next args ts h = cc
more_stop k next args ts h = refl

pub list_reads : (s : Signature) (t : Ty) (ts : Tys) → Reads s t → AllRead s ts → (done : List Ty) (n k p : ℕ) (r : Text)
    → length (with_commas (ty_text t ∷ tys_texts ts)) < n → tys_count ts < k → Rest r → ((q : ℕ) → closes_list (head_kind (tokens_from q r)) ≡ true)
    → Comes (types_at (type_at s n) k (given done) (tokens_from p (with_commas (ty_text t ∷ tys_texts ts) ++ r))) (got (given (done ++ (t ∷ ty_list ts)))) r
unfolding types_at
list_reads s t ts b bs done n zero p r l m c z = absurd (omega arith)
list_reads s t no_tys b bs done n (suc k) p r l m c z =
    lead (ap (λ y. types_at (type_at s n) (suc k) (given done) (tokens_from p y)) (only (ty_text t)))
    (follow (within (λ x. x >>= (λ u rest. more_types (head_kind rest) (types_at (type_at s n) k) (with_one (given done) u) rest))
    (b.whole n p r (omega (arith, length-append (ty_text t) [])) c))
    (λ q. record { place = q; is = more_stop (head_kind (tokens_from q r)) (types_at (type_at s n) k) (given (done ++ t ∷ [])) (tokens_from q r) (z q) }))
  where
    only : (y : Text) → (y ++ []) ++ r ≡ y ++ r
    only y = append_assoc y [] r
list_reads s t (more_tys u ts) b bs done n (suc k) p r l m c z =
    let rest = with_commas (ty_text u ∷ tys_texts ts) in
    let sum = length-append (ty_text t) (codes "," ++ rest) in
    let e : with_commas (ty_text t ∷ ty_text u ∷ tys_texts ts) ≡ ty_text t ++ (codes "," ++ rest) = refl in
    lead (ap (λ y. types_at (type_at s n) (suc k) (given done) (tokens_from p y)) (append_assoc (ty_text t) (codes "," ++ rest) r))
    (follow (within (λ x. x >>= (λ u rest. more_types (head_kind rest) (types_at (type_at s n) k) (with_one (given done) u) rest))
    (b.whole n p (codes "," ++ (rest ++ r)) (omega (arith, sum)) (rest_comma (rest ++ r))))
    (λ q. lead (ap (λ ts. more_types (head_kind ts) (types_at (type_at s n) k) (given (done ++ t ∷ [])) ts) (at_comma q (rest ++ r)))
    (follow (list_reads s u ts bs.0 bs.1 (done ++ t ∷ []) n k (q + 1) r (omega (arith, sum)) (omega arith) c z)
    (λ j. record { place = j; is = ap (λ us. got (given us) (tokens_from j r)) (append_assoc done (t ∷ []) (u ∷ ty_list ts)) }))))

-- a name behind several arguments in parentheses
tuple_part : (s : Signature) (c : Name) (t u : Ty) (us : Tys) → is_name c ≡ true → arity_of s c ≡ Some (tys_count (more_tys t (more_tys u us))) → Reads s t → Reads s u → AllRead s us
    → (n p : ℕ) (r : Text) → length (ty_text t) + length (with_commas (ty_text u ∷ tys_texts us)) + 2 < n → tys_count us < n → Ends r
    → Comes (dtype_at s (type_at s n) n (tokens_from p (codes "(" ++ (ty_text t ++ (codes "," ++ (with_commas (ty_text u ∷ tys_texts us) ++ (codes ")" ++ (codes " " ++ (c ++ r)))))))))
    (postfix s (means (ty_app c (more_tys t (more_tys u us))))) r
unfolding dtype_at
tuple_part s c t u us h a x y z n p r l m e =
    let rest = with_commas (ty_text u ∷ tys_texts us) in
    let end = codes ")" ++ (codes " " ++ (c ++ r)) in
    let read = type_at s n in
    lead (ap (dtype_at s read n) (at_open_paren p (ty_text t ++ (codes "," ++ (rest ++ end)))))
    (follow (within (λ x. x >>= (λ u rest. group_by (head_kind rest) s read n u rest)) (x.whole n (p + 1) (codes "," ++ (rest ++ end)) (omega arith) (rest_comma (rest ++ end))))
    (λ q. lead (ap (λ ts. group_by (head_kind ts) s read n (means t) ts) (at_comma q (rest ++ end)))
    (follow (within (λ x. (x >>= (λ args rest. expect_by (is_close_paren (head_kind rest)) args rest)) >>= tuple s)
    (list_reads s u us y z (t ∷ []) n n (q + 1) end (omega arith) m (rest_close_paren (codes " " ++ (c ++ r))) (λ k. rw at_close_paren refl)))
    (λ k. record {
      place = ((k + 1) + 1) + length c;
      is = ap (λ ts. expect_by (is_close_paren (head_kind ts)) (given (t ∷ u ∷ ty_list us)) ts >>= tuple s) (at_close_paren k (codes " " ++ (c ++ r)))
          ∙ ap (λ ts. tuple s (given (t ∷ u ∷ ty_list us)) ts) (at_blank (k + 1) (c ++ r) ∙ at_name ((k + 1) + 1) c r h e)
          ∙ ap (λ m. postfix s m (tokens_from (((k + 1) + 1) + length c) r)) (applied_is s c ((k + 1) + 1) (more_tys t (more_tys u us)) a);
    }))))

-- ---- every type

variable_reads : (s : Signature) (v : Name) → is_segment v ≡ true → Reads s (ty_var v)
variable_reads s v h = record {
  part = λ f n p r l e. variable_part s v h n p r e;
  whole = whole_from s (ty_var v) (λ n p r l e. variable_part s v h n p r e);
}

arrow_reads : (s : Signature) (c : Name) (a b : Ty) → bytes_eq c fun_name ≡ true → arity_of s c ≡ Some 2 → Reads s a → Reads s b → Reads s (ty_app c (more_tys a (more_tys b no_tys)))
arrow_reads s c a b e f x y = record {
  part = λ g n p r l k. absurd (unlike (sym e ∙ g));
  whole = λ n p r l k.
      let text = text_is in
      lead (ap (λ z. type_at s n (tokens_from p (z ++ r))) text)
      (lead (ap (λ z. type_at s n (tokens_from p z)) (append_assoc (parenthesized (is_function a) (ty_text a)) (codes " -> " ++ ty_text b) r))
      (let z : Comes (type_at s n (tokens_from p (parenthesized (is_function a) (ty_text a) ++ (codes " -> " ++ (ty_text b ++ r))))) (got (means (fun_ty a b))) r
      = arrow_whole s a b (ap (arity_of s) (sym name) ∙ f) x y n p r (omega (arith, ap length text)) k in
      record { place = z.place; is = z.is ∙ ap (λ m. got (means (ty_app m (more_tys a (more_tys b no_tys)))) (tokens_from z.place r)) (sym name) }));
}
  where
    unlike : true ≡ false → ⊥
    unlike g = cc

    name : c ≡ fun_name
    name = (bytes_eq-Decides c fun_name).0 e

    text_is : ty_text (ty_app c (more_tys a (more_tys b no_tys))) ≡ parenthesized (is_function a) (ty_text a) ++ (codes " -> " ++ ty_text b)
    text_is = rw e (append_assoc (parenthesized (is_function a) (ty_text a)) (codes " -> ") (ty_text b))

pub commas_count : (ts : Tys) → tys_count ts ≤ length (flat_map (λ y. codes "," ++ y) (tys_texts ts))
commas_count no_tys = omega arith
commas_count (more_tys t ts) = omega (arith, commas_count ts, length-append (codes "," ++ ty_text t) (flat_map (λ y. codes "," ++ y) (tys_texts ts)))

tuple_reads : (s : Signature) (c : Name) (t u : Ty) (us : Tys) → is_arrow c (more_tys t (more_tys u us)) ≡ false → is_name c ≡ true → arity_of s c ≡ Some (tys_count (more_tys t (more_tys u us)))
    → Reads s t → Reads s u → AllRead s us → Reads s (ty_app c (more_tys t (more_tys u us)))
tuple_reads s c t u us e h a x y z = record { part = λ f n p r l k. part n p r l k; whole = whole_from s (ty_app c (more_tys t (more_tys u us))) part }
  where
    text_is : (r : Text) → ty_text (ty_app c (more_tys t (more_tys u us))) ++ r ≡ codes "(" ++ (ty_text t ++ (codes "," ++ (with_commas (ty_text u ∷ tys_texts us) ++ (codes ")" ++ (codes " " ++ (c ++ r))))))
    text_is r = rw e (simp append_assoc)

    part : (n p : ℕ) (r : Text) → length (ty_text (ty_app c (more_tys t (more_tys u us)))) ≤ n → Ends r
        → Comes (dtype_at s (type_at s n) n (tokens_from p (ty_text (ty_app c (more_tys t (more_tys u us))) ++ r))) (postfix s (means (ty_app c (more_tys t (more_tys u us))))) r
    part n p r l k =
        let rest = with_commas (ty_text u ∷ tys_texts us) in
        let end = codes ")" ++ (codes " " ++ (c ++ [])) in
        let a1 = ap length (text_is []) in
        let a2 = length-append (ty_text (ty_app c (more_tys t (more_tys u us)))) [] in
        let a3 = length-append (ty_text t) (codes "," ++ (rest ++ end)) in
        let a4 = length-append rest end in
        let a5 = length-append (ty_text u) (flat_map (λ y. codes "," ++ y) (tys_texts us)) in
        lead (ap (λ y. dtype_at s (type_at s n) n (tokens_from p y)) (text_is r))
        (tuple_part s c t u us h a x y z n p r (omega (arith, a1, a2, a3, a4)) (omega (arith, a1, a2, a3, a4, a5, commas_count us)) k)

app_reads : (s : Signature) (c : Name) (ts : Tys) → is_name c ≡ true → arity_of s c ≡ Some (tys_count ts) → AllRead s ts → Reads s (ty_app c ts)
app_reads s c no_tys h a b = record { part = λ f n p r l e. name_part s c h a n p r e; whole = whole_from s (ty_app c no_tys) (λ n p r l e. name_part s c h a n p r e) }
app_reads s c (more_tys x no_tys) h a b = record {
  part = λ f n p r l e. argument_part s c x h a b.0 n p r l e;
  whole = whole_from s (ty_app c (more_tys x no_tys)) (argument_part s c x h a b.0);
}
app_reads s c (more_tys x (more_tys y no_tys)) h a b = at (bytes_eq c fun_name) refl
  where
    at : (f : Bool) → bytes_eq c fun_name ≡ f → Reads s (ty_app c (more_tys x (more_tys y no_tys)))
    at true e = arrow_reads s c x y e a b.0 b.1.0
    at false e = tuple_reads s c x y no_tys e h a b.0 b.1.0 tt
app_reads s c (more_tys x (more_tys y (more_tys z zs))) h a b = tuple_reads s c x y (more_tys z zs) refl h a b.0 b.1.0 b.1.1

mutual
  pub reads_type : (s : Signature) → HasNames s → (t : Ty) → IsTyOver s t → Reads s t
  reads_type s m (ty_var v) h = variable_reads s v h
  reads_type s m (ty_app c ts) h = app_reads s c ts (m.types c _ h.0) h.0 (reads_types s m ts h.1)

  pub reads_types : (s : Signature) → HasNames s → (ts : Tys) → AreTysOver s ts → AllRead s ts
  reads_types s m no_tys h = tt
  reads_types s m (more_tys t ts) h = (reads_type s m t h.0, reads_types s m ts h.1)
