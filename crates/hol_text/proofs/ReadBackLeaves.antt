-- The canonical text of a variable, a constant and an application reads as it.
use Rattle.std.proofs.Common.{◌≡◌, ℕ, ◌+◌, ◌-◌, ◌<◌, ◌^◌, true, false, not, List, [], ◌∷◌, ◌++◌, length, length-append, append_assoc, Some, None, slice_get, refl, ap, sym, ◌∙◌, arith}
use Rattle.std.specs.Prelude.{◌==◌, nat_lt, codes}
use Rattle.std.specs.Prelude.{◌&&◌, ◌||◌, bytes_eq}
use Rattle.std.specs.List.{flat_map}
use Rattle.std.specs.Str.{chars, is_utf8}
use Rattle.std.proofs.lemmas.Bool.{and_parts}
use Rattle.std.proofs.lemmas.Bool.Decides.{nat_tests}
use Rattle.hol_terms.specs.Name.{Name, is_name, is_keyword, are_segments_of}
use Rattle.hol_terms.specs.Ty.{Ty, tys, ty_list, ty_list-tys}
use Rattle.hol_terms.specs.Tm.{Tm, tm_index, tm_free, tm_const, FreeVar}
use Rattle.hol_terms.specs.Signature.{Signature, tys_count, IsTyOver, AreTysOver, IsConstOver}
use Rattle.hol_terms.specs.Text.{Text, with_commas, ty_text, tys_texts, bound_text}
use Rattle.hol_terms.specs.Tokens.{Kind, a_name, open_brace, open_bracket, Token, token, sign, head_kind, tokens_from}
use Rattle.hol_terms.specs.Meaning.{means, given, constant_by, constant_of, constant, operand}
use Rattle.hol_terms.specs.Reading.{got, ◌>>=◌, expect_by, is_close_brace, is_close_bracket, typed_at, Scope, innermost, plain_by, braces_at, name_by, free_of, atom_at, begins_atom, term_at}
use Rattle.hol_terms.specs.ReadsBack.{ReadsBack}
use Rattle.hol_text.proofs.ReadBackTokens.{Ends, ends_sign, at_open_brace, at_close_brace, at_open_bracket, at_close_bracket, at_colon, at_name}
use Rattle.hol_text.proofs.ReadBackTypes.{has_names, Rest, as_many, commas_count, list_reads, reads_type, reads_types}
use Rattle.hol_text.proofs.ReadBackBinders.{bound_name, scope, not_bound, Found, found}
use Rattle.hol_text.proofs.ReadBackAtoms.{in_scope, is_brace, Follows, Gives, leads, ReadsTm, atom_reads}

-- ---- names

pub name_plain : (k : Kind) (s : Signature) (n : ℕ) (b : Scope) (c : Name) (p : ℕ) (ts : List Token) → is_brace k ≡ false → name_by k s n b c p ts ≡ got (operand (plain_by (innermost b c) s c p) p) ts
name_plain open_brace s n b c p ts h = cc
name_plain k s n b c p ts h = refl

-- a name without braces
name_gives : (s : Signature) (bound : List Ty) (c : Name) (m : Tm) → is_name c ≡ true → ((p : ℕ) → plain_by (innermost (scope bound) c) s c p ≡ means m) → (n p : ℕ) (r : Text) → Follows r
    → Gives (atom_at s (term_at s n) n (scope bound) (tokens_from p (c ++ r))) m r
unfolding atom_at
name_gives s bound c m h e n p r f = record {
  first = p;
  place = p + length c;
  is = ap (atom_at s (term_at s n) n (scope bound)) (at_name p c r h f.ends)
      ∙ name_plain (head_kind (tokens_from (p + length c) r)) s n (scope bound) c p (tokens_from (p + length c) r) (f.unbraced (p + length c))
      ∙ ap (λ o. got (operand o p) (tokens_from (p + length c) r)) (e p);
}

name_starts : (c : Name) → is_name c ≡ true → (p : ℕ) (r : Text) → Ends r → begins_atom (head_kind (tokens_from p (c ++ r))) ≡ true
name_starts c h p r e = ap (λ ts. begins_atom (head_kind ts)) (at_name p c r h e)

unlike : false ≡ true → ⊥
unlike e = cc

no_name : is_name [] ≡ true → ⊥
unfolding is_name chars
no_name h =
    let a = and_parts (is_utf8 [] && (are_segments_of false (chars []) || bytes_eq [] (codes "0"))) (not (is_keyword [])) h in
    unlike (and_parts (is_utf8 []) (are_segments_of false (chars []) || bytes_eq [] (codes "0")) a.0).1

name_long : (c : Name) → is_name c ≡ true → 0 < length c
name_long [] h = absurd (no_name h)
name_long (b ∷ c) h = omega arith

-- ---- bound variables

none_less : (i : ℕ) → nat_lt i 0 ≡ false
none_less i = grind (arith, nat_tests)

all_of : (i : ℕ) → i - 0 ≡ i
all_of i = omega arith

index_in_scope : (bound : List Ty) (i : ℕ) (t : Ty) (f : Found bound i t) → in_scope bound (tm_index i t) ≡ tm_free f.var
index_in_scope bound i t f = rw (none_less i, all_of i) (f.stands (tm_index i t))

pub index_reads : (s : Signature) (bound : List Ty) (i : ℕ) (t : Ty) → slice_get bound i ≡ Some t → length bound < 2 ^ 64 → ReadsTm s bound (tm_index i t)
index_reads s bound i t e h =
    let f = found bound i t e h in
    let c = bound_text (length bound - (i + 1)) in
    let name : is_name c ≡ true = bound_name (length bound - (i + 1)) (omega arith) in
    atom_reads s bound (tm_index i t) (name_long c name) (name_starts c name)
    (λ n p r l g. name_gives s bound c (in_scope bound (tm_index i t)) name (λ q. ap (λ o. plain_by o s c q) f.known ∙ ap means (sym (index_in_scope bound i t f))) n p r g)

-- ---- constants

pub constant_is : (s : Signature) (c : Name) (ts : List Ty) (ty : Ty) (p : ℕ) → IsConstOver s c ts ty → constant s c p (given ts) ≡ means (tm_const c ts ty)
unfolding constant
constant_is s c ts ty p o =
    ap (λ g. constant_of g c p (given ts)) o.known
    ∙ ap (λ b. constant_by b c p o.generic (given ts)) (ap (λ k. k == length ts) (sym o.as_many) ∙ as_many (length ts))
    ∙ ap (λ t. means (tm_const c ts t)) (sym o.instance)

plain_constant : (s : Signature) (bound : List Ty) (c : Name) (ty : Ty) → ReadsBack s → length bound < 2 ^ 64 → IsConstOver s c [] ty → ReadsTm s bound (tm_const c [] ty)
plain_constant s bound c ty b h o =
    let name : is_name c ≡ true = b.constants_named c o.generic o.known in
    let free : innermost (scope bound) c ≡ None = not_bound bound c h (b.unnumbered c o.generic o.known) in
    atom_reads s bound (tm_const c [] ty) (name_long c name) (name_starts c name)
    (λ n p r l g. name_gives s bound c (tm_const c [] ty) name (λ q. ap (λ v. plain_by v s c q) free ∙ constant_is s c [] ty q o) n p r g)

rest_close_brace : (r : Text) → Rest (codes "}" ++ r)
rest_close_brace r = record { ends = ends_sign 125 r refl refl; closed = λ q. rw at_close_brace refl }

rest_close_bracket : (r : Text) → Rest (codes "]" ++ r)
rest_close_bracket r = record { ends = ends_sign 93 r refl refl; closed = λ q. rw at_close_bracket refl }

-- a name with type arguments in braces
braced_gives : (s : Signature) (bound : List Ty) (c : Name) (t : Ty) (us : List Ty) (ty : Ty) → ReadsBack s → IsConstOver s c (t ∷ us) ty → (n p : ℕ) (r : Text)
    → length (with_commas (ty_text t ∷ tys_texts (tys us))) < n
    → Gives (atom_at s (term_at s n) n (scope bound) (tokens_from p (c ++ (codes "{" ++ (with_commas (ty_text t ∷ tys_texts (tys us)) ++ (codes "}" ++ r)))))) (tm_const c (t ∷ us) ty) r
unfolding atom_at braces_at
braced_gives s bound c t us ty b o n p r l =
    let name : is_name c ≡ true = b.constants_named c o.generic o.known in
    let args = with_commas (ty_text t ∷ tys_texts (tys us)) in
    let q = p + length c in
    let over : IsTyOver s t × AreTysOver s (tys us) = o.over in
    let a1 = length-append (ty_text t) (flat_map (λ y. codes "," ++ y) (tys_texts (tys us))) in
    let m : tys_count (tys us) < n = omega (arith, a1, commas_count (tys us)) in
    let c1 = list_reads s t (tys us) (reads_type s (has_names b) t over.0) (reads_types s (has_names b) (tys us) over.1) [] n n (q + 1) (codes "}" ++ r) l m (rest_close_brace r) (λ k. rw at_close_brace refl) in
    record {
      first = p;
      place = c1.place + 1;
      is = ap (atom_at s (term_at s n) n (scope bound)) (at_name p c (codes "{" ++ (args ++ (codes "}" ++ r))) name (ends_sign 123 (args ++ (codes "}" ++ r)) refl refl))
          ∙ ap (λ ts. name_by (head_kind ts) s n (scope bound) c p ts) (at_open_brace q (args ++ (codes "}" ++ r)))
          ∙ ap (λ x. (x >>= (λ args rest. expect_by (is_close_brace (head_kind rest)) args rest)) >>= (λ args rest. got (operand (constant s c p args) p) rest)) c1.is
          ∙ ap (λ ts. expect_by (is_close_brace (head_kind ts)) (given (t ∷ ty_list (tys us))) ts >>= (λ args rest. got (operand (constant s c p args) p) rest)) (at_close_brace c1.place r)
          ∙ ap (λ m. got (operand m p) (tokens_from (c1.place + 1) r)) (ap (λ vs. constant s c p (given (t ∷ vs))) (ty_list-tys us) ∙ constant_is s c (t ∷ us) ty p o);
    }

braced_constant : (s : Signature) (bound : List Ty) (c : Name) (t : Ty) (us : List Ty) (ty : Ty) → ReadsBack s → IsConstOver s c (t ∷ us) ty → ReadsTm s bound (tm_const c (t ∷ us) ty)
braced_constant s bound c t us ty b o =
    let name : is_name c ≡ true = b.constants_named c o.generic o.known in
    let args = with_commas (ty_text t ∷ tys_texts (tys us)) in
    let sum = length-append (c ++ codes "{" ++ args) (codes "}") in
    let more = length-append (c ++ codes "{") args in
    let brace = length-append c (codes "{") in
    atom_reads s bound (tm_const c (t ∷ us) ty) (omega (arith, sum, more, brace))
    (λ p r e. ap (λ x. begins_atom (head_kind (tokens_from p x))) (apart args r) ∙ name_starts c name p (codes "{" ++ (args ++ (codes "}" ++ r))) (ends_sign 123 (args ++ (codes "}" ++ r)) refl refl))
    (λ n p r l g. leads (ap (λ x. atom_at s (term_at s n) n (scope bound) (tokens_from p x)) (apart args r)) (braced_gives s bound c t us ty b o n p r (omega (arith, sum, more, brace))))
  where
    apart : (x r : Text) → (c ++ codes "{" ++ x ++ codes "}") ++ r ≡ c ++ (codes "{" ++ (x ++ (codes "}" ++ r)))
    apart x r = simp append_assoc

pub constant_reads : (s : Signature) (bound : List Ty) (c : Name) (ts : List Ty) (ty : Ty) → ReadsBack s → length bound < 2 ^ 64 → IsConstOver s c ts ty → ReadsTm s bound (tm_const c ts ty)
constant_reads s bound c [] ty b h o = plain_constant s bound c ty b h o
constant_reads s bound c (t ∷ us) ty b h o = braced_constant s bound c t us ty b o

-- ---- free variables

free_gives : (s : Signature) (bound : List Ty) (v : FreeVar) → ReadsBack s → is_name v.name ≡ true → IsTyOver s v.ty → (n p : ℕ) (r : Text) → length (ty_text v.ty) < n
    → Gives (atom_at s (term_at s n) n (scope bound) (tokens_from p (codes "[" ++ (v.name ++ (codes ":" ++ (ty_text v.ty ++ (codes "]" ++ r))))))) (tm_free v) r
unfolding atom_at typed_at
free_gives s bound v b name over n p r l =
    let end = ty_text v.ty ++ (codes "]" ++ r) in
    let q = (p + 1) + length v.name in
    let c1 = (reads_type s (has_names b) v.ty over).whole n (q + 1) (codes "]" ++ r) l (rest_close_bracket r) in
    record {
      first = p;
      place = c1.place + 1;
      is = ap (atom_at s (term_at s n) n (scope bound)) (at_open_bracket p (v.name ++ (codes ":" ++ end)) ∙ ap (λ ts. sign open_bracket p ∷ ts) (at_name (p + 1) v.name (codes ":" ++ end) name (ends_sign 58 end refl refl)
          ∙ ap (λ ts. token a_name v.name (p + 1) ∷ ts) (at_colon q end)))
          ∙ ap (λ x. x >>= (λ t rest. expect_by (is_close_bracket (head_kind rest)) (operand (free_of v.name t) p) rest)) c1.is
          ∙ ap (λ ts. expect_by (is_close_bracket (head_kind ts)) (operand (means (tm_free v)) p) ts) (at_close_bracket c1.place r);
    }

pub free_reads : (s : Signature) (bound : List Ty) (v : FreeVar) → ReadsBack s → is_name v.name ≡ true → IsTyOver s v.ty → ReadsTm s bound (tm_free v)
free_reads s bound v b name over =
    let sum = length-append (codes "[" ++ v.name ++ codes ":" ++ ty_text v.ty) (codes "]") in
    let more = length-append (codes "[" ++ v.name ++ codes ":") (ty_text v.ty) in
    atom_reads s bound (tm_free v) (omega (arith, sum, more))
    (λ p r e. ap (λ x. begins_atom (head_kind (tokens_from p x))) (apart v.name (ty_text v.ty) r) ∙ ap (λ ts. begins_atom (head_kind ts)) (at_open_bracket p (v.name ++ (codes ":" ++ (ty_text v.ty ++ (codes "]" ++ r))))))
    (λ n p r l g. leads (ap (λ x. atom_at s (term_at s n) n (scope bound) (tokens_from p x)) (apart v.name (ty_text v.ty) r)) (free_gives s bound v b name over n p r (omega (arith, sum, more))))
  where
    apart : (x y r : Text) → (codes "[" ++ x ++ codes ":" ++ y ++ codes "]") ++ r ≡ codes "[" ++ (x ++ (codes ":" ++ (y ++ (codes "]" ++ r))))
    apart x y r = simp append_assoc
