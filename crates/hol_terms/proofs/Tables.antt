-- Tables by name: looking up, and one entry more.
use Rattle.std.proofs.Common.{◌≡◌, Bool, true, false, List, [], ◌∷◌, ◌++◌, Option, Some, None, is_none, ◌&&◌, cond, eq-eqb, Bor, refl, ap, sym, ◌∙◌, bytes_eq, String, string_bytes}
use Rattle.std.specs.declared.alloc.Global.{Global}
use Rattle.std.specs.Map.{lookup}
use Rattle.std.specs.Option.{option_copied}
use Rattle.std.specs.String.{string_eq}
use Rattle.std.proofs.lemmas.Slice.Eq.{bytes_eq-Decides}
use Rattle.std.specs.Cmp.Lexicographic.{nat_list_eq_equiv}
use Rattle.indexmap.specs.IndexMap.{insert_entry}
use Rattle.hol_terms.specs.Name.{Name, dot_abs, dot_rep}
use Rattle.hol_terms.specs.Tm.{Tm}
use Rattle.hol_terms.specs.Signature.{Signature, entry_at, arity_of, generic_of, is_new}
use Rattle.hol_terms.specs.Definition.{type_def}
use Rattle.hol_terms.specs.Table.{named, introduces_new}

pub same_bytes : (n : Name) → bytes_eq n n ≡ true
same_bytes n = (bytes_eq-Decides n n).1 refl

pub bytes_eq-swap : (m n : Name) → bytes_eq m n ≡ bytes_eq n m
bytes_eq-swap m n = nat_list_eq_equiv.symm m n

pub lookup-named : {A : Type 0} (es : List (String Global × A)) (n : Name) → lookup (λ k. bytes_eq n (string_bytes k)) es ≡ entry_at (named es) n
lookup-named [] n = refl
lookup-named (e ∷ es) n = rw (bytes_eq-swap n (string_bytes e.0), lookup-named es n) refl

present : {A : Type 0} (x : A) (r : Option A) → Some x ≡ None → ⊥
present x r e = cc

pub insert-named : {A : Type 0} (es : List (String Global × A)) (k : String Global) (x : A) → entry_at (named es) (string_bytes k) ≡ None → named (insert_entry string_eq es k x) ≡ named es ++ (string_bytes k, x) ∷ []
insert-named [] k x e = refl
insert-named {A} (p ∷ es) k x e = at (string_eq k p.0) (bytes_eq-swap (string_bytes p.0) (string_bytes k)) (insert-named es k x) e
  where
    at : (b : Bool) → bytes_eq (string_bytes p.0) (string_bytes k) ≡ b → (entry_at (named es) (string_bytes k) ≡ None → named (insert_entry string_eq es k x) ≡ named es ++ (string_bytes k, x) ∷ [])
        → cond (bytes_eq (string_bytes p.0) (string_bytes k)) (Some p.1) (entry_at (named es) (string_bytes k)) ≡ None
        → named (cond b ((p.0, x) ∷ es) (p ∷ insert_entry string_eq es k x)) ≡ (string_bytes p.0, p.1) ∷ (named es ++ (string_bytes k, x) ∷ [])
    at true s f h = absurd (present p.1 (entry_at (named es) (string_bytes k)) (sym (ap (λ c. cond c (Some p.1) (entry_at (named es) (string_bytes k))) s) ∙ h))
    at false s f h = ap (λ r. (string_bytes p.0, p.1) ∷ r) (f (sym (ap (λ c. cond c (Some p.1) (entry_at (named es) (string_bytes k))) s) ∙ h))

pub ruleset table_lemmas = (lookup-named, insert-named)

pub none_is : {A : Type 0} (r : Option A) → is_none r ≡ true → r ≡ None
none_is None e = refl
none_is (Some x) e = cc

pub and_left : (a b : Bool) → (a && b) ≡ true → a ≡ true
and_left true b e = refl
and_left false b e = cc

pub and_right : (a b : Bool) → (a && b) ≡ true → b ≡ true
and_right true b e = e
and_right false b e = cc

pub new_type_name : (s : Signature) (n : Name) → is_new s n ≡ true → arity_of s n ≡ None
new_type_name s n e = none_is _ (and_left _ _ e)

pub new_const_name : (s : Signature) (n : Name) → is_new s n ≡ true → generic_of s n ≡ None
new_const_name s n e = none_is _ (and_right _ _ e)

pub entry_at-push : {A : Type 0} (es : List (Name × A)) (n k : Name) (x : A) → bytes_eq k n ≡ false → entry_at es n ≡ None → entry_at (es ++ (k, x) ∷ []) n ≡ None
entry_at-push [] n k x f e = rw f refl
entry_at-push (p ∷ es) n k x f e = at (bytes_eq p.0 n) (entry_at-push es n k x f) e
  where
    at : (b : Bool) → (entry_at es n ≡ None → entry_at (es ++ (k, x) ∷ []) n ≡ None) → cond b (Some p.1) (entry_at es n) ≡ None → cond b (Some p.1) (entry_at (es ++ (k, x) ∷ []) n) ≡ None
    at true r h = cc
    at false r h = r h

pub abs_is_not_rep : (n : Name) → bytes_eq (dot_abs n) (dot_rep n) ≡ false
abs_is_not_rep [] = refl
abs_is_not_rep (b ∷ n) = rw (eq-eqb b b refl, abs_is_not_rep n) refl

pub ruleset added_lemmas = (lookup-named, insert-named, new_type_name, new_const_name)

-- the three names of a new type
pub record NewNames (s : Signature) (n : Name) : Type 0 where
  pub type_name : arity_of s n ≡ None
  pub abs_name : generic_of s (dot_abs n) ≡ None
  pub rep_name : generic_of s (dot_rep n) ≡ None

pub new_names : (s : Signature) (n : Name) (p : Tm) → introduces_new s (type_def n p) ≡ true → NewNames s n
new_names s n p e =
    let two = and_left _ _ e in
    record {
      type_name = new_type_name s n (and_left _ _ two);
      abs_name = new_const_name s (dot_abs n) (and_right _ _ two);
      rep_name = new_const_name s (dot_rep n) (and_right _ _ e);
    }

pub ruleset push_lemmas = (entry_at-push)

pub is_none-copied : {A : Type 0} (r : Option (Bor A)) → is_none (option_copied r) ≡ is_none r
is_none-copied None = refl
is_none-copied (Some x) = refl

pub ruleset new_lemmas = (is_none-copied)
