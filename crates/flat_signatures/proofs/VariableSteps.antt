-- The steps of the walk that collects type variables.
use Rattle.std.proofs.Common.{◌≡◌, ℕ, ◌+◌, ◌<◌, ◌≤◌, Bool, true, false, ◌||◌, if◌then◌else◌, List, [], ◌∷◌, ◌++◌, length, drop, get_or, nat_eq, refl, ap, sym, ◌∙◌, true≢false, eq-eqb, add-one, drop-cons, drop_of_length-le}
use Rattle.std.specs.List.{list_any}
use Rattle.std.specs.Ordering.{is_eq}
use Rattle.std.proofs.lemmas.Bool.{eqb-true}
use Rattle.std.proofs.lemmas.List.{map-append}
use Rattle.indexmap.specs.IndexSet.{insert_key}
use Rattle.hol_terms.specs.Ty.{Ty, ty_var, tys}
use Rattle.hol_terms.specs.Subst.{ty_cmp}
use Rattle.hol_terms.specs.TyVars.{is_among, with_var, ty_vars, tys_vars}
use Rattle.hol_terms.specs.Rules.{same_ty}
use Rattle.hol_terms.proofs.Same.{same_ty-from}
use Rattle.hol_terms.proofs.Order.{is_eq-same, ty_cmp-same}
use Rattle.flat_terms.specs.declared.nodes.TypeId.{TypeId}
use Rattle.flat_terms.specs.Trees.{Distinct}
use Rattle.flat_terms.specs.Plain.{PlainTables, HasType, HasTypes, ty_at, type_of, types_of}

pub is_same : (u v : Ty) → u ≡ v → is_eq (ty_cmp u v) ≡ true
unfolding same_ty
is_same u v e = same_ty-from u v e

types_tell : (t : PlainTables) (m n : TypeId) → Distinct (ty_var []) t.types → HasType t m → HasType t n → is_eq (ty_cmp (type_of t m) (type_of t n)) ≡ nat_eq n.0 m.0
types_tell t m n once hm hn = at (nat_eq n.0 m.0) refl
  where
    other : (c : Bool) → is_eq (ty_cmp (type_of t m) (type_of t n)) ≡ c → nat_eq n.0 m.0 ≡ false → c ≡ false
    other true s e = absurd (true≢false (sym (eq-eqb n.0 m.0 (sym (once m.0 n.0 hm hn (ty_cmp-same (type_of t m) (type_of t n) (is_eq-same _ s))))) ∙ e))
    other false s e = refl

    at : (c : Bool) → nat_eq n.0 m.0 ≡ c → is_eq (ty_cmp (type_of t m) (type_of t n)) ≡ c
    at true e = let number : m.0 ≡ n.0 = sym (eqb-true n.0 m.0 e) in is_same (type_of t m) (type_of t n) (ap (ty_at t.types) number)
    at false e = other (is_eq (ty_cmp (type_of t m) (type_of t n))) refl e

pub among_is : (t : PlainTables) (ns : List TypeId) (n : TypeId) → Distinct (ty_var []) t.types → HasTypes t ns → HasType t n → is_among (type_of t n) (types_of t ns) ≡ list_any (λ m. nat_eq n.0 m.0) ns
among_is t [] n once h hn = refl
among_is t (m ∷ ns) n once h hn = λ j. types_tell t m n once h.0 hn j || among_is t ns n once h.1 hn j

-- a number that is put into a set is that of a variable among those seen
pub inserted_trees : (t : PlainTables) (ns : List TypeId) (n : TypeId) → Distinct (ty_var []) t.types → HasTypes t ns → HasType t n → types_of t (insert_key (λ a b. nat_eq a.0 b.0) ns n) ≡ with_var (type_of t n) (types_of t ns)
inserted_trees t ns n once h hn = at (list_any (λ m. nat_eq n.0 m.0) ns) ∙ ap (λ b. if b then types_of t ns else types_of t ns ++ type_of t n ∷ []) (sym (among_is t ns n once h hn))
  where
    at : (b : Bool) → types_of t (if b then ns else ns ++ n ∷ []) ≡ (if b then types_of t ns else types_of t ns ++ type_of t n ∷ [])
    at true = refl
    at false = map-append (type_of t) ns (n ∷ [])

pub types_pushed : (t : PlainTables) (ns : List TypeId) (n : TypeId) → HasTypes t ns → HasType t n → HasTypes t (ns ++ n ∷ [])
types_pushed t [] n h l = (l, tt)
types_pushed t (m ∷ ns) n h l = (h.0, types_pushed t ns n h.1 l)

pub inserted_has : (t : PlainTables) (ns : List TypeId) (n : TypeId) → HasTypes t ns → HasType t n → HasTypes t (insert_key (λ a b. nat_eq a.0 b.0) ns n)
inserted_has t ns n h hn = at (list_any (λ m. nat_eq n.0 m.0) ns)
  where
    at : (b : Bool) → HasTypes t (if b then ns else ns ++ n ∷ [])
    at true = h
    at false = types_pushed t ns n h hn

pub vars_at : (t : PlainTables) (ns : List TypeId) (seen : List Ty) (i : ℕ) (d : TypeId) → i < length ns → tys_vars (tys (types_of t (drop i ns))) seen ≡ tys_vars (tys (types_of t (drop (i + 1) ns))) (ty_vars (type_of t (get_or ns i d)) seen)
vars_at t ns seen i d h = rw (add-one, drop-cons ns i d h) refl

pub vars_end : (t : PlainTables) (ns : List TypeId) (seen : List Ty) (i : ℕ) → length ns ≤ i → tys_vars (tys (types_of t (drop i ns))) seen ≡ seen
vars_end t ns seen i h = ap (λ l. tys_vars (tys (types_of t l)) seen) (drop_of_length-le ns h)
