-- The steps of the walk that tells whether a type is well formed.
use Rattle.std.proofs.Common.{◌≡◌, inl, inr, ℕ, suc, ◌+◌, ◌<◌, ◌≤◌, Bool, true, false, ◌||◌, ◌&&◌, if◌then◌else◌, List, [], ◌∷◌, ◌++◌, length, drop, get_or, nat_eq, refl, ap, sym, subst, ◌∙◌, true≢false, add-one, drop-cons, drop_of_length-le}
use Rattle.std.specs.List.{list_any}
use Rattle.std.proofs.lemmas.Bool.{eqb-true}
use Rattle.hol_terms.specs.Name.{Name, is_segment}
use Rattle.hol_terms.specs.Ty.{ty_var, ty_app, tys}
use Rattle.hol_terms.specs.Signature.{Signature, tys_count}
use Rattle.strict_reading.specs.Types.{has_arity}
use Rattle.strict_reading.specs.Terms.{is_type_over, are_types_over}
use Rattle.flat_terms.specs.declared.nodes.TypeId.{TypeId}
use Rattle.flat_terms.specs.declared.nodes.NameId.{NameId}
use Rattle.flat_terms.specs.Plain.{PlainTables, name_of, type_of, types_of}
use Rattle.flat_signatures.specs.FlatNames.{FlatNames, plain_signature}
use Rattle.flat_signatures.specs.Over.{AllOver, IsTypeAdded}

-- a type that is known
pub listed_over : (t : PlainTables) (s : FlatNames) (ns : List TypeId) (n : TypeId) → AllOver t s ns → list_any (λ m. nat_eq n.0 m.0) ns ≡ true → is_type_over (plain_signature t s) (type_of t n) ≡ true
listed_over t s [] n l e = absurd (true≢false (sym e))
listed_over t s (m ∷ ns) n l e = at (nat_eq n.0 m.0) refl (listed_over t s ns n l.1) e
  where
    at : (b : Bool) → nat_eq n.0 m.0 ≡ b → (list_any (λ k. nat_eq n.0 k.0) ns ≡ true → is_type_over (plain_signature t s) (type_of t n) ≡ true) → (b || list_any (λ k. nat_eq n.0 k.0) ns) ≡ true → is_type_over (plain_signature t s) (type_of t n) ≡ true
    at true e later h =
        let same : n.0 ≡ m.0 = eqb-true n.0 m.0 e in
        subst (λ (k : ℕ). is_type_over (plain_signature t s) (type_of t (record { 0 = k })) ≡ true) (sym same) l.0
    at false e later h = later h

push_over : (t : PlainTables) (s : FlatNames) (ns : List TypeId) (n : TypeId) → AllOver t s ns → is_type_over (plain_signature t s) (type_of t n) ≡ true → AllOver t s (ns ++ n ∷ [])
push_over t s [] n l e = (e, tt)
push_over t s (m ∷ ns) n l e = (l.0, push_over t s ns n l.1 e)

pub added_over : (t : PlainTables) (s : FlatNames) (old new : List TypeId) (n : TypeId) → AllOver t s old → is_type_over (plain_signature t s) (type_of t n) ≡ true → IsTypeAdded old new n → AllOver t s new
added_over t s old new n l e (inl q) = subst (λ (ns : List TypeId). AllOver t s ns) (sym q) l
added_over t s old new n l e (inr q) = subst (λ (ns : List TypeId). AllOver t s ns) (sym q) (at (list_any (λ m. nat_eq n.0 m.0) old))
  where
    at : (b : Bool) → AllOver t s (if b then old else old ++ n ∷ [])
    at true = l
    at false = push_over t s old n l e

pub count_types : (t : PlainTables) (ns : List TypeId) → tys_count (tys (types_of t ns)) ≡ length ns
count_types t [] = refl
count_types t (n ∷ ns) = ap suc (count_types t ns)

-- an application, by its name and its arguments
pub app_over : (t : PlainTables) (s : FlatNames) (n : TypeId) (c : NameId) (args : List TypeId) (k : ℕ) (b d : Bool) → type_of t n ≡ ty_app (name_of t c) (tys (types_of t args)) → k ≡ length args → has_arity (plain_signature t s) (name_of t c) k ≡ b
    → are_types_over (plain_signature t s) (tys (types_of t args)) ≡ d → is_type_over (plain_signature t s) (type_of t n) ≡ (b && d)
app_over t s n c args k b d e count arity over =
    ap (is_type_over (plain_signature t s)) e ∙ (λ j. has_arity (plain_signature t s) (name_of t c) ((count_types t args ∙ sym count) j) && over j) ∙ (λ j. arity j && d)

pub variable_over : (t : PlainTables) (s : FlatNames) (n : TypeId) (c : NameId) (x : Name) (r : Bool) → type_of t n ≡ ty_var (name_of t c) → x ≡ name_of t c → r ≡ is_segment x → r ≡ is_type_over (plain_signature t s) (type_of t n)
variable_over t s n c x r e text is = is ∙ ap is_segment text ∙ sym (ap (is_type_over (plain_signature t s)) e)

-- several types, one at a time
pub over_at : (t : PlainTables) (s : Signature) (ns : List TypeId) (i : ℕ) (d : TypeId) → i < length ns
    → are_types_over s (tys (types_of t (drop i ns))) ≡ (is_type_over s (type_of t (get_or ns i d)) && are_types_over s (tys (types_of t (drop (i + 1) ns))))
over_at t s ns i d h = rw (add-one, drop-cons ns i d h) refl

pub over_end : (t : PlainTables) (s : Signature) (ns : List TypeId) (i : ℕ) → length ns ≤ i → are_types_over s (tys (types_of t (drop i ns))) ≡ true
over_end t s ns i h = ap (λ l. are_types_over s (tys (types_of t l))) (drop_of_length-le ns h)
