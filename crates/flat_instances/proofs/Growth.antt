-- Tables to which types were added.
use Rattle.std.proofs.Common.{◌≡◌, ◌⊎◌, inl, inr, ◌<◌, List, [], ◌∷◌, ◌++◌, length, refl, ap, sym, subst, ◌∙◌, arith, length-append}
use Rattle.std.proofs.lemmas.Option.{slice_get_within, get_or_from_slice_get}
use Rattle.std.proofs.Math.ListN.{get_or-append}
use Rattle.hol_terms.specs.Ty.{Ty, ty_var}
use Rattle.flat_terms.specs.declared.nodes.TypeId.{TypeId}
use Rattle.flat_terms.specs.Plain.{PlainTables, HasType, type_of, ty_at, IsTypeAdded}
use Rattle.flat_instances.specs.Types.{TypesGrow, IsTypeNumber}

pub types_grow_itself : (t : PlainTables) → TypesGrow t t
types_grow_itself t = record { names = refl; terms = refl; has = λ n h. h; same = λ n h. refl }

pub types_grow_further : (s t u : PlainTables) → TypesGrow s t → TypesGrow t u → TypesGrow s u
types_grow_further s t u g h = record { names = h.names ∙ g.names; terms = h.terms ∙ g.terms; has = λ n p. h.has n (g.has n p); same = λ n p. h.same n (g.has n p) ∙ g.same n p }

pub types_grow_added : (t u : PlainTables) (r : TypeId) (x : Ty) → IsTypeAdded t u r x → TypesGrow t u
types_grow_added t u r x a = record { names = a.names; terms = a.terms; has = has; same = same }
  where
    has : (n : TypeId) → HasType t n → HasType u n
    has n h = by a.types
      where
        by : (u.types ≡ t.types) ⊎ (u.types ≡ t.types ++ x ∷ []) → HasType u n
        by (inl e) = subst (λ (l : List Ty). n.0 < length l) (sym e) h
        by (inr e) = subst (λ (l : List Ty). n.0 < length l) (sym e) (omega (arith, length-append t.types (x ∷ []), h))

    same : (n : TypeId) → HasType t n → type_of u n ≡ type_of t n
    same n h = by a.types
      where
        by : (u.types ≡ t.types) ⊎ (u.types ≡ t.types ++ x ∷ []) → type_of u n ≡ type_of t n
        by (inl e) = ap (λ l. ty_at l n.0) e
        by (inr e) = ap (λ l. ty_at l n.0) e ∙ get_or-append t.types (x ∷ []) (ty_var []) n.0 h

pub type_number_added : (t u : PlainTables) (r : TypeId) (x : Ty) → IsTypeAdded t u r x → IsTypeNumber u r x
type_number_added t u r x a = record { has = slice_get_within u.types r.0 x a.at; tree = get_or_from_slice_get u.types r.0 x (ty_var []) a.at }

pub type_number_later : (t u : PlainTables) (r : TypeId) (x : Ty) → IsTypeNumber t r x → TypesGrow t u → IsTypeNumber u r x
type_number_later t u r x n g = record { has = g.has r n.has; tree = g.same r n.has ∙ n.tree }

pub type_number_is : (t : PlainTables) (r : TypeId) (x y : Ty) → IsTypeNumber t r x → x ≡ y → IsTypeNumber t r y
type_number_is t r x y n e = record { has = n.has; tree = n.tree ∙ e }
