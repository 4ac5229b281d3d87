-- The steps of a walk that takes a type's instance.
use Rattle.std.proofs.Common.{◌≡◌, ℕ, zero, suc, ◌+◌, ◌<◌, ◌≤◌, Bool, true, false, cond, List, [], ◌∷◌, ◌++◌, length, map, take, drop, get_or, max, Some, nat_eq, bytes_eq, refl, ap, sym, subst, ◌∙◌, arith, add-one, drop-cons, drop_of_length-le, take-suc, eq-eqb, true≢false}
use Rattle.std.proofs.lemmas.Bool.{eqb-true}
use Rattle.std.proofs.lemmas.List.{map-append}
use Rattle.std.proofs.lemmas.Slice.Eq.{bytes_eq-Decides}
use Rattle.hol_terms.specs.Name.{Name}
use Rattle.hol_terms.specs.Ty.{Ty, ty_var, ty_app, tys}
use Rattle.hol_terms.specs.Subst.{ty_lookup, ty_subst, tys_subst-tys}
use Rattle.flat_terms.specs.declared.nodes.NameId.{NameId}
use Rattle.flat_terms.specs.declared.nodes.TypeId.{TypeId}
use Rattle.flat_terms.specs.Plain.{PlainTables, HasName, HasType, HasTypes, name_of, name_at, type_of, types_of, IsTypeAdded}
use Rattle.flat_terms.specs.Trees.{Distinct}
use Rattle.flat_terms.specs.Views.{AreBelow}
use Rattle.flat_walks.specs.Number.{AreAll}
use Rattle.flat_walks.proofs.Memo.{all_weaker, found_all, noted_all}
use Rattle.flat_instances.specs.Types.{TypesGrow, IsTypeNumber, HasTypePairs, type_pairs, type_instance_of, IsTypeInstance, TakesTypes, AreTypeInstances, same_type_id, found_type, IsTypeNoted}
use Rattle.flat_instances.proofs.Growth.{types_grow_itself, types_grow_further, types_grow_added, type_number_added, type_number_later, type_number_is}

type_id_same : (a b : TypeId) → same_type_id a b ≡ true → a ≡ b
type_id_same a b e =
    let number : a.0 ≡ b.0 = eqb-true a.0 b.0 e in
    λ j. record { 0 = number j }

-- pairs in tables that grew
pub pairs_there : (s t : PlainTables) (ps : List (NameId × TypeId)) → TypesGrow s t → HasTypePairs s ps → HasTypePairs t ps
pairs_there s t [] g h = tt
pairs_there s t (p ∷ ps) g h = (subst (λ (ns : List Name). p.0.0 < length ns) (sym g.names) h.0, g.has p.1 h.1, pairs_there s t ps g h.2)

pub pairs_same : (s t : PlainTables) (ps : List (NameId × TypeId)) → TypesGrow s t → HasTypePairs s ps → type_pairs t ps ≡ type_pairs s ps
pairs_same s t [] g h = refl
pairs_same s t (p ∷ ps) g h = λ j. (name_at (g.names j) p.0.0, g.same p.1 h.1 j) ∷ pairs_same s t ps g h.2 j

pub instance_there : (s t : PlainTables) (ps : List (NameId × TypeId)) (n : TypeId) → TypesGrow s t → HasTypePairs s ps → HasType s n → type_instance_of t ps n ≡ type_instance_of s ps n
instance_there s t ps n g h hn = λ j. ty_subst (pairs_same s t ps g h j) (g.same n hn j)

pub type_memo_later : (s t : PlainTables) (ps : List (NameId × TypeId)) (es : List (TypeId × TypeId)) → TypesGrow s t → HasTypePairs s ps → AreAll (IsTypeInstance s ps) es → AreAll (IsTypeInstance t ps) es
type_memo_later s t ps es g h a = all_weaker (IsTypeInstance s ps) (IsTypeInstance t ps) es later a
  where
    later : (n r : TypeId) → IsTypeInstance s ps n r → IsTypeInstance t ps n r
    later n r i = record { has = g.has n i.has; number = type_number_is t r (type_instance_of s ps n) (type_instance_of t ps n) (type_number_later s t r (type_instance_of s ps n) i.number g) (sym (instance_there s t ps n g h i.has)) }

pub found_instance : (t : PlainTables) (ps : List (NameId × TypeId)) (es : List (TypeId × TypeId)) (n r : TypeId) → AreAll (IsTypeInstance t ps) es → found_type es n ≡ Some r → IsTypeNumber t r (type_instance_of t ps n)
found_instance t ps es n r a e = (found_all same_type_id type_id_same (IsTypeInstance t ps) es n r a e).number

pub takes_itself : (t : PlainTables) (ps : List (NameId × TypeId)) (es : List (TypeId × TypeId)) → AreAll (IsTypeInstance t ps) es → TakesTypes t t ps es
takes_itself t ps es a = record { grows = types_grow_itself t; memo = a }

pub takes_further : (s t u : PlainTables) (ps : List (NameId × TypeId)) (es fs : List (TypeId × TypeId)) → TakesTypes s t ps es → TakesTypes t u ps fs → TakesTypes s u ps fs
takes_further s t u ps es fs a b = record { grows = types_grow_further s t u a.grows b.grows; memo = b.memo }

pub takes_same : (s t u : PlainTables) (ps : List (NameId × TypeId)) (es : List (TypeId × TypeId)) → TakesTypes s t ps es → u ≡ t → TakesTypes s u ps es
takes_same s t u ps es a e = subst (λ (x : PlainTables). TakesTypes s x ps es) (sym e) a

-- a walk that ends with a new type and a note
pub takes_noted : (s t w : PlainTables) (ps : List (NameId × TypeId)) (n r : TypeId) (x : Ty) (es fs : List (TypeId × TypeId)) → HasTypePairs s ps → HasType s n → TakesTypes s t ps es → IsTypeAdded t w r x → x ≡ type_instance_of s ps n
    → IsTypeNoted es fs n r → TakesTypes s w ps fs × IsTypeNumber w r (type_instance_of s ps n)
takes_noted s t w ps n r x es fs hp hn o a e noted =
    (record { grows = all; memo = noted_all same_type_id type_id_same (IsTypeInstance w ps) es fs n r (type_memo_later t w ps es last (pairs_there s t ps o.grows hp) o.memo) right noted }, made)
  where
    last : TypesGrow t w
    last = types_grow_added t w r x a

    all : TypesGrow s w
    all = types_grow_further s t w o.grows last

    made : IsTypeNumber w r (type_instance_of s ps n)
    made = type_number_is w r x (type_instance_of s ps n) (type_number_added t w r x a) e

    right : IsTypeInstance w ps n r
    right = record { has = all.has n hn; number = type_number_is w r (type_instance_of s ps n) (type_instance_of w ps n) made (sym (instance_there s w ps n all hp hn)) }

-- instances of the types of numbers
pub spelled : (s : PlainTables) (ps : List (NameId × TypeId)) (ns : List TypeId) → map (type_instance_of s ps) ns ≡ map (ty_subst (type_pairs s ps)) (types_of s ns)
spelled s ps [] = refl
spelled s ps (n ∷ ns) = ap (λ ts. type_instance_of s ps n ∷ ts) (spelled s ps ns)

-- the instance of an application, by its arguments' instances
pub app_instance : (s t : PlainTables) (ps : List (NameId × TypeId)) (n : TypeId) (c : NameId) (args given made : List TypeId) → TypesGrow s t → type_of s n ≡ ty_app (name_of s c) (tys (types_of s args)) → given ≡ args → AreTypeInstances s t ps given made
    → ty_app (name_of t c) (tys (types_of t made)) ≡ type_instance_of s ps n
app_instance s t ps n c args given made g e same m =
    (λ j. ty_app (name_at (g.names j) c.0) (tys (trees j))) ∙ sym (ap (ty_subst (type_pairs s ps)) e ∙ ap (ty_app (name_of s c)) (tys_subst-tys (type_pairs s ps) (types_of s args)))
  where
    trees : types_of t made ≡ map (ty_subst (type_pairs s ps)) (types_of s args)
    trees = m.trees ∙ ap (map (type_instance_of s ps)) same ∙ spelled s ps args

-- arguments have lower numbers
pub below_types : (t : PlainTables) (n : ℕ) (args : List TypeId) → n < length t.types → AreBelow n args → HasTypes t args
below_types t n [] h b = tt
below_types t n (a ∷ args) h b = (omega (arith, h, b.0), below_types t n args h b.1)

-- one above the largest number
abbrev pub most : List TypeId → ℕ
most [] = 0
most (a ∷ args) = max (a.0 + 1) (most args)

pub most_below : (n : ℕ) (args : List TypeId) → AreBelow n args → most args ≤ n
most_below n [] b = omega arith
most_below n (a ∷ args) b = omega (arith, b.0, most_below n args b.1)

pub most_above : (args : List TypeId) (i : ℕ) (d : TypeId) → i < length args → (get_or args i d).0 < most args
most_above [] i d h = absurd (omega arith)
most_above (a ∷ args) zero d h = omega arith
most_above (a ∷ args) (suc i) d h = let k : i < length args = omega arith in omega (arith, most_above args i d k)

pub has_at : (t : PlainTables) (ns : List TypeId) (i : ℕ) (d : TypeId) → HasTypes t ns → i < length ns → HasType t (get_or ns i d)
has_at t [] i d h l = absurd (omega arith)
has_at t (n ∷ ns) zero d h l = h.0
has_at t (n ∷ ns) (suc i) d h l = let k : i < length ns = omega arith in has_at t ns i d h.1 k

pub types_there : (s t : PlainTables) (ns : List TypeId) → TypesGrow s t → HasTypes s ns → HasTypes t ns × (types_of t ns ≡ types_of s ns)
types_there s t [] g h = (tt, refl)
types_there s t (n ∷ ns) g h =
    let rest = types_there s t ns g h.1 in
    ((g.has n h.0, rest.0), λ j. g.same n h.0 j ∷ rest.1 j)

push_types : (t : PlainTables) (ns : List TypeId) (n : TypeId) → HasTypes t ns → HasType t n → HasTypes t (ns ++ n ∷ [])
push_types t [] n h l = (l, tt)
push_types t (m ∷ ns) n h l = (h.0, push_types t ns n h.1 l)

-- one more instance
pub instances_more : (s t u : PlainTables) (ps : List (NameId × TypeId)) (ns rs : List TypeId) (i : ℕ) (d r : TypeId) → TypesGrow s t → HasTypePairs s ps → TypesGrow t u → i < length ns → HasTypes s ns
    → AreTypeInstances s t ps (take i ns) rs → IsTypeNumber u r (type_instance_of t ps (get_or ns i d)) → AreTypeInstances s u ps (take (i + 1) ns) (rs ++ r ∷ [])
instances_more s t u ps ns rs i d r gs hp g l hn m n = record { has = push_types u rs r kept.0 n.has; trees = trees }
  where
    kept : HasTypes u rs × (types_of u rs ≡ types_of t rs)
    kept = types_there t u rs g m.has

    one : type_of u r ≡ type_instance_of s ps (get_or ns i d)
    one = n.tree ∙ instance_there s t ps (get_or ns i d) gs hp (has_at s ns i d hn l)

    trees : types_of u (rs ++ r ∷ []) ≡ map (type_instance_of s ps) (take (i + 1) ns)
    trees = map-append (type_of u) rs (r ∷ []) ∙ (λ j. (kept.1 ∙ m.trees) j ++ one j ∷ []) ∙ sym (map-append (type_instance_of s ps) (take i ns) (get_or ns i d ∷ [])) ∙ sym (ap (map (type_instance_of s ps)) (rw add-one (take-suc ns i d l)))

-- a name's number is that of its text
same_name : (t : PlainTables) (a b : NameId) → Distinct [] t.names → HasName t a → HasName t b → bytes_eq (name_of t a) (name_of t b) ≡ true → a.0 ≡ b.0
same_name t a b once ha hb e = once a.0 b.0 ha hb ((bytes_eq-Decides (name_of t a) (name_of t b)).0 e)

-- looking up, a pair at a time
pub lookup_here : (t : PlainTables) (ps : List (NameId × TypeId)) (n : Name) (i : ℕ) (d : NameId × TypeId) → i < length ps
    → ty_lookup (type_pairs t (drop i ps)) n ≡ cond (bytes_eq (name_of t (get_or ps i d).0) n) (type_of t (get_or ps i d).1) (ty_lookup (type_pairs t (drop (i + 1) ps)) n)
lookup_here t ps n i d h = rw (add-one, drop-cons ps i d h) refl

pub lookup_over : (t : PlainTables) (ps : List (NameId × TypeId)) (n : Name) (i : ℕ) → length ps ≤ i → ty_lookup (type_pairs t (drop i ps)) n ≡ ty_var n
lookup_over t ps n i h = rw (drop_of_length-le ps h) refl

pub pair_has : (t : PlainTables) (ps : List (NameId × TypeId)) (i : ℕ) (d : NameId × TypeId) → HasTypePairs t ps → i < length ps → HasName t (get_or ps i d).0 × HasType t (get_or ps i d).1
pair_has t [] i d h l = absurd (omega arith)
pair_has t (p ∷ ps) zero d h l = (h.0, h.1)
pair_has t (p ∷ ps) (suc i) d h l = let k : i < length ps = omega arith in pair_has t ps i d h.2 k

-- the pair has the name, or it hasn't
pub lookup_found : (t : PlainTables) (ps : List (NameId × TypeId)) (n : NameId) (i : ℕ) (d : NameId × TypeId) → i < length ps → nat_eq (get_or ps i d).0.0 n.0 ≡ true
    → ty_lookup (type_pairs t (drop i ps)) (name_of t n) ≡ type_of t (get_or ps i d).1
lookup_found t ps n i d h e =
    let rest : Ty = ty_lookup (type_pairs t (drop (i + 1) ps)) (name_of t n) in
    let number : (get_or ps i d).0.0 ≡ n.0 = eqb-true (get_or ps i d).0.0 n.0 e in
    lookup_here t ps (name_of t n) i d h ∙ ap (λ b. cond b (type_of t (get_or ps i d).1) rest) (ap (λ k. bytes_eq (name_at t.names k) (name_of t n)) number ∙ (bytes_eq-Decides (name_of t n) (name_of t n)).1 refl)

pub lookup_other : (t : PlainTables) (ps : List (NameId × TypeId)) (n : NameId) (i : ℕ) (d : NameId × TypeId) → i < length ps → Distinct [] t.names → HasName t (get_or ps i d).0 → HasName t n → nat_eq (get_or ps i d).0.0 n.0 ≡ false
    → ty_lookup (type_pairs t (drop i ps)) (name_of t n) ≡ ty_lookup (type_pairs t (drop (i + 1) ps)) (name_of t n)
lookup_other t ps n i d h once k w e = lookup_here t ps (name_of t n) i d h ∙ at (bytes_eq (name_of t (get_or ps i d).0) (name_of t n)) refl
  where
    rest : Ty
    rest = ty_lookup (type_pairs t (drop (i + 1) ps)) (name_of t n)

    at : (b : Bool) → bytes_eq (name_of t (get_or ps i d).0) (name_of t n) ≡ b → cond b (type_of t (get_or ps i d).1) rest ≡ rest
    at true s =
        let number : (get_or ps i d).0.0 ≡ n.0 = same_name t (get_or ps i d).0 n once k w s in
        absurd (true≢false (sym (eq-eqb (get_or ps i d).0.0 n.0 number) ∙ e))
    at false s = refl

pub name_there : (s t : PlainTables) (n : NameId) → TypesGrow s t → HasName s n → HasName t n
name_there s t n g h = subst (λ (ns : List Name). n.0 < length ns) (sym g.names) h

pub none_yet : (t : PlainTables) (ps : List (NameId × TypeId)) (ns rs : List TypeId) → rs ≡ [] → AreTypeInstances t t ps (take 0 ns) rs
none_yet t ps ns rs e = subst (λ (l : List TypeId). AreTypeInstances t t ps [] l) (sym e) (record { has = tt; trees = refl })
