-- Types with types in place of their type variables, over the tables.
use Rattle.std.specs.Prelude.{◌≡◌, ◌⊎◌, Bool, List, [], ◌∷◌, Option, map, nat_eq}
use Rattle.std.specs.Map.{lookup}
use Rattle.indexmap.specs.IndexMap.{insert_entry}
use Rattle.hol_terms.specs.Ty.{Ty}
use Rattle.hol_terms.specs.Subst.{TySubst, ty_subst}
use Rattle.flat_terms.specs.Plain.{PlainTables, HasName, HasType, HasTypes, name_of, type_of, types_of}
use Rattle.flat_terms.specs.declared.nodes.NameId.{NameId}
use Rattle.flat_terms.specs.declared.nodes.TypeId.{TypeId}
use Rattle.flat_walks.specs.Number.{AreAll}

-- only types were added
pub record TypesGrow (old new : PlainTables) : Type 0 where
  pub names : new.names ≡ old.names
  pub terms : new.terms ≡ old.terms
  pub has : (n : TypeId) → HasType old n → HasType new n
  pub same : (n : TypeId) → HasType old n → type_of new n ≡ type_of old n

-- r is the number of the type x
pub record IsTypeNumber (t : PlainTables) (r : TypeId) (x : Ty) : Type 0 where
  pub has : HasType t r
  pub tree : type_of t r ≡ x

-- pairs of a type variable's name and a type
abbrev pub HasTypePairs : PlainTables → List (NameId × TypeId) → Type 0
HasTypePairs t [] = Unit {0}
HasTypePairs t (p ∷ ps) = HasName t p.0 × HasType t p.1 × HasTypePairs t ps

abbrev pub type_pairs : PlainTables → List (NameId × TypeId) → TySubst
type_pairs t [] = []
type_pairs t (p ∷ ps) = (name_of t p.0, type_of t p.1) ∷ type_pairs t ps

-- the type n with the pairs' types for their variables
abbrev pub type_instance_of : PlainTables → List (NameId × TypeId) → TypeId → Ty
type_instance_of t ps n = ty_subst (type_pairs t ps) (type_of t n)

-- what was noted of a type is right
pub record IsTypeInstance (t : PlainTables) (ps : List (NameId × TypeId)) (n r : TypeId) : Type 0 where
  pub has : HasType t n
  pub number : IsTypeNumber t r (type_instance_of t ps n)

-- the tables grew, and what is noted is right
pub record TakesTypes (old new : PlainTables) (ps : List (NameId × TypeId)) (es : List (TypeId × TypeId)) : Type 0 where
  pub grows : TypesGrow old new
  pub memo : AreAll (IsTypeInstance new ps) es

-- the types rs are the instances of the types ns
pub record AreTypeInstances (old new : PlainTables) (ps : List (NameId × TypeId)) (ns rs : List TypeId) : Type 0 where
  pub has : HasTypes new rs
  pub trees : types_of new rs ≡ map (type_instance_of old ps) ns

abbrev pub same_type_id : TypeId → TypeId → Bool
same_type_id a b = nat_eq a.0 b.0

-- what is noted of a type
abbrev pub found_type : List (TypeId × TypeId) → TypeId → Option TypeId
found_type es n = lookup (λ k. same_type_id n k) es

-- the list stays, or has the type n with r
abbrev pub IsTypeNoted : List (TypeId × TypeId) → List (TypeId × TypeId) → TypeId → TypeId → Type 0
IsTypeNoted old new n r = (new ≡ old) ⊎ (new ≡ insert_entry same_type_id old n r)
