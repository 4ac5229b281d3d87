-- The trees that nodes stand for.
use Rattle.std.specs.Prelude.{◌≡◌, ◌⊎◌, slice_get, Some, ℕ, ◌<◌, List, [], ◌∷◌, ◌++◌, length, map, slice_index_or, String, string_bytes, Vec}
use Rattle.std.specs.declared.alloc.Global.{Global}
use Rattle.hol_terms.specs.Name.{Name}
use Rattle.hol_terms.specs.Ty.{Ty, ty_var, ty_app, tys}
use Rattle.hol_terms.specs.Tm.{Tm, tm_index, tm_free, tm_const, tm_comb, tm_abs}
use Rattle.hol_terms.specs.Typing.{tm_type}
use Rattle.hol_terms.specs.Takes.{Takes}
use Rattle.flat_terms.specs.Plain.{PlainTables, name_at, ty_at, tm_at}
use Rattle.flat_terms.specs.declared.nodes.TypeId.{TypeId}
use Rattle.flat_terms.specs.declared.nodes.TypeNode.{TypeNode}
use Rattle.flat_terms.specs.declared.nodes.TypeNode.TheVariants.{Var, App}
use Rattle.flat_terms.specs.declared.nodes.TermNode.{TermNode}
use Rattle.flat_terms.specs.declared.nodes.TermNode.TheVariants.{Index, Free, Const, Comb, Abs}

-- the stored names as bytes, and the stored lists of types as numbers
abbrev pub names_of : List (String Global) → List Name
names_of = map string_bytes

abbrev pub numbers : List TypeId → List ℕ
numbers = map (λ t. t.0)

abbrev pub lists_of : List (Vec TypeId Global) → List (List ℕ)
lists_of = map (λ v. numbers v.items)

abbrev pub list_at : List (List ℕ) → ℕ → List ℕ
list_at lists i = slice_index_or lists i []

module _ {N T : Type 0} (tree : List T → N → T) where
  -- the trees of nodes, each made over those before it
  abbrev pub trees : List T → List N → List T
  trees done [] = done
  trees done (n ∷ ns) = trees (done ++ tree done n ∷ []) ns

  -- each node fits the trees before it
  abbrev pub AllFit : (List T → N → Type 0) → List T → List N → Type 0
  AllFit Fits done [] = Unit {0}
  AllFit Fits done (n ∷ ns) = Fits done n × AllFit Fits (done ++ tree done n ∷ []) ns

-- each number is below n
abbrev pub AllBelow : ℕ → List ℕ → Type 0
AllBelow n [] = Unit {0}
AllBelow n (i ∷ is) = (i < n) × AllBelow n is

-- no two entries are the same
abbrev pub Distinct : {A : Type 0} → A → List A → Type 0
Distinct d xs = (i j : ℕ) → i < length xs → j < length xs → slice_index_or xs i d ≡ slice_index_or xs j d → i ≡ j

-- the type that a node names
abbrev pub own_type : TermNode → TypeId
own_type (Index i t) = t
own_type (Free n t) = t
own_type (Const n l t) = t
own_type (Comb f x t) = t
own_type (Abs a b t) = t

-- x is not in the list
abbrev pub Fresh : {A : Type 0} → List A → A → Type 0
Fresh xs x = (i : ℕ) → slice_get xs i ≡ Some x → ⊥

-- x stands at the place, and is the last entry if it is new
pub record Interned {A : Type 0} (old new : List A) (i : ℕ) (x : A) : Type 0 where
  pub at : slice_get new i ≡ Some x
  pub how : (new ≡ old) ⊎ ((new ≡ old ++ x ∷ []) × Fresh old x)

module _ (names : List Name) (lists : List (List ℕ)) where
  -- the type of a node, over the types before it
  abbrev pub ty_of : List Ty → TypeNode → Ty
  ty_of types (Var n) = ty_var (name_at names n.0)
  ty_of types (App n l) = ty_app (name_at names n.0) (tys (map (ty_at types) (list_at lists l.0)))

  abbrev pub FitsType : List Ty → TypeNode → Type 0
  FitsType types (Var n) = n.0 < length names
  FitsType types (App n l) = (n.0 < length names) × (l.0 < length lists) × AllBelow (length types) (list_at lists l.0)

  abbrev pub types_of : List TypeNode → List Ty
  types_of nodes = trees ty_of [] nodes

  -- the term of a node, over all types and the terms before it
  abbrev pub tm_of : List Ty → List Tm → TermNode → Tm
  tm_of types terms (Index i t) = tm_index i (ty_at types t.0)
  tm_of types terms (Free n t) = tm_free (record { name = name_at names n.0; ty = ty_at types t.0 })
  tm_of types terms (Const n l t) = tm_const (name_at names n.0) (map (ty_at types) (list_at lists l.0)) (ty_at types t.0)
  tm_of types terms (Comb f x t) = tm_comb (tm_at terms f.0) (tm_at terms x.0)
  tm_of types terms (Abs a b t) = tm_abs (ty_at types a.0) (tm_at terms b.0)

  -- the numbers in a node are given, and a function takes its argument
  abbrev pub HasParts : List Ty → List Tm → TermNode → Type 0
  HasParts types terms (Index i t) = Unit {0}
  HasParts types terms (Free n t) = n.0 < length names
  HasParts types terms (Const n l t) = (n.0 < length names) × (l.0 < length lists) × AllBelow (length types) (list_at lists l.0)
  HasParts types terms (Comb f x t) = (f.0 < length terms) × (x.0 < length terms) × Takes (tm_at terms f.0) (tm_at terms x.0)
  HasParts types terms (Abs a b t) = (a.0 < length types) × (b.0 < length terms)

  -- and the type that it names is the type of its term
  pub record FitsTerm (types : List Ty) (terms : List Tm) (n : TermNode) : Type 0 where
    pub parts : HasParts types terms n
    pub has_type : (own_type n).0 < length types
    pub typed : ty_at types (own_type n).0 ≡ tm_type (tm_of types terms n)

  abbrev pub terms_of : List Ty → List TermNode → List Tm
  terms_of types nodes = trees (tm_of types) [] nodes

  abbrev pub plain_tables : List TypeNode → List TermNode → PlainTables
  plain_tables nodes tops = record { names = names; types = types_of nodes; terms = terms_of (types_of nodes) tops }

  -- each node fits those before it, and no two entries are the same
  pub record IsTables (nodes : List TypeNode) (tops : List TermNode) : Type 0 where
    pub names_once : Distinct [] names
    pub lists_once : Distinct [] lists
    pub types_fit : AllFit ty_of FitsType [] nodes
    pub types_once : Distinct (ty_var []) (types_of nodes)
    pub terms_fit : AllFit (tm_of (types_of nodes)) (FitsTerm (types_of nodes)) [] tops
    pub terms_once : Distinct (tm_index 0 (ty_var [])) (terms_of (types_of nodes) tops)
