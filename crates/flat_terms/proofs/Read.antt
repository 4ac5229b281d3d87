-- What is read of the tables.
use Rattle.std.proofs.Common.{◌≡◌, ℕ, ◌+◌, ◌<◌, List, [], ◌∷◌, length, map, Some, slice_get, get_or, Vec, refl, ap, sym, subst, ◌∙◌, zero-add}
use Rattle.std.proofs.lemmas.List.{length-map}
use Rattle.std.proofs.lemmas.Option.{get_or_from_slice_get}
use Rattle.hol_terms.specs.Name.{Name}
use Rattle.std.specs.declared.alloc.Global.{Global}
use Rattle.hol_terms.specs.Ty.{Ty, ty_var, ty_app, tys}
use Rattle.hol_terms.specs.Tm.{Tm, tm_index, tm_const, tm_comb, tm_abs}
use Rattle.hol_terms.specs.Typing.{tm_type}
use Rattle.hol_terms.specs.Takes.{Takes}
use Rattle.flat_terms.specs.declared.nodes.NameId.{NameId}
use Rattle.flat_terms.specs.declared.nodes.TypeId.{TypeId}
use Rattle.flat_terms.specs.declared.nodes.TermId.{TermId}
use Rattle.flat_terms.specs.declared.nodes.ListId.{ListId}
use Rattle.flat_terms.specs.declared.nodes.TypeNode.{TypeNode}
use Rattle.flat_terms.specs.declared.nodes.TypeNode.TheVariants.{App}
use Rattle.flat_terms.specs.declared.nodes.TermNode.{TermNode}
use Rattle.flat_terms.specs.declared.nodes.TermNode.TheVariants.{Const, Comb, Abs}
use Rattle.flat_terms.specs.Plain.{PlainTables, HasTypes, name_of, type_of, types_of, ty_at, tm_at}
use Rattle.flat_terms.specs.Trees.{numbers, lists_of, list_at, AllBelow, own_type, ty_of, FitsType, types_of as trees_of_types, tm_of, FitsTerm, terms_of, plain_tables, IsTables}
use Rattle.flat_terms.specs.Views.{AreBelow}
use Rattle.flat_terms.proofs.Spots.{extends_itself}
use Rattle.flat_terms.proofs.Built.{node_at, node_before, length-trees}
use Rattle.flat_terms.proofs.Parts.{type_grown, term_grown}

-- a stored node of a type fits the types before it, and gives the type at its number
pub record TypeRead (old : PlainTables) (lists : List (List ℕ)) (i : ℕ) (n : TypeNode) : Type 0 where
  pub before : List Ty
  pub count : length before ≡ i
  pub below : FitsType old.names lists before n
  pub fits : FitsType old.names lists old.types n
  pub tree : ty_at old.types i ≡ ty_of old.names lists old.types n

pub type_read : (old : PlainTables) (names : List Name) (lists : List (List ℕ)) (nodes : List TypeNode) (tops : List TermNode) (i : ℕ) (n : TypeNode) → plain_tables names lists nodes tops ≡ old → IsTables names lists nodes tops
    → slice_get nodes i ≡ Some n → TypeRead old lists i n
type_read old names lists nodes tops i n e t at = subst (λ (o : PlainTables). TypeRead o lists i n) e over
  where
    types : List Ty
    types = trees_of_types names lists nodes

    found : FitsType names lists types n × (get_or types (0 + i) (ty_var []) ≡ ty_of names lists types n)
    found = node_at (ty_var []) (ty_of names lists) (FitsType names lists) (λ xs ys m f more. type_grown names names lists lists (extends_itself [] names) (extends_itself [] lists) xs ys m f more) [] nodes t.types_fit i n at

    early : (xs : List Ty) × (length xs ≡ 0 + i) × FitsType names lists xs n
    early = node_before (ty_var []) (ty_of names lists) (FitsType names lists) [] nodes t.types_fit i n at

    over : TypeRead (plain_tables names lists nodes tops) lists i n
    over = record { before = early.0; count = early.1 ∙ zero-add i; below = early.2; fits = found.0; tree = ap (λ k. ty_at types k) (sym (zero-add i)) ∙ found.1 }

pub record TermRead (old : PlainTables) (lists : List (List ℕ)) (i : ℕ) (n : TermNode) : Type 0 where
  pub before : List Tm
  pub count : length before ≡ i
  pub below : FitsTerm old.names lists old.types before n
  pub fits : FitsTerm old.names lists old.types old.terms n
  pub tree : tm_at old.terms i ≡ tm_of old.names lists old.types old.terms n

pub term_read : (old : PlainTables) (names : List Name) (lists : List (List ℕ)) (nodes : List TypeNode) (tops : List TermNode) (i : ℕ) (n : TermNode) → plain_tables names lists nodes tops ≡ old → IsTables names lists nodes tops
    → slice_get tops i ≡ Some n → TermRead old lists i n
term_read old names lists nodes tops i n e t at = subst (λ (o : PlainTables). TermRead o lists i n) e over
  where
    types : List Ty
    types = trees_of_types names lists nodes

    terms : List Tm
    terms = terms_of names lists types tops

    found : FitsTerm names lists types terms n × (get_or terms (0 + i) (tm_index 0 (ty_var [])) ≡ tm_of names lists types terms n)
    found = node_at (tm_index 0 (ty_var [])) (tm_of names lists types) (FitsTerm names lists types) (λ xs ys m f more. term_grown names names lists lists (extends_itself [] names) (extends_itself [] lists) types types (extends_itself (ty_var []) types) xs ys m f more) [] tops t.terms_fit i n at

    early : (xs : List Tm) × (length xs ≡ 0 + i) × FitsTerm names lists types xs n
    early = node_before (tm_index 0 (ty_var [])) (tm_of names lists types) (FitsTerm names lists types) [] tops t.terms_fit i n at

    over : TermRead (plain_tables names lists nodes tops) lists i n
    over = record { before = early.0; count = early.1 ∙ zero-add i; below = early.2; fits = found.0; tree = ap (λ k. tm_at terms k) (sym (zero-add i)) ∙ found.1 }

-- the type that a term's node names
pub read_type : (old : PlainTables) (lists : List (List ℕ)) (i : ℕ) (n : TermNode) → TermRead old lists i n → ty_at old.types (own_type n).0 ≡ tm_type (tm_at old.terms i)
read_type old lists i n r = r.fits.typed ∙ ap tm_type (sym r.tree)

-- the tables' lengths are those of the stored nodes
pub type_count : (old : PlainTables) (names : List Name) (lists : List (List ℕ)) (nodes : List TypeNode) (tops : List TermNode) → plain_tables names lists nodes tops ≡ old → IsTables names lists nodes tops → length old.types ≡ length nodes
type_count old names lists nodes tops e t = ap (λ (o : PlainTables). length o.types) (sym e) ∙ length-trees (ty_var []) (ty_of names lists) (FitsType names lists) [] nodes ∙ zero-add (length nodes)

pub term_count : (old : PlainTables) (names : List Name) (lists : List (List ℕ)) (nodes : List TypeNode) (tops : List TermNode) → plain_tables names lists nodes tops ≡ old → IsTables names lists nodes tops → length old.terms ≡ length tops
term_count old names lists nodes tops e t =
    let types : List Ty = trees_of_types names lists nodes in
    ap (λ (o : PlainTables). length o.terms) (sym e) ∙ length-trees (tm_index 0 (ty_var [])) (tm_of names lists types) (FitsTerm names lists types) [] tops ∙ zero-add (length tops)

-- a list of types in both spellings
pub below_read : (n : ℕ) (args : List TypeId) → AllBelow n (numbers args) → AreBelow n args
below_read n [] b = tt
below_read n (a ∷ args) b = (b.0, below_read n args b.1)

pub has_read : (t : PlainTables) (args : List TypeId) → AllBelow (length t.types) (numbers args) → HasTypes t args
has_read t [] b = tt
has_read t (a ∷ args) b = (b.0, has_read t args b.1)

pub types_spelled : (t : PlainTables) (args : List TypeId) → map (ty_at t.types) (numbers args) ≡ types_of t args
types_spelled t [] = refl
types_spelled t (a ∷ args) = ap (λ ts. type_of t a ∷ ts) (types_spelled t args)

-- a stored list of types, by the items that were read
module _ (lists : List (List ℕ)) (l : ListId) (items : List TypeId) (at : slice_get lists l.0 ≡ Some (numbers items)) where
  items_below : (n : ℕ) → AllBelow n (list_at lists l.0) → AllBelow n (numbers items)
  items_below n b = subst (λ (is : List ℕ). AllBelow n is) (get_or_from_slice_get lists l.0 (numbers items) [] at) b

  items_types : (t : PlainTables) → map (ty_at t.types) (list_at lists l.0) ≡ types_of t items
  items_types t = ap (map (ty_at t.types)) (get_or_from_slice_get lists l.0 (numbers items) [] at) ∙ types_spelled t items

  pub app_view : (old : PlainTables) (i : ℕ) (n : NameId) → TypeRead old lists i (App n l)
      → (n.0 < length old.names) × AreBelow i items × (ty_at old.types i ≡ ty_app (name_of old n) (tys (types_of old items)))
  app_view old i n r = (
    r.fits.0,
    subst (λ (k : ℕ). AreBelow k items) r.count (below_read (length r.before) items (items_below (length r.before) r.below.2)),
    r.tree ∙ ap (λ ts. ty_app (name_of old n) (tys ts)) (items_types old),
  )

  pub const_view : (old : PlainTables) (i : ℕ) (n : NameId) (t : TypeId) → TermRead old lists i (Const n l t)
      → (n.0 < length old.names) × HasTypes old items × (t.0 < length old.types) × (tm_at old.terms i ≡ tm_const (name_of old n) (types_of old items) (type_of old t))
  const_view old i n t r = (
    r.fits.parts.0,
    has_read old items (items_below (length old.types) r.fits.parts.2),
    r.fits.has_type,
    r.tree ∙ ap (λ ts. tm_const (name_of old n) ts (type_of old t)) (items_types old),
  )

-- the place of a list is within the stored lists
pub list_stored : (ks : List (Vec TypeId Global)) (l : ListId) → l.0 < length (lists_of ks) → l.0 < length ks
list_stored ks l h = subst (λ (n : ℕ). l.0 < n) (length-map ks (λ v. numbers v.items)) h

-- places that were counted over the trees before
pub comb_view : (old : PlainTables) (lists : List (List ℕ)) (i : ℕ) (f x : TermId) (t : TypeId) → TermRead old lists i (Comb f x t)
    → (f.0 < i) × (x.0 < i) × Takes (tm_at old.terms f.0) (tm_at old.terms x.0) × (tm_at old.terms i ≡ tm_comb (tm_at old.terms f.0) (tm_at old.terms x.0))
comb_view old lists i f x t r = (subst (λ (n : ℕ). f.0 < n) r.count r.below.parts.0, subst (λ (n : ℕ). x.0 < n) r.count r.below.parts.1, r.fits.parts.2, r.tree)

pub abs_view : (old : PlainTables) (lists : List (List ℕ)) (i : ℕ) (a : TypeId) (b : TermId) (t : TypeId) → TermRead old lists i (Abs a b t)
    → (a.0 < length old.types) × (b.0 < i) × (tm_at old.terms i ≡ tm_abs (ty_at old.types a.0) (tm_at old.terms b.0))
abs_view old lists i a b t r = (r.below.parts.0, subst (λ (n : ℕ). b.0 < n) r.count r.below.parts.1, r.tree)
