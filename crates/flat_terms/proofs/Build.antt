-- What a builder's steps come to, as its contract says it.
use Rattle.std.proofs.Common.{◌≡◌, ◌⊎◌, inl, inr, ℕ, ◌<◌, true, List, [], ◌∷◌, ◌++◌, length, map, Some, Result, Ok, Err, slice_get, position, refl, ap, sym, subst, ◌∙◌, Vec, String, string_bytes, bytes_eq}
use Rattle.std.specs.declared.alloc.Global.{Global}
use Rattle.std.specs.Result.{OnErr}
use Rattle.std.specs.String.{string_eq}
use Rattle.std.specs.Cmp.Lexicographic.{pointwise}
use Rattle.std.proofs.lemmas.Option.{slice_get_within, get_or_from_slice_get}
use Rattle.std.proofs.lemmas.Slice.Eq.{bytes_eq-Decides}
use Rattle.indexmap.specs.IndexSet.{insert_key}
use Rattle.hol_terms.specs.Name.{Name}
use Rattle.hol_terms.specs.Ty.{Ty}
use Rattle.hol_terms.specs.Tm.{Tm}
use Rattle.flat_terms.specs.declared.nodes.TypeId.{TypeId}
use Rattle.flat_terms.specs.declared.nodes.ListId.{ListId}
use Rattle.flat_terms.specs.declared.nodes.TypeNode.{TypeNode}
use Rattle.flat_terms.specs.declared.nodes.TermNode.{TermNode}
use Rattle.flat_terms.specs.contracts.nodes.TypeIdPartialEq.TheImpl.{eq-value as type_eq}
use Rattle.flat_terms.specs.Plain.{PlainTables, HasTypes, type_of, types_of, AddsOnly, IsNameAdded, IsTypeAdded, IsTermAdded, ty_at}
use Rattle.flat_terms.specs.Trees.{names_of, numbers, lists_of, list_at, AllBelow, Fresh, Interned, ty_of, FitsType, types_of as trees_of_types, tm_of, FitsTerm, terms_of, plain_tables, IsTables}
use Rattle.flat_terms.proofs.Equal.{same_name, name_same, same_numbers, numbers_same}
use Rattle.flat_terms.proofs.Spots.{extends_itself, interned, found_at}
use Rattle.flat_terms.proofs.Grown.{KeepsTrees, keeps_trees, name_put, list_put, type_put, term_put}

pub name_found : (ks : List (String Global)) (x : Name) (i : ℕ) → Some i ≡ position (λ k. bytes_eq x (string_bytes k)) ks → Interned (names_of ks) (names_of ks) i x
name_found ks x i e = found_at string_bytes (λ k. bytes_eq x (string_bytes k)) x (λ k h. sym ((bytes_eq-Decides x (string_bytes k)).0 h)) ks i (sym e)

pub name_interned : (old new : List (String Global)) (i : ℕ) (k : String Global) (x : Name) → string_bytes k ≡ x → new ≡ insert_key string_eq old k → (y : String Global) × (slice_get new i ≡ Some y) × (string_eq k y ≡ true) → Interned (names_of old) (names_of new) i x
name_interned old new i k x same e s = subst (λ (n : Name). Interned (names_of old) (names_of new) i n) same (interned string_eq string_bytes same_name name_same old new i k e s)

pub list_found : (ks : List (Vec TypeId Global)) (args : List TypeId) (i : ℕ) → Some i ≡ position (λ k. pointwise type_eq.it args k.items) ks → Interned (lists_of ks) (lists_of ks) i (numbers args)
list_found ks args i e = found_at (λ k. numbers k.items) (λ k. pointwise type_eq.it args k.items) (numbers args) (λ k h. sym (same_numbers args k.items h)) ks i (sym e)

pub list_interned : (old new : List (Vec TypeId Global)) (i : ℕ) (k : Vec TypeId Global) (args : List TypeId) → k.items ≡ args → new ≡ insert_key (λ x y. pointwise type_eq.it x.items y.items) old k
    → (y : Vec TypeId Global) × (slice_get new i ≡ Some y) × (pointwise type_eq.it k.items y.items ≡ true) → Interned (lists_of old) (lists_of new) i (numbers args)
list_interned old new i k args same e s =
    subst (λ (l : List TypeId). Interned (lists_of old) (lists_of new) i (numbers l)) same
    (interned (λ x y. pointwise type_eq.it x.items y.items) (λ k. numbers k.items) (λ x y h. same_numbers x.items y.items h) (λ x y h. numbers_same x.items y.items h) old new i k e s)

added : {A : Type 0} (old new : List A) (i : ℕ) (x : A) → Interned old new i x → AddsOnly old new x
added old new i x put = by put.how
  where
    by : (new ≡ old) ⊎ ((new ≡ old ++ x ∷ []) × Fresh old x) → AddsOnly old new x
    by (inl e) = inl e
    by (inr e) = inr e.0

pub name_built : (old : PlainTables) (names names' : List Name) (lists : List (List ℕ)) (nodes : List TypeNode) (tops : List TermNode) (i : ℕ) (x : Name)
    → plain_tables names lists nodes tops ≡ old → IsTables names lists nodes tops → Interned names names' i x
    → IsNameAdded old (plain_tables names' lists nodes tops) (record { 0 = i }) x × IsTables names' lists nodes tops
name_built old names names' lists nodes tops i x e t put =
    let kept = name_put names names' lists nodes tops i x t put in (
      subst (λ (o : PlainTables). IsNameAdded o (plain_tables names' lists nodes tops) (record { 0 = i }) x) e
          (record { at = put.at; names = added names names' i x put; types = kept.types; terms = kept.terms }),
      kept.tables,
    )

-- the lists of types may grow, as long as the trees stay
pub record Relisted (names : List Name) (lists lists' : List (List ℕ)) (nodes : List TypeNode) (tops : List TermNode) : Type 0 where
  pub kept : KeepsTrees names names lists lists' nodes tops

pub same_lists : (names : List Name) (lists : List (List ℕ)) (nodes : List TypeNode) (tops : List TermNode) → IsTables names lists nodes tops → Relisted names lists lists nodes tops
same_lists names lists nodes tops t = record { kept = keeps_trees names names lists lists nodes tops t (extends_itself [] names) (extends_itself [] lists) t.names_once t.lists_once }

pub list_more : (names : List Name) (lists lists' : List (List ℕ)) (nodes : List TypeNode) (tops : List TermNode) (i : ℕ) (x : List ℕ) → IsTables names lists nodes tops → Interned lists lists' i x → Relisted names lists lists' nodes tops
list_more names lists lists' nodes tops i x t put = record { kept = list_put names lists lists' nodes tops i x t put }

-- where only the lists grew, the tables are as before
pub relisted : (old : PlainTables) (names : List Name) (lists lists' : List (List ℕ)) (nodes nodes' : List TypeNode) (tops tops' : List TermNode) → plain_tables names lists nodes tops ≡ old → Relisted names lists lists' nodes tops
    → nodes' ≡ nodes → tops' ≡ tops → (plain_tables names lists' nodes' tops' ≡ old) × IsTables names lists' nodes' tops'
relisted old names lists lists' nodes nodes' tops tops' e r same_nodes same_tops = (
  (λ j. plain_tables names lists' (same_nodes j) (same_tops j)) ∙ (λ j. record { names = names; types = r.kept.types j; terms = r.kept.terms j }) ∙ e,
  subst (λ (l : List TypeNode). IsTables names lists' l tops') (sym same_nodes) (subst (λ (l : List TermNode). IsTables names lists' nodes l) (sym same_tops) r.kept.tables),
)

pub type_built : (old : PlainTables) (names : List Name) (lists lists' : List (List ℕ)) (nodes nodes' : List TypeNode) (tops : List TermNode) (i : ℕ) (n : TypeNode) (x : Ty)
    → plain_tables names lists nodes tops ≡ old → Relisted names lists lists' nodes tops
    → FitsType old.names lists' old.types n → ty_of old.names lists' old.types n ≡ x → Interned nodes nodes' i n
    → IsTypeAdded old (plain_tables names lists' nodes' tops) (record { 0 = i }) x × IsTables names lists' nodes' tops
type_built old names lists lists' nodes nodes' tops i n x e r fits same put =
    subst
    (λ (o : PlainTables). FitsType o.names lists' o.types n → ty_of o.names lists' o.types n ≡ x → IsTypeAdded o (plain_tables names lists' nodes' tops) (record { 0 = i }) x × IsTables names lists' nodes' tops)
    e over fits same
  where
    types : List Ty
    types = trees_of_types names lists nodes

    over : FitsType names lists' types n → ty_of names lists' types n ≡ x → IsTypeAdded (plain_tables names lists nodes tops) (plain_tables names lists' nodes' tops) (record { 0 = i }) x × IsTables names lists' nodes' tops
    over f s =
        let fits_now = subst (λ (ts : List Ty). FitsType names lists' ts n) (sym r.kept.types) f in
        let made = type_put names lists' nodes nodes' tops i n r.kept.tables fits_now put in
        let put_now = subst (λ (ts : List Ty). Interned ts (trees_of_types names lists' nodes') i (ty_of names lists' ts n)) r.kept.types made.types in
        let put_tree = subst (λ (t : Ty). Interned types (trees_of_types names lists' nodes') i t) s put_now in
        (record { at = put_tree.at; names = refl; types = added types (trees_of_types names lists' nodes') i x put_tree; terms = made.terms ∙ r.kept.terms }, made.tables)

pub term_built : (old : PlainTables) (names : List Name) (lists lists' : List (List ℕ)) (nodes : List TypeNode) (tops tops' : List TermNode) (i : ℕ) (n : TermNode) (x : Tm)
    → plain_tables names lists nodes tops ≡ old → Relisted names lists lists' nodes tops
    → FitsTerm old.names lists' old.types old.terms n → tm_of old.names lists' old.types old.terms n ≡ x → Interned tops tops' i n
    → IsTermAdded old (plain_tables names lists' nodes tops') (record { 0 = i }) x × IsTables names lists' nodes tops'
term_built old names lists lists' nodes tops tops' i n x e r fits same put =
    subst
    (λ (o : PlainTables). FitsTerm o.names lists' o.types o.terms n → tm_of o.names lists' o.types o.terms n ≡ x → IsTermAdded o (plain_tables names lists' nodes tops') (record { 0 = i }) x × IsTables names lists' nodes tops')
    e over fits same
  where
    types : List Ty
    types = trees_of_types names lists nodes

    terms : List Tm
    terms = terms_of names lists types tops

    now : List Ty
    now = trees_of_types names lists' nodes

    over : FitsTerm names lists' types terms n → tm_of names lists' types terms n ≡ x → IsTermAdded (plain_tables names lists nodes tops) (plain_tables names lists' nodes tops') (record { 0 = i }) x × IsTables names lists' nodes tops'
    over f s =
        let fits_types = subst (λ (ts : List Ty). FitsTerm names lists' ts terms n) (sym r.kept.types) f in
        let fits_now = subst (λ (ms : List Tm). FitsTerm names lists' now ms n) (sym r.kept.terms) fits_types in
        let made = term_put names lists' nodes tops tops' i n r.kept.tables fits_now put in
        let put_now = subst (λ (ms : List Tm). Interned ms (terms_of names lists' now tops') i (tm_of names lists' now ms n)) r.kept.terms made.terms in
        let tree : tm_of names lists' now terms n ≡ x = ap (λ ts. tm_of names lists' ts terms n) r.kept.types ∙ s in
        let put_tree = subst (λ (t : Tm). Interned terms (terms_of names lists' now tops') i t) tree put_now in
        (record { at = put_tree.at; names = refl; types = r.kept.types; terms = added terms (terms_of names lists' now tops') i x put_tree }, made.tables)

below : (t : PlainTables) (args : List TypeId) → HasTypes t args → AllBelow (length t.types) (numbers args)
below t [] h = tt
below t (a ∷ args) h = (h.0, below t args h.1)

types_read : (t : PlainTables) (args : List TypeId) → map (ty_at t.types) (numbers args) ≡ types_of t args
types_read t [] = refl
types_read t (a ∷ args) = ap (λ ts. type_of t a ∷ ts) (types_read t args)

-- a list of types that was put among the lists
module _ (t : PlainTables) (lists : List (List ℕ)) (l : ListId) (args : List TypeId) (put : slice_get lists l.0 ≡ Some (numbers args)) (has : HasTypes t args) where
  pub list_within : l.0 < length lists
  list_within = slice_get_within lists l.0 (numbers args) put

  pub list_below : AllBelow (length t.types) (list_at lists l.0)
  list_below = subst (λ (is : List ℕ). AllBelow (length t.types) is) (sym (get_or_from_slice_get lists l.0 (numbers args) [] put)) (below t args has)

  pub list_types : map (ty_at t.types) (list_at lists l.0) ≡ types_of t args
  list_types = ap (map (ty_at t.types)) (get_or_from_slice_get lists l.0 (numbers args) [] put) ∙ types_read t args

-- a fact that holds in any case
pub on_err : {T E P : Type 0} (r : Result T E) → P → OnErr r P
on_err (Ok x) p = tt
on_err (Err e) p = p
