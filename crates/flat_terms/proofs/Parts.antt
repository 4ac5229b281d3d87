-- What a node stands for: over longer tables the same, and two nodes never the same.
use Rattle.std.proofs.Common.{◌≡◌, ℕ, ◌<◌, ◌≤◌, List, [], ◌∷◌, length, map, refl, ap, sym, subst, ◌∙◌, arith}
use Rattle.hol_terms.specs.Name.{Name}
use Rattle.hol_terms.specs.Ty.{Ty, ty_var, ty_app, tys, ty_list, ty_list-tys}
use Rattle.hol_terms.specs.Tm.{Tm, tm_index, tm_free, tm_const, tm_comb, tm_abs}
use Rattle.hol_terms.specs.Typing.{tm_type}
use Rattle.hol_terms.specs.Takes.{Takes}
use Rattle.flat_terms.specs.declared.nodes.NameId.{NameId}
use Rattle.flat_terms.specs.declared.nodes.TypeId.{TypeId}
use Rattle.flat_terms.specs.declared.nodes.TermId.{TermId}
use Rattle.flat_terms.specs.declared.nodes.ListId.{ListId}
use Rattle.flat_terms.specs.declared.nodes.TypeNode.{TypeNode}
use Rattle.flat_terms.specs.declared.nodes.TypeNode.TheVariants.{Var, App}
use Rattle.flat_terms.specs.declared.nodes.TermNode.{TermNode}
use Rattle.flat_terms.specs.declared.nodes.TermNode.TheVariants.{Index, Free, Const, Comb, Abs}
use Rattle.flat_terms.specs.Plain.{name_at, ty_at, tm_at}
use Rattle.flat_terms.specs.Trees.{Distinct, AllBelow, list_at, ty_of, FitsType, tm_of, own_type, HasParts, FitsTerm}
use Rattle.flat_terms.proofs.Spots.{Extends}

types_same : (xs ys : List Ty) → Extends (ty_var []) xs ys → (is : List ℕ) → AllBelow (length xs) is → map (ty_at ys) is ≡ map (ty_at xs) is
types_same xs ys e [] b = refl
types_same xs ys e (i ∷ is) b = λ j. e.same i b.0 j ∷ types_same xs ys e is b.1 j

below_longer : (m n : ℕ) → m ≤ n → (is : List ℕ) → AllBelow m is → AllBelow n is
below_longer m n le [] b = tt
below_longer m n le (i ∷ is) b = (omega (arith, b.0), below_longer m n le is b.1)

module _ (names names' : List Name) (lists lists' : List (List ℕ)) (more_names : Extends [] names names') (more_lists : Extends [] lists lists') where
  below_there : (xs ys : List Ty) → Extends (ty_var []) xs ys → (l : ℕ) → l < length lists → AllBelow (length xs) (list_at lists l) → AllBelow (length ys) (list_at lists' l)
  below_there xs ys e l h b = subst (λ (is : List ℕ). AllBelow (length ys) is) (sym (more_lists.same l h)) (below_longer (length xs) (length ys) e.longer (list_at lists l) b)

  types_there : (xs ys : List Ty) → Extends (ty_var []) xs ys → (l : ℕ) → l < length lists → AllBelow (length xs) (list_at lists l) → map (ty_at ys) (list_at lists' l) ≡ map (ty_at xs) (list_at lists l)
  types_there xs ys e l h b = ap (map (ty_at ys)) (more_lists.same l h) ∙ types_same xs ys e (list_at lists l) b

  pub type_grown : (xs ys : List Ty) (n : TypeNode) → FitsType names lists xs n → Extends (ty_var []) xs ys → (ty_of names' lists' ys n ≡ ty_of names lists xs n) × FitsType names' lists' ys n
  type_grown xs ys (Var n) f e = (ap ty_var (more_names.same n.0 f), omega (arith, more_names.longer, f))
  type_grown xs ys (App n l) f e = (
    (λ j. ty_app (more_names.same n.0 f.0 j) (tys (types_there xs ys e l.0 f.1 f.2 j))),
    (omega (arith, more_names.longer, f.0), omega (arith, more_lists.longer, f.1), below_there xs ys e l.0 f.1 f.2),
  )

  module _ (types types' : List Ty) (more_types : Extends (ty_var []) types types') where
    parts_grown : (xs ys : List Tm) (n : TermNode) → HasParts names lists types xs n → Extends (tm_index 0 (ty_var [])) xs ys → HasParts names' lists' types' ys n
    parts_grown xs ys (Index i t) p e = tt
    parts_grown xs ys (Free n t) p e = omega (arith, more_names.longer, p)
    parts_grown xs ys (Const n l t) p e = (omega (arith, more_names.longer, p.0), omega (arith, more_lists.longer, p.1), below_there types types' more_types l.0 p.1 p.2)
    parts_grown xs ys (Comb f x t) p e = (
      omega (arith, e.longer, p.0),
      omega (arith, e.longer, p.1),
      subst (λ (g : Tm). Takes g (tm_at ys x.0)) (sym (e.same f.0 p.0)) (subst (λ (y : Tm). Takes (tm_at xs f.0) y) (sym (e.same x.0 p.1)) p.2),
    )
    parts_grown xs ys (Abs a b t) p e = (omega (arith, more_types.longer, p.0), omega (arith, e.longer, p.1))

    tree_grown : (xs ys : List Tm) (n : TermNode) → HasParts names lists types xs n → (own_type n).0 < length types → Extends (tm_index 0 (ty_var [])) xs ys → tm_of names' lists' types' ys n ≡ tm_of names lists types xs n
    tree_grown xs ys (Index i t) p h e = ap (tm_index i) (more_types.same t.0 h)
    tree_grown xs ys (Free n t) p h e = λ j. tm_free (record { name = more_names.same n.0 p j; ty = more_types.same t.0 h j })
    tree_grown xs ys (Const n l t) p h e = λ j. tm_const (more_names.same n.0 p.0 j) (types_there types types' more_types l.0 p.1 p.2 j) (more_types.same t.0 h j)
    tree_grown xs ys (Comb f x t) p h e = λ j. tm_comb (e.same f.0 p.0 j) (e.same x.0 p.1 j)
    tree_grown xs ys (Abs a b t) p h e = λ j. tm_abs (more_types.same a.0 p.0 j) (e.same b.0 p.1 j)

    pub term_grown : (xs ys : List Tm) (n : TermNode) → FitsTerm names lists types xs n → Extends (tm_index 0 (ty_var [])) xs ys → (tm_of names' lists' types' ys n ≡ tm_of names lists types xs n) × FitsTerm names' lists' types' ys n
    term_grown xs ys n f e =
        let tree = tree_grown xs ys n f.parts f.has_type e in (
          tree,
          record {
            parts = parts_grown xs ys n f.parts e;
            has_type = omega (arith, more_types.longer, f.has_type);
            typed = more_types.same (own_type n).0 f.has_type ∙ f.typed ∙ ap tm_type (sym tree);
          },
        )

-- two lists of places that have the same types are the same
map_once : (types : List Ty) → Distinct (ty_var []) types → (is js : List ℕ) → AllBelow (length types) is → AllBelow (length types) js → map (ty_at types) is ≡ map (ty_at types) js → is ≡ js
map_once types once [] [] a b e = refl
map_once types once [] (j ∷ js) a b e = cc
map_once types once (i ∷ is) [] a b e = cc
map_once types once (i ∷ is) (j ∷ js) a b e =
    let first : ty_at types i ≡ ty_at types j = cc in
    let others : map (ty_at types) is ≡ map (ty_at types) js = cc in
    let here = once i j a.0 b.0 first in
    let there = map_once types once is js a.1 b.1 others in
    λ k. here k ∷ there k

tys_once : (ts us : List Ty) → tys ts ≡ tys us → ts ≡ us
tys_once ts us e = sym (ty_list-tys ts) ∙ ap ty_list e ∙ ty_list-tys us

module _ (names : List Name) (lists : List (List ℕ)) (names_once : Distinct [] names) (lists_once : Distinct [] lists) where
  name_once : (m n : NameId) → m.0 < length names → n.0 < length names → name_at names m.0 ≡ name_at names n.0 → m ≡ n
  name_once m n g h e = let same = names_once m.0 n.0 g h e in λ j. record { 0 = same j }

  -- lists of types that are the same have one number
  list_once : (types : List Ty) → Distinct (ty_var []) types → (l k : ListId) → l.0 < length lists → k.0 < length lists
      → AllBelow (length types) (list_at lists l.0) → AllBelow (length types) (list_at lists k.0)
      → map (ty_at types) (list_at lists l.0) ≡ map (ty_at types) (list_at lists k.0) → l ≡ k
  list_once types once l k g h a b e =
      let same = lists_once l.0 k.0 g h (map_once types once (list_at lists l.0) (list_at lists k.0) a b e) in
      λ j. record { 0 = same j }

  -- two nodes have one type only where they are the same
  pub type_once : (types : List Ty) (m n : TypeNode) → Distinct (ty_var []) types → FitsType names lists types m → FitsType names lists types n → ty_of names lists types m ≡ ty_of names lists types n → m ≡ n
  type_once types (Var m) (Var n) once f g e =
      let name : name_at names m.0 ≡ name_at names n.0 = cc in
      ap Var (name_once m n f g name)
  type_once types (Var m) (App n k) once f g e = cc
  type_once types (App m l) (Var n) once f g e = cc
  type_once types (App m l) (App n k) once f g e =
      let name : name_at names m.0 ≡ name_at names n.0 = cc in
      let args : tys (map (ty_at types) (list_at lists l.0)) ≡ tys (map (ty_at types) (list_at lists k.0)) = cc in
      let same_name = name_once m n f.0 g.0 name in
      let same_list = list_once types once l k f.1 g.1 f.2 g.2 (tys_once (map (ty_at types) (list_at lists l.0)) (map (ty_at types) (list_at lists k.0)) args) in
      λ j. App (same_name j) (same_list j)

  module _ (types : List Ty) (types_once : Distinct (ty_var []) types) where
    one_type : (t u : TypeId) → t.0 < length types → u.0 < length types → ty_at types t.0 ≡ ty_at types u.0 → t ≡ u
    one_type t u g h e = let same = types_once t.0 u.0 g h e in λ j. record { 0 = same j }

    one_term : (terms : List Tm) → Distinct (tm_index 0 (ty_var [])) terms → (t u : TermId) → t.0 < length terms → u.0 < length terms → tm_at terms t.0 ≡ tm_at terms u.0 → t ≡ u
    one_term terms once t u g h e = let same = once t.0 u.0 g h e in λ j. record { 0 = same j }

    -- where two nodes have one term, they name one type
    same_type : (terms : List Tm) (m n : TermNode) → FitsTerm names lists types terms m → FitsTerm names lists types terms n → tm_of names lists types terms m ≡ tm_of names lists types terms n → own_type m ≡ own_type n
    same_type terms m n f g e = one_type (own_type m) (own_type n) f.has_type g.has_type (f.typed ∙ ap tm_type e ∙ sym g.typed)

    parts_once : (terms : List Tm) (m n : TermNode) → Distinct (tm_index 0 (ty_var [])) terms → HasParts names lists types terms m → HasParts names lists types terms n → own_type m ≡ own_type n
        → tm_of names lists types terms m ≡ tm_of names lists types terms n → m ≡ n
    parts_once terms (Index i t) (Index j u) once f g s e =
        let place : i ≡ j = cc in
        λ k. Index (place k) (s k)
    parts_once terms (Index i t) (Free n u) once f g s e = cc
    parts_once terms (Index i t) (Const n l u) once f g s e = cc
    parts_once terms (Index i t) (Comb h x u) once f g s e = cc
    parts_once terms (Index i t) (Abs a b u) once f g s e = cc
    parts_once terms (Free m t) (Index j u) once f g s e = cc
    parts_once terms (Free m t) (Free n u) once f g s e =
        let name : name_at names m.0 ≡ name_at names n.0 = ap name_in e in
        let same = name_once m n f g name in
        λ k. Free (same k) (s k)
      where
        name_in : Tm → Name
        name_in (tm_free v) = v.name
        name_in (tm_index j u) = []
        name_in (tm_const c ts u) = []
        name_in (tm_comb h x) = []
        name_in (tm_abs a b) = []
    parts_once terms (Free m t) (Const n l u) once f g s e = cc
    parts_once terms (Free m t) (Comb h x u) once f g s e = cc
    parts_once terms (Free m t) (Abs a b u) once f g s e = cc
    parts_once terms (Const m l t) (Index j u) once f g s e = cc
    parts_once terms (Const m l t) (Free n u) once f g s e = cc
    parts_once terms (Const m l t) (Const n k u) once f g s e =
        let name : name_at names m.0 ≡ name_at names n.0 = cc in
        let args : map (ty_at types) (list_at lists l.0) ≡ map (ty_at types) (list_at lists k.0) = cc in
        let same_name = name_once m n f.0 g.0 name in
        let same_list = list_once types types_once l k f.1 g.1 f.2 g.2 args in
        λ j. Const (same_name j) (same_list j) (s j)
    parts_once terms (Const m l t) (Comb h x u) once f g s e = cc
    parts_once terms (Const m l t) (Abs a b u) once f g s e = cc
    parts_once terms (Comb p y t) (Index j u) once f g s e = cc
    parts_once terms (Comb p y t) (Free n u) once f g s e = cc
    parts_once terms (Comb p y t) (Const n k u) once f g s e = cc
    parts_once terms (Comb p y t) (Comb h x u) once f g s e =
        let function : tm_at terms p.0 ≡ tm_at terms h.0 = cc in
        let argument : tm_at terms y.0 ≡ tm_at terms x.0 = cc in
        let same_function = one_term terms once p h f.0 g.0 function in
        let same_argument = one_term terms once y x f.1 g.1 argument in
        λ j. Comb (same_function j) (same_argument j) (s j)
    parts_once terms (Comb p y t) (Abs a b u) once f g s e = cc
    parts_once terms (Abs c d t) (Index j u) once f g s e = cc
    parts_once terms (Abs c d t) (Free n u) once f g s e = cc
    parts_once terms (Abs c d t) (Const n k u) once f g s e = cc
    parts_once terms (Abs c d t) (Comb h x u) once f g s e = cc
    parts_once terms (Abs c d t) (Abs a b u) once f g s e =
        let bound : ty_at types c.0 ≡ ty_at types a.0 = cc in
        let body : tm_at terms d.0 ≡ tm_at terms b.0 = cc in
        let same_bound = one_type c a f.0 g.0 bound in
        let same_body = one_term terms once d b f.1 g.1 body in
        λ j. Abs (same_bound j) (same_body j) (s j)

    -- two nodes have one term only where they are the same
    pub term_once : (terms : List Tm) (m n : TermNode) → Distinct (tm_index 0 (ty_var [])) terms → FitsTerm names lists types terms m → FitsTerm names lists types terms n → tm_of names lists types terms m ≡ tm_of names lists types terms n → m ≡ n
    term_once terms m n once f g e = parts_once terms m n once f.parts g.parts (same_type terms m n f g e) e
