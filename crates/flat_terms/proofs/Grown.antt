-- What one more name, list, type or term does to the tables.
use Rattle.std.proofs.Common.{◌≡◌, ℕ, List, [], ap, sym, subst, ◌∙◌}
use Rattle.hol_terms.specs.Name.{Name}
use Rattle.hol_terms.specs.Ty.{Ty, ty_var}
use Rattle.hol_terms.specs.Tm.{Tm, tm_index}
use Rattle.flat_terms.specs.declared.nodes.TypeNode.{TypeNode}
use Rattle.flat_terms.specs.declared.nodes.TermNode.{TermNode}
use Rattle.flat_terms.specs.Trees.{AllFit, Distinct, ty_of, FitsType, types_of, tm_of, FitsTerm, terms_of, IsTables, Interned}
use Rattle.flat_terms.proofs.Spots.{Extends, extends_itself, extends_interned, distinct_interned}
use Rattle.flat_terms.proofs.Built.{interned_trees, regrown}
use Rattle.flat_terms.proofs.Parts.{type_grown, term_grown, type_once, term_once}

-- the tables have the same types and terms over other names and lists
pub record KeepsTrees (names names' : List Name) (lists lists' : List (List ℕ)) (nodes : List TypeNode) (tops : List TermNode) : Type 0 where
  pub tables : IsTables names' lists' nodes tops
  pub types : types_of names' lists' nodes ≡ types_of names lists nodes
  pub terms : terms_of names' lists' (types_of names' lists' nodes) tops ≡ terms_of names lists (types_of names lists nodes) tops

pub keeps_trees : (names names' : List Name) (lists lists' : List (List ℕ)) (nodes : List TypeNode) (tops : List TermNode) → IsTables names lists nodes tops
    → Extends [] names names' → Extends [] lists lists' → Distinct [] names' → Distinct [] lists' → KeepsTrees names names' lists lists' nodes tops
keeps_trees names names' lists lists' nodes tops t more_names more_lists names_once lists_once =
    record {
      tables = record {
        names_once = names_once;
        lists_once = lists_once;
        types_fit = same_types.1;
        types_once = subst (λ (l : List Ty). Distinct (ty_var []) l) (sym same_types.0) t.types_once;
        terms_fit = subst (λ (ts : List Ty). AllFit (tm_of names' lists' ts) (FitsTerm names' lists' ts) [] tops) (sym same_types.0) same_terms.1;
        terms_once = subst (λ (l : List Tm). Distinct (tm_index 0 (ty_var [])) l) (sym same_tops) t.terms_once;
      };
      types = same_types.0;
      terms = same_tops;
    }
  where
    types : List Ty
    types = types_of names lists nodes

    same_types : (types_of names' lists' nodes ≡ types) × AllFit (ty_of names' lists') (FitsType names' lists') [] nodes
    same_types = regrown (ty_of names lists) (ty_of names' lists') (FitsType names lists) (FitsType names' lists') (λ xs n f. type_grown names names' lists lists' more_names more_lists xs xs n f (extends_itself (ty_var []) xs)) [] nodes t.types_fit

    same_terms : (terms_of names' lists' types tops ≡ terms_of names lists types tops) × AllFit (tm_of names' lists' types) (FitsTerm names' lists' types) [] tops
    same_terms = regrown (tm_of names lists types) (tm_of names' lists' types) (FitsTerm names lists types) (FitsTerm names' lists' types) (λ xs n f. term_grown names names' lists lists' more_names more_lists types types (extends_itself (ty_var []) types) xs xs n f (extends_itself (tm_index 0 (ty_var [])) xs)) [] tops t.terms_fit

    same_tops : terms_of names' lists' (types_of names' lists' nodes) tops ≡ terms_of names lists types tops
    same_tops = ap (λ ts. terms_of names' lists' ts tops) same_types.0 ∙ same_terms.0

pub name_put : (names names' : List Name) (lists : List (List ℕ)) (nodes : List TypeNode) (tops : List TermNode) (i : ℕ) (x : Name) → IsTables names lists nodes tops → Interned names names' i x → KeepsTrees names names' lists lists nodes tops
name_put names names' lists nodes tops i x t put =
    keeps_trees names names' lists lists nodes tops t (extends_interned [] names names' i x put) (extends_itself [] lists) (distinct_interned [] names names' i x t.names_once put) t.lists_once

pub list_put : (names : List Name) (lists lists' : List (List ℕ)) (nodes : List TypeNode) (tops : List TermNode) (i : ℕ) (x : List ℕ) → IsTables names lists nodes tops → Interned lists lists' i x → KeepsTrees names names lists lists' nodes tops
list_put names lists lists' nodes tops i x t put =
    keeps_trees names names lists lists' nodes tops t (extends_itself [] names) (extends_interned [] lists lists' i x put) t.names_once (distinct_interned [] lists lists' i x t.lists_once put)

module _ (names : List Name) (lists : List (List ℕ)) where
  -- a type's node put among the nodes
  pub record TypePut (nodes nodes' : List TypeNode) (tops : List TermNode) (i : ℕ) (n : TypeNode) : Type 0 where
    pub tables : IsTables names lists nodes' tops
    pub types : Interned (types_of names lists nodes) (types_of names lists nodes') i (ty_of names lists (types_of names lists nodes) n)
    pub terms : terms_of names lists (types_of names lists nodes') tops ≡ terms_of names lists (types_of names lists nodes) tops

  pub type_put : (nodes nodes' : List TypeNode) (tops : List TermNode) (i : ℕ) (n : TypeNode) → IsTables names lists nodes tops → FitsType names lists (types_of names lists nodes) n → Interned nodes nodes' i n → TypePut nodes nodes' tops i n
  type_put nodes nodes' tops i n t fits put =
      record {
        tables = record {
          names_once = t.names_once;
          lists_once = t.lists_once;
          types_fit = made.0;
          types_once = distinct_interned (ty_var []) before after i (ty_of names lists before n) t.types_once made.1;
          terms_fit = same_terms.1;
          terms_once = subst (λ (l : List Tm). Distinct (tm_index 0 (ty_var [])) l) (sym same_terms.0) t.terms_once;
        };
        types = made.1;
        terms = same_terms.0;
      }
    where
      before : List Ty
      before = types_of names lists nodes

      after : List Ty
      after = types_of names lists nodes'

      made : AllFit (ty_of names lists) (FitsType names lists) [] nodes' × Interned before after i (ty_of names lists before n)
      made =
          interned_trees (ty_var []) (ty_of names lists) (FitsType names lists)
          (λ xs ys m f e. type_grown names names lists lists (extends_itself [] names) (extends_itself [] lists) xs ys m f e)
          (λ xs m k once f g e. type_once names lists t.names_once t.lists_once xs m k once f g e) nodes nodes' i n t.types_fit t.types_once fits put

      more : Extends (ty_var []) before after
      more = extends_interned (ty_var []) before after i (ty_of names lists before n) made.1

      same_terms : (terms_of names lists after tops ≡ terms_of names lists before tops) × AllFit (tm_of names lists after) (FitsTerm names lists after) [] tops
      same_terms = regrown (tm_of names lists before) (tm_of names lists after) (FitsTerm names lists before) (FitsTerm names lists after) (λ xs m f. term_grown names names lists lists (extends_itself [] names) (extends_itself [] lists) before after more xs xs m f (extends_itself (tm_index 0 (ty_var [])) xs)) [] tops t.terms_fit

  -- a term's node put among the nodes
  pub record TermPut (nodes : List TypeNode) (tops tops' : List TermNode) (i : ℕ) (n : TermNode) : Type 0 where
    pub tables : IsTables names lists nodes tops'
    pub terms : (let types = types_of names lists nodes in Interned (terms_of names lists types tops) (terms_of names lists types tops') i (tm_of names lists types (terms_of names lists types tops) n))

  pub term_put : (nodes : List TypeNode) (tops tops' : List TermNode) (i : ℕ) (n : TermNode) → IsTables names lists nodes tops
      → FitsTerm names lists (types_of names lists nodes) (terms_of names lists (types_of names lists nodes) tops) n → Interned tops tops' i n → TermPut nodes tops tops' i n
  term_put nodes tops tops' i n t fits put =
      record {
        tables = record {
          names_once = t.names_once;
          lists_once = t.lists_once;
          types_fit = t.types_fit;
          types_once = t.types_once;
          terms_fit = made.0;
          terms_once = distinct_interned (tm_index 0 (ty_var [])) before after i (tm_of names lists types before n) t.terms_once made.1;
        };
        terms = made.1;
      }
    where
      types : List Ty
      types = types_of names lists nodes

      before : List Tm
      before = terms_of names lists types tops

      after : List Tm
      after = terms_of names lists types tops'

      made : AllFit (tm_of names lists types) (FitsTerm names lists types) [] tops' × Interned before after i (tm_of names lists types before n)
      made =
          interned_trees (tm_index 0 (ty_var [])) (tm_of names lists types) (FitsTerm names lists types)
          (λ xs ys m f e. term_grown names names lists lists (extends_itself [] names) (extends_itself [] lists) types types (extends_itself (ty_var []) types) xs ys m f e)
          (λ xs m k once f g e. term_once names lists t.names_once t.lists_once types t.types_once xs m k once f g e) tops tops' i n t.terms_fit t.terms_once fits put
