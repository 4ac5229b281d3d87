-- What a contract sees of the tables: lists of names, of types and of terms, by number.
use Rattle.std.specs.Prelude.{◌≡◌, ◌⊎◌, ℕ, ◌<◌, List, [], ◌∷◌, ◌++◌, length, map, Some, slice_get, slice_index_or, refl}
use Rattle.std.specs.Coded.{Coded, code_by, coded×, coded_list, coded_ℕ}
use Rattle.hol_terms.specs.Name.{Name}
use Rattle.hol_terms.specs.Ty.{Ty, ty_var, ty_code}
use Rattle.hol_terms.specs.Tm.{Tm, tm_index, tm_code}
use Rattle.flat_terms.specs.declared.nodes.NameId.{NameId}
use Rattle.flat_terms.specs.declared.nodes.TypeId.{TypeId}
use Rattle.flat_terms.specs.declared.nodes.TermId.{TermId}

pub record PlainTables : Type 0 where
  pub names : List Name
  pub types : List Ty
  pub terms : List Tm

abbrev pub plain_code : Coded PlainTables
plain_code =
    code_by (List Name × (List Ty × List Tm)) (coded× (coded_list (coded_list coded_ℕ)) (coded× (coded_list ty_code) (coded_list tm_code)))
    (λ t. (t.names, (t.types, t.terms))) (λ p. record { names = p.0; types = p.1.0; terms = p.1.1 }) (λ _. refl)

-- the entry at a place; what it is past the end is never asked
abbrev pub name_at : List Name → ℕ → Name
name_at names i = slice_index_or names i []

abbrev pub ty_at : List Ty → ℕ → Ty
ty_at types i = slice_index_or types i (ty_var [])

abbrev pub tm_at : List Tm → ℕ → Tm
tm_at terms i = slice_index_or terms i (tm_index 0 (ty_var []))

-- the numbers that the tables have given
abbrev pub HasName : PlainTables → NameId → Type 0
HasName t n = n.0 < length t.names

abbrev pub HasType : PlainTables → TypeId → Type 0
HasType t n = n.0 < length t.types

abbrev pub HasTerm : PlainTables → TermId → Type 0
HasTerm t n = n.0 < length t.terms

-- the entry of a number
abbrev pub name_of : PlainTables → NameId → Name
name_of t n = name_at t.names n.0

abbrev pub type_of : PlainTables → TypeId → Ty
type_of t n = ty_at t.types n.0

abbrev pub term_of : PlainTables → TermId → Tm
term_of t n = tm_at t.terms n.0

-- lists of types by their numbers
abbrev pub HasTypes : PlainTables → List TypeId → Type 0
HasTypes t [] = Unit {0}
HasTypes t (n ∷ ns) = HasType t n × HasTypes t ns

abbrev pub types_of : PlainTables → List TypeId → List Ty
types_of t = map (type_of t)

-- the list stays, or x comes behind it
abbrev pub AddsOnly : {A : Type 0} → List A → List A → A → Type 0
AddsOnly old new x = (new ≡ old) ⊎ (new ≡ old ++ x ∷ [])

-- the number is that of the name, and nothing else was added
pub record IsNameAdded (old new : PlainTables) (n : NameId) (x : Name) : Type 0 where
  pub at : slice_get new.names n.0 ≡ Some x
  pub names : AddsOnly old.names new.names x
  pub types : new.types ≡ old.types
  pub terms : new.terms ≡ old.terms

-- the number is that of the type, and nothing else was added
pub record IsTypeAdded (old new : PlainTables) (n : TypeId) (x : Ty) : Type 0 where
  pub at : slice_get new.types n.0 ≡ Some x
  pub names : new.names ≡ old.names
  pub types : AddsOnly old.types new.types x
  pub terms : new.terms ≡ old.terms

-- the number is that of the term, and nothing else was added
pub record IsTermAdded (old new : PlainTables) (n : TermId) (x : Tm) : Type 0 where
  pub at : slice_get new.terms n.0 ≡ Some x
  pub names : new.names ≡ old.names
  pub types : new.types ≡ old.types
  pub terms : AddsOnly old.terms new.terms x
