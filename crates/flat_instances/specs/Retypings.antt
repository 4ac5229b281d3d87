-- Terms with types in place of their type variables, over the tables.
use Rattle.std.specs.Prelude.{◌≡◌, List}
use Rattle.hol_terms.specs.Tm.{Tm}
use Rattle.hol_terms.specs.Typing.{tm_type}
use Rattle.hol_terms.specs.Subst.{TySubst, ty_subst}
use Rattle.hol_terms.specs.Binding.{tm_ty_subst}
use Rattle.flat_terms.specs.Plain.{PlainTables, HasType, HasTerm, type_of, term_of}
use Rattle.flat_terms.specs.declared.nodes.NameId.{NameId}
use Rattle.flat_terms.specs.declared.nodes.TypeId.{TypeId}
use Rattle.flat_terms.specs.declared.nodes.TermId.{TermId}
use Rattle.flat_walks.specs.Number.{IsNumber, AreAll}
use Rattle.flat_instances.specs.Types.{type_pairs, IsTypeInstance}

-- only types and terms were added
pub record Extends (old new : PlainTables) : Type 0 where
  pub names : new.names ≡ old.names
  pub has_type : (n : TypeId) → HasType old n → HasType new n
  pub same_type : (n : TypeId) → HasType old n → type_of new n ≡ type_of old n
  pub has_term : (n : TermId) → HasTerm old n → HasTerm new n
  pub same_term : (n : TermId) → HasTerm old n → term_of new n ≡ term_of old n

-- the term n with the pairs' types for their variables
abbrev pub retyped : PlainTables → List (NameId × TypeId) → TermId → Tm
retyped t ps n = tm_ty_subst (type_pairs t ps) (term_of t n)

-- the instance of x has the instance of its type
abbrev pub KeepsType : TySubst → Tm → Type 0
KeepsType s x = tm_type (tm_ty_subst s x) ≡ ty_subst s (tm_type x)

-- r is the number of n's instance
pub record IsRetyped (old new : PlainTables) (ps : List (NameId × TypeId)) (n r : TermId) : Type 0 where
  pub number : IsNumber new r (retyped old ps n)
  pub keeps : KeepsType (type_pairs old ps) (term_of old n)

-- what was noted of a term is right
pub record IsRetyping (t : PlainTables) (ps : List (NameId × TypeId)) (n r : TermId) : Type 0 where
  pub has : HasTerm t n
  pub retyped : IsRetyped t t ps n r

-- the tables grew, and what is noted is right
pub record Retypes (old new : PlainTables) (ps : List (NameId × TypeId)) (es : List (TypeId × TypeId)) (fs : List (TermId × TermId)) : Type 0 where
  pub grows : Extends old new
  pub types : AreAll (IsTypeInstance new ps) es
  pub terms : AreAll (IsRetyping new ps) fs
