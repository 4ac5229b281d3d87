-- Tables to which names, types and terms were added.
use Rattle.std.specs.Prelude.{◌≡◌}
use Rattle.flat_terms.specs.Plain.{PlainTables, HasName, HasType, HasTerm, name_of, type_of, term_of}
use Rattle.flat_terms.specs.declared.nodes.NameId.{NameId}
use Rattle.flat_terms.specs.declared.nodes.TypeId.{TypeId}
use Rattle.flat_terms.specs.declared.nodes.TermId.{TermId}

-- each number stands for what it stood for
pub record TablesGrow (old new : PlainTables) : Type 0 where
  pub has_name : (n : NameId) → HasName old n → HasName new n
  pub same_name : (n : NameId) → HasName old n → name_of new n ≡ name_of old n
  pub has_type : (n : TypeId) → HasType old n → HasType new n
  pub same_type : (n : TypeId) → HasType old n → type_of new n ≡ type_of old n
  pub has_term : (n : TermId) → HasTerm old n → HasTerm new n
  pub same_term : (n : TermId) → HasTerm old n → term_of new n ≡ term_of old n
