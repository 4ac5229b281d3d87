-- The base definitions by their numbers, from 1.
use Rattle.std.specs.Prelude.{◌≡◌, ℕ, ◌-◌, List, Option, Some, slice_get, IfSome}
use Rattle.hol_terms.specs.Name.{Name}
use Rattle.hol_terms.specs.Definition.{Definition, const_def, type_def}
use Rattle.hol_terms.specs.Base.{base_definitions}
use Rattle.hol_terms.specs.DefShape.{definition_of, from_of}
use Rattle.hol_terms.specs.declared.defs.Def.{Def}
use Rattle.hol_tables.specs.Building.{on, made}
use Rattle.hol_tables.specs.declared.build.TypeLine.{TypeLine}
use Rattle.hol_tables.specs.declared.build.TermLine.{TermLine}

-- the n-th base definition; that of a type has the step 0
pub record IsBase (n : ℕ) (d : Def) : Type 0 where
  pub is : slice_get base_definitions (n - 1) ≡ Some (definition_of d)
  pub step : IfSome (from_of d) (λ k. k ≡ 0)

-- the definition of a constant by the term that two tables make, and of a type by such a predicate
abbrev pub const_made : Name → List TypeLine → List TermLine → Option Definition
const_made name type_lines term_lines = on (made type_lines term_lines) (λ t. Some (const_def name t))

abbrev pub type_made : Name → List TypeLine → List TermLine → Option Definition
type_made name type_lines term_lines = on (made type_lines term_lines) (λ t. Some (type_def name t))
