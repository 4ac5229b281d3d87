-- What a definition in the code stands for. The number of a step is no part of it.
use Rattle.std.specs.Prelude.{ℕ, Option, Some, None, string_bytes}
use Rattle.hol_terms.specs.Definition.{Definition, const_def, type_def}
use Rattle.hol_terms.specs.declared.defs.Def.{Def}
use Rattle.hol_terms.specs.declared.defs.Def.TheVariants.{Const, NewType}

abbrev pub definition_of : Def → Definition
definition_of (Const name body) = const_def (string_bytes name) body
definition_of (NewType name pred from) = type_def (string_bytes name) pred

-- the number of the step that shows a new type inhabited
abbrev pub from_of : Def → Option ℕ
from_of (Const name body) = None
from_of (NewType name pred from) = Some from
