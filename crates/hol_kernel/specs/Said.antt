-- The two kinds of definition.
use Rattle.std.specs.Prelude.{Bool, true, false}
use Rattle.hol_terms.specs.Definition.{Definition, const_def, type_def}

abbrev pub is_const_def : Definition → Bool
is_const_def (const_def c t) = true
is_const_def (type_def n p) = false

abbrev pub is_type_def : Definition → Bool
is_type_def (const_def c t) = false
is_type_def (type_def n p) = true
