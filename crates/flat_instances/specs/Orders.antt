-- The order of types by their numbers.
use Rattle.std.specs.declared.cmp.Ordering.{Ordering}
use Rattle.hol_terms.specs.Subst.{ty_cmp}
use Rattle.flat_terms.specs.Plain.{PlainTables, type_of}
use Rattle.flat_terms.specs.declared.nodes.TypeId.{TypeId}

abbrev pub type_order : PlainTables → TypeId → TypeId → Ordering
type_order t a b = ty_cmp (type_of t a) (type_of t b)
