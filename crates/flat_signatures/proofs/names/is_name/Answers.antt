use Rattle.std.proofs.Common.{sym, ◌∙◌}
use Rattle.hol_terms.proofs.NameLemmas.{name-is}
use Rattle.flat_signatures.proofs.names.is_name.Goals as goal

pub returns-then-has_shape : goal.returns-then-has_shape
returns-then-has_shape c = name-is _ _ c.utf8.text (sym c.has_shape.ensures ∙ c.if-has_shape.true) c.is_keyword.ensures
