use Rattle.std.proofs.Common.{sym, ◌∙◌, codes}
use Rattle.std.proofs.lemmas.Slice.Eq.{bytes_eq-Decides}
use Rattle.flat_rules.proofs.Sides.{bool_test}
use Rattle.flat_rules.proofs.equations.is_bool.Goals as goal

pub returns-then-eq : goal.returns-then-eq
returns-then-eq c = bool_test c.args.tables.now _ c.in-App.args.now _ c.is_empty.result c.in-App.ensures.2 (sym c.name_text.ensures ∙ (bytes_eq-Decides c.name_text.result.now (codes "bool")).0 (sym c.eq.ensures ∙ c.if-eq.true)) c.is_empty.ensures
