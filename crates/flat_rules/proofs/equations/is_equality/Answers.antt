use Rattle.std.proofs.Common.{sym, ◌∙◌, codes}
use Rattle.std.proofs.lemmas.Slice.Eq.{bytes_eq-Decides}
use Rattle.flat_rules.proofs.Sides.{equality_test, not_false}
use Rattle.flat_rules.proofs.equations.is_equality.Goals as goal

pub returns-else-not-same_type : goal.returns-else-not-same_type
returns-else-not-same_type c =
    equality_test c.args.tables.now _ c.in-Const.args.now c.in-Const.ty c.args.at _ c.args.term c.is_equality_type.result c.in-Const.ensures.3 (sym c.name_text.ensures ∙ (bytes_eq-Decides c.name_text.result.now (codes "eq")).0 (not_false _ (sym c.ne.ensures ∙ c.if-ne.false))) c.in-len1.len_at_least c.in-len1.len_below
    (c.same_type.ensures.0 c.if-not-same_type.false) c.is_equality_type.ensures
