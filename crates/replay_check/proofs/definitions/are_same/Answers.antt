use Rattle.std.proofs.Common.{sym, ◌∙◌}
use Rattle.replay_check.proofs.SameNumbers.{constants_same, types_same}
use Rattle.replay_check.proofs.definitions.are_same.Goals as goal

pub returns-then-is_same_name : goal.returns-then-is_same_name
returns-then-is_same_name c =
    constants_same c.args.tables.now c.args.a c.args.b _ _ _ _ c.in-Constant-Constant.is-0 c.in-Constant-Constant.is-1 (sym c.if-is_same_name.true ∙ c.is_same_name.ensures) _ c.same_term.ensures.0 c.same_term.ensures.1

pub returns-then-is_same_name-2 : goal.returns-then-is_same_name-2
returns-then-is_same_name-2 c =
    types_same c.args.tables.now c.args.a c.args.b _ _ _ _ c.in-NewType-NewType.is-0 c.in-NewType-NewType.is-1 (sym c.if-is_same_name-2.true ∙ c.is_same_name-in-NewType-NewType.ensures) _ c.same_term-then-is_same_name-2.ensures.0 c.same_term-then-is_same_name-2.ensures.1
