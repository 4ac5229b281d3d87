use Rattle.std.proofs.Common.{sym, ◌∙◌}
use Rattle.flat_terms.specs.Plain.{type_of}
use Rattle.flat_signatures.proofs.TypeSteps.{stop_function, stop_here}
use Rattle.flat_signatures.proofs.types.stop_type.Goals as goal

pub returns-then-is_function : goal.returns-then-is_function
returns-then-is_function c = stop_function (type_of c.args.tables.now c.args.ty) c.args.text.now (sym c.is_function.ensures ∙ c.if-is_function.true)

pub returns-else-is_function : goal.returns-else-is_function
returns-else-is_function c = (c.requires, stop_here (type_of c.args.tables.now c.args.ty) c.args.text.now (sym c.is_function.ensures ∙ c.if-is_function.false))
