use Rattle.std.proofs.Common.{ap, ◌∙◌}
use Rattle.flat_terms.specs.Plain.{types_of}
use Rattle.flat_rules.proofs.DefinitionSteps.{grows_by_term, own_number}
use Rattle.flat_rules.proofs.definitions.own_constant.Goals as goal

pub returns-clause-grows : goal.returns-clause-grows
returns-clause-grows c = grows_by_term c.args.tables.now c.constant.new.self _ c.constant.result c.constant.ensures.ok c.constant.ensures.err

pub returns-clause-ok : goal.returns-clause-ok
returns-clause-ok c = own_number c.args.tables.now c.constant.new.self c.args.name c.args.ty c.as_slice.result.now c.constant.result (ap (types_of c.args.tables.now) c.as_slice.ensures.keys ∙ c.in_ok-args.ensures.trees) c.constant.ensures.ok
