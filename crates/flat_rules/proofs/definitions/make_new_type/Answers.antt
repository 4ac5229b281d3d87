use Rattle.std.proofs.Common.{ap, ◌∙◌}
use Rattle.flat_terms.specs.Plain.{types_of, term_of}
use Rattle.flat_signatures.proofs.Numbers.{grows_by_type}
use Rattle.flat_rules.proofs.DefinitionSteps.{new_number}
use Rattle.flat_rules.proofs.definitions.make_new_type.Goals as goal

pub returns-clause-grows : goal.returns-clause-grows
returns-clause-grows c = grows_by_type c.args.tables.now c.type_application.new.self _ c.type_application.result c.type_application.ensures.ok c.type_application.ensures.err

pub returns-clause-ok : goal.returns-clause-ok
returns-clause-ok c =
    new_number c.args.tables.now c.type_application.new.self c.args.name (term_of c.args.tables.now c.args.predicate) c.as_slice.result.now c.type_application.result
    (ap (types_of c.args.tables.now) c.as_slice.ensures.keys ∙ c.in_ok-parameters.ensures.trees) c.type_application.ensures.ok
