use Rattle.flat_signatures.proofs.VariableSteps.{inserted_has, inserted_trees}
use Rattle.flat_signatures.proofs.variables.add_variable.Goals as goal
use Rattle.std.proofs.Common.{List, sym, ◌∙◌, subst, ap}
use Rattle.flat_terms.specs.declared.nodes.TypeId.{TypeId}
use Rattle.flat_terms.specs.Plain.{HasTypes, types_of}

pub returns-clause-seen : goal.returns-clause-seen
returns-clause-seen c = subst (λ (ns : List TypeId). HasTypes c.args.tables.now ns) (sym c.in_ok-insert.ensures.keys) (inserted_has c.args.tables.now c.args.seen.now.keys c.args.ty c.requires.seen c.requires.ty)

pub returns-clause-ok : goal.returns-clause-ok
returns-clause-ok c = ap (types_of c.args.tables.now) c.in_ok-insert.ensures.keys ∙ inserted_trees c.args.tables.now c.args.seen.now.keys c.args.ty c.entries_once.ensures.types c.requires.seen c.requires.ty
