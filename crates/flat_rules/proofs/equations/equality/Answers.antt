use Rattle.std.proofs.lemmas.Result.{IfOk-weaker}
use Rattle.flat_terms.specs.Plain.{type_of}
use Rattle.flat_terms.specs.declared.nodes.TermId.{TermId}
use Rattle.flat_walks.specs.Number.{IsNumber}
use Rattle.flat_instances.proofs.TablesGrow.{tables_grow_further, tables_grow_by_name}
use Rattle.flat_rules.specs.Equations.{eq_const}
use Rattle.flat_rules.proofs.Sides.{grows_adding, equality_made}
use Rattle.flat_rules.proofs.equations.equality.Goals as goal

pub returns-clause-grows : goal.returns-clause-grows
returns-clause-grows c = tables_grow_further _ _ _ (tables_grow_further _ _ _ c.equality_type.ensures.grows (tables_grow_by_name _ _ _ _ c.in_ok-name.ensures.ok)) (grows_adding _ _ _ _ c.constant.ensures.ok c.constant.ensures.err)

pub returns-clause-ok : goal.returns-clause-ok
returns-clause-ok c = IfOk-weaker c.constant.result _ (λ (r : TermId). IsNumber c.constant.new.self r (eq_const (type_of c.args.tables.now c.args.at))) (λ r a. equality_made c.args.tables.now c.equality_type.new.tables c.name.new.self c.constant.new.self c.args.at c.in_ok-ty.ty c.in_ok-name.name r c.equality_type.ensures.grows c.requires c.in_ok-ty.ensures.ok c.in_ok-name.ensures.ok a) c.constant.ensures.ok
