use Rattle.flat_terms.specs.Plain.{name_of}
use Rattle.flat_instances.proofs.TablesGrow.{tables_grow_further}
use Rattle.flat_rules.proofs.DefinitionSteps.{type_said}
use Rattle.flat_rules.proofs.definitions.type_sequents.Goals as goal

pub returns-in_err-abs_rep-clause-grows : goal.returns-in_err-abs_rep-clause-grows
returns-in_err-abs_rep-clause-grows c = tables_grow_further _ _ _ c.make_bridge.ensures.grows c.abs_rep_equation.ensures.grows

pub returns-in_err-rep_abs-clause-grows : goal.returns-in_err-rep_abs-clause-grows
returns-in_err-rep_abs-clause-grows c = tables_grow_further _ _ _ (tables_grow_further _ _ _ c.make_bridge.ensures.grows c.abs_rep_equation.ensures.grows) c.rep_abs_equation.ensures.grows

pub returns-clause-grows : goal.returns-clause-grows
returns-clause-grows c = tables_grow_further _ _ _ (tables_grow_further _ _ _ c.make_bridge.ensures.grows c.abs_rep_equation.ensures.grows) c.rep_abs_equation.ensures.grows

pub returns-clause-ok : goal.returns-clause-ok
returns-clause-ok c =
    type_said c.args.tables.now c.make_bridge.new.tables c.abs_rep_equation.new.tables c.rep_abs_equation.new.tables (name_of c.args.tables.now c.args.name) c.args.predicate c.in_ok-abs_rep.abs_rep c.in_ok-rep_abs.rep_abs c.in_ok-between.between c.without_hypotheses.result c.without_hypotheses-2.result c.requires.predicate c.make_bridge.ensures.grows c.in_ok-between.ensures.ok
    c.abs_rep_equation.ensures.grows c.in_ok-abs_rep.ensures.ok c.rep_abs_equation.ensures.grows c.in_ok-rep_abs.ensures.ok c.without_hypotheses.ensures.hyps c.without_hypotheses.ensures.concl c.without_hypotheses-2.ensures.hyps c.without_hypotheses-2.ensures.concl
