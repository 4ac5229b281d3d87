use Rattle.hol_terms.specs.Typing.{fun_ty}
use Rattle.hol_terms.specs.Definition.{alpha, bool_ty}
use Rattle.flat_instances.specs.Types.{IsTypeNumber}
use Rattle.flat_instances.proofs.TablesGrow.{tables_grow_further}
use Rattle.flat_signatures.proofs.Numbers.{type_number_there, function_number}
use Rattle.flat_signatures.proofs.signature.base_types.Goals as goal

pub returns-in_err-truth-clause-grows : goal.returns-in_err-truth-clause-grows
returns-in_err-truth-clause-grows c = (tables_grow_further c.args.tables.now c.put_type_variable.new.tables c.put_type_constant.new.tables c.put_type_variable.ensures.grows c.put_type_constant.ensures.grows)

pub returns-in_err-predicate-clause-grows : goal.returns-in_err-predicate-clause-grows
returns-in_err-predicate-clause-grows c = (tables_grow_further c.args.tables.now c.put_type_constant.new.tables c.put_function.new.tables (tables_grow_further c.args.tables.now c.put_type_variable.new.tables c.put_type_constant.new.tables c.put_type_variable.ensures.grows c.put_type_constant.ensures.grows) c.put_function.ensures.grows)

pub returns-in_err-equality-clause-grows : goal.returns-in_err-equality-clause-grows
returns-in_err-equality-clause-grows c = (tables_grow_further c.args.tables.now c.put_function.new.tables c.put_function-2.new.tables (tables_grow_further c.args.tables.now c.put_type_constant.new.tables c.put_function.new.tables (tables_grow_further c.args.tables.now c.put_type_variable.new.tables c.put_type_constant.new.tables c.put_type_variable.ensures.grows c.put_type_constant.ensures.grows) c.put_function.ensures.grows) c.put_function-2.ensures.grows)

pub returns-in_err-choice-clause-grows : goal.returns-in_err-choice-clause-grows
returns-in_err-choice-clause-grows c = (tables_grow_further c.args.tables.now c.put_function-2.new.tables c.put_function-3.new.tables (tables_grow_further c.args.tables.now c.put_function.new.tables c.put_function-2.new.tables (tables_grow_further c.args.tables.now c.put_type_constant.new.tables c.put_function.new.tables (tables_grow_further c.args.tables.now c.put_type_variable.new.tables c.put_type_constant.new.tables c.put_type_variable.ensures.grows c.put_type_constant.ensures.grows) c.put_function.ensures.grows) c.put_function-2.ensures.grows) c.put_function-3.ensures.grows)

pub returns-clause-grows : goal.returns-clause-grows
returns-clause-grows c = (tables_grow_further c.args.tables.now c.put_function-2.new.tables c.put_function-3.new.tables (tables_grow_further c.args.tables.now c.put_function.new.tables c.put_function-2.new.tables (tables_grow_further c.args.tables.now c.put_type_constant.new.tables c.put_function.new.tables (tables_grow_further c.args.tables.now c.put_type_variable.new.tables c.put_type_constant.new.tables c.put_type_variable.ensures.grows c.put_type_constant.ensures.grows) c.put_function.ensures.grows) c.put_function-2.ensures.grows) c.put_function-3.ensures.grows)

pub put_function-requires-clause-domain : goal.put_function-requires-clause-domain
put_function-requires-clause-domain c = c.put_type_constant.ensures.grows.has_type c.in_ok-alpha.alpha c.in_ok-alpha.ensures.ok.has

pub put_function-requires-2-clause-domain : goal.put_function-requires-2-clause-domain
put_function-requires-2-clause-domain c = (tables_grow_further c.put_type_variable.new.tables c.put_type_constant.new.tables c.put_function.new.tables c.put_type_constant.ensures.grows c.put_function.ensures.grows).has_type c.in_ok-alpha.alpha c.in_ok-alpha.ensures.ok.has

pub put_function-requires-3-clause-domain : goal.put_function-requires-3-clause-domain
put_function-requires-3-clause-domain c = c.put_function-2.ensures.grows.has_type c.in_ok-predicate.predicate c.in_ok-predicate.ensures.ok.has

pub put_function-requires-3-clause-range : goal.put_function-requires-3-clause-range
put_function-requires-3-clause-range c = (tables_grow_further c.put_type_variable.new.tables c.put_function.new.tables c.put_function-2.new.tables (tables_grow_further c.put_type_variable.new.tables c.put_type_constant.new.tables c.put_function.new.tables c.put_type_constant.ensures.grows c.put_function.ensures.grows) c.put_function-2.ensures.grows).has_type c.in_ok-alpha.alpha c.in_ok-alpha.ensures.ok.has

pub returns-clause-ok : goal.returns-clause-ok
returns-clause-ok c =
    let first : IsTypeNumber c.put_type_variable.new.tables c.in_ok-alpha.alpha alpha = c.in_ok-alpha.ensures.ok in
    let a2 : IsTypeNumber c.put_type_constant.new.tables c.in_ok-alpha.alpha alpha = type_number_there c.put_type_variable.new.tables c.put_type_constant.new.tables c.in_ok-alpha.alpha alpha c.put_type_constant.ensures.grows first in
    let a3 : IsTypeNumber c.put_function.new.tables c.in_ok-alpha.alpha alpha = type_number_there c.put_type_variable.new.tables c.put_function.new.tables c.in_ok-alpha.alpha alpha (tables_grow_further c.put_type_variable.new.tables c.put_type_constant.new.tables c.put_function.new.tables c.put_type_constant.ensures.grows c.put_function.ensures.grows) first in
    let a4 : IsTypeNumber c.put_function-2.new.tables c.in_ok-alpha.alpha alpha = type_number_there c.put_type_variable.new.tables c.put_function-2.new.tables c.in_ok-alpha.alpha alpha (tables_grow_further c.put_type_variable.new.tables c.put_function.new.tables c.put_function-2.new.tables (tables_grow_further c.put_type_variable.new.tables c.put_type_constant.new.tables c.put_function.new.tables c.put_type_constant.ensures.grows c.put_function.ensures.grows) c.put_function-2.ensures.grows) first in
    let whole : IsTypeNumber c.put_function.new.tables c.in_ok-predicate.predicate (fun_ty alpha bool_ty) = function_number c.put_type_constant.new.tables c.put_function.new.tables _ _ _ alpha bool_ty a2.tree c.in_ok-truth.ensures.ok.tree c.in_ok-predicate.ensures.ok in
    let whole4 : IsTypeNumber c.put_function-2.new.tables c.in_ok-predicate.predicate (fun_ty alpha bool_ty) = type_number_there c.put_function.new.tables c.put_function-2.new.tables c.in_ok-predicate.predicate (fun_ty alpha bool_ty) c.put_function-2.ensures.grows whole in
    record {
      equality = type_number_there c.put_function-2.new.tables c.put_function-3.new.tables _ _ c.put_function-3.ensures.grows (function_number c.put_function.new.tables c.put_function-2.new.tables _ _ _ alpha (fun_ty alpha bool_ty) a3.tree whole.tree c.in_ok-equality.ensures.ok);
      choice = function_number c.put_function-2.new.tables c.put_function-3.new.tables _ _ _ (fun_ty alpha bool_ty) alpha whole4.tree a4.tree c.in_ok-choice.ensures.ok;
    }
