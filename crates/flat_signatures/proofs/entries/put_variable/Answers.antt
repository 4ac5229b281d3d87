use Rattle.std.proofs.Common.{sym, ap, ◌∙◌}
use Rattle.hol_terms.specs.Name.{is_segment}
use Rattle.hol_terms.specs.Ty.{ty_var}
use Rattle.flat_instances.proofs.Growth.{type_number_is}
use Rattle.flat_signatures.proofs.Numbers.{no_segment}
use Rattle.flat_signatures.proofs.entries.put_variable.Goals as goal

pub returns-in_default-clause-ok : goal.returns-in_default-clause-ok
returns-in_default-clause-ok c = no_segment c.args.word.now c.in_default.ensures.cases.0

pub returns-clause-ok : goal.returns-clause-ok
returns-clause-ok c =
    (sym (ap is_segment c.in-Ok.ensures.cases.0) ∙ sym c.is_segment.ensures ∙ c.if-not-is_segment.false, type_number_is c.put_type_variable.new.tables c.in_ok-variable.variable _ (ty_var c.args.word.now) c.in_ok-variable.ensures.ok (ap ty_var c.in-Ok.ensures.cases.0))
