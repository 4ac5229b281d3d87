use Rattle.std.proofs.Common.{Some, ap, sym, ◌∙◌}
use Rattle.strict_reading.proofs.Steps.{when_true}
use Rattle.strict_reading.proofs.TermTexts.{fits_is}
use Rattle.flat_terms.specs.Plain.{term_of}
use Rattle.flat_walks.proofs.Steps.{added_has, added_is}
use Rattle.flat_instances.proofs.TablesGrow.{tables_grow_by_term, tables_grow_same}
use Rattle.flat_signatures.proofs.ConstantSteps.{when_false}
use Rattle.flat_reading.proofs.applying.apply.Goals as goal

pub returns-then-not-fits-clause-ok : goal.returns-then-not-fits-clause-ok
returns-then-not-fits-clause-ok c = when_false _ _ (sym c.fits.ensures ∙ c.if-not-fits.true)

pub application-requires-clause-takes : goal.application-requires-clause-takes
application-requires-clause-takes c = fits_is (term_of c.args.tables.now c.args.f) (term_of c.args.tables.now c.args.x) (sym c.fits.ensures ∙ c.if-not-fits.false)

pub returns-clause-ok : goal.returns-clause-ok
returns-clause-ok c = (added_has c.args.tables.now c.application.new.self c.in_ok-made.made _ c.in_ok-made.ensures.ok, when_true _ _ (sym c.fits.ensures ∙ c.if-not-fits.false) ∙ ap Some (sym (added_is c.args.tables.now c.application.new.self c.in_ok-made.made _ c.in_ok-made.ensures.ok)))

pub returns-clause-grows : goal.returns-clause-grows
returns-clause-grows c = tables_grow_by_term c.args.tables.now c.application.new.self c.in_ok-made.made _ c.in_ok-made.ensures.ok

pub returns-in_err-made-clause-grows : goal.returns-in_err-made-clause-grows
returns-in_err-made-clause-grows c = tables_grow_same c.args.tables.now c.application.new.self c.in_err-made.ensures.err
