use Rattle.flat_terms.specs.Plain.{term_of}
use Rattle.flat_reading.proofs.Fitting.{fits_none, fits_told}
use Rattle.flat_reading.proofs.shapes.fits.Goals as goal

pub returns-in-Some : goal.returns-in-Some
returns-in-Some c = fits_told (term_of c.args.tables.now c.args.f) (term_of c.args.tables.now c.args.x) _ _ _ _ c.same_type.result c.type_of.ensures.ty c.in-Some.ensures.parts.2 c.type_of-in-Some.ensures.ty c.same_type.ensures.0 c.same_type.ensures.1

pub returns-in-None : goal.returns-in-None
returns-in-None c = fits_none (term_of c.args.tables.now c.args.f) (term_of c.args.tables.now c.args.x) _ c.type_of.ensures.ty c.in-None.ensures.none
