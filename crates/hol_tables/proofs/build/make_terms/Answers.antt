use Rattle.std.proofs.Common.{◌∙◌}
use Rattle.hol_tables.proofs.BuildingLemmas.{terms_made-end}
use Rattle.hol_tables.proofs.build.make_terms.Goals as goal

pub returns : goal.returns
returns c = c.loop-line.invariant.rest ∙ terms_made-end _ _ _ _ _ _ c.loop-line-test.false c.in-Some.ensures.items
