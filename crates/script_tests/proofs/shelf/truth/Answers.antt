use Rattle.std.proofs.Common.{◌∙◌}
use Rattle.script_core.proofs.Closed.{base_is}
use Rattle.script_tests.proofs.Shelves.{truth_fits, truth_stated}
use Rattle.script_tests.proofs.shelf.truth.Goals as goal

pub derived-requires-clause-base : goal.derived-requires-clause-base
derived-requires-clause-base c = base_is _ c.requires

pub derived-requires-clause-fits : goal.derived-requires-clause-fits
derived-requires-clause-fits c = truth_fits _ c.requires

pub returns-clause-fact : goal.returns-clause-fact
returns-clause-fact c = truth_stated _ _ c.requires c.in_ok-th.ensures.exact

pub returns-clause-has : goal.returns-clause-has
returns-clause-has c = c.in_ok-th.ensures.has

pub returns-clause-defs : goal.returns-clause-defs
returns-clause-defs c = c.in_ok-th.ensures.grows.defs ∙ c.requires
