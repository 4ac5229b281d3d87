use Rattle.script_core.proofs.Closed.{on_none}
use Rattle.script_tests.proofs.Shelves.{had_none}
use Rattle.script_tests.proofs.Cases.{fit_same, gives_same}
use Rattle.script_tests.proofs.closed.derived.Goals as goal

pub run_closed-requires-clause-shelf : goal.run_closed-requires-clause-shelf
run_closed-requires-clause-shelf c = had_none _ _ c.in_ok-shelf.ensures

pub run_closed-requires-clause-listed : goal.run_closed-requires-clause-listed
run_closed-requires-clause-listed c = on_none c.in_ok-shelf.shelf

pub run_closed-requires-clause-fits : goal.run_closed-requires-clause-fits
run_closed-requires-clause-fits c = fit_same _ _ _ c.requires.fits c.new.ensures.grows.defs

pub returns-clause-exact : goal.returns-clause-exact
returns-clause-exact c = gives_same _ _ _ _ c.in_ok-th.ensures.exact c.new.ensures.grows.defs
