use Rattle.std.proofs.Common.{◌∙◌}
use Rattle.script_core.proofs.Closed.{base_is, on_none, on_more}
use Rattle.script_tests.proofs.Shelves.{had_grows, from_truth_fits}
use Rattle.script_tests.proofs.shelf.from_fact.Goals as goal

pub new-requires : goal.new-requires
new-requires c = base_is _ c.in_ok-shelf.ensures.defs

pub run_closed-requires-clause-shelf : goal.run_closed-requires-clause-shelf
run_closed-requires-clause-shelf c = had_grows _ _ _ c.in_ok-shelf.ensures.shelf c.new.ensures.grows

pub run_closed-requires-clause-listed : goal.run_closed-requires-clause-listed
run_closed-requires-clause-listed c = on_more _ _ _ c.in_ok-shelf.ensures.on (on_none c.in_ok-shelf.shelf)

pub run_closed-requires-clause-fits : goal.run_closed-requires-clause-fits
run_closed-requires-clause-fits c = from_truth_fits _ (c.new.ensures.grows.defs ∙ c.in_ok-shelf.ensures.defs)
