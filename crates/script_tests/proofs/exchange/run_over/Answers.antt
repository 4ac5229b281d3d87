use Rattle.script_core.proofs.Closed.{on_none}
use Rattle.script_tests.proofs.Shelves.{had_none}
use Rattle.script_tests.proofs.GivenValues.{no_types, had}
use Rattle.script_tests.proofs.exchange.run_over.Goals as goal

pub run_table-th-requires-clause-shelf : goal.run_table-th-requires-clause-shelf
run_table-th-requires-clause-shelf c = had_none _ _ c.in_ok-shelf.ensures

pub run_table-th-requires-clause-listed : goal.run_table-th-requires-clause-listed
run_table-th-requires-clause-listed c = on_none c.in_ok-shelf.shelf

pub run_table-th-requires-clause-given : goal.run_table-th-requires-clause-given
run_table-th-requires-clause-given c = record { types = no_types _; terms = c.requires.over; thms = had _ _ c.requires.has }

pub run_table-th-requires-clause-fits : goal.run_table-th-requires-clause-fits
run_table-th-requires-clause-fits c = c.requires.fits
