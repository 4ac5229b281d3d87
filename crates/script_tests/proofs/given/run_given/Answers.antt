use Rattle.std.proofs.Common.{◌∙◌}
use Rattle.script_core.proofs.Closed.{base_is, on_none}
use Rattle.script_tests.proofs.Shelves.{had_none}
use Rattle.script_tests.proofs.GivenValues.{types_over, terms_over, had, given_fits}
use Rattle.script_tests.proofs.given.run_given.Goals as goal

pub new-requires : goal.new-requires
new-requires c = base_is _ c.requires.defs

pub run_table-th-requires-clause-shelf : goal.run_table-th-requires-clause-shelf
run_table-th-requires-clause-shelf c = had_none _ _ c.in_ok-shelf.ensures

pub run_table-th-requires-clause-listed : goal.run_table-th-requires-clause-listed
run_table-th-requires-clause-listed c = on_none c.in_ok-shelf.shelf

pub run_table-th-requires-clause-given : goal.run_table-th-requires-clause-given
run_table-th-requires-clause-given c = record {
  types = types_over _ _ c.requires.types;
  terms = terms_over _ _ c.requires.terms;
  thms = had _ _ (c.new.ensures.grows.keeps _ c.requires.has);
}

pub run_table-th-requires-clause-fits : goal.run_table-th-requires-clause-fits
run_table-th-requires-clause-fits c = given_fits _ _ _ _ (c.new.ensures.grows.defs ∙ c.requires.defs) c.requires.types c.requires.terms c.requires.a
