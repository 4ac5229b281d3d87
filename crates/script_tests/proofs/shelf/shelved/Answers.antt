use Rattle.script_tests.proofs.Shelves.{had_one, on_one}
use Rattle.script_tests.proofs.shelf.shelved.Goals as goal

pub put-requires : goal.put-requires
put-requires c = c.in_ok-th.ensures.fact

pub returns-clause-shelf : goal.returns-clause-shelf
returns-clause-shelf c = had_one _ _ _ _ _ c.in_ok-shelf.ensures c.in_ok-put.ensures.ok c.in_ok-th.ensures.has

pub returns-clause-on : goal.returns-clause-on
returns-clause-on c = on_one _ _ _ _ c.in_ok-shelf.ensures c.in_ok-put.ensures.ok

pub returns-clause-defs : goal.returns-clause-defs
returns-clause-defs c = c.in_ok-th.ensures.defs
