use Rattle.script_core.proofs.Closed.{base_is}
use Rattle.script_tests.proofs.Conjunctions.{assumed_fits, assumed_gives}
use Rattle.script_tests.proofs.exchange.conjunction.Goals as goal

pub derived-requires-clause-base : goal.derived-requires-clause-base
derived-requires-clause-base c = base_is _ c.requires

pub derived-requires-clause-fits : goal.derived-requires-clause-fits
derived-requires-clause-fits c = assumed_fits _ c.requires

pub returns-clause-exact : goal.returns-clause-exact
returns-clause-exact c = assumed_gives _ _ c.requires c.in_ok-th.ensures.exact
