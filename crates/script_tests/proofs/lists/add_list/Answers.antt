use Rattle.script_core.proofs.Closed.{base_is}
use Rattle.script_tests.proofs.ListKernel.{list_fits, list_is}
use Rattle.script_tests.proofs.lists.add_list.Goals as goal

pub derived-requires-clause-base : goal.derived-requires-clause-base
derived-requires-clause-base c = base_is _ c.requires

pub derived-requires-clause-fits : goal.derived-requires-clause-fits
derived-requires-clause-fits c = list_fits _ c.requires

pub returns : goal.returns
returns c = λ _. list_is _ c.requires c.in_ok-a.ensures.exact c.in_ok-a.ensures.grows.defs c.in_ok-define_type.ensures.ok
