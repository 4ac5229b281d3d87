use Rattle.std.proofs.Common.{refl}
use Rattle.script_core.proofs.Closed.{closed_table}
use Rattle.script_tests.proofs.Cases.{all_fit, all_same}
use Rattle.script_tests.proofs.ListKernel.{base_at, map_base, made_is}
use Rattle.script_tests.specs.Lists.{with_map}
use Rattle.script_tests.proofs.lists.first_wrong_of_lists.Goals as goal

pub first_wrong-requires-clause-base : goal.first_wrong-requires-clause-base
first_wrong-requires-clause-base c = base_at (made_is c.in_ok-k.ensures c.in-Some.is) map_base

pub first_wrong-requires-clause-fit : goal.first_wrong-requires-clause-fit
unfolding closed_table
first_wrong-requires-clause-fit c = all_same with_map _ _ (all_fit with_map _ refl) (made_is c.in_ok-k.ensures c.in-Some.is)
