use Rattle.std.proofs.Common.{refl}
use Rattle.script_core.proofs.Closed.{closed_table, base_is}
use Rattle.script_tests.proofs.NewTypes.{said_fits, has_base, told_fit}
use Rattle.script_tests.proofs.new_type.first_wrong_behind.Goals as goal

pub derived-requires-clause-base : goal.derived-requires-clause-base
derived-requires-clause-base c = base_is _ c.in_ok-k.ensures

pub derived-requires-clause-fits : goal.derived-requires-clause-fits
derived-requires-clause-fits c = said_fits _ c.in_ok-k.ensures

pub first_wrong-requires-clause-base : goal.first_wrong-requires-clause-base
first_wrong-requires-clause-base c = has_base c.in_ok-define.ensures

pub first_wrong-requires-clause-fit : goal.first_wrong-requires-clause-fit
unfolding closed_table
first_wrong-requires-clause-fit c = told_fit c.in_ok-define.ensures (λ n p. refl)
