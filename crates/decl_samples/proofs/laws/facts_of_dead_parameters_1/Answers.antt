use Rattle.std.proofs.Common.{refl}
use Rattle.std.specs.Fmt.{digits}
use Rattle.decl_samples.specs.DeadParameters1.{lines}
use Rattle.decl_samples.proofs.laws.facts_of_dead_parameters_1.Goals as goal

pub returns : goal.returns
unfolding lines digits
returns c = refl
