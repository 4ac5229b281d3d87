use Rattle.std.proofs.Common.{refl}
use Rattle.std.specs.Fmt.{digits}
use Rattle.decl_samples.specs.Lists.{lines}
use Rattle.decl_samples.proofs.laws.facts_of_lists.Goals as goal

pub returns : goal.returns
unfolding lines digits
returns c = refl
