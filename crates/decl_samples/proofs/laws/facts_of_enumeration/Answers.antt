use Rattle.std.proofs.Common.{refl}
use Rattle.std.specs.Fmt.{digits}
use Rattle.decl_samples.specs.Enumeration.{lines}
use Rattle.decl_samples.proofs.laws.facts_of_enumeration.Goals as goal

pub returns : goal.returns
unfolding lines digits
returns c = refl
