use Rattle.std.proofs.Common.{refl}
use Rattle.std.specs.Fmt.{digits}
use Rattle.decl_samples.specs.SomeSelectors.{lines}
use Rattle.decl_samples.proofs.laws.facts_of_some_selectors.Goals as goal

pub returns : goal.returns
unfolding lines digits
returns c = refl
