use Rattle.std.proofs.Common.{refl}
use Rattle.std.specs.Fmt.{digits}
use Rattle.decl_samples.specs.Records.{lines}
use Rattle.decl_samples.proofs.laws.facts_of_records.Goals as goal

pub returns : goal.returns
unfolding lines digits
returns c = refl
