use Rattle.text_laws.proofs.TypeRefusals.{type_refused}
use Rattle.text_laws.proofs.laws.types_are_refused_at_the_first_wrong_token.Goals as goal

pub returns : goal.returns
returns c = type_refused
